-- The forms that are still to come are the first of what stands from i on, up to where the form ends.
use Rattle.std.proofs.Common.{arith}
use Rattle.prefix.proofs.FormLaws.{forms_end, forms_inside, forms_step}
use Rattle.prefix.proofs.form_end.Goals as goal

pub bounds-s-i : goal.bounds-s-i
bounds-s-i g c =
    let q = c.requires.stands in
    let i = c.loop-left.invariant.1 q.0 q.2 in
    forms_inside _ i.0 _ _ c.args.s.now i.2 c.loop-left-test.true

pub overflow_add-left : goal.overflow_add-left
overflow_add-left g c =
    let q = c.requires.stands in
    let i = c.loop-left.invariant.1 q.0 q.2 in
    let step = forms_step _ i.0 _ _ _ c.args.s.now _ i.2 c.loop-left-test.true c.index-s-i.is c.parts.ensures in
    omega (arith, i.1, q.1, step.1, step.2)

pub overflow_add-i : goal.overflow_add-i
overflow_add-i g c =
    let q = c.requires.stands in
    let i = c.loop-left.invariant.1 q.0 q.2 in
    omega (arith, forms_inside _ i.0 _ _ c.args.s.now i.2 c.loop-left-test.true)

pub loop-left-smaller : goal.loop-left-smaller
loop-left-smaller g c =
    let q = c.requires.stands in
    let i = c.loop-left.invariant.1 q.0 q.2 in
    omega (arith, forms_inside _ i.0 _ _ c.args.s.now i.2 c.loop-left-test.true)

pub loop-left-preserved : goal.loop-left-preserved
loop-left-preserved g c = (
  c.loop-left.invariant.0,
  λ n h.
      let i = c.loop-left.invariant.1 n h in
      let step = forms_step _ i.0 _ _ _ c.args.s.now _ i.2 c.loop-left-test.true c.index-s-i.is c.parts.ensures in
      (step.0, omega (arith, i.1, step.1), step.3),
)

pub returns : goal.returns
returns g c = λ n h.
    let i = c.loop-left.invariant.1 n h in
    omega (arith, i.1, forms_end _ i.0 _ _ i.2 (omega arith))
