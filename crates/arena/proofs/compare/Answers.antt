-- `compare`: nothing has decided so far; cells that differ decide, a set with members leaves all to `compare_whole`, and other cells that agree
-- are passed.
use Rattle.arena.proofs.Base.{◌<◌, ◌∙◌, arith}
use Rattle.rules.specs.Values.{weight}
use Rattle.arena.proofs.CompareLaws.{undecided_start, undecided_inside, first_apart, cell_passed, undecided_end}
use Rattle.arena.proofs.compare.Goals as goal

pub loop-i-init : goal.loop-i-init
loop-i-init c = λ v w h k p q. undecided_start _ _ _ v w h k p q

pub bounds-s-a : goal.bounds-s-a
bounds-s-a c =
    let p = c.requires in
    let here = c.loop-i.invariant p.0.value p.1.value p.0.stands p.1.stands p.0.fits p.1.fits in
    let left : c.loop-i.i < weight p.0.value = omega (arith, c.loop-i-test.true, p.2 p.0.value p.0.stands p.0.fits) in
    (undecided_inside c.args.s.now c.args.a c.args.b c.loop-i.i _ _ here left).0

pub bounds-s-b : goal.bounds-s-b
bounds-s-b c =
    let p = c.requires in
    let here = c.loop-i.invariant p.0.value p.1.value p.0.stands p.1.stands p.0.fits p.1.fits in
    let left : c.loop-i.i < weight p.0.value = omega (arith, c.loop-i-test.true, p.2 p.0.value p.0.stands p.0.fits) in
    (undecided_inside c.args.s.now c.args.a c.args.b c.loop-i.i _ _ here left).1

pub returns-then-x-y : goal.returns-then-x-y
returns-then-x-y c = λ v w h k p q.
    let within : c.loop-i.i < weight v = omega (arith, c.loop-i-test.true, c.requires.2 v h p) in
    c.cmp.ensures ∙ first_apart _ _ _ _ v w (c.loop-i.invariant v w h k p q) within c.if-x-y.true

pub loop-i-preserved : goal.loop-i-preserved
loop-i-preserved c = λ v w h k p z.
    let q = c.args in
    let i = c.loop-i.i in
    let within : i < weight v = omega (arith, c.loop-i-test.true, c.requires.2 v h p) in
    cell_passed q.s.now q.a q.b i v w (c.loop-i.invariant v w h k p z) within c.if-x-y.false c.if-x-gt-SET.false

pub returns : goal.returns
returns c = λ v w h k p z.
    undecided_end c.args.s.now c.args.a c.args.b _ v w (c.loop-i.invariant v w h k p z) (omega (arith, c.loop-i-test.false, c.requires.2 v h p))
