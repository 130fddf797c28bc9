-- `values_fine`: the first k values rise and share a type (`Passed`); the next is compared with the last of them, and tested against those that
-- stand for them, the first or all.
use mathlib.Core.Bool.{cond}
use mathlib.Core.Path.{◌≡◌, sym, ◌∙◌}
use native.Mathlib.Omega.{arith}
use Rattle.rules.specs.Values.{Values}
use Rattle.fitting.specs.Agree.{SomeTyped}
use Rattle.fitting.proofs.Cells.{some_at, end_bounds}
use Rattle.canonical.specs.Shared.{TypedRow}
use Rattle.canonical.proofs.Members.{some_first, full_at, compared_before, passed_start, passed_end, stand_for, passed_next, passed_falls, passed_unlike, passed_step, not_less, is_less_is}
use Rattle.canonical.proofs.values_fine.Goals as goal
use Rattle.canonical.proofs.values_fine.Goals.{then-one, else-one}

pub end_of-end-requires : goal.end_of-end-requires
end_of-end-requires c = let p = c.requires in some_at (some_first p.0 p.1)

pub full-one-requires : goal.full-one-requires
full-one-requires c = let p = c.requires in let b = end_bounds (some_first p.0 p.1) c.end_of-end.ensures in (omega (arith, b.0), b.1)

pub loop-k-init : goal.loop-k-init
loop-k-init c = (c.end_of-end.ensures, passed_start c.end_of-end.ensures c.requires.1)

pub compare-requires : goal.compare-requires
compare-requires c =
    let next : SomeTyped c.args.s.now c.loop-k.e = let r = c.requires.0 in passed_next (c.loop-k.invariant.1 r.0 r.1) c.loop-k-test.true in
    let i = c.loop-k.invariant in
    let r = c.requires.0 in
    let h = i.1 r.0 r.1 in
    (some_at (h.last, h.here), some_at next, i.0)

pub returns-then-is_ge : goal.returns-then-is_ge
returns-then-is_ge c =
    λ vs r.
    passed_falls (c.loop-k.invariant.1 vs r) c.loop-k-test.true (compared_before c.compare.ensures) (not_less _ (sym c.is_ge.ensures ∙ c.if-is_ge.true))

pub against-requires : goal.against-requires
against-requires c =
    let next : SomeTyped c.args.s.now c.loop-k.e = let r = c.requires.0 in passed_next (c.loop-k.invariant.1 r.0 r.1) c.loop-k-test.true in
    let m : c.if-one.m ≡ cond c.full-one.result 1 c.loop-k.k = elim c.if-one.branch [
      | then-one w ↦ rw w.if-one.true w.m-is
      | else-one w ↦ rw w.if-one.false w.m-is
    ] in
    let stand = λ (vs : Values) (r : TypedRow c.args.s.now c.args.at c.args.n vs).
    stand_for (c.loop-k.invariant.1 vs r) _ (λ q. full_at c.end_of-end.ensures (c.full-one.ensures.sound q)) m in
    let r = c.requires.0 in
    let g = stand r.0 r.1 in
    record { first = next; second = (g.few, g.run) }

pub returns-then-not-against : goal.returns-then-not-against
returns-then-not-against c =
    let m : c.if-one.m ≡ cond c.full-one.result 1 c.loop-k.k = elim c.if-one.branch [
      | then-one w ↦ rw w.if-one.true w.m-is
      | else-one w ↦ rw w.if-one.false w.m-is
    ] in
    let stand = λ (vs : Values) (r : TypedRow c.args.s.now c.args.at c.args.n vs).
    stand_for (c.loop-k.invariant.1 vs r) _ (λ q. full_at c.end_of-end.ensures (c.full-one.ensures.sound q)) m in
    λ vs r.
    passed_unlike (c.loop-k.invariant.1 vs r) c.loop-k-test.true (stand vs r)
    (λ v ws h k. sym c.if-not-against.true ∙ c.against.ensures v ws h k)

pub end_of-e-requires : goal.end_of-e-requires
end_of-e-requires c =
    let next : SomeTyped c.args.s.now c.loop-k.e = let r = c.requires.0 in passed_next (c.loop-k.invariant.1 r.0 r.1) c.loop-k-test.true in
    some_at next

pub loop-k-preserved : goal.loop-k-preserved
loop-k-preserved c =
    let m : c.if-one.m ≡ cond c.full-one.result 1 c.loop-k.k = elim c.if-one.branch [
      | then-one w ↦ rw w.if-one.true w.m-is
      | else-one w ↦ rw w.if-one.false w.m-is
    ] in
    let stand = λ (vs : Values) (r : TypedRow c.args.s.now c.args.at c.args.n vs).
    stand_for (c.loop-k.invariant.1 vs r) _ (λ q. full_at c.end_of-end.ensures (c.full-one.ensures.sound q)) m in (
      c.end_of-e.ensures,
      λ vs r.
          passed_step (c.loop-k.invariant.1 vs r) c.loop-k-test.true (stand vs r) (compared_before c.compare.ensures)
          (is_less_is _ (sym c.is_ge.ensures ∙ c.if-is_ge.false)) (λ v ws h k. sym c.if-not-against.false ∙ c.against.ensures v ws h k) c.end_of-e.ensures,
    )

pub returns : goal.returns
returns c = λ vs r. passed_end (c.loop-k.invariant.1 vs r) (omega (arith, c.loop-k-test.false))
