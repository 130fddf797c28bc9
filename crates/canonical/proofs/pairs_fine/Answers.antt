-- `pairs_fine`: the first k values are pairs of two scalars that rise and share a type (`Passed`), as far as their cells tell; so does the next where
-- it is behind the last of them and its scalars are within the bounds of the first's types.
use Prim.Native.Nat.{◌+◌, ◌<◌}
use mathlib.Core.Bool.{false}
use mathlib.Core.Path.{refl, sym, ◌∙◌}
use native.Mathlib.Omega.{arith}
use borrow.Author.Tests.{not-true, not-false}
use lib.ListN.{length, get_or}
use Rattle.laws.proofs.EndLaws.{T_false}
use Rattle.fitting.specs.Agree.{SomeTyped}
use Rattle.fitting.proofs.Cells.{inside}
use Rattle.canonical.specs.Shared.{MembersFine}
use Rattle.canonical.proofs.Members.{some_first, passed_start, passed_end, passed_next, passed_falls, first_unlike, first_step}
use Rattle.canonical.proofs.Neighbours.{pair_ends, pair_full, pair_inside, pair_other, pairs_before, pairs_alike, Within, parts_within, pair_not_before, before_is, pair_next}
use Rattle.canonical.proofs.pairs_fine.Goals as goal
use Rattle.canonical.proofs.pairs_fine.Goals.{then-c-left_most-via-then-c-left_most, then-c-left_most-via-else-c-left_most+then-d-right_least, then-c-left_most-via-else-c-left_most+else-d-right_least+then-d-right_most}

pub bounds-s-at : goal.bounds-s-at
bounds-s-at c =
    let at_inside : c.args.at + 2 < length c.args.s.now = pair_inside (some_first c.requires.0 c.requires.1) c.requires.2.head in
    omega (arith, at_inside)

pub bounds-s-at-2 : goal.bounds-s-at-2
bounds-s-at-2 c =
    let at_inside : c.args.at + 2 < length c.args.s.now = pair_inside (some_first c.requires.0 c.requires.1) c.requires.2.head in
    at_inside

pub loop-init : goal.loop-init
loop-init c =
    let p = c.requires in
    (record { pair = p.2; first = refl; second = refl; rises = omega arith }, passed_start (pair_ends p.2) p.1)

pub bounds-s-i : goal.bounds-s-i
bounds-s-i c =
    let next : SomeTyped c.args.s.now (c.loop.i + 3) = let r = c.requires.0 in passed_next (c.loop.invariant.1 r.0 r.1) c.loop-test.true in
    inside next

pub returns-then-s-i-ne-PAIR : goal.returns-then-s-i-ne-PAIR
returns-then-s-i-ne-PAIR c =
    λ vs r.
    let p = c.requires.2 in
    first_unlike (c.loop.invariant.1 vs r) c.loop-test.true (pair_full p) (pair_other p c.if-s-i-ne-PAIR.true) refl

pub bounds-s-i-in-loop : goal.bounds-s-i-in-loop
bounds-s-i-in-loop c =
    let next : SomeTyped c.args.s.now (c.loop.i + 3) = let r = c.requires.0 in passed_next (c.loop.invariant.1 r.0 r.1) c.loop-test.true in
    let within : (c.loop.i + 3) + 2 < length c.args.s.now = pair_inside next c.if-s-i-ne-PAIR.false in
    omega (arith, within)

pub bounds-s-i-in-loop-2 : goal.bounds-s-i-in-loop-2
bounds-s-i-in-loop-2 c =
    let next : SomeTyped c.args.s.now (c.loop.i + 3) = let r = c.requires.0 in passed_next (c.loop.invariant.1 r.0 r.1) c.loop-test.true in
    let within : (c.loop.i + 3) + 2 < length c.args.s.now = pair_inside next c.if-s-i-ne-PAIR.false in
    within

pub returns-then-le : goal.returns-then-le
returns-then-le c = λ vs r.
    let i = c.loop.invariant in
    let left = get_or c.args.s.now (c.loop.i + 3 + 1) 0 in
    let right = get_or c.args.s.now (c.loop.i + 3 + 2) 0 in
    let no = not-true _ (sym (c.le.ensures ∙ pair_not_before c.loop.a c.loop.b left right) ∙ c.if-le.true) in
    passed_falls (i.1 vs r) c.loop-test.true (pairs_before i.0.pair c.if-s-i-ne-PAIR.false) (before_is i.0 _ refl no)

pub returns-then-c-left_most : goal.returns-then-c-left_most
returns-then-c-left_most c =
    let unlike : (Within c.args.s.now c.args.at (c.loop.i + 3) → ⊥) → MembersFine c.args.s.now c.args.at c.args.n false = λ f vs r. let p = c.requires.2 in
    first_unlike (c.loop.invariant.1 vs r) c.loop-test.true (pair_full p) (pairs_alike p c.if-s-i-ne-PAIR.false)
    ((T_false _).0 (λ h. f (parts_within c.args.s.now c.args.at (c.loop.i + 3) h))) in
    elim c.then-c-left_most.branch [
      | then-c-left_most-via-then-c-left_most w ↦ unlike (λ k. omega (arith, k.left, w.if-c-left_most.true, c.alike-left_most.ensures))
      | then-c-left_most-via-else-c-left_most+then-d-right_least w ↦
          unlike (λ k. omega (arith, k.right, w.if-d-right_least.true, c.alike-right_least.ensures))
      | then-c-left_most-via-else-c-left_most+else-d-right_least+then-d-right_most w ↦
          unlike (λ k. omega (arith, k.right, w.if-d-right_most.true, c.alike-right_least.ensures))
    ]

pub loop-preserved : goal.loop-preserved
loop-preserved c =
    let i = c.loop.invariant in
    let p = c.requires.2 in
    let left = get_or c.args.s.now (c.loop.i + 3 + 1) 0 in
    let right = get_or c.args.s.now (c.loop.i + 3 + 2) 0 in
    let e = before_is i.0 (c.loop.i + 3) refl (not-false _ (sym (c.le.ensures ∙ pair_not_before c.loop.a c.loop.b left right) ∙ c.if-le.false)) in
    let k = pair_next i.0 (c.loop.i + 3) p c.if-s-i-ne-PAIR.false e (omega (arith, c.if-c-left_most.false, c.alike-left_most.ensures))
    (omega (arith, c.if-d-right_least.false, c.alike-right_least.ensures)) (omega (arith, c.if-d-right_most.false, c.alike-right_least.ensures)) in (
      k.1,
      λ vs r.
          first_step (i.1 vs r) c.loop-test.true (pair_full p) (pairs_alike p c.if-s-i-ne-PAIR.false) (pairs_before i.0.pair c.if-s-i-ne-PAIR.false) e k.0
          (pair_ends k.1.pair),
    )

pub returns : goal.returns
returns c = λ vs r. passed_end (c.loop.invariant.1 vs r) (omega (arith, c.loop-test.false))
