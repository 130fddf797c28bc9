-- `fine`: from the last set's cell backward, what is left of the value from the cell i on is fine.
use Prim.Native.Nat.{◌≤◌, ◌<◌}
use native.Mathlib.Omega.{arith}
use lib.ListN.{length}
use Rattle.canonical.proofs.FineValues.{end_inside, from_sets, from_other, from_members, from_set, from_fails}
use Rattle.canonical.proofs.fine.Goals as goal
use Rattle.canonical.proofs.fine.Goals.{else-x-ge-SET-via-then-x-ge-SET+else-not-members_fine, else-x-ge-SET-via-else-x-ge-SET}

pub bounds-s-at : goal.bounds-s-at
bounds-s-at c =
    let inside : (c.args.at < c.args.end) × (c.args.end ≤ length c.args.s.now) = end_inside _ _ _ c.requires.value c.requires.ends in
    omega (arith, inside)

pub sets_end-i-requires : goal.sets_end-i-requires
sets_end-i-requires c =
    let inside : (c.args.at < c.args.end) × (c.args.end ≤ length c.args.s.now) = end_inside _ _ _ c.requires.value c.requires.ends in
    inside.0

pub loop-i-init : goal.loop-i-init
loop-i-init c =
    let inside : (c.args.at < c.args.end) × (c.args.end ≤ length c.args.s.now) = end_inside _ _ _ c.requires.value c.requires.ends in
    from_sets c.requires.ends inside.0 c.sets_end-i.ensures

pub offset_bounds-s-i : goal.offset_bounds-s-i
offset_bounds-s-i c =
    let inside : (c.args.at < c.args.end) × (c.args.end ≤ length c.args.s.now) = end_inside _ _ _ c.requires.value c.requires.ends in
    omega (arith, c.loop-i-test.true, c.loop-i.invariant.1, inside)

pub bounds-s-i : goal.bounds-s-i
bounds-s-i c =
    let inside : (c.args.at < c.args.end) × (c.args.end ≤ length c.args.s.now) = end_inside _ _ _ c.requires.value c.requires.ends in
    omega (arith, c.loop-i-test.true, c.loop-i.invariant.1, inside)

pub members_fine-requires : goal.members_fine-requires
members_fine-requires c =
    let p = c.requires in
    rw c.low.ensures.0 (from_members p.ends c.loop-i-test.true c.loop-i.invariant c.if-x-ge-SET.true p.value)

pub returns-then-not-members_fine : goal.returns-then-not-members_fine
returns-then-not-members_fine c =
    from_fails c.requires.ends c.loop-i-test.true c.loop-i.invariant c.if-x-ge-SET.true
    (rw c.low.ensures.0 at c.members_fine.ensures) c.if-not-members_fine.true

pub loop-i-preserved : goal.loop-i-preserved
loop-i-preserved c = elim c.else-x-ge-SET.branch [
  | else-x-ge-SET-via-then-x-ge-SET+else-not-members_fine w ↦
      from_set c.requires.ends c.loop-i-test.true c.loop-i.invariant w.if-x-ge-SET.true
      (rw w.low.ensures.0 at w.members_fine.ensures) w.if-not-members_fine.false
  | else-x-ge-SET-via-else-x-ge-SET w ↦ from_other c.requires.ends c.loop-i-test.true c.loop-i.invariant (omega (arith, w.if-x-ge-SET.false))
]
