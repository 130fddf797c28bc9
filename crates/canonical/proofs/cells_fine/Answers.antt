-- `cells_fine`: the values in front of the cell i are scalars that rise and share a type (`Passed`), as far as their cells tell; so does the next
-- where it is greater than the last of them and at most the greatest of the first's type.
use Prim.Native.Nat.{◌+◌, ◌-◌}
use mathlib.Core.Path.{◌≡◌, refl}
use native.Mathlib.Omega.{arith}
use borrow.Author.Tests.{lt-ltb, le-ltb}
use lib.ListN.{get_or}
use Rattle.laws.proofs.EndLaws.{T_false}
use Rattle.arena.proofs.ValueParts.{one_cell}
use Rattle.fitting.specs.Agree.{atoms_alike}
use Rattle.fitting.proofs.Cells.{inside, atoms_agree, scalar_full}
use Rattle.canonical.proofs.Members.{some_first, row_room, passed_start, passed_end, passed_falls, passed_at, first_unlike, first_step}
use Rattle.canonical.proofs.Neighbours.{alike_bounds, alike_within, alike_low, least_alike_law, cell_before}
use Rattle.canonical.proofs.cells_fine.Goals as goal
use Rattle.canonical.proofs.cells_fine.Goals.{then-y-s-via-then-y-s, then-y-s-via-else-y-s+then-y-most}

pub bounds-s-at : goal.bounds-s-at
bounds-s-at c = inside (some_first c.requires.0 c.requires.1)

pub overflow_add-i-end : goal.overflow_add-i-end
overflow_add-i-end c = omega (arith, row_room c.requires.0)

pub loop-i-init : goal.loop-i-init
loop-i-init c =
    let p = c.requires in
    let at = c.args.at in
    let last : at + 1 - 1 ≡ at = omega arith in
    let one : at + 1 - at ≡ 1 = omega arith in record {
      rises = rw last (omega arith);
      low = rw last p.2;
      passed = λ vs r. rw (last, one) (passed_start (one_cell _ _ p.2) p.1 vs r);
    }

pub offset_bounds-s-i : goal.offset_bounds-s-i
offset_bounds-s-i c = omega (arith, row_room c.requires.0)

pub bounds-s-i : goal.bounds-s-i
bounds-s-i c = omega (arith, row_room c.requires.0)

pub offset_bounds-s-i-in-loop-i : goal.offset_bounds-s-i-in-loop-i
offset_bounds-s-i-in-loop-i c = omega (arith, row_room c.requires.0)

pub bounds-s-i-in-loop-i : goal.bounds-s-i-in-loop-i
bounds-s-i-in-loop-i c = omega (arith, row_room c.requires.0)

pub returns-then-y-s : goal.returns-then-y-s
returns-then-y-s c = λ vs r.
    let i = c.loop-i.invariant in
    let low = c.requires.2 in
    let s = c.args.s.now in
    let x = get_or s c.args.at 0 in
    let y = get_or s c.loop-i.i 0 in
    elim c.then-y-s.branch [
      | then-y-s-via-then-y-s w ↦
          passed_falls (i.passed vs r) (omega arith) (cell_before s (c.loop-i.i - 1) c.loop-i.i i.low)
          (le-ltb (get_or s (c.loop-i.i - 1) 0) y (omega (arith, w.if-y-s.true)))
      | then-y-s-via-else-y-s+then-y-most w ↦
          let apart = (T_false (atoms_alike x y)).0 (λ h. omega (arith, ((alike_bounds x y).0 h).1, w.if-y-most.true, c.alike-most.ensures.1)) in
          first_unlike (i.passed vs r) (omega arith) (scalar_full _ _ low) (atoms_agree _ _ _ low) apart
    ]

pub loop-i-preserved : goal.loop-i-preserved
loop-i-preserved c =
    let i = c.loop-i.invariant in
    let low = c.requires.2 in
    let s = c.args.s.now in
    let x = get_or s c.args.at 0 in
    let y = get_or s c.loop-i.i 0 in
    let a = alike_within x y (omega (arith, least_alike_law x x, i.rises, c.if-y-s.false)) (omega (arith, c.if-y-most.false, c.alike-most.ensures.1)) in
    let z = alike_low x y low a in
    let last : c.loop-i.i ≡ c.loop-i.i + 1 - 1 = omega arith in
    let count : c.loop-i.i - c.args.at + 1 ≡ c.loop-i.i + 1 - c.args.at = omega arith in record {
      rises = rw (← last) (omega (arith, i.rises, c.if-y-s.false));
      low = rw (← last) z;
      passed = λ vs r.
          passed_at last refl count (first_step (i.passed vs r) (omega arith) (scalar_full _ _ low) (atoms_agree _ _ _ low)
          (cell_before s (c.loop-i.i - 1) c.loop-i.i i.low)
          (lt-ltb (get_or s (c.loop-i.i - 1) 0) y (omega (arith, c.if-y-s.false))) a (one_cell _ _ z));
    }

pub returns : goal.returns
returns c = λ vs r. passed_end (c.loop-i.invariant.passed vs r) (omega arith)
