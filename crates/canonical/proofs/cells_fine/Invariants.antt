-- `cells_fine`: the values in front of the cell i are scalars that rise and share a type (`Passed`), as far as their cells tell; so does the next
-- where it is greater than the last of them and at most the greatest of the first's type.
use Prim.Native.Nat.{◌*◌, ◌-◌, ◌≤◌, ◌<◌}
use lib.ListN.{get_or}
use Rattle.rules.specs.Values.{Values}
use Rattle.arena.specs.Code.{cell_size}
use Rattle.canonical.specs.Shared.{TypedRow}
use Rattle.canonical.proofs.Members.{Passed}
use Rattle.canonical.proofs.cells_fine.Given as goal

abbrev pub invariant-loop-i : goal.invariant-loop-i
invariant-loop-i l = record {
  rises : get_or l.s l.at 0 ≤ get_or l.s (l.i - 1) 0;
  low : get_or l.s (l.i - 1) 0 < 4 * cell_size;
  passed : (vs : Values) → TypedRow l.s l.at l.n vs → Passed l.s l.at (l.i - 1) l.i (l.i - l.at) l.n vs;
}
