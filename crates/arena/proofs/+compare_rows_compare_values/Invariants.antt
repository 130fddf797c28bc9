-- The cycle of comparing values. Measures: twice the cells from the first row or value to the end of the arena, and a number for each function.
-- What belongs to a value stands behind its own cell. `compare_rows`: the order of the values that have been passed, and the values that are
-- left, decide.
use Prim.Native.Nat.{◌+◌, ◌*◌, ◌-◌, ◌≤◌}
use lib.ListN.{length}
use Rattle.rules.specs.Values.{Values, weights}
use Rattle.arena.specs.Code.{row_order, RowAt, SomeLeft}
use Rattle.arena.proofs.+compare_rows_compare_values.Given as goal

abbrev pub decreases-compare_values : goal.decreases-compare_values
decreases-compare_values l = 2 * (length l.s.now - l.a)

abbrev pub decreases-compare_rows : goal.decreases-compare_rows
decreases-compare_rows l = 2 * (length l.s.now - l.a) + 1

abbrev pub invariant-compare_rows-loop : goal.invariant-compare_rows-loop
invariant-compare_rows-loop l =
    (l.a ≤ l.rows.a) × ((vs ws : Values) → RowAt l.s l.a l.n vs → RowAt l.s l.b l.n ws →
    SomeLeft l.s l.rows.a l.rows.b (l.n - l.counter) l.last l.rows.order (row_order l.last vs ws) (l.a + weights vs) (l.b + weights ws))
