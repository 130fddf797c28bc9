-- `search_cells`: the first set is included where each of its members that are left is found in the second.
use Rattle.sets.proofs.Base.{◌+◌, ◌-◌}
use Rattle.sets.proofs.TurnLaws.{RowWalk}
use Rattle.sets.proofs.search_cells.Given as goal

abbrev pub invariant-loop-i : goal.invariant-loop-i
invariant-loop-i l = RowWalk l.s l.fn.rows.a l.fn.rows.m l.fn.rows.b l.fn.rows.n l.i (l.fn.rows.a + l.fn.rows.m - l.i) l.fn.rows.b l.fn.rows.n
