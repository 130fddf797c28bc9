-- `compare_cells`: as many scalars have been passed in both rows, and their order and the values that are left decide.
use Rattle.arena.proofs.RowOrder.{LeftFrom}
use Rattle.arena.proofs.compare_cells.Given as goal

abbrev pub invariant-loop-i : goal.invariant-loop-i
invariant-loop-i l = LeftFrom l.s l.a l.b l.n l.last l.order l.i
