-- `walk_cells`: the first set is included where the members that are left of it are among those left of the second.
use Rattle.sets.proofs.TurnLaws.{RowWalk}
use Rattle.sets.proofs.walk_cells.Given as goal

abbrev pub invariant-loop-f : goal.invariant-loop-f
invariant-loop-f l = RowWalk l.s l.fn.rows.a l.fn.rows.m l.fn.rows.b l.fn.rows.n l.f.a l.f.m l.f.b l.f.n

abbrev pub decreases-loop-f : goal.decreases-loop-f
decreases-loop-f l = l.f.n
