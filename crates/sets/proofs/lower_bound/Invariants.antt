-- `lower_bound`: cells before `from` are below x, those from `from + left` on are not; the one in the middle decides for half of the rest.
use Rattle.sets.proofs.RowLaws.{Halving}
use Rattle.sets.proofs.lower_bound.Given as goal

abbrev pub invariant-loop-left : goal.invariant-loop-left
invariant-loop-left l = Halving l.s l.row.at l.row.step l.row.n l.x l.from l.left

abbrev pub decreases-loop-left : goal.decreases-loop-left
decreases-loop-left l = l.left
