-- `strip`. The invariant: the node reached tells the answer for the first one.
use Rattle.visits.proofs.Terms.{Passes}
use Rattle.visits.proofs.strip.Given as goal

abbrev pub invariant-loop-l : goal.invariant-loop-l
invariant-loop-l l = Passes l.table l.node l.left l.n l.l l.turned

abbrev pub decreases-loop-l : goal.decreases-loop-l
decreases-loop-l l = l.l
