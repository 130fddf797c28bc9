-- The classes below v have marks, and none waits.
use lib.ListN.{length}
use Rattle.deciding.specs.Visit.{MarkedTo, StackRoom}
use Rattle.deciding.proofs.mark_all.Given as goal

abbrev pub invariant-loop-v : goal.invariant-loop-v
invariant-loop-v l = MarkedTo (length l.terms) l.terms l.marks l.v × StackRoom (length l.terms) l.stack
