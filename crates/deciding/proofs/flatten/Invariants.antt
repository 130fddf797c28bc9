-- The links of the variables below v go to classes.
use lib.ListN.{length}
use Rattle.deciding.specs.Marking.{FlatTo}
use Rattle.deciding.proofs.flatten.Given as goal

abbrev pub invariant-loop-v : goal.invariant-loop-v
invariant-loop-v l = FlatTo (length l.initial.terms) l.initial.terms l.terms l.v
