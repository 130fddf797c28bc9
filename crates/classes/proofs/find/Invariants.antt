-- Links lead from v to x: at the start v itself, and after a turn two links on, with the link of x set past the first.
use lib.ListN.{length}
use Rattle.classes.specs.Finding.{LinksLead}
use Rattle.classes.proofs.find.Given as goal

abbrev pub invariant-loop-y : goal.invariant-loop-y
invariant-loop-y l = LinksLead (length l.initial.terms) l.initial.terms l.v l.terms l.x

abbrev pub decreases-loop-y : goal.decreases-loop-y
decreases-loop-y l = l.x
