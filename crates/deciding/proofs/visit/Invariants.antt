-- The classes on the stack wait, and what was marked where the loop began still is; each turn goes on.
use lib.ListN.{length}
use Rattle.deciding.specs.Visit.{Visiting, Grows, to_visit}
use Rattle.deciding.proofs.visit.Given as goal

abbrev pub invariant-loop-c : goal.invariant-loop-c
invariant-loop-c l = Visiting (length l.terms) l.terms l.marks l.stack.words.now l.stack.height × Grows (length l.terms) l.initial.marks l.marks

abbrev pub decreases-loop-c : goal.decreases-loop-c
decreases-loop-c l = to_visit (length l.terms) l.marks l.stack.height
