-- After i turns the first i terms are the shapes.
use mathlib.Core.Path.{◌≡◌}
use lib.ListN.{length, get_or}
use Rattle.unification.proofs.Loops.{fill_to}
use Rattle.checker.proofs.solving.copy.Given as goal

abbrev pub invariant-loop-i : goal.invariant-loop-i
invariant-loop-i l = (l.terms ≡ fill_to (λ x. get_or l.shapes x 0) l.i l.initial.terms) × (length l.terms ≡ length l.initial.terms)
