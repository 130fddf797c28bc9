-- The terms say what the equations before i say, and the stack is empty.
use mathlib.Core.Path.{◌≡◌}
use lib.ListN.{length}
use Rattle.terms.specs.Terms.{HoldsTo, SaysAlso}
use Rattle.classes.proofs.merge_all.Given as goal

abbrev pub invariant-loop-i : goal.invariant-loop-i
invariant-loop-i l =
    SaysAlso (length l.initial.terms) l.initial.terms (λ θ. HoldsTo θ l.equations l.i) l.terms × (l.left.height ≡ 0) ×
    (length l.left.words.now ≡ length l.initial.left.words.now)
