-- The terms and the stack say what they said at the start; each turn lowers twice the count of classes and the height.
use mathlib.Core.Path.{◌≡◌}
use Prim.Native.Nat.{◌+◌, ◌*◌}
use lib.ListN.{length}
use Rattle.terms.specs.Terms.{HoldsTo}
use Rattle.classes.specs.Finding.{class_count}
use Rattle.classes.proofs.Loops.{StackLoop}
use Rattle.classes.proofs.merge_stack.Given as goal

abbrev pub invariant-loop-e : goal.invariant-loop-e
invariant-loop-e l =
    StackLoop (length l.initial.terms) l.initial.terms (λ θ. HoldsTo θ l.initial.stack.words.now l.initial.stack.height) l.terms
    l.stack.words.now l.stack.height ×
    (length l.stack.words.now ≡ length l.initial.stack.words.now)

abbrev pub decreases-loop-e : goal.decreases-loop-e
decreases-loop-e l = 2 * class_count (length l.initial.terms) l.terms + l.stack.height
