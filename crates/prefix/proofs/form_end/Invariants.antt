-- The forms that are still to come are the first of what stands from i on, up to where the form ends.
use Rattle.std.proofs.Common.{ℕ, ◌≡◌, ◌+◌, ◌-◌, length, drop}
use Rattle.prefix.specs.Forms.{Forms}
use Rattle.prefix.proofs.form_end.Given as goal

abbrev pub invariant-loop-left : goal.invariant-loop-left
invariant-loop-left g l =
    goal.F-IsAlwaysCallable g l.parts × ((n : ℕ) → Forms (goal.F-post g l.parts) n (drop l.at l.s) 1 →
    (m : ℕ) × (l.i + m ≡ l.at + n) × Forms (goal.F-post g l.parts) m (drop l.i l.s) l.left)

abbrev pub decreases-loop-left : goal.decreases-loop-left
decreases-loop-left g l = length l.s - l.i
