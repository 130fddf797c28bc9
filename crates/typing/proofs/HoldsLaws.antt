-- Equations of a list one by one: that they hold, and that their variables are below n.
use Prim.Native.Nat.{ℕ, zero, suc, ◌<◌}
use mathlib.Core.List.{List, [], ◌∷◌}
use mathlib.Core.Path.{◌≡◌, refl}
use native.Mathlib.Omega.{arith}
use lib.ListN.{get_or, length}
use Rattle.rules.specs.Types.{Ty}
use Rattle.unification.specs.Problem.{Eqn, eqn, Holds, AllBelow}

-- One equation holds, or is between variables below n.
abbrev pub HoldsOne : (ℕ → Ty) → Eqn → Type 0
HoldsOne θ (eqn v w) = θ v ≡ θ w

abbrev pub BelowOne : ℕ → Eqn → Type 0
BelowOne n (eqn v w) = (v < n) × (w < n)

pub holds_at_law : (θ : ℕ → Ty) (es : List Eqn) → Holds θ es → (i : ℕ) → i < length es → HoldsOne θ (get_or es i (eqn 0 0))
holds_at_law θ [] h i l = refl
holds_at_law θ (eqn v w ∷ es) h zero l = h.0
holds_at_law θ (eqn v w ∷ es) h (suc i) l = holds_at_law θ es h.1 i (omega arith)

pub holds_each : (θ : ℕ → Ty) (es : List Eqn) → ((i : ℕ) → i < length es → HoldsOne θ (get_or es i (eqn 0 0))) → Holds θ es
holds_each θ [] h = tt
holds_each θ (eqn v w ∷ es) h = (h 0 (omega arith), holds_each θ es (λ i l. h (suc i) (omega arith)))

pub below_at : (n : ℕ) (es : List Eqn) → AllBelow n es → (i : ℕ) → i < length es → BelowOne n (get_or es i (eqn 0 0))
below_at n [] h i l = absurd (omega arith)
below_at n (eqn v w ∷ es) h zero l = (h.0, h.1)
below_at n (eqn v w ∷ es) h (suc i) l = below_at n es h.2 i (omega arith)
