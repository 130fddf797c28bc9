-- Facts of numbers, tests and lists that many laws use.
use Prim.Native.Nat.{ℕ, zero, suc, ◌<◌}
use mathlib.Core.Bool.{Bool, true, false, ◌&&◌}
use mathlib.Core.List.{List, [], ◌∷◌}
use mathlib.Core.Path.{◌≡◌, refl}
use native.Mathlib.Nat.{le_of_suc-le-suc}
use native.Mathlib.Omega.{arith}
use lib.Dec.{T}
use lib.ListN.{get_or, length}
use Rattle.rules.specs.Safety.{All}

-- Anything follows from 0 = 1, which `cc` proves of things that cannot be equal.
pub absurd01 : {A : Type 0} → ◌≡◌ {A = ℕ} 0 1 → A
absurd01 e = absurd (omega arith)

infixr 5 ◌&◌
-- A pair, for pairs that nest to the right.
abbrev pub ◌&◌ : {A B : Type 0} → A → B → A × B
a & b = (a, b)

-- Two tests pass where each does.
pub and_of : (a b : Bool) → T a → T b → T (a && b)
and_of true b h k = k
and_of false b h k = h

pub and_split : (a b : Bool) → T (a && b) → T a × T b
and_split true b h = (tt, h)
and_split false b h = absurd h

-- Two tests of which each passes where the other does.
pub bool_eq : (a b : Bool) → (T a → T b) → (T b → T a) → a ≡ b
bool_eq true true f g = refl
bool_eq true false f g = absurd (f tt)
bool_eq false true f g = absurd (g tt)
bool_eq false false f g = refl

-- Within a list the default does not matter.
pub any_default : (l : List ℕ) (x d e : ℕ) → x < length l → get_or l x d ≡ get_or l x e
any_default [] x d e h = absurd (omega arith)
any_default (y ∷ l) zero d e h = refl
any_default (y ∷ l) (suc x) d e h = any_default l x d e (le_of_suc-le-suc h)

-- Both P and Q hold where each does.
pub all_both : {A : Type 0} (P Q : A → Type 0) (xs : List A) → All P xs → All Q xs → All (λ x. P x × Q x) xs
all_both P Q [] h k = tt
all_both P Q (x ∷ xs) h k = ((h.0, k.0), all_both P Q xs h.1 k.1)
