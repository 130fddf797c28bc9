-- A value of the arena against a type in prefix codes.
use Rattle.std.specs.Prelude.{ℕ, ◌+◌, ◌/◌, ◌%◌, Bool, true, cond, List, ◌≡◌, eqb}
use Rattle.rules.specs.Types.{Ty, weightᵀ, prefix}
use Rattle.rules.specs.Values.{Value, Values, count}
use Rattle.rules.specs.Fits.{HasType, HaveType}
use Rattle.arena.specs.Code.{Stands, ValueAt, ValuesAt, CellsFit, AllFit}

-- A type's codes stand in a row from `from` on.
pub record TypeAt (row : List ℕ) (from : ℕ) (t : Ty) : Type 0 where
  pub codes : Stands row from (prefix t)

abbrev pub SomeType : List ℕ → ℕ → Type 0
SomeType row from = (t : Ty) × TypeAt row from t

-- r is where the type at `from` ends.
abbrev pub TypeEnds : List ℕ → ℕ → ℕ → Type 0
TypeEnds row from r = (t : Ty) → TypeAt row from t → r ≡ from + weightᵀ t

-- How many types follow a code as its parts.
abbrev pub type_parts : ℕ → ℕ
type_parts c = cond (eqb c 3) 1 (cond (eqb c 4) 2 0)

-- r says whether P.
pub record Decides (r : Bool) (P : Type 0) : Type 0 where
  pub sound : r ≡ true → P
  pub complete : P → r ≡ true

-- The cell, neither a pair's nor a set's, has the type without parts with this code. The tags of numbers and truths are the
-- codes of their types.
abbrev pub atom_is : ℕ → ℕ → Bool
atom_is x c = cond (eqb (x / 4294967296) 3) (eqb (x % 4294967296 / 256 + 16) c) (eqb (x / 4294967296) c)

-- r says whether the value at `at` has the type at `from`.
abbrev pub OfType : List ℕ → ℕ → List ℕ → ℕ → Bool → Type 0
OfType s at row from r = (v : Value) (t : Ty) → ValueAt s at v → CellsFit v → TypeAt row from t → Decides r (HasType v t)

-- n values and a type.
pub record ValuesAndType (s : List ℕ) (at n : ℕ) (row : List ℕ) (from : ℕ) : Type 0 where
  pub values : Values
  pub stands : ValuesAt s at values
  pub fits : AllFit values
  pub counted : count values ≡ n
  pub type : SomeType row from

-- r says whether the values have the type.
abbrev pub AllOfType : List ℕ → ℕ → ℕ → List ℕ → ℕ → Bool → Type 0
AllOfType s at n row from r = (p : ValuesAndType s at n row from) → Decides r (HaveType p.values p.type.0)
