-- A problem of unification: variables below n, a shape given once for each, and equations between variables.
use Rattle.std.specs.Prelude.{ℕ, zero, suc, ◌-◌, ◌<◌, List, [], ◌∷◌, ◌≡◌}
use Rattle.rules.specs.Types.{whole, Atom, number, bool, given, Ty, atom, POW, ◌⊗◌}

-- What a variable's type is made of: nothing known, a type without parts, POW or × of variables' types.
pub data Shape : Type 0 where
  unknown : Shape
  leaf : Atom → Shape
  power : ℕ → Shape
  product : ℕ → ℕ → Shape

pub data Eqn : Type 0 where
  eqn : ℕ → ℕ → Eqn

-- A type is of a shape, under an assignment of types to variables.
abbrev pub Matches : (ℕ → Ty) → Shape → Ty → Type 0
Matches θ unknown t = Unit {0}
Matches θ (leaf a) t = t ≡ atom a
Matches θ (power v) t = t ≡ POW (θ v)
Matches θ (product v w) t = t ≡ θ v ⊗ θ w

abbrev pub Holds : (ℕ → Ty) → List Eqn → Type 0
Holds θ [] = Unit {0}
Holds θ (eqn v w ∷ es) = (θ v ≡ θ w) × Holds θ es

-- An assignment solves the problem.
pub record Solves (sh : ℕ → Shape) (n : ℕ) (es : List Eqn) (θ : ℕ → Ty) : Type 0 where
  pub shapes : (v : ℕ) → v < n → Matches θ (sh v) (θ v)
  pub equal : Holds θ es

-- The parts of a shape are variables of the problem.
abbrev pub PartsBelow : ℕ → Shape → Type 0
PartsBelow n unknown = Unit {0}
PartsBelow n (leaf a) = Unit {0}
PartsBelow n (power v) = v < n
PartsBelow n (product v w) = (v < n) × (w < n)

abbrev pub AllBelow : ℕ → List Eqn → Type 0
AllBelow n [] = Unit {0}
AllBelow n (eqn v w ∷ es) = (v < n) × (w < n) × AllBelow n es

-- The type without parts that a code of a sheet's row names.
abbrev pub atom_from : ℕ → Atom
atom_from zero = given 0
atom_from (suc zero) = number whole
atom_from (suc (suc zero)) = bool
atom_from (suc (suc (suc c))) = given (suc (suc (suc c)) - 16)

-- The shape that three entries of the code's arrays stand for.
abbrev pub shape_of : ℕ → ℕ → ℕ → Shape
shape_of zero l r = unknown
shape_of (suc zero) l r = leaf (atom_from l)
shape_of (suc (suc zero)) l r = power l
shape_of (suc (suc (suc k))) l r = product l r
