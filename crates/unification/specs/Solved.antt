-- What the solver's answer says of a problem.
use Rattle.std.specs.Prelude.{ℕ, ◌<◌, ◌≤◌, ◌≡◌, Bool, true, false, List, get_or}
use Rattle.rules.specs.Types.{Ty, DeclaredAtom, Declared}
use Rattle.unification.specs.Problem.{Shape, unknown, leaf, power, product, Eqn, Matches, Solves}
use Rattle.unification.specs.Marks.{status_of, mark_of}

-- The type without parts that a shape names is one of a table with G given sets.
abbrev pub LeafDeclared : ℕ → Shape → Type 0
LeafDeclared G unknown = Unit {0}
LeafDeclared G (leaf a) = DeclaredAtom G a
LeafDeclared G (power v) = Unit {0}
LeafDeclared G (product v w) = Unit {0}

-- Each variable's type has its class's shape.
abbrev pub ClassesMatch : (sh : ℕ → Shape) (n : ℕ) (cls : List ℕ) (θ : ℕ → Ty) → Type 0
ClassesMatch sh n cls θ = (v : ℕ) → v < n → Matches θ (sh (get_or cls v v)) (θ v)

-- A class marked ground has a known shape, whose parts are marked ground.
abbrev pub Grounded : (sh : ℕ → Shape) (n : ℕ) (cls mark : List ℕ) → Type 0
Grounded sh n cls mark = (v : ℕ) → v < n → 2 ≤ get_or mark v 1 → 2 ≤ status_of (mark_of mark) (sh (get_or cls v v))

-- Two solutions of a problem. All solutions are the same at the variables that are fixed, and these two differ at the others.
pub record Solutions (sh : ℕ → Shape) (n : ℕ) (es : List Eqn) (Fixed : ℕ → Type 0) : Type 0 where
  pub first : ℕ → Ty
  pub second : ℕ → Ty
  pub first_solves : Solves sh n es first
  pub second_solves : Solves sh n es second
  pub declared : (G : ℕ) → ((v : ℕ) → v < n → LeafDeclared G (sh v)) → (v : ℕ) → Declared G (first v) × Declared G (second v)
  pub agree : (v : ℕ) → v < n → Fixed v → (θ κ : ℕ → Ty) → Solves sh n es θ → Solves sh n es κ → θ v ≡ κ v
  pub differ : (v : ℕ) → v < n → (Fixed v → ⊥) → first v ≡ second v → ⊥

-- The problem has solutions: cls and mark tell what all of them have in common, and first and second differ in the rest.
pub record Solved (sh : ℕ → Shape) (n : ℕ) (es : List Eqn) (cls mark : List ℕ) : Type 0 where
  pub bound : (v : ℕ) → v < n → get_or cls v v < n
  pub classes : (θ : ℕ → Ty) → Solves sh n es θ → ClassesMatch sh n cls θ
  pub first : ℕ → Ty
  pub second : ℕ → Ty
  pub first_solves : Solves sh n es first
  pub second_solves : Solves sh n es second
  pub declared : (G : ℕ) → ((v : ℕ) → v < n → LeafDeclared G (sh v)) → (v : ℕ) → Declared G (first v) × Declared G (second v)
  pub ground : (v : ℕ) → v < n → 2 ≤ get_or mark v 1 → (θ κ : ℕ → Ty) → Solves sh n es θ → Solves sh n es κ → θ v ≡ κ v
  pub differ : (v : ℕ) → v < n → get_or mark v 1 < 2 → first v ≡ second v → ⊥
  pub grounded : Grounded sh n cls mark

abbrev pub Answer : (sh : ℕ → Shape) (n : ℕ) (es : List Eqn) (cls mark : List ℕ) → Bool → Type 0
Answer sh n es cls mark true = Solved sh n es cls mark
Answer sh n es cls mark false = (θ : ℕ → Ty) → Solves sh n es θ → ⊥
