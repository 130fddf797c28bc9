-- The marks of classes, and what they say of all types that satisfy the terms.
use Rattle.std.specs.Prelude.{ℕ, ◌<◌, ◌≤◌, min, Bool, true, false, List, ◌≡◌, get_or}
use Rattle.rules.specs.Types.{Ty, weightᵀ, Declared}
use Rattle.unification.specs.Problem.{Shape, unknown, leaf, power, product}
use Rattle.unification.specs.Solved.{LeafDeclared}
use Rattle.terms.specs.Words.{Term, known, link, term_of}
use Rattle.terms.specs.Terms.{Satisfies, SaysAlso, class_in, LinksToClasses}

-- The mark of a variable's class.
abbrev pub class_mark : (ts marks : List ℕ) → ℕ → ℕ
class_mark ts marks v = get_or marks (class_in ts v) 0

-- A mark below 128 is one of a class without an open part.
abbrev pub Closed : (ts marks : List ℕ) → ℕ → Type 0
Closed ts marks v = class_mark ts marks v < 128

-- The parts of a shape are closed, and it is known.
abbrev pub PartsClosed : (ts marks : List ℕ) → Shape → Type 0
PartsClosed ts marks unknown = ⊥
PartsClosed ts marks (leaf a) = Unit {0}
PartsClosed ts marks (power v) = Closed ts marks v
PartsClosed ts marks (product v w) = Closed ts marks v × Closed ts marks w

abbrev pub TermClosed : (ts marks : List ℕ) → Term → Type 0
TermClosed ts marks (known s) = PartsClosed ts marks s
TermClosed ts marks (link u) = ⊥

abbrev pub TermDeclared : ℕ → Term → Type 0
TermDeclared G (known s) = LeafDeclared G s
TermDeclared G (link u) = Unit {0}

-- No class is part of itself. The marks tell open classes from closed ones, and what the closed ones weigh, up to 65; first and second are types
-- that differ at the open ones.
pub record Decided (n : ℕ) (ts marks : List ℕ) : Type 0 where
  pub flat : LinksToClasses n ts
  pub first : ℕ → Ty
  pub second : ℕ → Ty
  pub first_fits : Satisfies first n ts
  pub second_fits : Satisfies second n ts
  pub declared : (G : ℕ) → ((v : ℕ) → v < n → TermDeclared G (term_of (get_or ts v 0))) → (v : ℕ) → Declared G (first v) × Declared G (second v)
  pub agree : (v : ℕ) → v < n → Closed ts marks v → (θ κ : ℕ → Ty) → Satisfies θ n ts → Satisfies κ n ts → θ v ≡ κ v
  pub weighs : (v : ℕ) → v < n → Closed ts marks v → (θ : ℕ → Ty) → Satisfies θ n ts → class_mark ts marks v ≡ min (weightᵀ (θ v)) 65
  pub parts : (v : ℕ) → v < n → Closed ts marks v → TermClosed ts marks (term_of (get_or ts (class_in ts v) 0))
  pub differ : (v : ℕ) → v < n → 128 ≤ class_mark ts marks v → first v ≡ second v → ⊥

-- True: the terms say what they said, and are decided. False: no types satisfy them.
abbrev pub Decision : (n : ℕ) (ts ts' marks : List ℕ) → Bool → Type 0
Decision n ts ts' marks true = SaysAlso n ts (λ θ. Unit {0}) ts' × Decided n ts' marks
Decision n ts ts' marks false = (θ : ℕ → Ty) → Satisfies θ n ts → ⊥
