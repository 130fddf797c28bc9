-- A list of terms, one for each variable: what types satisfy it.
use Rattle.std.specs.Prelude.{ℕ, ◌/◌, ◌%◌, ◌<◌, ◌≤◌, List, ◌↔◌, ◌≡◌, get_or, length}
use Rattle.rules.specs.Types.{Ty}
use Rattle.unification.specs.Problem.{Matches, PartsBelow}
use Rattle.unification.specs.Codes.{AtomCode}
use Rattle.terms.specs.Words.{Term, known, link, word_form, word_left, term_of}

-- The term may stand at variable v of n: its parts are variables, and a link goes down.
abbrev pub TermBelow : ℕ → ℕ → Term → Type 0
TermBelow n v (known s) = PartsBelow n s
TermBelow n v (link u) = u < v

pub record TermIn (n v w : ℕ) : Type 0 where
  pub form : word_form w ≤ 4
  pub code : word_form w ≡ 1 → AtomCode (word_left w)
  pub parts : TermBelow n v (term_of w)

-- ts has the terms of the variables below n.
pub record Terms (n : ℕ) (ts : List ℕ) : Type 0 where
  pub len : length ts ≡ n
  pub small : n ≤ 4096
  pub each : (v : ℕ) → v < n → TermIn n v (get_or ts v 0)

abbrev pub MeetsTerm : (ℕ → Ty) → Term → Ty → Type 0
MeetsTerm θ (known s) t = Matches θ s t
MeetsTerm θ (link u) t = t ≡ θ u

-- The types θ have the shapes of the terms, and are the same along links.
abbrev pub Satisfies : (θ : ℕ → Ty) (n : ℕ) (ts : List ℕ) → Type 0
Satisfies θ n ts = (v : ℕ) → v < n → MeetsTerm θ (term_of (get_or ts v 0)) (θ v)

-- The first m equations hold.
abbrev pub HoldsTo : (θ : ℕ → Ty) (es : List ℕ) (m : ℕ) → Type 0
HoldsTo θ es m = (i : ℕ) → i < m → θ (get_or es i 0 / 4096) ≡ θ (get_or es i 0 % 4096)

-- The equations are between variables below n.
abbrev pub SidesBelow : ℕ → List ℕ → Type 0
SidesBelow n es = (i : ℕ) → i < length es → (get_or es i 0 / 4096 < n) × (get_or es i 0 % 4096 < n)

-- A shape among the terms is one of the terms ts₀.
abbrev pub TermFrom : ℕ → List ℕ → Term → Type 0
TermFrom n ts₀ (known s) = (u : ℕ) × (u < n) × (term_of (get_or ts₀ u 0) ≡ known s)
TermFrom n ts₀ (link u) = Unit {0}

-- The terms ts say what the terms ts₀ say together with P, and have no other shapes.
pub record SaysAlso (n : ℕ) (ts₀ : List ℕ) (P : (ℕ → Ty) → Type 0) (ts : List ℕ) : Type 0 where
  pub terms : Terms n ts
  pub iff : (θ : ℕ → Ty) → (Satisfies θ n ts₀ × P θ) ↔ Satisfies θ n ts
  pub old : (v : ℕ) → v < n → TermFrom n ts₀ (term_of (get_or ts v 0))

-- The class of a variable, where links go to classes.
abbrev pub class_from : ℕ → Term → ℕ
class_from v (known s) = v
class_from v (link u) = u

abbrev pub class_in : List ℕ → ℕ → ℕ
class_in ts v = class_from v (term_of (get_or ts v 0))

-- Links go to classes.
abbrev pub LinksToClasses : ℕ → List ℕ → Type 0
LinksToClasses n ts = (v : ℕ) → v < n → class_in ts (class_in ts v) ≡ class_in ts v
