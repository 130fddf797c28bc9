-- Links made shorter, the class that they lead to, and how many classes there are.
use Rattle.std.specs.Prelude.{ℕ, zero, suc, ◌<◌, ◌≤◌, Bool, true, false, List, ◌⊎◌, ◌↔◌, ◌≡◌, get_or}
use Rattle.rules.specs.Types.{Ty}
use Rattle.unification.specs.Marks.{count_below}
use Rattle.terms.specs.Words.{word_form}
use Rattle.terms.specs.Terms.{Terms, Satisfies}

-- A word is kept, or was a link and still is one.
abbrev pub KeptOrLink : ℕ → ℕ → Type 0
KeptOrLink w w' = (w' ≡ w) ⊎ ((word_form w ≡ 4) × (word_form w' ≡ 4))

pub record Shortened (n : ℕ) (ts ts' : List ℕ) : Type 0 where
  pub terms : Terms n ts'
  pub iff : (θ : ℕ → Ty) → Satisfies θ n ts ↔ Satisfies θ n ts'
  pub each : (v : ℕ) → v < n → KeptOrLink (get_or ts v 0) (get_or ts' v 0)

-- Links lead from v to x.
pub record LinksLead (n : ℕ) (ts : List ℕ) (v : ℕ) (ts' : List ℕ) (x : ℕ) : Type 0 where
  pub shortened : Shortened n ts ts'
  pub below : x < n
  pub same : (θ : ℕ → Ty) → Satisfies θ n ts → θ v ≡ θ x

-- The class of v is r, which has a shape.
pub record ClassFound (n : ℕ) (ts : List ℕ) (v : ℕ) (ts' : List ℕ) (r : ℕ) : Type 0 where
  pub leads : LinksLead n ts v ts' r
  pub shape : word_form (get_or ts' r 0) ≤ 3

abbrev pub shape_form : ℕ → Bool
shape_form zero = true
shape_form (suc zero) = true
shape_form (suc (suc zero)) = true
shape_form (suc (suc (suc zero))) = true
shape_form (suc (suc (suc (suc k)))) = false

-- How many variables below n are classes: those that have no link.
abbrev pub class_count : ℕ → List ℕ → ℕ
class_count n ts = count_below (λ v. shape_form (word_form (get_or ts v 0))) n
