-- Terms say of types what their graph says. A variable past the end is its own class, and nothing is known of it.
use Prim.Native.Nat.{ℕ, zero, suc, ◌<◌, ◌≤◌}
use mathlib.Core.List.{List}
use mathlib.Core.Path.{◌≡◌, refl, sym, ap}
use native.Mathlib.Omega.{arith}
use native.Mathlib.Decide.{dec_lt}
use lib.ListN.{get_or, get_or-eq_default}
use Rattle.rules.specs.Types.{Ty}
use Rattle.unification.specs.Problem.{unknown, Matches, PartsBelow}
use Rattle.unification.specs.Classes.{Sat, Idem}
use Rattle.unification.specs.Marks.{status_after}
use Rattle.terms.specs.Words.{Term, known, link, term_of}
use Rattle.terms.specs.Terms.{TermBelow, Terms, MeetsTerm, Satisfies, class_from, class_in, LinksToClasses}
use Rattle.terms.proofs.WordLaws.{open_word}
use Rattle.deciding.specs.Marking.{term_shape, word_shape, term_graph}

class_by : (θ : ℕ → Ty) (v : ℕ) (x : Term) → MeetsTerm θ x (θ v) → θ v ≡ θ (class_from v x)
class_by θ v (known s) m = refl
class_by θ v (link u) m = m

fits_by : (θ : ℕ → Ty) (t : Ty) (x : Term) → MeetsTerm θ x t → Matches θ (term_shape x) t
fits_by θ t (known s) m = m
fits_by θ t (link u) m = tt

meets_by : (θ : ℕ → Ty) (v : ℕ) (x : Term) → θ v ≡ θ (class_from v x) → (class_from v x ≡ v → Matches θ (term_shape x) (θ v)) → MeetsTerm θ x (θ v)
meets_by θ v (known s) e f = f refl
meets_by θ v (link u) e f = e

class_below : (n v : ℕ) (x : Term) → v < n → TermBelow n v x → class_from v x < n
class_below n v (known s) h b = h
class_below n v (link u) h b = omega arith

class_le : (n v : ℕ) (x : Term) → TermBelow n v x → class_from v x ≤ v
class_le n v (known s) b = omega arith
class_le n v (link u) b = omega arith

parts_by_law : (n v : ℕ) (x : Term) → TermBelow n v x → PartsBelow n (term_shape x)
parts_by_law n v (known s) b = b
parts_by_law n v (link u) b = tt

module _ {n : ℕ} {ts : List ℕ} (t : Terms n ts) where
  past : (v : ℕ) → n ≤ v → term_of (get_or ts v 0) ≡ known unknown
  past v h = rw (get_or-eq_default ts 0 {n = v} (omega (arith, t.len))) open_word.term

  pub shape_past : (v : ℕ) → n ≤ v → word_shape ts v ≡ unknown
  shape_past v h = rw (past v h) refl

  pub class_past : (v : ℕ) → n ≤ v → class_in ts v ≡ v
  class_past v h = rw (past v h) refl

  pub class_in_law : (v : ℕ) → v < n → class_in ts v < n
  class_in_law v h = class_below n v (term_of (get_or ts v 0)) h (t.each v h).parts

  pub class_down : (v : ℕ) → v < n → class_in ts v ≤ v
  class_down v h = class_le n v (term_of (get_or ts v 0)) (t.each v h).parts

  pub parts_in : (v : ℕ) → v < n → PartsBelow n (word_shape ts v)
  parts_in v h = parts_by_law n v (term_of (get_or ts v 0)) (t.each v h).parts

  pub idem : LinksToClasses n ts → Idem (term_graph ts)
  idem flat v = go (dec_lt v n)
    where
      go : Dec (v < n) → class_in ts (class_in ts v) ≡ class_in ts v
      go (yes y) = flat v y
      go (no o) = ap (class_in ts) (class_past v (omega arith))

  pub to_sat : (θ : ℕ → Ty) → Satisfies θ n ts → Sat θ (term_graph ts)
  to_sat θ s = record { same = λ v. same v (dec_lt v n); fits = λ v e. fits v (dec_lt v n) }
    where
      same : (v : ℕ) → Dec (v < n) → θ v ≡ θ (class_in ts v)
      same v (yes y) = class_by θ v (term_of (get_or ts v 0)) (s v y)
      same v (no o) = ap θ (sym (class_past v (omega arith)))

      fits : (v : ℕ) → Dec (v < n) → Matches θ (word_shape ts v) (θ v)
      fits v (yes y) = fits_by θ (θ v) (term_of (get_or ts v 0)) (s v y)
      fits v (no o) = rw (shape_past v (omega arith)) tt

  pub from_sat : (θ : ℕ → Ty) → Sat θ (term_graph ts) → Satisfies θ n ts
  from_sat θ s v h = meets_by θ v (term_of (get_or ts v 0)) (s.same v) (s.fits v)

  -- A variable and its class have one status.
  pub status_class : LinksToClasses n ts → (K v : ℕ) → status_after (term_graph ts) K (class_in ts v) ≡ status_after (term_graph ts) K v
  status_class flat zero v = refl
  status_class flat (suc K) v = rw (idem flat v)
