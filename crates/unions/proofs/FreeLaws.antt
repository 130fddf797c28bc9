-- The values of the two lowest free identifiers are the first two of those of all free ones: what stands before the first, and between the two, is bound
-- (`free_skip`).
use Prim.Native.Nat.{ℕ, zero, suc, ◌+◌, ◌-◌, ◌≤◌, ◌<◌}
use mathlib.Core.List.{List, [], ◌∷◌}
use mathlib.Core.Logic.{◌≢◌}
use mathlib.Core.Path.{◌≡◌, refl, ap, ◌∙◌}
use native.Mathlib.Decide.{dec_lt}
use native.Mathlib.Omega.{arith}
use lib.ListN.{length, get_or, drop, drop_of_length-le, get_or-eq_default}
use lib.Seq.{drop-cons}
use Rattle.rules.specs.Values.{Value}
use Rattle.rules.specs.Cells.{no_value}
use Rattle.rules.specs.Merges.{unfit, free_values, first_two, union_of}
use Rattle.unions.specs.Answers.{Passed, LeastFree}

bound_first_law : (w : ℕ) (ws : List ℕ) (v : Value) (vs : List Value) → w ≢ 0 → free_values (w ∷ ws) (v ∷ vs) ≡ free_values ws vs
bound_first_law zero ws v vs n = absurd (n refl)
bound_first_law (suc w) ws v vs n = refl

free_first : (w : ℕ) (ws : List ℕ) (v : Value) (vs : List Value) → w ≡ 0 → free_values (w ∷ ws) (v ∷ vs) ≡ v ∷ free_values ws vs
free_first zero ws v vs e = refl
free_first (suc w) ws v vs e = absurd (omega arith)

module _ (ws : List ℕ) (vs : List Value) (even : length vs ≡ length ws) where
  -- Those from x on.
  abbrev from : ℕ → List Value
  from x = free_values (drop x ws) (drop x vs)

  opened : (x : ℕ) → x < length ws → from x ≡ free_values (get_or ws x 0 ∷ drop (suc x) ws) (get_or vs x no_value ∷ drop (suc x) vs)
  opened x l = rw (drop-cons ws x 0 l, drop-cons vs x no_value (omega (arith, even)))

  inside : (x : ℕ) → get_or ws x 0 ≢ 0 → x < length ws
  inside x n = go (dec_lt x (length ws))
    where
      go : Dec (x < length ws) → x < length ws
      go (yes l) = l
      go (no l) = absurd (n (get_or-eq_default ws 0 (omega arith)))

  free_skip : (k x : ℕ) → ((i : ℕ) → x ≤ i → i < x + k → get_or ws i 0 ≢ 0) → from x ≡ from (x + k)
  free_skip zero x h = ap from (let z : x ≡ x + 0 = omega arith in z)
  free_skip (suc k) x h =
      let n = h x (omega arith) (omega arith) in
      opened x (inside x n) ∙ bound_first_law (get_or ws x 0) (drop (suc x) ws) (get_or vs x no_value) (drop (suc x) vs) n
      ∙ free_skip k (suc x) (λ i l m. h i (omega arith) (omega arith)) ∙ ap from (let z : suc x + k ≡ x + suc k = omega arith in z)

  here : {x r : ℕ} → LeastFree ws x r → from x ≡ get_or vs r no_value ∷ from (suc r)
  here {x} {r} h =
      free_skip (r - x) x (λ i l m. h.others i l (omega (arith, h.behind)))
      ∙ ap from (let z : x + (r - x) ≡ r = omega (arith, h.behind) in z)
      ∙ opened r h.named ∙ free_first (get_or ws r 0) (drop (suc r) ws) (get_or vs r no_value) (drop (suc r) vs) h.here

  none : {x : ℕ} → x ≤ length ws → Passed ws x (length ws) → from x ≡ []
  none {x} l h =
      free_skip (length ws - x) x (λ i k m. h i k (omega arith))
      ∙ rw (drop_of_length-le ws (let z : length ws ≤ x + (length ws - x) = omega arith in z))

  pub none_free : Passed ws 0 (length ws) → first_two (free_values ws vs) ≡ unfit
  none_free h = ap first_two (none (omega arith) h)

  module _ {x : ℕ} (h : LeastFree ws 0 x) where
    after : free_values ws vs ≡ get_or vs x no_value ∷ from (x + 1)
    after = here h ∙ ap (λ (n : ℕ). get_or vs x no_value ∷ from n) (let z : suc x ≡ x + 1 = omega arith in z)

    pub one_free : Passed ws (x + 1) (length ws) → first_two (free_values ws vs) ≡ unfit
    one_free k = ap first_two (after ∙ ap (λ (us : List Value). get_or vs x no_value ∷ us) (none (omega (arith, h.named)) k))

    pub two_free_law : {y : ℕ} → LeastFree ws (x + 1) y → first_two (free_values ws vs) ≡ union_of (get_or vs x no_value) (get_or vs y no_value)
    two_free_law k = ap first_two (after ∙ ap (λ (us : List Value). get_or vs x no_value ∷ us) (here k))
