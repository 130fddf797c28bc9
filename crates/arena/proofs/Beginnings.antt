-- `same`: of two values the cells of the second begin with those of the first just where the values are the same, since no value's cells begin
-- another's.
use Rattle.arena.proofs.Base.{ℕ, ◌+◌, ◌-◌, ◌≤◌, ◌<◌, Bool, true, false, List, ◌++◌, ◌≡◌, refl, sym, ap, ◌∙◌, arith, eqb, drop, get_or, length, length-append}
use lib.ListN.{take}
use Rattle.std.specs.List.{starts_with}
use Rattle.std.proofs.lemmas.List.{length-take-le, length-drop, get_or-take, get_or-drop, get_or_append_left, take-append-drop, ext_get_or}
use Rattle.std.proofs.lemmas.Bool.Decides.{Decides-eqb}
use Rattle.std.proofs.lemmas.Slice.Eq.{starts_is}
use Rattle.rules.specs.Values.{Value, weight, same}
use Rattle.laws.proofs.OrderLaws.{same_eq}
use Rattle.laws.proofs.EndLaws.{T_true}
use Rattle.arena.specs.Code.{code, ValueAt, CellsFit, SomeAt, EndsAt, SameAt}
use Rattle.arena.proofs.CodeLaws.{fits_small, length_code}
use Rattle.arena.proofs.Standing.{Agree}
use Rattle.arena.proofs.CellOrder.{agree_same}

module _ (s : List ℕ) (a b end : ℕ) (some : SomeAt s a) (ends : EndsAt s a end) where
  pub end_inside : end ≤ length s
  end_inside = omega (arith, some.stands.inside, length_code some.value, ends some.value some.stands some.fits)

  abbrev first : List ℕ
  first = take (end - a) (drop a s)

  abbrev behind_second : List ℕ
  behind_second = take (length s - b) (drop b s)

  first_long : length first ≡ end - a
  first_long = length-take-le (end - a) (drop a s) (omega (arith, length-drop a s, end_inside))

  second_long : length behind_second ≡ length s - b
  second_long = length-take-le (length s - b) (drop b s) (omega (arith, length-drop b s))

  first_cell : (j : ℕ) → j < end - a → get_or first j 0 ≡ get_or s (a + j) 0
  first_cell j l = get_or-take (end - a) (drop a s) j 0 l ∙ get_or-drop a s j 0

  second_cell : (j : ℕ) → j < length s - b → get_or behind_second j 0 ≡ get_or s (b + j) 0
  second_cell j l = get_or-take (length s - b) (drop b s) j 0 l ∙ get_or-drop b s j 0

  begun_agree : (rest : List ℕ) → behind_second ≡ first ++ rest → Agree s a b (end - a)
  begun_agree rest e j l =
      let long = ap length e ∙ length-append first rest in
      sym (first_cell j l) ∙ sym (get_or_append_left first rest 0 j (omega (arith, first_long))) ∙ ap (λ (xs : List ℕ). get_or xs j 0) (sym e)
      ∙ second_cell j (omega (arith, long, first_long, second_long))

  module _ {v w : Value} (h : ValueAt s a v) (k : ValueAt s b w) (f : CellsFit v) where
    same_begun : v ≡ w → behind_second ≡ first ++ drop (end - a) behind_second
    same_begun e =
        let weighs : weight v ≡ weight w = ap weight e in
        let few : end - a ≤ length s - b = omega (arith, ends v h f, k.inside, length_code w) in
        let cut = length-take-le (end - a) behind_second (omega (arith, second_long)) in
        let cells = ext_get_or 0 (take (end - a) behind_second) first (cut ∙ sym first_long) (λ i l.
        let m : i < end - a = omega (arith, cut) in
        get_or-take (end - a) behind_second i 0 m ∙ second_cell i (omega arith) ∙ k.cells i (omega (arith, ends v h f, length_code w))
        ∙ ap (λ (u : Value). get_or (code u) i 0) (sym e) ∙ sym (h.cells i (omega (arith, ends v h f, length_code v))) ∙ sym (first_cell i m)) in
        sym (take-append-drop (end - a) behind_second) ∙ ap (λ (xs : List ℕ). xs ++ drop (end - a) behind_second) cells

  pub same_begins : (r : Bool) → r ≡ starts_with eqb behind_second first → SameAt s a b r
  same_begins r e v w h k f g = by_answer r refl (same v w) refl
    where
      told : (r ≡ true → behind_second ≡ first ++ drop (length first) behind_second) × ((rest : List ℕ) → behind_second ≡ first ++ rest → r ≡ true)
      told = starts_is Decides-eqb behind_second first r e

      by_answer : (t : Bool) → r ≡ t → (q : Bool) → same v w ≡ q → r ≡ same v w
      by_answer true x q y = x ∙ agree_same s a b end (end - a) ends (begun_agree _ (told.0 x)) (omega arith) v w h k f g
      by_answer false x true y = told.1 _ (same_begun h k f (same_eq v w (fits_small v f) (fits_small w g) ((T_true (same v w)).1 y))) ∙ sym y
      by_answer false x false y = x ∙ sym y
