-- A step of the walk over forms, and what bounds it.
use Rattle.std.proofs.Common.{ℕ, zero, suc, ◌+◌, ◌-◌, ◌<◌, ◌≤◌, List, [], ◌∷◌, ◌≡◌, length, drop, get_or, arith, refl, sym, ap, subst, add-one, drop-cons, length-drop, ◌∙◌}
use Rattle.prefix.specs.Forms.{Forms}

module _ {T : Type 0} (P : T → ℕ → Type 0) where
  forms_few : (n left : ℕ) (xs : List T) → Forms P n xs left → left ≤ n
  unfolding Forms
  forms_few zero left xs h = omega (arith, h)
  forms_few (suc n) left [] h = absurd h
  forms_few (suc n) left (x ∷ xs) h = omega (arith, h.1)

  pub forms_end : (n left : ℕ) (xs : List T) → Forms P n xs left → left ≡ 0 → n ≡ 0
  unfolding Forms
  forms_end zero left xs h z = refl
  forms_end (suc n) left [] h z = absurd h
  forms_end (suc n) left (x ∷ xs) h z = absurd (omega (arith, h.0))

  forms_some : (k left : ℕ) (xs : List T) → Forms P (suc k) xs left → 0 < length xs
  unfolding Forms
  forms_some k left [] h = absurd h
  forms_some k left (x ∷ xs) h = omega arith

  pub forms_inside : (m left i : ℕ) (s : List T) → Forms P m (drop i s) left → 0 < left → i < length s
  unfolding Forms
  forms_inside zero left i s h l = absurd (omega (arith, h))
  forms_inside (suc k) left i s h l = omega (arith, forms_some k left (drop i s) h, length-drop i s)

  -- The first form is begun: those behind its first element.
  pub forms_step : (m left i r : ℕ) (s : List T) (x : T) → Forms P m (drop i s) left → 0 < left → x ≡ get_or s i x → P x r →
      (k : ℕ) × (m ≡ k + 1) × (left - 1 + r ≤ k) × Forms P k (drop (i + 1) s) (left - 1 + r)
  unfolding Forms
  forms_step zero left i r s x h l e p = absurd (omega (arith, h))
  forms_step (suc k) left i r s x h l e p =
      let b : i < length s = forms_inside (suc k) left i s h l in
      let d : drop i s ≡ x ∷ drop (i + 1) s = drop-cons s i x b ∙ ap (λ y. y ∷ drop (suc i) s) (sym e) ∙ ap (λ j. x ∷ drop j s) (sym (add-one i)) in
      let all = subst (λ (ys : List T). Forms P (suc k) ys left) d h in
      let rest = all.2 r p in
      (k, sym (add-one k), forms_few k (left - 1 + r) (drop (i + 1) s) rest, rest)
