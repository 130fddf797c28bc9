-- Pairs that rise. A pair whose first part is new has a first part less than all that follow (`new_less`); so neighbours tell whether a
-- set of pairs is a function (`firsts_right`), and a function gives the second part of any pair whose first part is e (`applied_found`).
use Rattle.sets.proofs.Base.{true, false, cond, List, [], ◌∷◌, ◌↔◌, ◌⊎◌, inl, inr, ◌≡◌, refl, sym, ap, ◌∙◌, subst, T, T_not, not_T}
use Rattle.functions.proofs.Terms.{Value, set, Values, members, same, gives, lacks, left, right, keep, paired_with, is_function, applied, CellsFit, FineSet, AllPairs, new_first, new_firsts}
use Rattle.rules.proofs.Basics.{and_of, and_split, bool_eq}
use Rattle.laws.proofs.OrderLaws.{Small, before_irrefl, same_eq, same_refl}
use Rattle.laws.proofs.SetOrder.{All, Before, Rising, all_imp, keep_rising}
use Rattle.laws.proofs.Membership.{In, all_in_law, in_all, left_small, keep_in, same_members}
use Rattle.laws.proofs.FunctionLaws.{function_right}
use Rattle.arena.proofs.CodeLaws.{fits_small}
use Rattle.arena.proofs.FrontLaws.{rises_rising, fit_small}
use Rattle.sets.proofs.KeyLaws.{SmallPair, first_parts, less_all, pairs_small}

-- A new first part is less than all that follow.
new_less : (x : Value) (xs : List Value) → All SmallPair (x ∷ xs) → Rising (x ∷ xs) → T (new_first x xs) → All (λ z. Before (left x) (left z)) xs
new_less x [] p r n = tt
new_less x (y ∷ ys) p r n =
    let l : Before (left x) (left y) = elim (first_parts x y p.0 p.1.0 r.0.0) [
      | inl b ↦ b
      | inr e ↦ absurd (T_not (same (left x) (left y)) n (subst (λ (z : Value). T (same (left x) z)) e (same_refl (left x))))
    ] in
    (l, less_all true (left x) y ys p.1.0 p.1.1 r.1.0 l)

-- Members that share a first part are equal.
abbrev FirstsTell : List Value → Type 0
FirstsTell xs = (x y : Value) → In x xs → In y xs → left x ≡ left y → x ≡ y

-- Neighbours decide.
firsts_tell : (xs : List Value) → All SmallPair xs → Rising xs → T (new_firsts xs) ↔ FirstsTell xs
firsts_tell [] p r = (λ t x y i. absurd i, λ f. tt)
firsts_tell (x ∷ xs) p r =
    let q = firsts_tell xs p.1 r.1 in (
      λ t. let n = and_split (new_first x xs) (new_firsts xs) t in there (new_less x xs p r n.0) (q.0 n.1),
      λ f. and_of (new_first x xs) (new_firsts xs) (new xs p r f) (q.1 (λ y z i j. f y z (inr i) (inr j))),
    )
  where
    apart : All (λ z. Before (left x) (left z)) xs → (y z : Value) → y ≡ x → In z xs → left y ≡ left z → ⊥
    apart l y z e j k =
        before_irrefl (left x) (subst (Before (left x)) (sym k ∙ ap left e) (all_in_law (λ w. Before (left x) (left w)) z xs l j))

    there : All (λ z. Before (left x) (left z)) xs → FirstsTell xs → (y z : Value) → (y ≡ x) ⊎ In y xs → (z ≡ x) ⊎ In z xs → left y ≡ left z → y ≡ z
    there l f y z (inl d) (inl e) k = d ∙ sym e
    there l f y z (inl d) (inr j) k = absurd (apart l y z d j k)
    there l f y z (inr i) (inl e) k = absurd (apart l z y e i (sym k))
    there l f y z (inr i) (inr j) k = f y z i j k

    new : (ys : List Value) → All SmallPair (x ∷ ys) → Rising (x ∷ ys) → FirstsTell (x ∷ ys) → T (new_first x ys)
    new [] p r f = tt
    new (y ∷ ys) p r f =
        not_T (same (left x) (left y)) λ t.
        let e = f x y (inl refl) (inr (inl refl)) (same_eq (left x) (left y) (left_small x p.0.1) (left_small y p.1.0.1) t) in
        before_irrefl x (subst (Before x) (sym e) r.0.0)

pub firsts_right : (vs : Values) → AllPairs vs → All Small (members vs) → Rising (members vs) → new_firsts (members vs) ≡ is_function (set vs)
firsts_right vs p h r =
    let a = firsts_tell (members vs) (pairs_small vs p h) r in
    let b = function_right (set vs) h in
    bool_eq (new_firsts (members vs)) (is_function (set vs)) (λ t. b.1 (a.0 t)) (λ t. a.1 (b.0 t))

-- What application gives, by the first parts.
module _ (e : Value) (fits : CellsFit e) (vs : Values) (p : AllPairs vs) (fine : FineSet vs) where
  small : All Small (members vs)
  small = fit_small vs fine.fits.1

  rises : Rising (members vs)
  rises = rises_rising vs fine.rises

  -- the pairs that are kept, as a list with the same members
  kept : (xs : List Value) → Rising xs → ((y : Value) → In y (members vs) → left y ≡ e → In y xs) → All (λ y. In y (members vs) × (left y ≡ e)) xs →
      keep (paired_with e) (members vs) ≡ xs
  unfolding paired_with
  kept xs q f g =
      same_members (keep (paired_with e) (members vs)) xs (keep_rising (paired_with e) (members vs) rises) q
      (in_all (λ y. In y xs) (keep (paired_with e) (members vs)) λ y i.
      let k = (keep_in (paired_with e) y (members vs)).0 i in
      f y k.0 (same_eq (left y) e (left_small y (all_in_law Small y (members vs) small k.0)) (fits_small e fits) k.1))
      (all_imp (λ y. In y (members vs) × (left y ≡ e)) (λ y. In y (keep (paired_with e) (members vs)))
      (λ y k. (keep_in (paired_with e) y (members vs)).1 (k.0, subst (λ (z : Value). T (same (left y) z)) k.1 (same_refl (left y)))) xs g)

  pub applied_none : All (λ w. left w ≡ e → ⊥) (members vs) → applied (set vs) e ≡ lacks 16
  unfolding applied
  applied_none d =
      rw (kept [] tt (λ y i q. all_in_law (λ w. left w ≡ e → ⊥) y (members vs) d i q) tt)
      (elim (is_function (set vs)) as (λ b. cond b (lacks 16) (lacks 16) ≡ lacks 16) [ true ↦ refl | false ↦ refl ])

  pub applied_shared : new_firsts (members vs) ≡ false → applied (set vs) e ≡ lacks 16
  unfolding applied
  applied_shared t = rw (← firsts_right vs p small rises, t)

  pub applied_found : (x : Value) → In x (members vs) → left x ≡ e → new_firsts (members vs) ≡ true → applied (set vs) e ≡ gives (right x)
  unfolding applied
  applied_found x i q t =
      let tell = (firsts_tell (members vs) (pairs_small vs p small) rises).0 (rw t tt) in
      rw (← firsts_right vs p small rises, t, kept (x ∷ []) (tt, tt) (λ y j k. inl (tell y x j i (k ∙ sym q))) ((i, q), tt))
