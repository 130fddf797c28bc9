-- Lists of parts. `insert` passes the members that are less than its value (`insert_behind`), so the first that is not less decides, and where
-- the value is not less than the last member, that one does (`insert_last`). `rising` does not mind the order of a list (`rising_onto`).
use Rattle.products.proofs.Base.{◌+◌, ◌≤◌, Ordering, Ordering·lt, Ordering·eq, Ordering·gt, cond, List, [], ◌∷◌, ◌++◌, append_assoc, inl, ◌≡◌, refl, sym, ap, ◌∙◌, subst, arith, true}
use Rattle.std.specs.declared.cmp.Ordering.{Ordering as RustOrdering}
use Rattle.std.specs.Ordering.{is_eq, is_ge, is_le}
use Rattle.parts.proofs.Terms.{Value, values, weight, weights, order, placed, insert, rising, ordering_of, last_of}
use Rattle.laws.proofs.OrderLaws.{flip, Small, order_flip, order_eq, before_order, order_before, before_trans}
use Rattle.laws.proofs.SetOrder.{All, Before, Rising, all_imp, rising_all_law, rising_rising}
use Rattle.laws.proofs.Membership.{In, all_in_law, all_self, in_right, in_rising, same_members}

-- The weight of a list with one value more.
pub insert_weighs : (v : Value) (ws : List Value) → weights (values (insert v ws)) ≤ weight v + weights (values ws)
unfolding insert
insert_weighs v [] = omega arith
insert_weighs v (w ∷ ws) =
    elim (order v w) as (λ o. weights (values (placed o v w ws (insert v ws))) ≤ weight v + (weight w + weights (values ws))) [
      | Ordering·lt ↦ omega arith
      | Ordering·eq ↦ omega arith
      | Ordering·gt ↦ omega (arith, insert_weighs v ws)
    ]

-- `insert` where the first member decides.
module _ (v w : Value) (ws : List Value) where
  pub insert_next : order v w ≡ Ordering·gt → insert v (w ∷ ws) ≡ w ∷ insert v ws
  unfolding insert
  insert_next e = ap (λ (o : Ordering). placed o v w ws (insert v ws)) e

  pub insert_here : (c : RustOrdering) → c ≡ ordering_of (order v w) → is_le c ≡ true → insert v (w ∷ ws) ≡ cond (is_eq c) (w ∷ ws) (v ∷ w ∷ ws)
  unfolding insert
  insert_here c e l = rw e (go (order v w) (rw e at l))
    where
      go : (o : Ordering) → is_le (ordering_of o) ≡ true → placed o v w ws (insert v ws) ≡ cond (is_eq (ordering_of o)) (w ∷ ws) (v ∷ w ∷ ws)
      go Ordering·lt q = refl
      go Ordering·eq q = refl
      go Ordering·gt q = cc

pub insert_none : (v : Value) → insert v [] ≡ v ∷ []
unfolding insert
insert_none v = refl

-- x is the last of a rising list: what is greater than all that x is greater than goes behind those before x.
insert_behind : (v x : Value) (lo : List Value) → ((y : Value) → Before y x → Before y v) → Rising (lo ++ (x ∷ [])) →
    insert v (lo ++ (x ∷ [])) ≡ lo ++ insert v (x ∷ [])
insert_behind v x [] f r = refl
insert_behind v x (y ∷ lo) f r =
    let b = f y (all_in_law (Before y) x (lo ++ (x ∷ [])) r.0 (in_right x lo (x ∷ []) (inl refl))) in
    insert_next v y (lo ++ (x ∷ [])) (order_flip y v ∙ ap flip (before_order y v b)) ∙ ap (λ (l : List Value). y ∷ l) (insert_behind v x lo f r.1)

insert_end : (v x : Value) (lo : List Value) → Rising (lo ++ (x ∷ [])) → Small v → Small x → (c : RustOrdering) → c ≡ ordering_of (order v x) → is_ge c ≡ true →
    insert v (lo ++ (x ∷ [])) ≡ (lo ++ (x ∷ [])) ++ cond (is_eq c) [] (v ∷ [])
unfolding insert
insert_end v x lo r p q c e l = rw (append_assoc, e) (go (order v x) refl (rw e at l))
  where
    go : (o : Ordering) → order v x ≡ o → is_ge (ordering_of o) ≡ true → insert v (lo ++ (x ∷ [])) ≡ lo ++ (x ∷ cond (is_eq (ordering_of o)) [] (v ∷ []))
    go Ordering·lt d k = cc
    go Ordering·eq d k = insert_behind v x lo (λ y b. subst (Before y) (sym (order_eq v x p q d)) b) r ∙ rw d
    go Ordering·gt d k = insert_behind v x lo (λ y b. before_trans y x v b (order_before x v (order_flip v x ∙ ap flip d))) r ∙ rw d

-- The last member.
pub last_append : (z : Value) (lo : List Value) (h : Value) (hs : List Value) → last_of z (lo ++ (h ∷ hs)) ≡ last_of h hs
last_append z [] h hs = refl
last_append z (y ∷ lo) h hs = last_append y lo h hs

pub last_split : (z : Value) (zs : List Value) → (lo : List Value) × (z ∷ zs ≡ lo ++ (last_of z zs ∷ []))
last_split z [] = ([], refl)
last_split z (y ∷ ys) = let r = last_split y ys in (z ∷ r.0, ap (λ (l : List Value). z ∷ l) r.1)

pub insert_last : (v z : Value) (zs : List Value) → Rising (z ∷ zs) → Small v → Small (last_of z zs) → (c : RustOrdering) →
    c ≡ ordering_of (order v (last_of z zs)) → is_ge c ≡ true → insert v (z ∷ zs) ≡ (z ∷ zs) ++ cond (is_eq c) [] (v ∷ [])
insert_last v z zs r p q c e l =
    let d = last_split z zs in
    subst (λ (ys : List Value). insert v ys ≡ ys ++ cond (is_eq c) [] (v ∷ [])) (sym d.1)
    (insert_end v (last_of z zs) d.0 (subst Rising d.1 r) p q c e l)

-- The values xs put before ys one by one.
unfoldable pub onto : List Value → List Value → List Value
onto [] ys = ys
onto (x ∷ xs) ys = onto xs (x ∷ ys)

onto_all : (P : Value → Type 0) (xs ys : List Value) → All P xs → All P ys → All P (onto xs ys)
unfolding onto
onto_all P [] ys h k = k
onto_all P (x ∷ xs) ys h k = onto_all P xs (x ∷ ys) h.1 (h.0, k)

all_onto : (P : Value → Type 0) (xs ys : List Value) → All P (onto xs ys) → All P xs × All P ys
unfolding onto
all_onto P [] ys h = (tt, h)
all_onto P (x ∷ xs) ys h = let r = all_onto P xs (x ∷ ys) h in ((r.1.0, r.0), r.1.1)

-- Both have the same members.
pub rising_onto : (xs : List Value) → All Small xs → rising (onto xs []) ≡ rising xs
rising_onto xs h =
    same_members (rising (onto xs [])) (rising xs) (rising_rising (onto xs [])) (rising_rising xs)
    (into (onto xs []) xs h (onto_all (λ x. In x xs) xs [] (all_self xs) tt))
    (into xs (onto xs []) (onto_all Small xs [] h tt) (all_onto (λ x. In x (onto xs [])) xs [] (all_self (onto xs []))).0)
  where
    into : (us ws : List Value) → All Small ws → All (λ x. In x ws) us → All (λ x. In x (rising ws)) (rising us)
    into us ws m c = rising_all_law (λ x. In x (rising ws)) us (all_imp (λ x. In x ws) (λ x. In x (rising ws)) (λ x i. in_rising x ws m i) us c)
