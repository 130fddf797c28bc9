-- Membership in a list, as equality with an entry: which members the operations on lists have. `insert` and `rising` drop a value only
-- where an equal one is there, which needs `Small` (OrderLaws.order_eq), and rising lists with the same members are equal.
use Prim.Native.Nat.{ℕ, zero, suc, ◌+◌, ◌≤◌, ◌<◌, Ordering}
use mathlib.Core.Bool.{Bool, true, false, ◌||◌}
use mathlib.Core.List.{List, [], ◌∷◌, ◌++◌, map}
use mathlib.Core.Logic.{◌↔◌, ◌⊎◌, inl, inr}
use mathlib.Core.Path.{◌≡◌, refl, sym, ap, ◌∙◌, subst}
use native.Mathlib.Omega.{arith}
use native.Mathlib.Decide.{ℕ_discrete}
use lib.IntN.{ℤ, pos, ◌+ℤ◌, +ℤ_idr, +ℤ_assoc}
use lib.Dec.{T}
use Rattle.rules.specs.Values.{element, Value, scalar, pair, set, Values, none, ◌▸◌, int, members, values, order, same}
use Rattle.rules.specs.Operations.{left, right, elems, set_of, placed, insert, rising, is_in, all_in, kept_value, keep, any_of, pairs_of, subsets, up_from}
use Rattle.rules.specs.Operations.{elements_from}
use Rattle.rules.proofs.Basics.{and_of, and_split}
use Rattle.laws.proofs.OrderLaws.{Small, Smalls, order_eq, same_eq, same_refl, before_trans, before_irrefl}
use Rattle.laws.proofs.SetOrder.{All, Before, Rising, all_imp, all_map, rising_all_law, subsets_all, subsets_rising}

-- Membership.
abbrev pub In : {A : Type 0} → A → List A → Type 0
In x [] = ⊥
In x (y ∷ ys) = (x ≡ y) ⊎ In x ys

module _ {A : Type 0} where
  pub all_in_law : (P : A → Type 0) (x : A) (ys : List A) → All P ys → In x ys → P x
  all_in_law P x [] h i = absurd i
  all_in_law P x (y ∷ ys) h (inl e) = subst P (sym e) h.0
  all_in_law P x (y ∷ ys) h (inr i) = all_in_law P x ys h.1 i

  pub in_all : (P : A → Type 0) (ys : List A) → ((x : A) → In x ys → P x) → All P ys
  in_all P [] f = tt
  in_all P (y ∷ ys) f = (f y (inl refl), in_all P ys (λ x i. f x (inr i)))

  pub all_self : (ys : List A) → All (λ x. In x ys) ys
  all_self ys = in_all (λ x. In x ys) ys (λ x i. i)

  pub in_append : (x : A) (ys zs : List A) → In x (ys ++ zs) → In x ys ⊎ In x zs
  in_append x [] zs i = inr i
  in_append x (y ∷ ys) zs (inl e) = inl (inl e)
  in_append x (y ∷ ys) zs (inr i) = go (in_append x ys zs i)
    where
      go : In x ys ⊎ In x zs → ((x ≡ y) ⊎ In x ys) ⊎ In x zs
      go (inl h) = inl (inr h)
      go (inr h) = inr h

  pub in_left : (x : A) (ys zs : List A) → In x ys → In x (ys ++ zs)
  in_left x [] zs i = absurd i
  in_left x (y ∷ ys) zs (inl e) = inl e
  in_left x (y ∷ ys) zs (inr i) = inr (in_left x ys zs i)

  pub in_right : (x : A) (ys zs : List A) → In x zs → In x (ys ++ zs)
  in_right x [] zs i = i
  in_right x (y ∷ ys) zs i = inr (in_right x ys zs i)

pub in_map : {A B : Type 0} (f : A → B) (x : A) (ys : List A) → In x ys → In (f x) (map f ys)
in_map f x [] i = absurd i
in_map f x (y ∷ ys) (inl e) = inl (ap f e)
in_map f x (y ∷ ys) (inr i) = inr (in_map f x ys i)

-- What is in a list's image is the image of a member.
pub map_in : {A B : Type 0} (f : A → B) (y : B) (xs : List A) → In y (map f xs) → (x : A) × (y ≡ f x) × In x xs
map_in f y [] i = absurd i
map_in f y (x ∷ xs) (inl e) = (x, e, inl refl)
map_in f y (x ∷ xs) (inr i) = let r = map_in f y xs i in (r.0, r.1, inr r.2)

-- `insert` keeps the members, and adds one.
placed_old : (o : Ordering) (x v w : Value) (ws r : List Value) → In x (w ∷ ws) → (In x ws → In x r) → In x (placed o v w ws r)
placed_old Ordering.lt x v w ws r i k = inr i
placed_old Ordering.eq x v w ws r i k = i
placed_old Ordering.gt x v w ws r (inl e) k = inl e
placed_old Ordering.gt x v w ws r (inr i) k = inr (k i)

insert_old : (x v : Value) (ws : List Value) → In x ws → In x (insert v ws)
unfolding insert
insert_old x v [] i = absurd i
insert_old x v (w ∷ ws) i = placed_old (order v w) x v w ws (insert v ws) i (λ j. insert_old x v ws j)

placed_new : (o : Ordering) (v w : Value) (ws r : List Value) → (o ≡ Ordering.eq → v ≡ w) → In v r → In v (placed o v w ws r)
placed_new Ordering.lt v w ws r e i = inl refl
placed_new Ordering.eq v w ws r e i = inl (e refl)
placed_new Ordering.gt v w ws r e i = inr i

insert_new : (v : Value) (ws : List Value) → Small v → All Small ws → In v (insert v ws)
unfolding insert
insert_new v [] h k = inl refl
insert_new v (w ∷ ws) h k = placed_new (order v w) v w ws (insert v ws) (λ e. order_eq v w h k.0 e) (insert_new v ws h k.1)

-- A list and its rising list have the same members.
pub in_rising : (x : Value) (vs : List Value) → All Small vs → In x vs → In x (rising vs)
unfolding rising
in_rising x [] h i = absurd i
in_rising x (v ∷ vs) h (inl e) =
    subst (λ (z : Value). In z (insert v (rising vs))) (sym e) (insert_new v (rising vs) h.0 (rising_all_law Small vs h.1))
in_rising x (v ∷ vs) h (inr i) = insert_old x v (rising vs) (in_rising x vs h.1 i)

pub rising_in : (x : Value) (vs : List Value) → In x (rising vs) → In x vs
rising_in x vs i = all_in_law (λ z. In z vs) x (rising vs) (rising_all_law (λ z. In z vs) vs (all_self vs)) i

-- What is in y ∷ ys and follows x, which is y, is in ys.
pub in_rest : (x y : Value) (xs ys : List Value) → All (Before x) xs → y ≡ x → All (λ z. In z (y ∷ ys)) xs → All (λ z. In z ys) xs
in_rest x y [] ys p e q = tt
in_rest x y (z ∷ xs) ys p e q = (one q.0, in_rest x y xs ys p.1 e q.1)
  where
    one : (z ≡ y) ⊎ In z ys → In z ys
    one (inl f) = absurd (before_irrefl x (subst (λ (u : Value). Before x u) (f ∙ e) p.0))
    one (inr i) = i

-- Two rising lists with the same members are equal.
pub same_members : (vs ws : List Value) → Rising vs → Rising ws → All (λ x. In x ws) vs → All (λ x. In x vs) ws → vs ≡ ws
same_members [] [] h k a b = refl
same_members [] (w ∷ ws) h k a b = absurd b.0
same_members (v ∷ vs) [] h k a b = absurd a.0
same_members (v ∷ vs) (w ∷ ws) h k a b =
    go (λ e. same_members vs ws h.1 k.1 (in_rest v w vs ws h.0 (sym e) a.1) (in_rest w v ws vs k.0 e b.1)) a.0 b.0
  where
    equal : (v ≡ w → vs ≡ ws) → v ≡ w → v ∷ vs ≡ w ∷ ws
    equal f e = let r : vs ≡ ws = f e in cc

    go : (v ≡ w → vs ≡ ws) → (v ≡ w) ⊎ In v ws → (w ≡ v) ⊎ In w vs → v ∷ vs ≡ w ∷ ws
    go f (inl e) j = equal f e
    go f (inr i) (inl e) = equal f (sym e)
    go f (inr i) (inr j) = absurd (before_irrefl v (before_trans v w v (all_in_law (Before v) w vs h.0 j) (all_in_law (Before w) v ws k.0 i)))

-- The parts and members of small values, and the sets of small values.
pub left_small : (v : Value) → Small v → Small (left v)
left_small (scalar s) h = h
left_small (pair v w) h = h.0
left_small (set s) h = h

pub right_small : (v : Value) → Small v → Small (right v)
right_small (scalar s) h = h
right_small (pair v w) h = h.1
right_small (set s) h = h

pub elems_small : (v : Value) → Small v → All Small (elems v)
elems_small (scalar s) h = tt
elems_small (pair v w) h = tt
elems_small (set s) h = go s h
  where
    go : (s : Values) → Smalls s → All Small (members s)
    go none k = tt
    go (v ▸ vs) k = (k.0, go vs k.1)

pub set_small : (vs : List Value) → All Small vs → Small (set_of vs)
set_small [] h = tt
set_small (v ∷ vs) h = (h.0, set_small vs h.1)

pub small_sets : (ss : List (List Value)) → All (All Small) ss → All Small (map set_of ss)
small_sets ss h = all_map (All Small) Small set_of (λ s k. set_small s k) ss h

-- A set's members as a list, and back.
pub values_members : (vs : Values) → values (members vs) ≡ vs
values_members none = refl
values_members (v ▸ vs) = ap (λ (ws : Values). v ▸ ws) (values_members vs)

pub members_values : (vs : List Value) → members (values vs) ≡ vs
members_values [] = refl
members_values (v ∷ vs) = ap (λ (ws : List Value). v ∷ ws) (members_values vs)

-- The test `is_in` is membership, and `all_in` is inclusion.
or_iff : (a b : Bool) → T (a || b) ↔ (T a ⊎ T b)
or_iff true b = (λ h. inl tt, λ h. tt)
or_iff false b = (λ h. inr h, λ h. go h)
  where
    go : ⊥ ⊎ T b → T b
    go (inl h) = absurd h
    go (inr h) = h

pub is_in_right : (x : Value) (vs : List Value) → Small x → All Small vs → T (is_in x vs) ↔ In x vs
unfolding is_in
is_in_right x [] h k = (λ i. i, λ i. i)
is_in_right x (v ∷ vs) h k =
    let r = is_in_right x vs h k.1 in
    (λ t. there r.0 ((or_iff (same x v) (is_in x vs)).0 t), λ i. (or_iff (same x v) (is_in x vs)).1 (back r.1 i))
  where
    there : (T (is_in x vs) → In x vs) → T (same x v) ⊎ T (is_in x vs) → (x ≡ v) ⊎ In x vs
    there f (inl t) = inl (same_eq x v h k.0 t)
    there f (inr t) = inr (f t)

    back : (In x vs → T (is_in x vs)) → (x ≡ v) ⊎ In x vs → T (same x v) ⊎ T (is_in x vs)
    back f (inl e) = inl (subst (λ (z : Value). T (same x z)) e (same_refl x))
    back f (inr i) = inr (f i)

pub all_in_right : (vs ws : List Value) → All Small vs → All Small ws → T (all_in vs ws) ↔ All (λ x. In x ws) vs
unfolding all_in
all_in_right [] ws h k = (λ t. tt, λ a. tt)
all_in_right (v ∷ vs) ws h k =
    let r = all_in_right vs ws h.1 k in
    let i = is_in_right v ws h.0 k in (
      λ t. let q = and_split (is_in v ws) (all_in vs ws) t in (i.0 q.0, r.0 q.1),
      λ a. and_of (is_in v ws) (all_in vs ws) (i.1 a.0) (r.1 a.1),
    )

-- `any_of` finds a member that passes its test.
pub any_of_right : (p : Value → Bool) (vs : List Value) → T (any_of p vs) ↔ ((x : Value) × In x vs × T (p x))
unfolding any_of
any_of_right p [] = (λ t. absurd t, λ h. absurd h.1)
any_of_right p (v ∷ vs) =
    let r = any_of_right p vs in
    let o = or_iff (p v) (any_of p vs) in
    (λ t. there r.0 (o.0 t), λ h. o.1 (back h.0 (λ i. r.1 (h.0, i, h.2)) h.1 h.2))
  where
    there : (T (any_of p vs) → (x : Value) × In x vs × T (p x)) → T (p v) ⊎ T (any_of p vs) → (x : Value) × ((x ≡ v) ⊎ In x vs) × T (p x)
    there f (inl t) = (v, inl refl, t)
    there f (inr t) = let m = f t in (m.0, inr m.1, m.2)

    back : (x : Value) → (In x vs → T (any_of p vs)) → (x ≡ v) ⊎ In x vs → T (p x) → T (p v) ⊎ T (any_of p vs)
    back x f (inl e) t = inl (subst (λ (z : Value). T (p z)) e t)
    back x f (inr i) t = inr (f i)

-- `keep` has the members that pass its test.
pub keep_in : (p : Value → Bool) (x : Value) (vs : List Value) → In x (keep p vs) ↔ (In x vs × T (p x))
unfolding keep
keep_in p x [] = (λ i. absurd i, λ h. h.0)
keep_in p x (v ∷ vs) = go (p v) refl (keep_in p x vs)
  where
    go : (b : Bool) → p v ≡ b → In x (keep p vs) ↔ (In x vs × T (p x)) → In x (kept_value b v (keep p vs)) ↔ (((x ≡ v) ⊎ In x vs) × T (p x))
    go true e r = (λ i. there i, λ h. back h.0 h.1)
      where
        there : (x ≡ v) ⊎ In x (keep p vs) → ((x ≡ v) ⊎ In x vs) × T (p x)
        there (inl q) = (inl q, rw (q, e) tt)
        there (inr i) = let h = r.0 i in (inr h.0, h.1)

        back : (x ≡ v) ⊎ In x vs → T (p x) → (x ≡ v) ⊎ In x (keep p vs)
        back (inl q) t = inl q
        back (inr i) t = inr (r.1 (i, t))
    go false e r = (λ i. let h = r.0 i in (inr h.0, h.1), λ h. back h.0 h.1)
      where
        back : (x ≡ v) ⊎ In x vs → T (p x) → In x (keep p vs)
        back (inl q) t = let f : T false = rw (q, e) at t in absurd f
        back (inr i) t = r.1 (i, t)

-- The pairs of two lists have a member of each as their parts.
pub pairs_in : (x : Value) (vs ws : List Value) →
    In x (pairs_of vs ws) ↔ ((a : Value) × (b : Value) × (x ≡ pair a b) × In a vs × In b ws)
unfolding pairs_of
pairs_in x [] ws = (λ i. absurd i, λ h. h.3)
pairs_in x (v ∷ vs) ws =
    let r = pairs_in x vs ws in (
      λ i. there r.0 (in_append x (map (pair v) ws) (pairs_of vs ws) i),
      λ h. back (λ j. r.1 (h.0, h.1, h.2, j, h.4)) h.1 h.2 h.3 h.4,
    )
  where
    there : (In x (pairs_of vs ws) → (a : Value) × (b : Value) × (x ≡ pair a b) × In a vs × In b ws) →
        In x (map (pair v) ws) ⊎ In x (pairs_of vs ws) → (a : Value) × (b : Value) × (x ≡ pair a b) × ((a ≡ v) ⊎ In a vs) × In b ws
    there f (inl i) = let m = map_in (pair v) x ws i in (v, m.0, m.1, inl refl, m.2)
    there f (inr i) = let m = f i in (m.0, m.1, m.2, inr m.3, m.4)

    back : {a : Value} → (In a vs → In x (pairs_of vs ws)) → (b : Value) → x ≡ pair a b → (a ≡ v) ⊎ In a vs → In b ws →
        In x (map (pair v) ws ++ pairs_of vs ws)
    back f b e (inl q) j = in_left x (map (pair v) ws) (pairs_of vs ws) (subst (λ (z : Value). In z (map (pair v) ws)) (cc) (in_map (pair v) b ws j))
    back f b e (inr i) j = in_right x (map (pair v) ws) (pairs_of vs ws) (f i)

-- The sublists of a rising list are the rising lists of its members.
pub nil_subset : (vs : List Value) → In [] (subsets vs)
unfolding subsets
nil_subset [] = inl refl
nil_subset (v ∷ vs) = in_left [] (subsets vs) (map (λ s. v ∷ s) (subsets vs)) (nil_subset vs)

in_subsets : (vs s : List Value) → Rising vs → Rising s → All (λ x. In x vs) s → In s (subsets vs)
unfolding subsets
in_subsets vs [] h r a = nil_subset vs
in_subsets [] (x ∷ s) h r a = absurd a.0
in_subsets (v ∷ vs) (x ∷ s) h r a =
    go (λ q. in_subsets vs s h.1 r.1 q) (λ q. in_subsets vs (x ∷ s) h.1 r q) a.0
  where
    go : (All (λ z. In z vs) s → In s (subsets vs)) → (All (λ z. In z vs) (x ∷ s) → In (x ∷ s) (subsets vs)) → (x ≡ v) ⊎ In x vs →
        In (x ∷ s) (subsets vs ++ map (λ t. v ∷ t) (subsets vs))
    go f g (inl e) =
        let m = in_map (λ t. v ∷ t) s (subsets vs) (f (in_rest x v s vs r.0 (sym e) a.1)) in
        in_right (x ∷ s) (subsets vs) (map (λ t. v ∷ t) (subsets vs))
        (subst (λ (z : Value). In (z ∷ s) (map (λ t. v ∷ t) (subsets vs))) (sym e) m)
    go f g (inr i) =
        let l = all_in_law (Before v) x vs h.0 i in
        let b = all_imp (Before x) (Before v) (λ z k. before_trans v x z l k) s r.0 in
        in_left (x ∷ s) (subsets vs) (map (λ t. v ∷ t) (subsets vs)) (g (in_rest v v (x ∷ s) vs (l, b) refl a))

pub subsets_in : (s vs : List Value) → Rising vs → In s (subsets vs) ↔ (Rising s × All (λ x. In x vs) s)
subsets_in s vs h = (
  λ i. (
    all_in_law Rising s (subsets vs) (subsets_rising vs h) i,
    all_in_law (All (λ x. In x vs)) s (subsets vs) (subsets_all (λ x. In x vs) vs (all_self vs)) i,
  ),
  λ k. in_subsets vs s h k.0 k.1,
)

-- The n integers from i on.
pub up_in : (x : Value) (i : ℤ) (n : ℕ) → In x (up_from i n) ↔ ((m : ℕ) × (x ≡ int (i +ℤ pos m)) × (m < n))
unfolding up_from
up_in x i zero = (λ k. absurd k, λ h. absurd (omega (arith, h.2)))
up_in x i (suc n) = let r = up_in x (i +ℤ pos 1) n in (λ k. there r.0 k, λ h. back r.1 h.0 h.1 h.2)
  where
    there : (In x (up_from (i +ℤ pos 1) n) → (m : ℕ) × (x ≡ int (i +ℤ pos 1 +ℤ pos m)) × (m < n)) →
        (x ≡ int i) ⊎ In x (up_from (i +ℤ pos 1) n) → (m : ℕ) × (x ≡ int (i +ℤ pos m)) × (m < suc n)
    there f (inl e) = (0, e ∙ ap int (sym (+ℤ_idr i)), omega arith)
    there f (inr k) = let h = f k in (1 + h.0, h.1 ∙ ap int (+ℤ_assoc i (pos 1) (pos h.0)), omega (arith, h.2))

    back : ((m : ℕ) × (x ≡ int (i +ℤ pos 1 +ℤ pos m)) × (m < n) → In x (up_from (i +ℤ pos 1) n)) →
        (m : ℕ) → x ≡ int (i +ℤ pos m) → m < suc n → (x ≡ int i) ⊎ In x (up_from (i +ℤ pos 1) n)
    back f zero e l = inl (e ∙ ap int (+ℤ_idr i))
    back f (suc m) e l =
        let q : suc m ≡ 1 + m = omega arith in
        inr (f (m, e ∙ ap (λ (k : ℕ). int (i +ℤ pos k)) q ∙ ap int (sym (+ℤ_assoc i (pos 1) (pos m))), omega arith))

-- The n elements of the given set g from k on.
pub elements_in : (x : Value) (g k n : ℕ) → In x (elements_from g k n) ↔ ((m : ℕ) × (x ≡ scalar (element g m)) × (k ≤ m) × (m < k + n))
unfolding elements_from
elements_in x g k zero = (λ i. absurd i, λ h. absurd (omega (arith, h.2, h.3)))
elements_in x g k (suc n) = let r = elements_in x g (suc k) n in (λ i. there r.0 i, λ h. back r.1 (ℕ_discrete h.0 k) h.1 h.2 h.3)
  where
    there : (In x (elements_from g (suc k) n) → (m : ℕ) × (x ≡ scalar (element g m)) × (suc k ≤ m) × (m < suc k + n)) →
        (x ≡ scalar (element g k)) ⊎ In x (elements_from g (suc k) n) → (m : ℕ) × (x ≡ scalar (element g m)) × (k ≤ m) × (m < k + suc n)
    there f (inl e) = (k, e, omega arith, omega arith)
    there f (inr i) = let h = f i in (h.0, h.1, omega (arith, h.2), omega (arith, h.3))

    back : {m : ℕ} → ((m : ℕ) × (x ≡ scalar (element g m)) × (suc k ≤ m) × (m < suc k + n) → In x (elements_from g (suc k) n)) →
        Dec (m ≡ k) → x ≡ scalar (element g m) → k ≤ m → m < k + suc n → (x ≡ scalar (element g k)) ⊎ In x (elements_from g (suc k) n)
    back f (yes q) e a b = inl (e ∙ ap (λ (j : ℕ). scalar (element g j)) q)
    back {m} f (no q) e a b = inr (f (m, e, omega arith, omega arith))
