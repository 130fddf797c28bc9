-- The subsets of a rising list in rising order: by their number of members, then by the greatest members that differ. They are
-- taken from the list reversed, us, whose greatest value comes first: of the subsets of one count, those without that value come
-- before those with it. The greater values taken so far are the list t.
use Rattle.products.proofs.Base.{ℕ, zero, suc, ◌+◌, ◌*◌, ◌/◌, ◌≤◌, Ordering, Ordering·lt, List, [], ◌∷◌, ◌++◌, map, append_assoc, reverse, reverse_aux, reverse-reverse, inl, ◌≡◌, refl, sym, ap, ◌∙◌, subst, arith, ℕ_discrete, length, length-reverse, get_or}
use Rattle.powers.proofs.Terms.{Value, set, Values, none, values, count, weights, order, ◌then◌, set_of, rising, subsets, masks, subset_counts, picked}
use Rattle.rules.proofs.Basics.{all_both}
use Rattle.laws.proofs.OrderLaws.{Small, order_refl, order_fewer, order_cons, order_before, before_order}
use Rattle.laws.proofs.SetOrder.{All, Any, Before, Rising, all_imp, all_map, all_append, all_any, append_rising, rising_all_law, rising_rising, subsets_all}
use Rattle.laws.proofs.CellsLaws.{weight_some}
use Rattle.laws.proofs.Membership.{In, in_left, in_right, in_map, in_rising, same_members, small_sets}
use Rattle.arena.proofs.FrontLaws.{count_append, weights_append}

-- The sets of k of the values us and of those in t.
unfoldable combos : ℕ → List Value → List Value → List Value
combos zero us t = set_of t ∷ []
combos (suc k) [] t = []
combos (suc k) (u ∷ us) t = combos (suc k) us t ++ combos k us (u ∷ t)

-- The sets of at most k of the values us.
unfoldable pub up_to : ℕ → List Value → List Value
unfolding combos
up_to zero us = combos 0 us []
up_to (suc k) us = up_to k us ++ combos (suc k) us []

-- The subsets of a rising list.
abbrev pub powers : List Value → List Value
powers vs = up_to (length vs) (reverse vs)

-- x is the set of k values, each with P, and of those in t.
abbrev Of : (Value → Type 0) → ℕ → List Value → Value → Type 0
Of P k t x = (s : List Value) × (x ≡ set_of (s ++ t)) × (count (values s) ≡ k) × All P s

combos_are : (P : Value → Type 0) (k : ℕ) (us t : List Value) → All P us → All (Of P k t) (combos k us t)
unfolding combos
combos_are P zero us t h = (([], refl, refl, tt), tt)
combos_are P (suc k) [] t h = tt
combos_are P (suc k) (u ∷ us) t h =
    all_append (Of P (suc k) t) (combos (suc k) us t) (combos k us (u ∷ t)) (combos_are P (suc k) us t h.1)
    (all_imp (Of P k (u ∷ t)) (Of P (suc k) t) (λ x a. with_u x a) (combos k us (u ∷ t)) (combos_are P k us (u ∷ t) h.1))
  where
    with_u : (x : Value) → Of P k (u ∷ t) x → Of P (suc k) t x
    with_u x (s, e, n, a) = (
      s ++ (u ∷ []),
      e ∙ ap set_of (sym (append_assoc s (u ∷ []) t)),
      omega (arith, count_append s (u ∷ [])),
      all_append P s (u ∷ []) a (h.0, tt),
    )

-- x is a set of at most k values.
abbrev UpTo : ℕ → Value → Type 0
UpTo k x = (s : Values) × (x ≡ set s) × (count s ≤ k)

up_to_are : (k : ℕ) (us : List Value) → All (UpTo k) (up_to k us)
unfolding up_to
up_to_are zero us = ((none, refl, omega arith), tt)
up_to_are (suc k) us =
    all_append (UpTo (suc k)) (up_to k us) (combos (suc k) us [])
    (all_imp (UpTo k) (UpTo (suc k)) (λ x a. (a.0, a.1, omega (arith, a.2))) (up_to k us) (up_to_are k us))
    (all_imp (Of Any (suc k) []) (UpTo (suc k)) (λ x a. (values (a.0 ++ []), a.1, omega (arith, a.2, count_append a.0 [])))
    (combos (suc k) us []) (combos_are Any (suc k) us [] (all_any us)))

-- Of two sets of one count that end in t, the one that has u next to t follows the one whose other members are less than u.
lesser : (u : Value) (t s r : List Value) → All (λ v. Before v u) s → count (values s) ≡ 1 + count (values r) →
    order (set_of (s ++ t)) (set_of (r ++ (u ∷ t))) ≡ Ordering·lt
lesser u t [] r h e = absurd (omega arith)
lesser u t (v ∷ []) [] h e =
    order_cons v u (values t) (values t) refl ∙ ap (λ (o : Ordering). o then order v u) (order_refl (set_of t)) ∙ before_order v u h.0
lesser u t (v ∷ w ∷ s) [] h e = absurd (omega arith)
lesser u t (v ∷ s) (w ∷ r) h e =
    order_cons v w (values (s ++ t)) (values (r ++ (u ∷ t))) (omega (arith, count_append s t, count_append r (u ∷ t)))
    ∙ ap (λ (o : Ordering). o then order v w) (lesser u t s r h.1 (omega arith))

-- Two rising lists one behind the other rise where what has P precedes what has Q.
behind : (P Q : Value → Type 0) → ((x y : Value) → P x → Q y → Before x y) → (xs ys : List Value) → All P xs → All Q ys →
    Rising xs → Rising ys → Rising (xs ++ ys)
behind P Q f xs ys a b h k =
    append_rising xs ys h k (all_imp P (λ x. All (Before x) ys) (λ x p. all_imp Q (Before x) (λ y q. f x y p q) ys b) xs a)

-- Each value of a list follows all behind it, as in a rising list reversed.
abbrev Falling : List Value → Type 0
Falling [] = Unit {0}
Falling (u ∷ us) = All (λ v. Before v u) us × Falling us

reverse_falls : (vs us : List Value) → Rising vs → Falling us → All (λ v. All (λ u. Before u v) us) vs → Falling (reverse_aux vs us)
reverse_falls [] us h k a = k
reverse_falls (v ∷ vs) us h k a =
    reverse_falls vs (v ∷ us) h.1 (a.0, k) (all_both (Before v) (λ w. All (λ u. Before u w) us) vs h.0 a.1)

combos_rise : (k : ℕ) (us t : List Value) → Falling us → Rising (combos k us t)
unfolding combos
combos_rise zero us t h = (tt, tt)
combos_rise (suc k) [] t h = tt
combos_rise (suc k) (u ∷ us) t h =
    behind (Of (λ v. Before v u) (suc k) t) (Of Any k (u ∷ t))
    (λ x y a b. rw (a.1, b.1) (order_before (set_of (a.0 ++ t)) (set_of (b.0 ++ (u ∷ t)))
    (lesser u t a.0 b.0 a.3 (omega (arith, a.2, b.2)))))
    (combos (suc k) us t) (combos k us (u ∷ t)) (combos_are (λ v. Before v u) (suc k) us t h.0) (combos_are Any k us (u ∷ t) (all_any us))
    (combos_rise (suc k) us t h.1) (combos_rise k us (u ∷ t) h.1)

up_to_rise : (k : ℕ) (us : List Value) → Falling us → Rising (up_to k us)
unfolding up_to
up_to_rise zero us h = (tt, tt)
up_to_rise (suc k) us h =
    behind (UpTo k) (Of Any (suc k) [])
    (λ x y a b. rw (a.1, b.1) (order_before (set a.0) (set_of (b.0 ++ []))
    (order_fewer a.0 (values (b.0 ++ [])) (omega (arith, a.2, b.2, count_append b.0 [])))))
    (up_to k us) (combos (suc k) us []) (up_to_are k us) (combos_are Any (suc k) us [] (all_any us))
    (up_to_rise k us h) (combos_rise (suc k) us [] h)

-- They are subsets of us reversed and of ws behind it, of which t is one.
abbrev Subset : List Value → Value → Type 0
Subset vs x = In x (map set_of (subsets vs))

combos_in : (k : ℕ) (us ws t : List Value) → In t (subsets ws) → All (Subset (reverse_aux us ws)) (combos k us t)
unfolding combos subsets
combos_in zero [] ws t i = (in_map set_of t (subsets ws) i, tt)
combos_in zero (u ∷ us) ws t i = combos_in zero us (u ∷ ws) t (in_left t (subsets ws) (map (λ s. u ∷ s) (subsets ws)) i)
combos_in (suc k) [] ws t i = tt
combos_in (suc k) (u ∷ us) ws t i =
    let with_u = map (λ s. u ∷ s) (subsets ws) in
    all_append (Subset (reverse_aux us (u ∷ ws))) (combos (suc k) us t) (combos k us (u ∷ t))
    (combos_in (suc k) us (u ∷ ws) t (in_left t (subsets ws) with_u i))
    (combos_in k us (u ∷ ws) (u ∷ t) (in_right (u ∷ t) (subsets ws) with_u (in_map (λ s. u ∷ s) t (subsets ws) i)))

up_to_in : (k : ℕ) (us : List Value) → All (Subset (reverse us)) (up_to k us)
unfolding up_to subsets
up_to_in zero us = combos_in 0 us [] [] (inl refl)
up_to_in (suc k) us =
    all_append (Subset (reverse us)) (up_to k us) (combos (suc k) us []) (up_to_in k us) (combos_in (suc k) us [] [] (inl refl))

-- Every subset is among them. The proof goes over the list from its first value on, of which f puts k, those of us, before a list.
abbrev Puts : ℕ → List Value → (List Value → List Value) → Type 0
Puts k us f = (t : List Value) → In (set_of (f t)) (combos k us t)

abbrev Among : List Value → List Value → Type 0
Among vs s = (n k : ℕ) (us : List Value) (f : List Value → List Value) → Puts k us f → k + length vs ≤ n →
    In (set_of (f s)) (up_to n (reverse_aux vs us))

puts_same : (k : ℕ) (u : Value) (us : List Value) (f : List Value → List Value) → Puts k us f → Puts k (u ∷ us) f
unfolding combos
puts_same zero u us f h t = h t
puts_same (suc k) u us f h t = in_left (set_of (f t)) (combos (suc k) us t) (combos k us (u ∷ t)) (h t)

puts_more : (k : ℕ) (u : Value) (us : List Value) (f : List Value → List Value) → Puts k us f → Puts (suc k) (u ∷ us) (λ t. f (u ∷ t))
unfolding combos
puts_more k u us f h t = in_right (set_of (f (u ∷ t))) (combos (suc k) us t) (combos k us (u ∷ t)) (h (u ∷ t))

combos_up_to : (n k : ℕ) (us : List Value) (x : Value) → k ≤ n → In x (combos k us []) → In x (up_to n us)
unfolding up_to
combos_up_to zero k us x l i = subst (λ (j : ℕ). In x (combos j us [])) (let z : k ≡ 0 = omega arith in z) i
combos_up_to (suc n) k us x l i = go (λ m. combos_up_to n k us x m i) (ℕ_discrete k (suc n))
  where
    go : (k ≤ n → In x (up_to n us)) → Dec (k ≡ suc n) → In x (up_to n us ++ combos (suc n) us [])
    go f (yes e) = in_right x (up_to n us) (combos (suc n) us []) (subst (λ (j : ℕ). In x (combos j us [])) e i)
    go f (no m) = in_left x (up_to n us) (combos (suc n) us []) (f (omega arith))

up_to_all : (vs : List Value) → All (Among vs) (subsets vs)
unfolding subsets
up_to_all [] = (λ n k us f h l. combos_up_to n k us (set_of (f [])) (omega arith) (h []), tt)
up_to_all (v ∷ vs) =
    all_append (Among (v ∷ vs)) (subsets vs) (map (λ s. v ∷ s) (subsets vs))
    (all_imp (Among vs) (Among (v ∷ vs)) (λ s a n k us f h l. a n k (v ∷ us) f (puts_same k v us f h) (omega arith))
    (subsets vs) (up_to_all vs))
    (all_map (Among vs) (Among (v ∷ vs)) (λ s. v ∷ s)
    (λ s a n k us f h l. a n (suc k) (v ∷ us) (λ t. f (v ∷ t)) (puts_more k v us f h) (omega arith)) (subsets vs) (up_to_all vs))

-- The rising list of the subsets.
pub power_rising : (vs : List Value) → Rising vs → All Small vs → rising (map set_of (subsets vs)) ≡ powers vs
unfolding combos
power_rising vs h small =
    let ss = map set_of (subsets vs) in
    let little = small_sets (subsets vs) (subsets_all Small vs small) in
    let found : (s : List Value) → Among vs s → In (set_of s) (powers vs) = λ s a. a (length vs) 0 [] (λ t. t) (λ t. inl refl) (omega arith) in
    let all = all_map (Among vs) (λ x. In x (powers vs)) set_of found (subsets vs) (up_to_all vs) in
    let back = subst (λ (ws : List Value). All (Subset ws) (powers vs)) (reverse-reverse vs) (up_to_in (length vs) (reverse vs)) in
    same_members (rising ss) (powers vs) (rising_rising ss) (up_to_rise (length vs) (reverse vs) (reverse_falls vs [] h tt (all_any vs)))
    (rising_all_law (λ x. In x (powers vs)) ss all) (all_imp (Subset vs) (λ x. In x (rising ss)) (λ x i. in_rising x ss little i) (powers vs) back)

-- Five members or fewer: the weight and the number of the subsets, and that the masks give them in order. They weigh 2^n cells and
-- each member 2^(n−1) times, for n members.
pub power_few : (vs : List Value) → length vs ≤ 5 →
    (weights (values (powers vs)) ≡ get_or subset_counts (length vs) 0 + get_or subset_counts (length vs) 0 / 2 * weights (values vs)) ×
    (count (values (powers vs)) ≡ get_or subset_counts (length vs) 0) ×
    (picked (get_or subset_counts (length vs) 0) masks vs ≡ powers vs)
unfolding up_to picked
power_few [] l = (refl, refl, refl)
power_few (a ∷ []) l = (omega arith, refl, refl)
power_few (a ∷ b ∷ []) l = (omega arith, refl, refl)
power_few (a ∷ b ∷ c ∷ []) l = (omega arith, refl, refl)
power_few (a ∷ b ∷ c ∷ d ∷ []) l = (omega arith, refl, refl)
power_few (a ∷ b ∷ c ∷ d ∷ f ∷ []) l = (omega arith, refl, refl)
power_few (a ∷ b ∷ c ∷ d ∷ f ∷ g ∷ vs) l = absurd (omega arith)

-- A value more does not make them lighter.
combos_more : (k : ℕ) (u : Value) (us t : List Value) → weights (values (combos k us t)) ≤ weights (values (combos k (u ∷ us) t))
unfolding combos
combos_more zero u us t = omega arith
combos_more (suc k) u us t = omega (arith, weights_append (combos (suc k) us t) (combos k us (u ∷ t)))

up_to_more : (k : ℕ) (u : Value) (us : List Value) → weights (values (up_to k us)) ≤ weights (values (up_to k (u ∷ us)))
unfolding up_to
up_to_more zero u us = omega arith
up_to_more (suc k) u us =
    let x = weights_append (up_to k us) (combos (suc k) us []) in
    let y = weights_append (up_to k (u ∷ us)) (combos (suc k) (u ∷ us) []) in
    omega (arith, up_to_more k u us, combos_more (suc k) u us [])

-- Six members or more are too many.
six_heavy : (a b c d f g : Value) → 256 ≤ weights (values (up_to 6 (a ∷ b ∷ c ∷ d ∷ f ∷ g ∷ [])))
unfolding up_to
six_heavy a b c d f g = omega (arith, weight_some a, weight_some b, weight_some c, weight_some d, weight_some f, weight_some g)

up_to_heavy : (us : List Value) → 6 ≤ length us → 256 ≤ weights (values (up_to (length us) us))
unfolding up_to
up_to_heavy [] l = absurd (omega arith)
up_to_heavy (a ∷ []) l = absurd (omega arith)
up_to_heavy (a ∷ b ∷ []) l = absurd (omega arith)
up_to_heavy (a ∷ b ∷ c ∷ []) l = absurd (omega arith)
up_to_heavy (a ∷ b ∷ c ∷ d ∷ []) l = absurd (omega arith)
up_to_heavy (a ∷ b ∷ c ∷ d ∷ f ∷ []) l = absurd (omega arith)
up_to_heavy (a ∷ b ∷ c ∷ d ∷ f ∷ g ∷ []) l = six_heavy a b c d f g
up_to_heavy (a ∷ b ∷ c ∷ d ∷ f ∷ g ∷ h ∷ us) l =
    let ws = b ∷ c ∷ d ∷ f ∷ g ∷ h ∷ us in
    let x = weights_append (up_to (length ws) (a ∷ ws)) (combos (suc (length ws)) (a ∷ ws) []) in
    omega (arith, up_to_heavy (b ∷ c ∷ d ∷ f ∷ g ∷ h ∷ us) (omega arith), up_to_more (length ws) a ws)

pub power_heavy : (vs : List Value) → 6 ≤ length vs → 256 ≤ weights (values (powers vs))
power_heavy vs l =
    let e = length-reverse vs in
    subst (λ (n : ℕ). 256 ≤ weights (values (up_to n (reverse vs)))) e (up_to_heavy (reverse vs) (omega arith))
