-- Document 01, "Values and evaluation", with document 02's N2: the operations' meaning for sets, with choice, application and
-- intervals. For each kind, by clauses: what its operands say of the truth that a test has (`TestMeans`) and of the value that an
-- operation gives (`OneMeans`, `TwoMeans`, `LeafMeans`), by membership alone. `test_means`, `one_means`, `two_means` and `leaf_means`
-- say that the definitions of specs/Operations.antt have these meanings, `one_only` and `two_only` that nothing else has them.
-- ConditionMeaning.antt joins them to the meaning of a whole condition.
--
-- The operands are well formed and fit the kind's rule. Every value that an evaluation forms is well formed (FormedLaws.evaluation_good,
-- CellsLaws.good_well_formed), and what does not fit is refused by 15. No given set has over 256 elements (`few`), as refusal 4 sees to.
use Prim.Native.Nat.{ℕ, zero, suc, ◌+◌, ◌-◌, ◌≤◌, ◌<◌}
use mathlib.Core.Bool.{Bool, true, false, not, cond}
use mathlib.Core.List.{List, [], ◌∷◌, ◌++◌, map}
use mathlib.Core.Logic.{◌↔◌, ◌⊎◌, inl, inr}
use mathlib.Core.Path.{◌≡◌, refl, sym, ap, ◌∙◌, subst}
use native.Mathlib.Omega.{arith}
use lib.IntN.{ℤ, pos, negsuc, ◌+ℤ◌, ◌-ℤ◌, suc_ℤ, +ℤ_one, +ℤ_assoc, +ℤ_comm, +ℤ-neg_ℤ_cancel, -ℤ-+ℤ_cancel}
use lib.Signed.{le_z, ◌≤ℤ◌, le_z_yes}
use lib.Dec.{T, eqb, ltb, leb→le, le→leb, ltb→lt, nltb→le, T_not, not_T}
use lib.ListN.{get_or, length}
use Rattle.rules.specs.Types.{Number, Ty, POW, ◌⊗◌}
use Rattle.rules.specs.Values.{num, element, Value, scalar, pair, set, int, truth_value, payload, same, before}
use Rattle.rules.specs.Kinds.{Test, equal, member, subset, at_most}
use Rattle.rules.specs.Kinds.{Leaf, identifier, given_set, element_of, literal, truth_const, empty_set, bool_set}
use Rattle.rules.specs.Kinds.{One, singleton, power, dom, ran, card, choice}
use Rattle.rules.specs.Kinds.{Two, pairing, union, inter, diff, product, apply, plus, minus, interval}
use Rattle.rules.specs.Rules.{one_rule, two_rule}
use Rattle.rules.specs.Fits.{HasType, Fits}
use Rattle.rules.specs.Cells.{signed, in_range}
use Rattle.rules.specs.Runs.{Given, gives, lacks}
use Rattle.rules.specs.Operations.{left, right, elems, set_of, rising, is_in, keep, pairs_of, subsets, up_from, to_count}
use Rattle.rules.specs.Operations.{Env, elements_from, leaf_value, holds, least, paired_with, is_function, only_one, applied, ranged, one_value, two_value}
use Rattle.rules.proofs.Basics.{absurd01}
use Rattle.laws.proofs.OrderLaws.{Small, same_eq, same_refl, before_trans, before_irrefl, small_well_formed}
use Rattle.laws.proofs.SetTypes.{AllHave, elems_have}
use Rattle.laws.proofs.SetOrder.{All, Before, Rising, all_map, all_append, rising_rising, keep_rising}
use Rattle.laws.proofs.SetOrder.{pairs_rising, up_rising, elements_rising, subsets_all, Well, elems_well}
use Rattle.laws.proofs.Membership.{In, all_in_law, in_all, in_append, in_left, in_right, in_map, map_in, in_rising, rising_in, same_members}
use Rattle.laws.proofs.Membership.{left_small, right_small, elems_small, small_sets, values_members, members_values}
use Rattle.laws.proofs.Membership.{is_in_right, all_in_right, keep_in, pairs_in, subsets_in, up_in, elements_in}
use Rattle.laws.proofs.FunctionLaws.{function_right}

-- The terms of the meanings.

infix 30 ◌∈◌ ◌⊆◌
-- A value is a member of another: it is equal to one of its members.
abbrev pub ◌∈◌ : Value → Value → Type 0
x ∈ v = In x (elems v)

abbrev pub ◌⊆◌ : Value → Value → Type 0
v ⊆ w = (x : Value) → x ∈ v → x ∈ w

-- A set: its members rise, so that none stands twice. The members alone decide which it is (`set_extensional`).
abbrev pub SetValue : Value → Type 0
SetValue v = (vs : List Value) × (v ≡ set_of vs) × Rising vs

-- The set of the values with P.
abbrev pub IsSetOf : (Value → Type 0) → Value → Type 0
IsSetOf P r = SetValue r × ((x : Value) → x ∈ r ↔ P x)

-- No value stands twice in a list.
abbrev pub Distinct : List Value → Type 0
Distinct [] = Unit {0}
Distinct (x ∷ xs) = (In x xs → ⊥) × Distinct xs

-- A set has n members: a list of n values, none of them twice, has the same members. There is one such n (`count_only`).
abbrev pub HasCount : Value → ℕ → Type 0
HasCount v n = (xs : List Value) × Distinct xs × ((x : Value) → In x xs ↔ x ∈ v) × (length xs ≡ n)

-- A value with Q is given, never a refusal.
abbrev pub Always : (Value → Type 0) → Given → Type 0
Always Q (gives r) = Q r
Always Q (lacks k) = ⊥

-- The value with P that precedes every other one is given, and 16 where there is none.
abbrev pub GivesLeast : (Value → Type 0) → Given → Type 0
GivesLeast P (gives u) = P u × ((x : Value) → P x → (x ≡ u) ⊎ Before u x)
GivesLeast P (lacks k) = (k ≡ 16) × ((x : Value) → P x → ⊥)

-- A function (document 02, N2): no two different pairs share a first part.
abbrev pub Functional : Value → Type 0
Functional f = (a b c : Value) → pair a b ∈ f → pair a c ∈ f → b ≡ c

-- The u with (e, u) in f is given where f is a function and has one, and 16 elsewhere.
abbrev pub GivesImage : Value → Value → Given → Type 0
GivesImage f e (gives u) = Functional f × (pair e u ∈ f)
GivesImage f e (lacks k) = (k ≡ 16) × (Functional f → (u : Value) → pair e u ∈ f → ⊥)

-- From −2,147,483,648 to 2,147,483,647.
abbrev pub WithinBounds : ℤ → Type 0
WithinBounds i = (negsuc 2147483647 ≤ℤ i) × (i ≤ℤ pos 2147483647)

-- The number i is given where it is within bounds, and 17 elsewhere.
abbrev pub GivesNumber : Number → ℤ → Given → Type 0
GivesNumber n i (gives r) = (r ≡ scalar (num n i)) × WithinBounds i
GivesNumber n i (lacks k) = (k ≡ 17) × (WithinBounds i → ⊥)

-- The meanings. The payload of a number is the number.

-- 6 to 9
abbrev pub TestMeans : Test → Value → Value → Type 0
TestMeans equal e f = e ≡ f
TestMeans member e s = e ∈ s
TestMeans subset s r = s ⊆ r
TestMeans (at_most n) e f = payload e ≤ℤ payload f

-- 27, 33, 35, 36, 38 and 43
abbrev pub OneMeans : One → Value → Given → Type 0
OneMeans singleton e = Always (IsSetOf (λ x. x ≡ e))
OneMeans power v = Always (IsSetOf (λ s. SetValue s × s ⊆ v))
OneMeans dom v = Always (IsSetOf (λ a. (b : Value) × (pair a b ∈ v)))
OneMeans ran v = Always (IsSetOf (λ b. (a : Value) × (pair a b ∈ v)))
OneMeans card v = Always (λ r. (n : ℕ) × (r ≡ int (pos n)) × HasCount v n)
OneMeans choice v = GivesLeast (λ x. x ∈ v)

-- 28 to 32, 37 and 39 to 41
abbrev pub TwoMeans : Two → Value → Value → Given → Type 0
TwoMeans pairing e f = Always (λ r. r ≡ pair e f)
TwoMeans union v w = Always (IsSetOf (λ x. (x ∈ v) ⊎ (x ∈ w)))
TwoMeans inter v w = Always (IsSetOf (λ x. (x ∈ v) × (x ∈ w)))
TwoMeans diff v w = Always (IsSetOf (λ x. (x ∈ v) × (x ∈ w → ⊥)))
TwoMeans product v w = Always (IsSetOf (λ x. (a : Value) × (b : Value) × (x ≡ pair a b) × (a ∈ v) × (b ∈ w)))
TwoMeans apply f e = GivesImage f e
TwoMeans (plus n) e f = GivesNumber n (payload e +ℤ payload f)
TwoMeans (minus n) e f = GivesNumber n (payload e -ℤ payload f)
TwoMeans interval e f = Always (IsSetOf (λ x. (i : ℤ) × (x ≡ int i) × (payload e ≤ℤ i) × (i ≤ℤ payload f)))

-- 20 to 24, 26 and 42, for given sets of these sizes
abbrev pub LeafMeans : List ℕ → Leaf → ℕ → ℕ → Env → Value → Type 0
LeafMeans sizes identifier a b ρ = λ r. r ≡ ρ a
LeafMeans sizes given_set a b ρ = IsSetOf (λ x. (k : ℕ) × (x ≡ scalar (element a k)) × (k < get_or sizes a 0))
LeafMeans sizes element_of a b ρ = λ r. r ≡ scalar (element a b)
LeafMeans sizes (literal n) a b ρ = λ r. r ≡ scalar (num n (signed a))
LeafMeans sizes truth_const a b ρ = λ r. r ≡ truth_value (eqb a 1)
LeafMeans sizes empty_set a b ρ = IsSetOf (λ x. ⊥)
LeafMeans sizes bool_set a b ρ = IsSetOf (λ x. (q : Bool) × (x ≡ truth_value q))

-- Sets and their members.

pub set_of_law : (P : Value → Type 0) (xs : List Value) → Rising xs → ((x : Value) → In x xs ↔ P x) → IsSetOf P (set_of xs)
set_of_law P xs h f = ((xs, refl, h), subst (λ (ys : List Value). (x : Value) → In x ys ↔ P x) (sym (members_values xs)) f)

-- A well formed value of type POW(t) is a set.
pub well_set : (gs : List ℕ) (v : Value) (t : Ty) → Well gs v → HasType v (POW t) → SetValue v
well_set gs (scalar s) t h k = absurd01 (cc)
well_set gs (pair v w) t h k = absurd k
well_set gs (set s) t h k = (elems (set s), ap set (sym (values_members s)), (elems_well gs (set s) h).1)

elems_of : (v : Value) (vs : List Value) → v ≡ set_of vs → elems v ≡ vs
elems_of v vs e = ap elems e ∙ members_values vs

included : (v w : Value) (vs ws : List Value) → elems v ≡ vs → elems w ≡ ws → v ⊆ w → All (λ x. In x ws) vs
included v w vs ws e f s =
    in_all (λ x. In x ws) vs (λ x i. subst (λ (l : List Value). In x l) f (s x (subst (λ (l : List Value). In x l) (sym e) i)))

-- Two sets with the same members are equal.
pub set_extensional : (v w : Value) → SetValue v → SetValue w → ((x : Value) → x ∈ v ↔ x ∈ w) → v ≡ w
set_extensional v w p q s =
    let e = elems_of v p.0 p.1 in
    let f = elems_of w q.0 q.1 in
    let i = included v w p.0 q.0 e f (λ x. (s x).0) in
    let j = included w v q.0 p.0 f e (λ x. (s x).1) in
    p.1 ∙ ap set_of (same_members p.0 q.0 p.2 q.2 i j) ∙ sym q.1

pub set_of_only : (P : Value → Type 0) (v w : Value) → IsSetOf P v → IsSetOf P w → v ≡ w
set_of_only P v w h k = set_extensional v w h.0 k.0 (λ x. (λ i. (k.1 x).1 ((h.1 x).0 i), λ i. (h.1 x).1 ((k.1 x).0 i)))

-- 27: a list of one value
one_in : (v x : Value) → In x (v ∷ []) ↔ (x ≡ v)
one_in v x = (λ i. go i, λ e. inl e)
  where
    go : (x ≡ v) ⊎ ⊥ → x ≡ v
    go (inl e) = e
    go (inr i) = absurd i

-- 38: no member stands twice, so that the length of the list of members counts them.

rising_distinct : (vs : List Value) → Rising vs → Distinct vs
rising_distinct [] h = tt
rising_distinct (v ∷ vs) h = (λ i. before_irrefl v (all_in_law (Before v) v vs h.0 i), rising_distinct vs h.1)

-- a list without one of its members
take_out : (x : Value) (ys : List Value) → In x ys →
    (zs : List Value) × (length ys ≡ suc (length zs)) × ((z : Value) → In z ys → (z ≡ x) ⊎ In z zs)
take_out x [] i = absurd i
take_out x (y ∷ ys) (inl e) = (ys, refl, λ z j. go z j)
  where
    go : (z : Value) → (z ≡ y) ⊎ In z ys → (z ≡ x) ⊎ In z ys
    go z (inl f) = inl (f ∙ sym e)
    go z (inr j) = inr j
take_out x (y ∷ ys) (inr i) = let r = take_out x ys i in (y ∷ r.0, ap suc r.1, λ z j. go r.0 r.2 z j)
  where
    go : (zs : List Value) → ((z : Value) → In z ys → (z ≡ x) ⊎ In z zs) → (z : Value) → (z ≡ y) ⊎ In z ys → (z ≡ x) ⊎ ((z ≡ y) ⊎ In z zs)
    go zs f z (inl e) = inr (inl e)
    go zs f z (inr j) = more (f z j)
      where
        more : (z ≡ x) ⊎ In z zs → (z ≡ x) ⊎ ((z ≡ y) ⊎ In z zs)
        more (inl e) = inl e
        more (inr k) = inr (inr k)

distinct_length : (xs ys : List Value) → Distinct xs → ((x : Value) → In x xs → In x ys) → length xs ≤ length ys
distinct_length [] ys h f = omega arith
distinct_length (x ∷ xs) ys h f =
    let t = take_out x ys (f x (inl refl)) in
    omega (arith, t.1, distinct_length xs t.0 h.1 (λ z i. go t.0 z i (t.2 z (f z (inr i)))))
  where
    go : (zs : List Value) (z : Value) → In z xs → (z ≡ x) ⊎ In z zs → In z zs
    go zs z i (inl e) = absurd (h.0 (subst (λ (y : Value). In y xs) e i))
    go zs z i (inr j) = j

-- A set has one number of members.
pub count_only : (v : Value) (n m : ℕ) → HasCount v n → HasCount v m → n ≡ m
count_only v n m h k =
    let a = distinct_length h.0 k.0 h.1 (λ x i. (k.2 x).1 ((h.2 x).0 i)) in
    let b = distinct_length k.0 h.0 k.1 (λ x i. (h.2 x).1 ((k.2 x).0 i)) in
    omega (arith, a, b, h.3, k.3)

-- 41: i ≤ j exactly where j is i plus a natural number (`le_plus`, `le_distance`).

pub le_plus : (i : ℤ) (m : ℕ) → i ≤ℤ (i +ℤ pos m)
le_plus (pos a) m = le_z_yes (le→leb a (a + m) (omega arith))
le_plus (negsuc a) m = le_z_yes (go (ltb m (suc a)))
  where
    go : (b : Bool) → T (le_z (negsuc a) (cond b (negsuc (suc a - suc m)) (pos (m - suc a))))
    go true = le→leb (suc a - suc m) a (omega arith)
    go false = tt

pub le_distance : (i j : ℤ) → i ≤ℤ j → (m : ℕ) × (j ≡ i +ℤ pos m)
le_distance (pos a) (pos b) h = (b - a, ap pos (omega (arith, leb→le a b h.le)))
le_distance (pos a) (negsuc b) h = absurd h.le
le_distance (negsuc a) (pos b) h = (b + suc a, go (ltb (b + suc a) (suc a)) refl)
  where
    go : (c : Bool) → ltb (b + suc a) (suc a) ≡ c → pos b ≡ cond c (negsuc (suc a - suc (b + suc a))) (pos (b + suc a - suc a))
    go true e = absurd (omega (arith, ltb→lt (b + suc a) (suc a) (rw e tt)))
    go false e = ap pos (omega arith)
le_distance (negsuc a) (negsuc b) h = (a - b, go (ltb (a - b) (suc a)) refl)
  where
    go : (c : Bool) → ltb (a - b) (suc a) ≡ c → negsuc b ≡ cond c (negsuc (suc a - suc (a - b))) (pos (a - b - suc a))
    go true e = ap negsuc (omega (arith, leb→le b a h.le))
    go false e = absurd (omega (arith, nltb→le (a - b) (suc a) (rw e tt)))

-- where i + m does not exceed d + i, d is m plus a natural number
distance : (d i : ℤ) (m : ℕ) → (i +ℤ pos m) ≤ℤ (d +ℤ i) → (k : ℕ) × (d ≡ pos (m + k))
distance d i m h =
    let q = le_distance (i +ℤ pos m) (d +ℤ i) h in
    let e = q.1 ∙ +ℤ_assoc i (pos m) (pos q.0) ∙ +ℤ_comm i (pos (m + q.0)) in
    (q.0, sym (+ℤ-neg_ℤ_cancel d i) ∙ ap (λ z. z -ℤ i) e ∙ +ℤ-neg_ℤ_cancel (pos (m + q.0)) i)

-- which of the numbers from i on do not exceed d + i
count_right : (d i : ℤ) (m : ℕ) → (m < to_count (suc_ℤ d)) ↔ ((i +ℤ pos m) ≤ℤ (d +ℤ i))
count_right (pos c) i m = (λ l. there l, λ h. let q = distance (pos c) i m h in let e : c ≡ m + q.0 = cc in omega arith)
  where
    there : m < suc c → (i +ℤ pos m) ≤ℤ (pos c +ℤ i)
    there l =
        let e : m + (c - m) ≡ c = omega arith in
        subst (λ (z : ℤ). (i +ℤ pos m) ≤ℤ z) (+ℤ_assoc i (pos m) (pos (c - m)) ∙ ap (λ z. i +ℤ pos z) e ∙ +ℤ_comm i (pos c)) (le_plus (i +ℤ pos m) (c - m))
count_right (negsuc zero) i m = (λ l. absurd (omega arith), λ h. let q = distance (negsuc zero) i m h in absurd01 (cc))
count_right (negsuc (suc c)) i m = (λ l. absurd (omega arith), λ h. let q = distance (negsuc (suc c)) i m h in absurd01 (cc))

interval_in : (i j : ℤ) (x : Value) →
    In x (up_from i (to_count (j -ℤ i +ℤ pos 1))) ↔ ((k : ℤ) × (x ≡ int k) × (i ≤ℤ k) × (k ≤ℤ j))
interval_in i j x =
    let n = to_count (j -ℤ i +ℤ pos 1) in
    (λ h. there ((up_in x i n).0 h), λ h. back h.0 h.1 h.2 h.3)
  where
    fits_in : (m : ℕ) → (m < to_count (j -ℤ i +ℤ pos 1)) ↔ ((i +ℤ pos m) ≤ℤ j)
    fits_in m =
        let r = count_right (j -ℤ i) i m in
        let s = rw (-ℤ-+ℤ_cancel j i) at r in
        rw (+ℤ_one (j -ℤ i)) s

    there : (m : ℕ) × (x ≡ int (i +ℤ pos m)) × (m < to_count (j -ℤ i +ℤ pos 1)) → (k : ℤ) × (x ≡ int k) × (i ≤ℤ k) × (k ≤ℤ j)
    there h = (i +ℤ pos h.0, h.1, le_plus i h.0, (fits_in h.0).0 h.2)

    back : (k : ℤ) → x ≡ int k → i ≤ℤ k → k ≤ℤ j → In x (up_from i (to_count (j -ℤ i +ℤ pos 1)))
    back k e a b =
        let q = le_distance i k a in
        (up_in x i (to_count (j -ℤ i +ℤ pos 1))).1 (q.0, e ∙ ap int q.1, (fits_in q.0).1 (subst (λ (z : ℤ). z ≤ℤ j) q.1 b))

-- 43: the least member of a rising list is its first.

least_gives : (xs : List Value) → Rising xs → GivesLeast (λ x. In x xs) (least xs)
least_gives [] h = (refl, λ x i. i)
least_gives (v ∷ vs) h = (inl refl, λ x i. go x i)
  where
    go : (x : Value) → (x ≡ v) ⊎ In x vs → (x ≡ v) ⊎ Before v x
    go x (inl e) = inl e
    go x (inr i) = inr (all_in_law (Before v) x vs h.0 i)

-- 39 and 40: the bounds are those of 32 bits.
bounds_right : (i : ℤ) → T (in_range i) ↔ WithinBounds i
bounds_right (pos a) = (λ t. (le_z_yes tt, le_z_yes t), λ h. h.1.le)
bounds_right (negsuc a) = (λ t. (le_z_yes t, le_z_yes tt), λ h. h.0.le)

ranged_means : (n : Number) (i : ℤ) → GivesNumber n i (ranged n i)
ranged_means n i = go (in_range i) refl
  where
    go : (b : Bool) → in_range i ≡ b → GivesNumber n i (cond b (gives (scalar (num n i))) (lacks 17))
    go true e = (refl, (bounds_right i).0 (rw e tt))
    go false e = (refl, λ h. subst T e ((bounds_right i).1 h))

-- Sets of pairs: a value of type t × u is the pair of its parts.
pair_of_parts : (t u : Ty) (x : Value) → HasType x (t ⊗ u) → x ≡ pair (left x) (right x)
pair_of_parts t u (scalar s) h = absurd01 (cc)
pair_of_parts t u (pair a b) h = refl
pair_of_parts t u (set s) h = absurd h

all_parts : (xs : List Value) (t u : Ty) → AllHave xs (t ⊗ u) → All (λ x. x ≡ pair (left x) (right x)) xs
all_parts [] t u h = tt
all_parts (x ∷ xs) t u h = (pair_of_parts t u x h.0, all_parts xs t u h.1)

-- 35 and 36, for either part: f gives this part, g the other, and `both` makes the pair.
module _ (f g : Value → Value) (both : Value → Value → Value) where
  part_in : ((a b : Value) → f (both a b) ≡ a) → (a : Value) (xs : List Value) → All (λ x. x ≡ both (f x) (g x)) xs →
      In a (map f xs) ↔ ((b : Value) × In (both a b) xs)
  part_in p a xs h = (
    λ i. let m = map_in f a xs i in
        let e = all_in_law (λ x. x ≡ both (f x) (g x)) m.0 xs h m.2 ∙ ap (λ y. both y (g m.0)) (sym m.1) in
        (g m.0, subst (λ (x : Value). In x xs) e m.2),
    λ k. subst (λ (x : Value). In x (map f xs)) (p a k.0) (in_map f (both a k.0) xs k.1),
  )

  part_means : ((a b : Value) → f (both a b) ≡ a) → ((x : Value) → Small x → Small (f x)) → (v : Value) → Small v →
      All (λ x. x ≡ both (f x) (g x)) (elems v) → IsSetOf (λ a. (b : Value) × (both a b ∈ v)) (set_of (rising (map f (elems v))))
  part_means p s v h k =
      let xs = map f (elems v) in
      set_of_law (λ a. (b : Value) × (both a b ∈ v)) (rising xs) (rising_rising xs) λ a.
      let q = part_in p a (elems v) k in
      (λ i. q.0 (rising_in a xs i), λ i. in_rising a xs (all_map Small Small f s (elems v) (elems_small v h)) (q.1 i))

module _ (gs : List ℕ) (few : (g : ℕ) → get_or gs g 0 ≤ 256) where
  small : (v : Value) → Well gs v → Small v
  small v h = small_well_formed gs few v h

  smalls : (v : Value) → Well gs v → All Small (elems v)
  smalls v h = elems_small v (small v h)

  -- 6 to 9
  pub test_means : (j : Test) (v w : Value) → Well gs v → Well gs w → T (holds j v w) ↔ TestMeans j v w
  unfolding holds
  test_means equal v w h k = (λ t. same_eq v w (small v h) (small w k) t, λ e. subst (λ (z : Value). T (same v z)) e (same_refl v))
  test_means member v w h k = is_in_right v (elems w) (small v h) (smalls w k)
  test_means subset v w h k =
      let r = all_in_right (elems v) (elems w) (smalls v h) (smalls w k) in
      (λ t x i. all_in_law (λ y. y ∈ w) x (elems v) (r.0 t) i, λ s. r.1 (in_all (λ y. y ∈ w) (elems v) s))
  test_means (at_most n) v w h k = (λ t. le_z_yes t, λ l. l.le)

  -- 6, for sets: they are equal where they have the same members.
  pub equal_sets : (v w : Value) (t u : Ty) → Well gs v → Well gs w → HasType v (POW t) → HasType w (POW u) →
      T (holds equal v w) ↔ ((x : Value) → x ∈ v ↔ x ∈ w)
  equal_sets v w t u h k a b =
      let m = test_means equal v w h k in (
        λ q x. subst (λ (z : Value). x ∈ v ↔ x ∈ z) (m.0 q) (λ i. i, λ i. i),
        λ q. m.1 (set_extensional v w (well_set gs v t h a) (well_set gs w u k b) q),
      )

  -- 33: the sublists of the members are the rising lists of members.
  power_in : (v : Value) → Well gs v → (s : Value) → In s (rising (map set_of (subsets (elems v)))) ↔ (SetValue s × s ⊆ v)
  power_in v h s = (λ i. there (map_in set_of s ss (rising_in s (map set_of ss) i)), λ k. back k.0 k.1)
    where
      ss : List (List Value)
      ss = subsets (elems v)

      there : (t : List Value) × (s ≡ set_of t) × In t (subsets (elems v)) → SetValue s × s ⊆ v
      there k =
          let q = (subsets_in k.0 (elems v) (elems_well gs v h).1).0 k.2 in
          let e = elems_of s k.0 k.1 in
          ((k.0, k.1, q.0), λ x i. all_in_law (λ y. y ∈ v) x k.0 q.1 (subst (λ (l : List Value). In x l) e i))

      back : SetValue s → s ⊆ v → In s (rising (map set_of (subsets (elems v))))
      back p q =
          let k = (subsets_in p.0 (elems v) (elems_well gs v h).1).1 (p.2, included s v p.0 (elems v) (elems_of s p.0 p.1) refl q) in
          let i = in_map set_of p.0 (subsets (elems v)) k in
          in_rising s (map set_of (subsets (elems v))) (small_sets (subsets (elems v)) (subsets_all Small (elems v) (smalls v h)))
          (subst (λ (z : Value). In z (map set_of (subsets (elems v)))) (sym p.1) i)

  -- 27, 33, 35, 36, 38 and 43
  pub one_means : (j : One) (v : Value) → Well gs v → Fits (one_rule j).takes (v ∷ []) → OneMeans j v (one_value j v)
  unfolding one_value
  one_means singleton v h f = set_of_law (λ x. x ≡ v) (v ∷ []) (tt, tt) (one_in v)
  one_means power v h f =
      let ss = map set_of (subsets (elems v)) in set_of_law (λ s. SetValue s × s ⊆ v) (rising ss) (rising_rising ss) (power_in v h)
  one_means dom v h f =
      part_means left right pair (λ a b. refl) left_small v (small v h)
      (all_parts (elems v) f.0 f.1 (elems_have v (f.0 ⊗ f.1) f.2.0))
  one_means ran v h f =
      part_means right left (λ b a. pair a b) (λ a b. refl) right_small v (small v h)
      (all_parts (elems v) f.0 f.1 (elems_have v (f.0 ⊗ f.1) f.2.0))
  one_means card v h f =
      (length (elems v), refl, (elems v, rising_distinct (elems v) (elems_well gs v h).1, λ x. (λ i. i, λ i. i), refl))
  one_means choice v h f = least_gives (elems v) (elems_well gs v h).1

  -- 30 and 31: the members of v for which the test p, that is Q, passes.
  keep_means : (p : Value → Bool) (Q : Value → Type 0) (v : Value) → Well gs v → ((x : Value) → Small x → T (p x) ↔ Q x) →
      IsSetOf (λ x. (x ∈ v) × Q x) (set_of (keep p (elems v)))
  keep_means p Q v h q =
      set_of_law (λ x. (x ∈ v) × Q x) (keep p (elems v)) (keep_rising p (elems v) (elems_well gs v h).1) λ x.
      let r = keep_in p x (elems v) in (
        λ i. let k = r.0 i in (k.0, (q x (all_in_law Small x (elems v) (smalls v h) k.0)).0 k.1),
        λ k. r.1 (k.0, (q x (all_in_law Small x (elems v) (smalls v h) k.0)).1 k.1),
      )

  -- 37, where all members of f are pairs.
  module _ (f : Value) (hf : Well gs f) (ps : All (λ x. x ≡ pair (left x) (right x)) (elems f)) where
    pair_is : (x : Value) → x ∈ f → x ≡ pair (left x) (right x)
    pair_is x i = all_in_law (λ y. y ≡ pair (left y) (right y)) x (elems f) ps i

    pub functional_right : T (is_function f) ↔ Functional f
    functional_right =
        let r = function_right f (smalls f hf) in (
          λ t a b c i j. ap right (r.0 t (pair a b) (pair a c) i j refl),
          λ g. r.1 (λ x y i j e. one g x y i j e),
        )
      where
        one : Functional f → (x y : Value) → x ∈ f → y ∈ f → left x ≡ left y → x ≡ y
        one g x y i j e =
            let p = pair_is x i in
            let q = pair_is y j ∙ ap (λ z. pair z (right y)) (sym e) in
            let r = g (left x) (right x) (right y) (subst (λ (z : Value). z ∈ f) p i) (subst (λ (z : Value). z ∈ f) q j) in
            p ∙ ap (pair (left x)) r ∙ sym q

    module _ (e : Value) (he : Well gs e) where
      -- The members kept are the pairs with the first part e.
      kept_pair : (x : Value) → In x (keep (paired_with e) (elems f)) → (x ∈ f) × (x ≡ pair e (right x))
      unfolding paired_with
      kept_pair x i =
          let k = (keep_in (paired_with e) x (elems f)).0 i in
          let s = all_in_law Small x (elems f) (smalls f hf) k.0 in
          let l : left x ≡ e = same_eq (left x) e (left_small x s) (small e he) k.1 in
          (k.0, pair_is x k.0 ∙ ap (λ y. pair y (right x)) l)

      pair_kept : (u : Value) → pair e u ∈ f → In (pair e u) (keep (paired_with e) (elems f))
      unfolding paired_with
      pair_kept u i = (keep_in (paired_with e) (pair e u) (elems f)).1 (i, same_refl e)

      -- Of a function at most one is kept.
      only_means : (xs : List Value) → Rising xs → ((x : Value) → In x xs → (x ∈ f) × (x ≡ pair e (right x))) →
          ((u : Value) → pair e u ∈ f → In (pair e u) xs) → Functional f → GivesImage f e (only_one (map right xs))
      only_means [] r k i g = (refl, λ _ u j. i u j)
      only_means (x ∷ []) r k i g = let m = k x (inl refl) in (g, subst (λ (z : Value). z ∈ f) m.1 m.0)
      only_means (x ∷ y ∷ ys) r k i g =
          let m = k x (inl refl) in
          let n = k y (inr (inl refl)) in
          let q = g e (right x) (right y) (subst (λ (z : Value). z ∈ f) m.1 m.0) (subst (λ (z : Value). z ∈ f) n.1 n.0) in
          absurd (before_irrefl x (subst (Before x) (n.1 ∙ ap (pair e) (sym q) ∙ sym m.1) r.0.0))

      apply_means : GivesImage f e (applied f e)
      unfolding applied
      apply_means = go (is_function f) refl
        where
          go : (b : Bool) → is_function f ≡ b → GivesImage f e (cond b (only_one (map right (keep (paired_with e) (elems f)))) (lacks 16))
          go true q =
              only_means (keep (paired_with e) (elems f)) (keep_rising (paired_with e) (elems f) (elems_well gs f hf).1) kept_pair pair_kept
              (functional_right.0 (rw q tt))
          go false q = (refl, λ g u i. subst T q (functional_right.1 g))

  -- 28 to 32, 37 and 39 to 41
  pub two_means : (j : Two) (v w : Value) → Well gs v → Well gs w → Fits (two_rule j).takes (v ∷ w ∷ []) → TwoMeans j v w (two_value j v w)
  unfolding two_value
  two_means pairing v w h k f = refl
  two_means union v w h k f =
      let xs = elems v ++ elems w in
      set_of_law (λ x. (x ∈ v) ⊎ (x ∈ w)) (rising xs) (rising_rising xs) λ x. (
        λ i. in_append x (elems v) (elems w) (rising_in x xs i),
        λ i. in_rising x xs (all_append Small (elems v) (elems w) (smalls v h) (smalls w k)) (go x i),
      )
    where
      go : (x : Value) → (x ∈ v) ⊎ (x ∈ w) → In x (elems v ++ elems w)
      go x (inl i) = in_left x (elems v) (elems w) i
      go x (inr i) = in_right x (elems v) (elems w) i
  two_means inter v w h k f =
      keep_means (λ x. is_in x (elems w)) (λ x. x ∈ w) v h (λ x s. is_in_right x (elems w) s (smalls w k))
  two_means diff v w h k f =
      keep_means (λ x. not (is_in x (elems w))) (λ x. x ∈ w → ⊥) v h λ x s.
      let r = is_in_right x (elems w) s (smalls w k) in
      (λ t i. T_not (is_in x (elems w)) t (r.1 i), λ n. not_T (is_in x (elems w)) (λ t. n (r.0 t)))
  two_means product v w h k f =
      set_of_law (λ x. (a : Value) × (b : Value) × (x ≡ pair a b) × (a ∈ v) × (b ∈ w)) (pairs_of (elems v) (elems w))
      (pairs_rising (elems v) (elems w) (elems_well gs v h).1 (elems_well gs w k).1) (λ x. pairs_in x (elems v) (elems w))
  two_means apply v w h k f =
      apply_means v h (all_parts (elems v) f.0 f.1 (elems_have v (f.0 ⊗ f.1) f.2.0)) w k
  two_means (plus n) v w h k f = ranged_means n (payload v +ℤ payload w)
  two_means (minus n) v w h k f = ranged_means n (payload v -ℤ payload w)
  two_means interval v w h k f =
      let n = to_count (payload w -ℤ payload v +ℤ pos 1) in
      set_of_law (λ x. (i : ℤ) × (x ≡ int i) × (payload v ≤ℤ i) × (i ≤ℤ payload w)) (up_from (payload v) n) (up_rising (payload v) n)
      (interval_in (payload v) (payload w))

-- 20 to 24, 26 and 42
pub leaf_means : (sizes : List ℕ) (j : Leaf) (a b : ℕ) (ρ : Env) → LeafMeans sizes j a b ρ (leaf_value sizes j a b ρ)
unfolding leaf_value before
leaf_means sizes identifier a b ρ = refl
leaf_means sizes given_set a b ρ =
    let n = get_or sizes a 0 in
    set_of_law (λ x. (k : ℕ) × (x ≡ scalar (element a k)) × (k < n)) (elements_from a 0 n) (elements_rising a 0 n) λ x.
    let r = elements_in x a 0 n in
    (λ i. let m = r.0 i in (m.0, m.1, omega (arith, m.3)), λ m. r.1 (m.0, m.1, omega arith, omega (arith, m.2)))
leaf_means sizes element_of a b ρ = refl
leaf_means sizes (literal n) a b ρ = refl
leaf_means sizes truth_const a b ρ = refl
leaf_means sizes empty_set a b ρ = (([], refl, tt), λ x. (λ i. i, λ i. i))
leaf_means sizes bool_set a b ρ =
    set_of_law (λ x. (q : Bool) × (x ≡ truth_value q)) (truth_value false ∷ truth_value true ∷ []) ((tt, tt), (tt, tt))
    (λ x. (λ i. there x i, λ h. back x h.0 h.1))
  where
    there : (x : Value) → (x ≡ truth_value false) ⊎ ((x ≡ truth_value true) ⊎ ⊥) → (q : Bool) × (x ≡ truth_value q)
    there x (inl e) = (false, e)
    there x (inr (inl e)) = (true, e)
    there x (inr (inr i)) = absurd i

    back : (x : Value) (q : Bool) → x ≡ truth_value q → (x ≡ truth_value false) ⊎ ((x ≡ truth_value true) ⊎ ⊥)
    back x false e = inl e
    back x true e = inr (inl e)

-- Nothing else has these meanings.

always_only : (Q : Value → Type 0) → ((r s : Value) → Q r → Q s → r ≡ s) → (g h : Given) → Always Q g → Always Q h → g ≡ h
always_only Q f (gives r) (gives s) p q = ap gives (f r s p q)
always_only Q f (gives r) (lacks k) p q = absurd q
always_only Q f (lacks k) h p q = absurd p

least_only : (P : Value → Type 0) (g h : Given) → GivesLeast P g → GivesLeast P h → g ≡ h
least_only P (gives r) (gives s) p q = ap gives (go (p.1 s q.0) (q.1 r p.0))
  where
    go : (s ≡ r) ⊎ Before r s → (r ≡ s) ⊎ Before s r → r ≡ s
    go (inl e) k = sym e
    go (inr i) (inl e) = e
    go (inr i) (inr j) = absurd (before_irrefl r (before_trans r s r i j))
least_only P (gives r) (lacks k) p q = absurd (q.1 r p.0)
least_only P (lacks k) (gives s) p q = absurd (p.1 s q.0)
least_only P (lacks k) (lacks m) p q = ap lacks (p.0 ∙ sym q.0)

image_only : (f e : Value) (g h : Given) → GivesImage f e g → GivesImage f e h → g ≡ h
image_only f e (gives u) (gives v) p q = ap gives (p.0 e u v p.1 q.1)
image_only f e (gives u) (lacks k) p q = absurd (q.1 p.0 u p.1)
image_only f e (lacks k) (gives v) p q = absurd (p.1 q.0 v q.1)
image_only f e (lacks k) (lacks m) p q = ap lacks (p.0 ∙ sym q.0)

number_only : (n : Number) (i : ℤ) (g h : Given) → GivesNumber n i g → GivesNumber n i h → g ≡ h
number_only n i (gives r) (gives s) p q = ap gives (p.0 ∙ sym q.0)
number_only n i (gives r) (lacks k) p q = absurd (q.1 p.1)
number_only n i (lacks k) (gives s) p q = absurd (p.1 q.1)
number_only n i (lacks k) (lacks m) p q = ap lacks (p.0 ∙ sym q.0)

sets_only : (P : Value → Type 0) (g h : Given) → Always (IsSetOf P) g → Always (IsSetOf P) h → g ≡ h
sets_only P g h p q = always_only (IsSetOf P) (set_of_only P) g h p q

pub one_only : (j : One) (v : Value) (g h : Given) → OneMeans j v g → OneMeans j v h → g ≡ h
one_only singleton v g h p q = sets_only (λ x. x ≡ v) g h p q
one_only power v g h p q = sets_only (λ s. SetValue s × s ⊆ v) g h p q
one_only dom v g h p q = sets_only (λ a. (b : Value) × (pair a b ∈ v)) g h p q
one_only ran v g h p q = sets_only (λ b. (a : Value) × (pair a b ∈ v)) g h p q
one_only card v g h p q =
    always_only (λ r. (n : ℕ) × (r ≡ int (pos n)) × HasCount v n)
    (λ r s a b. a.1 ∙ ap (λ (n : ℕ). int (pos n)) (count_only v a.0 b.0 a.2 b.2) ∙ sym b.1) g h p q
one_only choice v g h p q = least_only (λ x. x ∈ v) g h p q

pub two_only : (j : Two) (v w : Value) (g h : Given) → TwoMeans j v w g → TwoMeans j v w h → g ≡ h
two_only pairing v w g h p q = always_only (λ r. r ≡ pair v w) (λ r s a b. a ∙ sym b) g h p q
two_only union v w g h p q = sets_only (λ x. (x ∈ v) ⊎ (x ∈ w)) g h p q
two_only inter v w g h p q = sets_only (λ x. (x ∈ v) × (x ∈ w)) g h p q
two_only diff v w g h p q = sets_only (λ x. (x ∈ v) × (x ∈ w → ⊥)) g h p q
two_only product v w g h p q = sets_only (λ x. (a : Value) × (b : Value) × (x ≡ pair a b) × (a ∈ v) × (b ∈ w)) g h p q
two_only apply v w g h p q = image_only v w g h p q
two_only (plus n) v w g h p q = number_only n (payload v +ℤ payload w) g h p q
two_only (minus n) v w g h p q = number_only n (payload v -ℤ payload w) g h p q
two_only interval v w g h p q = sets_only (λ x. (i : ℤ) × (x ≡ int i) × (payload v ≤ℤ i) × (i ≤ℤ payload w)) g h p q
