-- What the operations keep of the members' types, and that what each kind gives has the type that its rule says.
use Prim.Native.Nat.{ℕ, zero, suc, ◌≤◌}
use mathlib.Core.List.{List, [], ◌∷◌, ◌++◌, map}
use mathlib.Core.Bool.{Bool, true, false, not, cond}
use mathlib.Core.Path.{refl, sym, subst, ◌∙◌}
use native.Mathlib.Omega.{arith}
use lib.IntN.{ℤ, pos, ◌+ℤ◌, ◌-ℤ◌}
use lib.ListN.{get_or}
use Rattle.rules.specs.Types.{Number, number, Ty, atom, POW, ◌⊗◌, INTEGER, G}
use Rattle.rules.specs.Values.{num, Value, scalar, pair, set, Values, none, ◌▸◌, members, values, payload}
use Rattle.rules.specs.Kinds.{Leaf, identifier, given_set, element_of, literal, truth_const, empty_set, bool_set}
use Rattle.rules.specs.Kinds.{One, singleton, power, dom, ran, card, choice}
use Rattle.rules.specs.Kinds.{Two, pairing, union, inter, diff, product, apply, plus, minus, interval}
use Rattle.rules.specs.Rules.{leaf_rule, one_rule, two_rule, Says, Obeys}
use Rattle.rules.specs.Fits.{HasType, HaveType, FitAt}
use Rattle.rules.specs.Cells.{in_range}
use Rattle.rules.specs.Runs.{Given, gives, lacks}
use Rattle.rules.specs.Operations.{left, right, elems, set_of, rising, is_in, keep, pairs_of, subsets, up_from, to_count, elements_from}
use Rattle.rules.specs.Operations.{Env, leaf_value, least, applied, ranged, one_value, two_value}
use Rattle.laws.proofs.TypedTree.{Uses}
use Rattle.laws.proofs.SetOrder.{All, all_imp, all_map, all_append, rising_all_law, keep_all, pairs_all, subsets_all}
use Rattle.laws.proofs.SetOrder.{OrUndefined, least_from, applied_from}

-- All values of a list have a type.
abbrev pub AllHave : List Value → Ty → Type 0
AllHave vs t = All (λ v. HasType v t) vs

-- The members of a set of t's have t.
pub members_have : (s : Values) (t : Ty) → HaveType s t → AllHave (members s) t
members_have none t h = tt
members_have (v ▸ vs) t h = (h.0, members_have vs t h.1)

-- A list of t's makes a set of t's.
pub values_have : (vs : List Value) (t : Ty) → AllHave vs t → HaveType (values vs) t
values_have [] t h = tt
values_have (v ∷ vs) t h = (h.0, values_have vs t h.1)

-- The members of a value of type POW(t) have t.
pub elems_have : (v : Value) (t : Ty) → HasType v (POW t) → AllHave (elems v) t
elems_have (scalar s) t h = tt
elems_have (pair v w) t h = tt
elems_have (set s) t h = members_have s t h

-- The set of a list, put in order.
rising_has : (vs : List Value) (t : Ty) → AllHave vs t → HasType (set_of (rising vs)) (POW t)
rising_has vs t h = values_have (rising vs) t (rising_all_law (λ v. HasType v t) vs h)

-- The set of the members that pass a test.
keep_has : (p : Value → Bool) (v : Value) (t : Ty) → HasType v (POW t) → HasType (set_of (keep p (elems v))) (POW t)
keep_has p v t h = values_have (keep p (elems v)) t (keep_all (λ w. HasType w t) p (elems v) (elems_have v t h))

-- The set of the values of f at the members.
map_has : (f : Value → Value) (t u : Ty) → ((v : Value) → HasType v t → HasType (f v) u) →
    (v : Value) → HasType v (POW t) → HasType (set_of (rising (map f (elems v)))) (POW u)
map_has f t u hf v h = rising_has (map f (elems v)) u (all_map (λ w. HasType w t) (λ w. HasType w u) f hf (elems v) (elems_have v t h))

-- The left part of a value of type t × u.
left_has : (t u : Ty) (v : Value) → HasType v (t ⊗ u) → HasType (left v) t
left_has t u (scalar s) h = cc
left_has t u (pair v w) h = h.0
left_has t u (set s) h = absurd h

-- Its right part.
right_has : (t u : Ty) (v : Value) → HasType v (t ⊗ u) → HasType (right v) u
right_has t u (scalar s) h = cc
right_has t u (pair v w) h = h.1
right_has t u (set s) h = absurd h

-- The sets of the sublists.
subsets_have : (vs : List Value) (t : Ty) → AllHave vs t → AllHave (map set_of (subsets vs)) (POW t)
subsets_have vs t h =
    all_map (All (λ w. HasType w t)) (λ s. HasType s (POW t)) set_of (λ s k. values_have s t k) (subsets vs)
    (subsets_all (λ w. HasType w t) vs h)

-- Integers.
pub up_have : (i : ℤ) (n : ℕ) → AllHave (up_from i n) INTEGER
unfolding up_from
up_have i zero = tt
up_have i (suc n) = (refl, up_have (i +ℤ pos 1) n)

-- The elements of a given set.
pub elements_have : (g k n : ℕ) → AllHave (elements_from g k n) (G g)
unfolding elements_from
elements_have g k zero = tt
elements_have g k (suc n) = (refl, elements_have g (suc k) n)

-- What an operation gives has a type; otherwise it lacks one with refusal 16 or 17.
abbrev pub GivenHas : Given → Ty → Type 0
GivenHas (gives v) t = HasType v t
GivenHas (lacks r) t = (16 ≤ r) × (r ≤ 17)

-- What is taken from t's has t.
taken_has : (t : Ty) (g : Given) → OrUndefined (λ v. HasType v t) g → GivenHas g t
taken_has t (gives v) h = h
taken_has t (lacks r) h = (omega (arith, h), omega (arith, h))

-- A number within 32 bits has its number type.
pub ranged_has : (n : Number) (i : ℤ) → GivenHas (ranged n i) (atom (number n))
ranged_has n i = go (in_range i)
  where
    go : (b : Bool) → GivenHas (cond b (gives (scalar (num n i))) (lacks 17)) (atom (number n))
    go true = refl
    go false = (omega arith, omega arith)

-- What a kind with one operand gives has the type that its rule says, where the operand fits.
pub one_has : (j : One) (v : Value) (t u z : Ty) →
    FitAt (one_rule j).takes (v ∷ []) t u → Says (one_rule j).result z t u → GivenHas (one_value j v) z
unfolding one_value
one_has singleton v t u z h e = rw e (h.0, tt)
one_has power v t u z h e =
    rw e (rising_has (map set_of (subsets (elems v))) (POW t) (subsets_have (elems v) t (elems_have v t h.0)))
one_has dom v t u z h e = rw e (map_has left (t ⊗ u) t (left_has t u) v h.0)
one_has ran v t u z h e = rw e (map_has right (t ⊗ u) u (right_has t u) v h.0)
one_has card v t u z h e = e
one_has choice v t u z h e = rw e (taken_has t (least (elems v)) (least_from (λ w. HasType w t) (elems v) (elems_have v t h.0)))

-- So too with two operands.
pub two_has : (j : Two) (v w : Value) (t u z : Ty) →
    FitAt (two_rule j).takes (v ∷ w ∷ []) t u → Says (two_rule j).result z t u → GivenHas (two_value j v w) z
unfolding two_value
two_has pairing v w t u z h e = rw e (h.0, h.1.0)
two_has union v w t u z h e =
    rw e (rising_has (elems v ++ elems w) t
    (all_append (λ x. HasType x t) (elems v) (elems w) (elems_have v t h.0) (elems_have w t h.1.0)))
two_has inter v w t u z h e = rw e (keep_has (λ x. is_in x (elems w)) v t h.0)
two_has diff v w t u z h e = rw e (keep_has (λ x. not (is_in x (elems w))) v t h.0)
two_has product v w t u z h e =
    rw e (values_have (pairs_of (elems v) (elems w)) (t ⊗ u)
    (pairs_all (λ x. HasType x t) (λ x. HasType x u) (λ x. HasType x (t ⊗ u)) (λ x y p q. (p, q))
    (elems v) (elems w) (elems_have v t h.0) (elems_have w u h.1.0)))
two_has apply v w t u z h e =
    rw e (taken_has u (applied v w) (applied_from (λ x. HasType x u) v w
    (all_imp (λ x. HasType x (t ⊗ u)) (λ x. HasType (right x) u) (right_has t u) (elems v) (elems_have v (t ⊗ u) h.0))))
two_has (plus n) v w t u z h e = rw e (ranged_has n (payload v +ℤ payload w))
two_has (minus n) v w t u z h e = rw e (ranged_has n (payload v -ℤ payload w))
two_has interval v w t u z h e =
    let n = to_count (payload w -ℤ payload v +ℤ pos 1) in
    rw e (values_have (up_from (payload v) n) INTEGER (up_have (payload v) n))

-- So too of a leaf, where the identifier that it uses has a value of its type x.
pub leaf_has : (sizes : List ℕ) (j : Leaf) (a b : ℕ) (ρ : Env) (σ : ℕ → Type 0) (x z : Ty) →
    (σ a → HasType (ρ a) x) → Uses j σ a → Obeys (leaf_rule j a) x [] z → HasType (leaf_value sizes j a b ρ) z
unfolding leaf_value
leaf_has sizes identifier a b ρ σ x z hρ hs o = subst (λ (t : Ty). HasType (ρ a) t) (o.2 ∙ sym o.4) (hρ hs)
leaf_has sizes given_set a b ρ σ x z hρ hs o =
    rw o.4 (values_have (elements_from a 0 (get_or sizes a 0)) (G a) (elements_have a 0 (get_or sizes a 0)))
leaf_has sizes element_of a b ρ σ x z hρ hs o = o.4
leaf_has sizes (literal n) a b ρ σ x z hρ hs o = o.4
leaf_has sizes truth_const a b ρ σ x z hρ hs o = o.4
leaf_has sizes empty_set a b ρ σ x z hρ hs o = rw o.4 tt
leaf_has sizes bool_set a b ρ σ x z hρ hs o = rw o.4 (refl, (refl, tt))
