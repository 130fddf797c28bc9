-- Lists of values: what insert, rising, keep, pairs_of, subsets, up_from and elements_from keep of their members, that what
-- they give rises where their operands do, and that the value each kind gives for well formed operands is well formed:
-- its sets rise, its numbers are of 32 bits, its elements exist.
use Prim.Native.Nat.{ℕ, zero, suc, ◌+◌, ◌-◌, ◌≤◌, Ordering}
use mathlib.Core.List.{List, [], ◌∷◌, ◌++◌, map}
use mathlib.Core.Bool.{Bool, true, false, not, cond, ◌&&◌}
use mathlib.Core.Path.{◌≡◌, refl, ap, ◌∙◌}
use native.Mathlib.Omega.{arith}
use lib.IntN.{ℤ, pos, negsuc, ◌+ℤ◌, ◌-ℤ◌, suc_ℤ, +ℤ_one, -ℤ-+ℤ_cancel}
use lib.Dec.{T, ltb, leb→le, le→leb, ltb→lt, lt→ltb, nltb→le}
use lib.ListN.{get_or, length}
use Rattle.rules.specs.Types.{Number, whole, number, Ty, atom}
use Rattle.rules.specs.Kinds.{One, singleton, power, dom, ran, card, choice}
use Rattle.rules.specs.Kinds.{Two, pairing, union, inter, diff, product, apply, plus, minus, interval}
use Rattle.rules.specs.Rules.{two_rule}
use Rattle.rules.specs.Values.{num, truth, element, Value, scalar, pair, set, Values, none, ◌▸◌, int}
use Rattle.rules.specs.Values.{members, values, weight, weights, payload, order, before, compareℤ, ◌then◌}
use Rattle.rules.specs.Fits.{HasType, FitAt}
use Rattle.rules.specs.Cells.{signed, in_range, precedes, well_formed, rising_all}
use Rattle.rules.specs.Runs.{Given, gives, lacks}
use Rattle.rules.specs.Operations.{left, right, elems, set_of, placed, insert, rising, is_in, kept_value, keep, pairs_of, subsets}
use Rattle.rules.specs.Operations.{up_from, to_count, elements_from, least, paired_with, is_function, only_one, applied, ranged, one_value, two_value}
pub use Rattle.rules.specs.Safety.{All, Any}
use Rattle.laws.proofs.OrderLaws.{flip, lt_compare, order_refl, order_flip, order_pair, order_int, order_element}
use Rattle.laws.proofs.OrderLaws.{before_order, order_before, before_trans, and_left, and_right}
use Rattle.rules.proofs.Basics.{and_of, all_both}
use Rattle.laws.proofs.CellsLaws.{weight_some}

-- What follows from P holds where P does.
pub all_imp : {A : Type 0} (P Q : A → Type 0) → ((x : A) → P x → Q x) → (xs : List A) → All P xs → All Q xs
all_imp P Q f [] h = tt
all_imp P Q f (x ∷ xs) h = (f x h.0, all_imp P Q f xs h.1)

-- The images have Q where f takes P to Q.
pub all_map : {A B : Type 0} (P : A → Type 0) (Q : B → Type 0) (f : A → B) → ((x : A) → P x → Q (f x)) →
    (xs : List A) → All P xs → All Q (map f xs)
all_map P Q f g [] h = tt
all_map P Q f g (x ∷ xs) h = (g x h.0, all_map P Q f g xs h.1)

-- Two lists one behind the other.
pub all_append : {A : Type 0} (P : A → Type 0) (xs ys : List A) → All P xs → All P ys → All P (xs ++ ys)
all_append P [] ys h k = k
all_append P (x ∷ xs) ys h k = (h.0, all_append P xs ys h.1 k)

-- What stands at a place of the list, or the default behind it.
pub all_at : {A : Type 0} (P : A → Type 0) (xs : List A) (d : A) → All P xs → P d → (n : ℕ) → P (get_or xs n d)
all_at P [] d h k n = k
all_at P (x ∷ xs) d h k zero = h.0
all_at P (x ∷ xs) d h k (suc n) = all_at P xs d h.1 k n

-- One value precedes another.
abbrev pub Before : Value → Value → Type 0
Before v w = T (before v w)

-- Each value of a list precedes all that follow it.
abbrev pub Rising : List Value → Type 0
Rising [] = Unit {0}
Rising (v ∷ vs) = All (Before v) vs × Rising vs

-- It is enough that a value precedes the next.
pub rising_cons : (v w : Value) (ws : List Value) → Before v w → Rising (w ∷ ws) → Rising (v ∷ w ∷ ws)
rising_cons v w ws h r = ((h, all_imp (Before w) (Before v) (λ x k. before_trans v w x h k) ws r.0), r)

-- Two rising lists one behind the other rise where each of the first precedes each of the second.
pub append_rising : (vs ws : List Value) → Rising vs → Rising ws → All (λ v. All (Before v) ws) vs → Rising (vs ++ ws)
append_rising [] ws h k a = k
append_rising (v ∷ vs) ws h k a = (all_append (Before v) vs ws h.0 a.0, append_rising vs ws h.1 k a.1)

placed_all : (P : Value → Type 0) (o : Ordering) (v w : Value) (ws r : List Value) → P v → All P (w ∷ ws) → All P r →
    All P (placed o v w ws r)
placed_all P Ordering.lt v w ws r h k q = (h, k)
placed_all P Ordering.eq v w ws r h k q = k
placed_all P Ordering.gt v w ws r h k q = (k.0, q)

-- `insert` adds its value and keeps the list's.
pub insert_all : (P : Value → Type 0) (v : Value) (ws : List Value) → P v → All P ws → All P (insert v ws)
unfolding insert
insert_all P v [] h k = (h, tt)
insert_all P v (w ∷ ws) h k = placed_all P (order v w) v w ws (insert v ws) h k (insert_all P v ws h k.1)

-- `rising` keeps the list's values.
pub rising_all_law : (P : Value → Type 0) (vs : List Value) → All P vs → All P (rising vs)
unfolding rising
rising_all_law P [] h = tt
rising_all_law P (v ∷ vs) h = insert_all P v (rising vs) h.0 (rising_all_law P vs h.1)

placed_rising : (o : Ordering) (v w : Value) (ws : List Value) → order v w ≡ o → Rising (w ∷ ws) → Rising (insert v ws) →
    Rising (placed o v w ws (insert v ws))
placed_rising Ordering.lt v w ws e h k = rising_cons v w ws (order_before v w e) h
placed_rising Ordering.eq v w ws e h k = h
placed_rising Ordering.gt v w ws e h k =
    (insert_all (Before w) v ws (order_before w v (order_flip v w ∙ ap flip e)) h.0, k)

-- `insert` into a rising list gives one.
pub insert_rising : (v : Value) (ws : List Value) → Rising ws → Rising (insert v ws)
unfolding insert
insert_rising v [] h = (tt, tt)
insert_rising v (w ∷ ws) h = placed_rising (order v w) v w ws refl h (insert_rising v ws h.1)

-- Whatever a list is, `rising` of it rises.
pub rising_rising : (vs : List Value) → Rising (rising vs)
unfolding rising
rising_rising [] = tt
rising_rising (v ∷ vs) = insert_rising v (rising vs) (rising_rising vs)

pub kept_all : (P : Value → Type 0) (b : Bool) (v : Value) (r : List Value) → P v → All P r → All P (kept_value b v r)
kept_all P true v r h k = (h, k)
kept_all P false v r h k = k

-- `keep` keeps no other values than the list's.
pub keep_all : (P : Value → Type 0) (p : Value → Bool) (vs : List Value) → All P vs → All P (keep p vs)
unfolding keep
keep_all P p [] h = tt
keep_all P p (v ∷ vs) h = kept_all P (p v) v (keep p vs) h.0 (keep_all P p vs h.1)

pub kept_rising : (b : Bool) (v : Value) (r : List Value) → All (Before v) r → Rising r → Rising (kept_value b v r)
kept_rising true v r h k = (h, k)
kept_rising false v r h k = k

-- `keep` keeps the order.
pub keep_rising : (p : Value → Bool) (vs : List Value) → Rising vs → Rising (keep p vs)
unfolding keep
keep_rising p [] h = tt
keep_rising p (v ∷ vs) h = kept_rising (p v) v (keep p vs) (keep_all (Before v) p vs h.0) (keep_rising p vs h.1)

-- 43 and 37: what choice and application give is taken from a list, or it is 16.
abbrev pub OrUndefined : (Value → Type 0) → Given → Type 0
OrUndefined P (gives v) = P v
OrUndefined P (lacks k) = k ≡ 16

-- A member.
pub least_from : (P : Value → Type 0) (vs : List Value) → All P vs → OrUndefined P (least vs)
least_from P [] h = refl
least_from P (v ∷ vs) h = h.0

only_one_from : (P : Value → Type 0) (vs : List Value) → All P vs → OrUndefined P (only_one vs)
only_one_from P [] h = refl
only_one_from P (v ∷ []) h = h.0
only_one_from P (v ∷ w ∷ ws) h = refl

-- The right part of a member.
pub applied_from : (P : Value → Type 0) (f e : Value) → All (λ x. P (right x)) (elems f) → OrUndefined P (applied f e)
unfolding applied
applied_from P f e h = go (is_function f)
  where
    go : (b : Bool) → OrUndefined P (cond b (only_one (map right (keep (paired_with e) (elems f)))) (lacks 16))
    go true =
        let ks = keep (paired_with e) (elems f) in
        only_one_from P (map right ks)
        (all_map (λ x. P (right x)) P right (λ x k. k) ks (keep_all (λ x. P (right x)) (paired_with e) (elems f) h))
    go false = refl

-- The pairs have R where their parts have P and Q.
pub pairs_all : (P Q R : Value → Type 0) → ((v w : Value) → P v → Q w → R (pair v w)) →
    (vs ws : List Value) → All P vs → All Q ws → All R (pairs_of vs ws)
unfolding pairs_of
pairs_all P Q R f [] ws h k = tt
pairs_all P Q R f (v ∷ vs) ws h k =
    all_append R (map (pair v) ws) (pairs_of vs ws) (all_map Q R (pair v) (λ w q. f v w h.0 q) ws k) (pairs_all P Q R f vs ws h.1 k)

-- The order of pairs goes by the left parts, then by the right parts.
before_left : (a b c d : Value) → Before a c → Before (pair a b) (pair c d)
before_left a b c d h = order_before (pair a b) (pair c d) (order_pair a b c d ∙ ap (λ o. o then order b d) (before_order a c h))

before_right : (a b d : Value) → Before b d → Before (pair a b) (pair a d)
before_right a b d h =
    order_before (pair a b) (pair a d) (order_pair a b a d ∙ ap (λ o. o then order b d) (order_refl a) ∙ before_order b d h)

-- Each member of a list has the property that everything has.
pub all_any : {A : Type 0} (xs : List A) → All Any xs
all_any [] = tt
all_any (x ∷ xs) = (tt, all_any xs)

row_rising : (v : Value) (ws : List Value) → Rising ws → Rising (map (pair v) ws)
row_rising v [] h = tt
row_rising v (w ∷ ws) h =
    (all_map (Before w) (Before (pair v w)) (pair v) (λ x k. before_right v w x k) ws h.0, row_rising v ws h.1)

-- The pairs of two rising lists rise.
pub pairs_rising : (vs ws : List Value) → Rising vs → Rising ws → Rising (pairs_of vs ws)
unfolding pairs_of
pairs_rising [] ws h k = tt
pairs_rising (v ∷ vs) ws h k =
    append_rising (map (pair v) ws) (pairs_of vs ws) (row_rising v ws k) (pairs_rising vs ws h.1 k)
    (all_map Any (λ x. All (Before x) (pairs_of vs ws)) (pair v)
    (λ w _. pairs_all (Before v) Any (Before (pair v w)) (λ x y q _. before_left v w x y q) vs ws h.0 (all_any ws))
    ws (all_any ws))

-- The sublists have the list's values.
pub subsets_all : (P : Value → Type 0) (vs : List Value) → All P vs → All (All P) (subsets vs)
unfolding subsets
subsets_all P [] h = (tt, tt)
subsets_all P (v ∷ vs) h =
    let r = subsets_all P vs h.1 in
    all_append (All P) (subsets vs) (map (λ s. v ∷ s) (subsets vs)) r
    (all_map (All P) (All P) (λ s. v ∷ s) (λ s k. (h.0, k)) (subsets vs) r)

-- The sublists of a rising list rise.
pub subsets_rising : (vs : List Value) → Rising vs → All Rising (subsets vs)
unfolding subsets
subsets_rising [] h = (tt, tt)
subsets_rising (v ∷ vs) h =
    let r = subsets_rising vs h.1 in
    all_append Rising (subsets vs) (map (λ s. v ∷ s) (subsets vs)) r
    (all_map (λ s. All (Before v) s × Rising s) Rising (λ s. v ∷ s) (λ s k. k) (subsets vs)
    (all_both (All (Before v)) Rising (subsets vs) (subsets_all (Before v) vs h.0) r))

compareℤ_suc : (i : ℤ) → compareℤ i (suc_ℤ i) ≡ Ordering.lt
compareℤ_suc (pos n) = lt_compare n (suc n) (omega arith)
compareℤ_suc (negsuc zero) = refl
compareℤ_suc (negsuc (suc n)) = lt_compare n (suc n) (omega arith)

before_next : (i : ℤ) → Before (int i) (int (i +ℤ pos 1))
before_next i = order_before (int i) (int (i +ℤ pos 1)) (order_int i (i +ℤ pos 1) ∙ ap (compareℤ i) (+ℤ_one i) ∙ compareℤ_suc i)

-- Numbers from i on rise.
pub up_rising : (i : ℤ) (n : ℕ) → Rising (up_from i n)
unfolding up_from
up_rising i zero = tt
up_rising i (suc zero) = (tt, tt)
up_rising i (suc (suc n)) =
    rising_cons (int i) (int (i +ℤ pos 1)) (up_from (i +ℤ pos 1 +ℤ pos 1) n) (before_next i) (up_rising (i +ℤ pos 1) (suc n))

before_element : (g k : ℕ) → Before (scalar (element g k)) (scalar (element g (suc k)))
before_element g k = order_before (scalar (element g k)) (scalar (element g (suc k))) (order_element g k (suc k) (omega arith))

-- The elements of a given set from k on rise.
pub elements_rising : (g k n : ℕ) → Rising (elements_from g k n)
unfolding elements_from
elements_rising g k zero = tt
elements_rising g k (suc zero) = (tt, tt)
elements_rising g k (suc (suc n)) =
    rising_cons (scalar (element g k)) (scalar (element g (suc k))) (elements_from g (suc (suc k)) n)
    (before_element g k) (elements_rising g (suc k) (suc n))

-- The n numbers from i on are of signed 32 bits.
abbrev Span : ℤ → ℕ → Type 0
Span (pos a) n = a + n ≤ 2147483648
Span (negsuc a) n = (a ≤ 2147483647) × (n ≤ suc a + 2147483648)

span_here : (i : ℤ) (n : ℕ) → Span i (suc n) → T (in_range i)
span_here (pos a) n h = le→leb a 2147483647 (omega arith)
span_here (negsuc a) n h = le→leb a 2147483647 h.0

span_suc : (i : ℤ) (n : ℕ) → Span i (suc n) → Span (suc_ℤ i) n
span_suc (pos a) n h = omega arith
span_suc (negsuc zero) n h = omega arith
span_suc (negsuc (suc a)) n h = omega arith

span_none : (i : ℤ) → T (in_range i) → Span i 0
span_none (pos a) h = omega (arith, leb→le a 2147483647 h)
span_none (negsuc a) h = omega (arith, leb→le a 2147483647 h)

-- The numbers from i to d + i, where both are of 32 bits.
span_distance : (d i : ℤ) → T (in_range i) → T (in_range (d +ℤ i)) → Span i (to_count (suc_ℤ d))
span_distance (pos c) (pos a) h k = omega (arith, leb→le (c + a) 2147483647 k)
span_distance (pos c) (negsuc a) h k = go (ltb c (suc a)) refl k
  where
    go : (b : Bool) → ltb c (suc a) ≡ b → T (in_range (cond b (negsuc (suc a - suc c)) (pos (c - suc a)))) →
        (a ≤ 2147483647) × (suc c ≤ suc a + 2147483648)
    go true e q = (leb→le a 2147483647 h, omega (arith, ltb→lt c (suc a) (rw e tt)))
    go false e q = (leb→le a 2147483647 h, omega (arith, leb→le (c - suc a) 2147483647 q))
span_distance (negsuc zero) i h k = span_none i h
span_distance (negsuc (suc c)) i h k = span_none i h

span_interval : (i j : ℤ) → T (in_range i) → T (in_range j) → Span i (to_count (j -ℤ i +ℤ pos 1))
span_interval i j h k = rw (+ℤ_one (j -ℤ i)) (span_distance (j -ℤ i) i h (rw (-ℤ-+ℤ_cancel j i) k))

-- A literal is of signed 32 bits, whatever the word.
pub signed_right : (n : ℕ) → T (in_range (signed n))
unfolding signed
signed_right n = go (ltb n 2147483648) refl
  where
    go : (b : Bool) → ltb n 2147483648 ≡ b → T (in_range (elim b [ true ↦ pos n | false ↦ negsuc (4294967295 - n) ]))
    go true e = le→leb n 2147483647 (omega (arith, ltb→lt n 2147483648 (rw e tt)))
    go false e = le→leb (4294967295 - n) 2147483647 (omega (arith, nltb→le n 2147483648 (rw e tt)))

pub members_count : (s : Values) → length (members s) ≤ weights s
members_count none = omega arith
members_count (v ▸ vs) = omega (arith, weight_some v, members_count vs)

elems_count : (v : Value) → length (elems v) ≤ weight v
elems_count (scalar s) = omega arith
elems_count (pair v w) = omega arith
elems_count (set s) = omega (arith, members_count s)

members_light : (n : ℕ) (s : Values) → weights s ≤ n → All (λ v. weight v ≤ n) (members s)
members_light n none h = tt
members_light n (v ▸ vs) h = (omega arith, members_light n vs (omega arith))

-- The members of a set weigh no more than the set.
pub elems_light : (n : ℕ) (v : Value) → weight v ≤ n → All (λ w. weight w ≤ n) (elems v)
elems_light n (scalar s) h = tt
elems_light n (pair v w) h = tt
elems_light n (set s) h = members_light n s (omega arith)

precedes_members : (v : Value) (s : Values) → T (precedes v s) → Rising (members s) → Rising (v ∷ members s)
precedes_members v none h k = (tt, tt)
precedes_members v (w ▸ ws) h k = rising_cons v w (members ws) h k

first_precedes : (v : Value) (ws : List Value) → All (Before v) ws → T (precedes v (values ws))
first_precedes v [] h = tt
first_precedes v (w ∷ ws) h = h.0

module _ (gs : List ℕ) where
  -- Numbers of 32 bits, elements that exist, members that rise.
  abbrev pub Well : Value → Type 0
  Well v = T (well_formed gs v)

  members_well : (s : Values) → T (rising_all gs s) → All Well (members s) × Rising (members s)
  members_well none h = (tt, tt)
  members_well (v ▸ vs) h =
      let q = and_left (well_formed gs v && precedes v vs) (rising_all gs vs) h in
      let r = members_well vs (and_right (well_formed gs v && precedes v vs) (rising_all gs vs) h) in
      ((and_left (well_formed gs v) (precedes v vs) q, r.0), precedes_members v vs (and_right (well_formed gs v) (precedes v vs) q) r.1)

  -- The members of a well formed set are well formed and rise.
  pub elems_well : (v : Value) → Well v → All Well (elems v) × Rising (elems v)
  elems_well (scalar s) h = (tt, tt)
  elems_well (pair v w) h = (tt, tt)
  elems_well (set s) h = members_well s h

  -- And the other way round.
  pub set_of_well : (vs : List Value) → All Well vs → Rising vs → Well (set_of vs)
  set_of_well [] h r = tt
  set_of_well (v ∷ vs) h r =
      and_of (well_formed gs v && precedes v (values vs)) (rising_all gs (values vs))
      (and_of (well_formed gs v) (precedes v (values vs)) h.0 (first_precedes v vs r.0)) (set_of_well vs h.1 r.1)

  left_well : (v : Value) → Well v → Well (left v)
  left_well (scalar s) h = h
  left_well (pair v w) h = and_left (well_formed gs v) (well_formed gs w) h
  left_well (set s) h = h

  right_well : (v : Value) → Well v → Well (right v)
  right_well (scalar s) h = h
  right_well (pair v w) h = and_right (well_formed gs v) (well_formed gs w) h
  right_well (set s) h = h

  -- A value of a number type is a number in range.
  number_range : (n : Number) (v : Value) → HasType v (atom (number n)) → Well v → T (in_range (payload v))
  number_range n (scalar (num m i)) t h = h
  number_range n (scalar (truth b)) t h = let z : ◌≡◌ {A = ℕ} 0 1 = cc in absurd (omega arith)
  number_range n (scalar (element g k)) t h = let z : ◌≡◌ {A = ℕ} 0 1 = cc in absurd (omega arith)
  number_range n (pair v w) t h = absurd t
  number_range n (set s) t h = absurd t

  -- The numbers of a span are in range.
  up_well : (i : ℤ) (n : ℕ) → Span i n → All Well (up_from i n)
  unfolding up_from
  up_well i zero h = tt
  up_well i (suc n) h = (span_here i n h, up_well (i +ℤ pos 1) n (rw (+ℤ_one i) (span_suc i n h)))

  -- The elements from k on exist, where k and n stay within the set's size.
  pub elements_well : (g k n : ℕ) → k + n ≤ get_or gs g 0 → All Well (elements_from g k n)
  unfolding elements_from
  elements_well g k zero h = tt
  elements_well g k (suc n) h = (lt→ltb k (get_or gs g 0) (omega arith), elements_well g (suc k) n (omega arith))

  -- What an operation gives is well formed, where it gives a value.
  abbrev pub GivenWell : Given → Type 0
  GivenWell (gives v) = Well v
  GivenWell (lacks k) = Unit {0}

  rising_well : (vs : List Value) → All Well vs → Well (set_of (rising vs))
  rising_well vs h = set_of_well (rising vs) (rising_all_law Well vs h) (rising_rising vs)

  keep_well : (p : Value → Bool) (v : Value) → Well v → Well (set_of (keep p (elems v)))
  keep_well p v h =
      let e = elems_well v h in set_of_well (keep p (elems v)) (keep_all Well p (elems v) e.0) (keep_rising p (elems v) e.1)

  taken_well : (g : Given) → OrUndefined Well g → GivenWell g
  taken_well (gives v) h = h
  taken_well (lacks k) h = tt

  ranged_well : (n : Number) (i : ℤ) → GivenWell (ranged n i)
  ranged_well n i = go (in_range i) refl
    where
      go : (b : Bool) → in_range i ≡ b → GivenWell (cond b (gives (scalar (num n i))) (lacks 17))
      go true e = rw e tt
      go false e = tt

  subsets_well : (v : Value) → Well v → All Well (map set_of (subsets (elems v)))
  subsets_well v h =
      let e = elems_well v h in
      all_map (λ s. All Well s × Rising s) Well set_of (λ s k. set_of_well s k.0 k.1) (subsets (elems v))
      (all_both (All Well) Rising (subsets (elems v)) (subsets_all Well (elems v) e.0) (subsets_rising (elems v) e.1))

  map_well : (f : Value → Value) → ((v : Value) → Well v → Well (f v)) → (vs : List Value) → All Well vs → All Well (map f vs)
  map_well f h vs k = all_map Well Well f h vs k

  -- What each kind gives for well formed operands is well formed; card counts no more than 256 members.
  pub one_well : (j : One) (v : Value) → Well v → weight v ≤ 256 → GivenWell (one_value j v)
  unfolding one_value
  one_well singleton v h l = set_of_well (v ∷ []) (h, tt) (tt, tt)
  one_well power v h l = rising_well (map set_of (subsets (elems v))) (subsets_well v h)
  one_well dom v h l = rising_well (map left (elems v)) (map_well left left_well (elems v) (elems_well v h).0)
  one_well ran v h l = rising_well (map right (elems v)) (map_well right right_well (elems v) (elems_well v h).0)
  one_well card v h l = le→leb (length (elems v)) 2147483647 (omega (arith, elems_count v))
  one_well choice v h l = taken_well (least (elems v)) (least_from Well (elems v) (elems_well v h).0)

  -- An interval is in range because its bounds are numbers in range.
  pub two_well : (j : Two) (v w : Value) (t u : Ty) → FitAt (two_rule j).takes (v ∷ w ∷ []) t u → Well v → Well w →
      GivenWell (two_value j v w)
  unfolding two_value
  two_well pairing v w t u f h k = and_of (well_formed gs v) (well_formed gs w) h k
  two_well union v w t u f h k =
      rising_well (elems v ++ elems w) (all_append Well (elems v) (elems w) (elems_well v h).0 (elems_well w k).0)
  two_well inter v w t u f h k = keep_well (λ x. is_in x (elems w)) v h
  two_well diff v w t u f h k = keep_well (λ x. not (is_in x (elems w))) v h
  two_well product v w t u f h k =
      let e = elems_well v h in
      let d = elems_well w k in
      set_of_well (pairs_of (elems v) (elems w))
      (pairs_all Well Well Well (λ x y p q. and_of (well_formed gs x) (well_formed gs y) p q) (elems v) (elems w) e.0 d.0)
      (pairs_rising (elems v) (elems w) e.1 d.1)
  two_well apply v w t u f h k =
      taken_well (applied v w) (applied_from Well v w (all_imp Well (λ x. Well (right x)) right_well (elems v) (elems_well v h).0))
  two_well (plus n) v w t u f h k = ranged_well n (payload v +ℤ payload w)
  two_well (minus n) v w t u f h k = ranged_well n (payload v -ℤ payload w)
  two_well interval v w t u f h k =
      let i = payload v in
      let n = to_count (payload w -ℤ payload v +ℤ pos 1) in
      set_of_well (up_from i n)
      (up_well i n (span_interval i (payload w) (number_range whole v f.0 h) (number_range whole w f.1.0 k))) (up_rising i n)
