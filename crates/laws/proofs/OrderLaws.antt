-- The order of values is a linear order: laws of `lex` over any lists, then what `key` adds to them (no key begins another,
-- and values with element numbers below 256 have different keys).
use Prim.Native.Nat.{ℕ, zero, suc, ◌+◌, ◌*◌, ◌≤◌, ◌<◌, suc-le-suc}
use Prim.Native.Nat.compare
use Prim.Native.Nat.{compare, Ordering}
use mathlib.Core.Bool.{Bool, true, false, ◌&&◌}
use mathlib.Core.List.{List, [], ◌∷◌, ◌++◌, append_assoc, append-nil}
use mathlib.Core.Logic.{◌⊎◌, inl, inr}
use mathlib.Core.Path.{◌≡◌, refl, ap, sym, subst, ◌∙◌}
use native.Mathlib.Nat.{le_of_suc-le-suc}
use native.Mathlib.Omega.{arith}
use lib.IntN.{ℤ, pos, negsuc}
use lib.Dec.{T, compare_is_eq, eqb→eq, ltb→lt}
use lib.ListN.{get_or}
use Rattle.rules.specs.Types.{whole}
use Rattle.rules.specs.Values.{Scalar, num, truth, element, Value, scalar, pair, set, Values, none, ◌▸◌, int, values, count, scalar_tag, scalar_payload}
use Rattle.rules.specs.Values.{compareℤ, ◌then◌, lex, key, keys, order, same, is_lt, before}
use Rattle.rules.specs.Cells.{well_formed, rising_all, precedes}

-- The other way round.
abbrev pub flip : Ordering → Ordering
flip Ordering.lt = Ordering.gt
flip Ordering.eq = Ordering.eq
flip Ordering.gt = Ordering.lt

-- Laws of `then`.

-- no difference in the whole is none in either part
pub then_eq : (o p : Ordering) → (o then p) ≡ Ordering.eq → (o ≡ Ordering.eq) × (p ≡ Ordering.eq)
then_eq Ordering.lt p e = (e, cc)
then_eq Ordering.eq p e = (refl, e)
then_eq Ordering.gt p e = (e, cc)

-- less in the whole is less in the first part, or no difference there and less in the second
pub then_lt : (o p : Ordering) → (o then p) ≡ Ordering.lt → (o ≡ Ordering.lt) ⊎ ((o ≡ Ordering.eq) × (p ≡ Ordering.lt))
then_lt Ordering.lt p e = inl refl
then_lt Ordering.eq p e = inr (refl, e)
then_lt Ordering.gt p e = inl (cc)

-- a second part without difference adds nothing
pub then_end : (o : Ordering) → (o then Ordering.eq) ≡ o
then_end Ordering.lt = refl
then_end Ordering.eq = refl
then_end Ordering.gt = refl

-- a difference in the first part decides
pub then_first : (o p : Ordering) → (o ≡ Ordering.eq → ⊥) → (o then p) ≡ o
then_first Ordering.lt p n = refl
then_first Ordering.eq p n = absurd (n refl)
then_first Ordering.gt p n = refl

-- how parts are grouped does not matter
pub then_assoc : (o p q : Ordering) → ((o then p) then q) ≡ (o then p then q)
then_assoc Ordering.lt p q = refl
then_assoc Ordering.eq p q = refl
then_assoc Ordering.gt p q = refl

-- the other way round, part by part
pub flip_then : (o p : Ordering) → flip (o then p) ≡ (flip o then flip p)
flip_then Ordering.lt p = refl
flip_then Ordering.eq p = refl
flip_then Ordering.gt p = refl

-- Laws of `compare`: no difference is equality, and less is `◌<◌`.

pub compare_eq : (m n : ℕ) → compare m n ≡ Ordering.eq → m ≡ n
compare_eq m n e = eqb→eq m n (subst (λ (o : Ordering). T (compare_is_eq o)) (sym e) tt)

pub compare_refl : (n : ℕ) → compare n n ≡ Ordering.eq
compare_refl zero = refl
compare_refl (suc n) = compare.suc-suc n n ∙ compare_refl n

pub compare_flip : (m n : ℕ) → compare n m ≡ flip (compare m n)
compare_flip zero zero = refl
compare_flip zero (suc n) = cc (compare.suc-zero n, compare.zero-suc n)
compare_flip (suc m) zero = cc (compare.suc-zero m, compare.zero-suc m)
compare_flip (suc m) (suc n) = cc (compare.suc-suc m n, compare.suc-suc n m, compare_flip m n)

pub compare_lt : (m n : ℕ) → compare m n ≡ Ordering.lt → m < n
compare_lt zero zero e = let z : ◌≡◌ {A = ℕ} 0 1 = cc in omega arith
compare_lt zero (suc n) e = omega arith
compare_lt (suc m) zero e = let z : ◌≡◌ {A = ℕ} 0 1 = cc (compare.suc-zero m) in omega arith
compare_lt (suc m) (suc n) e = suc-le-suc (compare_lt m n (cc (compare.suc-suc m n)))

pub lt_compare : (m n : ℕ) → m < n → compare m n ≡ Ordering.lt
lt_compare zero zero h = absurd (omega arith)
lt_compare zero (suc n) h = compare.zero-suc n
lt_compare (suc m) zero h = absurd (omega arith)
lt_compare (suc m) (suc n) h = compare.suc-suc m n ∙ lt_compare m n (le_of_suc-le-suc h)

pub gt_compare : (m n : ℕ) → n < m → compare m n ≡ Ordering.gt
gt_compare m n h = compare_flip n m ∙ ap flip (lt_compare n m h)

-- The same for integers: a linear order.

pub compareℤ_eq : (i j : ℤ) → compareℤ i j ≡ Ordering.eq → i ≡ j
compareℤ_eq (pos a) (pos b) e = ap pos (compare_eq a b e)
compareℤ_eq (pos a) (negsuc b) e = cc
compareℤ_eq (negsuc a) (pos b) e = cc
compareℤ_eq (negsuc a) (negsuc b) e = ap negsuc (sym (compare_eq b a e))

pub compareℤ_refl : (i : ℤ) → compareℤ i i ≡ Ordering.eq
compareℤ_refl (pos a) = compare_refl a
compareℤ_refl (negsuc a) = compare_refl a

pub compareℤ_flip : (i j : ℤ) → compareℤ j i ≡ flip (compareℤ i j)
compareℤ_flip (pos a) (pos b) = compare_flip a b
compareℤ_flip (pos a) (negsuc b) = refl
compareℤ_flip (negsuc a) (pos b) = refl
compareℤ_flip (negsuc a) (negsuc b) = compare_flip b a

compare_trans : (a b c : ℕ) → compare a b ≡ Ordering.lt → compare b c ≡ Ordering.lt → compare a c ≡ Ordering.lt
compare_trans a b c p q = lt_compare a c (omega (arith, compare_lt a b p, compare_lt b c q))

pub compareℤ_trans : (i j k : ℤ) → compareℤ i j ≡ Ordering.lt → compareℤ j k ≡ Ordering.lt → compareℤ i k ≡ Ordering.lt
compareℤ_trans (pos a) (pos b) (pos c) p q = compare_trans a b c p q
compareℤ_trans (pos a) (pos b) (negsuc c) p q = cc
compareℤ_trans (pos a) (negsuc b) k p q = cc
compareℤ_trans (negsuc a) (pos b) (pos c) p q = refl
compareℤ_trans (negsuc a) (pos b) (negsuc c) p q = cc
compareℤ_trans (negsuc a) (negsuc b) (pos c) p q = refl
compareℤ_trans (negsuc a) (negsuc b) (negsuc c) p q = compare_trans c b a q p

-- Laws of `lex`, for any lists: a linear order.

pub lex_refl : (xs : List ℤ) → lex xs xs ≡ Ordering.eq
unfolding lex
lex_refl [] = refl
lex_refl (x ∷ xs) = rw (compareℤ_refl x) (lex_refl xs)

pub lex_flip : (xs ys : List ℤ) → lex ys xs ≡ flip (lex xs ys)
unfolding lex
lex_flip [] [] = refl
lex_flip [] (y ∷ ys) = refl
lex_flip (x ∷ xs) [] = refl
lex_flip (x ∷ xs) (y ∷ ys) = rw (compareℤ_flip x y, lex_flip xs ys) (sym (flip_then (compareℤ x y) (lex xs ys)))

pub lex_eq : (xs ys : List ℤ) → lex xs ys ≡ Ordering.eq → xs ≡ ys
unfolding lex
lex_eq [] [] e = refl
lex_eq [] (y ∷ ys) e = cc
lex_eq (x ∷ xs) [] e = cc
lex_eq (x ∷ xs) (y ∷ ys) e =
    let q = then_eq (compareℤ x y) (lex xs ys) e in
    cc (compareℤ_eq x y q.0, lex_eq xs ys q.1)

pub lex_trans : (xs ys zs : List ℤ) → lex xs ys ≡ Ordering.lt → lex ys zs ≡ Ordering.lt → lex xs zs ≡ Ordering.lt
unfolding lex
lex_trans [] [] zs p q = cc
lex_trans [] (y ∷ ys) [] p q = cc
lex_trans [] (y ∷ ys) (z ∷ zs) p q = refl
lex_trans (x ∷ xs) [] zs p q = cc
lex_trans (x ∷ xs) (y ∷ ys) [] p q = cc
lex_trans (x ∷ xs) (y ∷ ys) (z ∷ zs) p q =
    go (λ f g. lex_trans xs ys zs f g) (then_lt (compareℤ x y) (lex xs ys) p) (then_lt (compareℤ y z) (lex ys zs) q)
  where
    go : (lex xs ys ≡ Ordering.lt → lex ys zs ≡ Ordering.lt → lex xs zs ≡ Ordering.lt) →
        (compareℤ x y ≡ Ordering.lt) ⊎ ((compareℤ x y ≡ Ordering.eq) × (lex xs ys ≡ Ordering.lt)) →
        (compareℤ y z ≡ Ordering.lt) ⊎ ((compareℤ y z ≡ Ordering.eq) × (lex ys zs ≡ Ordering.lt)) →
        (compareℤ x z then lex xs zs) ≡ Ordering.lt
    go r (inl f) (inl g) = rw (compareℤ_trans x y z f g)
    go r (inl f) (inr g) = rw (← compareℤ_eq y z g.0, f)
    go r (inr f) (inl g) = rw (compareℤ_eq x y f.0, g)
    go r (inr f) (inr g) = rw (compareℤ_eq x y f.0, g.0) (r f.1 g.1)

-- Of two lists neither begins the other: what follows them counts only where they are equal.
abbrev pub Delimited : List ℤ → List ℤ → Type 0
Delimited a c = (x y : List ℤ) → lex (a ++ x) (c ++ y) ≡ (lex a c then lex x y)

delimited_nil : Delimited [] []
unfolding lex
delimited_nil x y = refl

delimited_cons : (i j : ℤ) (a c : List ℤ) → (compareℤ i j ≡ Ordering.eq → Delimited a c) → Delimited (i ∷ a) (j ∷ c)
unfolding lex
delimited_cons i j a c h x y = go (compareℤ i j) refl
  where
    go : (o : Ordering) → compareℤ i j ≡ o → (o then lex (a ++ x) (c ++ y)) ≡ ((o then lex a c) then lex x y)
    go Ordering.lt e = refl
    go Ordering.eq e = h e x y
    go Ordering.gt e = refl

-- heads that differ
delimited_apart : (m n : ℕ) (a c : List ℤ) → (m ≡ n → ⊥) → Delimited (pos m ∷ a) (pos n ∷ c)
delimited_apart m n a c h = delimited_cons (pos m) (pos n) a c (λ e. absurd (h (compare_eq m n e)))

delimited_append : (a b c d : List ℤ) → Delimited a c → Delimited b d → Delimited (a ++ b) (c ++ d)
delimited_append a b c d h k x y =
    rw (append_assoc a b x, append_assoc c d y, h (b ++ x) (d ++ y), k x y, h b d)
    (sym (then_assoc (lex a c) (lex b d) (lex x y)))

-- What `key` adds.

tag_small : (s : Scalar) → scalar_tag s < 4
tag_small (num whole i) = omega arith
tag_small (truth b) = omega arith
tag_small (element g k) = omega arith

-- No key begins another.
mutual
  pub key_delimited : (v w : Value) → Delimited (key v) (key w)
  key_delimited (scalar s) (scalar r) =
      delimited_cons _ _ _ _ (λ e. delimited_cons _ _ _ _ (λ f. delimited_nil))
  key_delimited (scalar s) (pair c d) = delimited_apart _ _ _ _ (λ e. omega (arith, tag_small s))
  key_delimited (scalar s) (set r) = delimited_apart _ _ _ _ (λ e. omega (arith, tag_small s))
  key_delimited (pair a b) (scalar r) = delimited_apart _ _ _ _ (λ e. omega (arith, tag_small r))
  key_delimited (pair a b) (pair c d) =
      delimited_cons _ _ _ _ (λ e. delimited_cons _ _ _ _ (λ f.
      delimited_append (key a) (key b) (key c) (key d) (key_delimited a c) (key_delimited b d)))
  key_delimited (pair a b) (set r) = delimited_apart _ _ _ _ (λ e. omega arith)
  key_delimited (set s) (scalar r) = delimited_apart _ _ _ _ (λ e. omega (arith, tag_small r))
  key_delimited (set s) (pair c d) = delimited_apart _ _ _ _ (λ e. omega arith)
  key_delimited (set s) (set r) =
      delimited_cons _ _ _ _ (λ e. delimited_cons _ _ _ _ (λ f. keys_delimited s r (compare_eq (count s) (count r) f)))

  pub keys_delimited : (s r : Values) → count s ≡ count r → Delimited (keys s) (keys r)
  keys_delimited none none e = delimited_nil
  keys_delimited none (w ▸ ws) e = absurd (omega arith)
  keys_delimited (v ▸ vs) none e = absurd (omega arith)
  keys_delimited (v ▸ vs) (w ▸ ws) e =
      delimited_append (keys vs) (key v) (keys ws) (key w) (keys_delimited vs ws (omega arith)) (key_delimited v w)

-- Elements have numbers below 256, so that 256·g + k tells g and k.
abbrev pub SmallScalar : Scalar → Type 0
SmallScalar (num n i) = Unit {0}
SmallScalar (truth b) = Unit {0}
SmallScalar (element g k) = k < 256

abbrev mutual
  pub Small : Value → Type 0
  Small (scalar s) = SmallScalar s
  Small (pair v w) = Small v × Small w
  Small (set s) = Smalls s

  pub Smalls : Values → Type 0
  Smalls none = Unit {0}
  Smalls (v ▸ vs) = Small v × Smalls vs

-- Small values have different keys.

pub scalar_eq : (s r : Scalar) → SmallScalar s → SmallScalar r → scalar_tag s ≡ scalar_tag r → scalar_payload s ≡ scalar_payload r → s ≡ r
scalar_eq (num whole i) (num whole j) h k e f = cc
scalar_eq (num whole i) (truth b) h k e f = cc
scalar_eq (num whole i) (element g n) h k e f = cc
scalar_eq (truth b) (num whole j) h k e f = cc
scalar_eq (truth true) (truth true) h k e f = refl
scalar_eq (truth true) (truth false) h k e f = cc
scalar_eq (truth false) (truth true) h k e f = cc
scalar_eq (truth false) (truth false) h k e f = refl
scalar_eq (truth b) (element g n) h k e f = cc
scalar_eq (element g m) (num whole j) h k e f = cc
scalar_eq (element g m) (truth b) h k e f = cc
scalar_eq (element g m) (element l n) h k e f =
    let q : 256 * g + m ≡ 256 * l + n = cc in
    let a : g ≡ l = omega arith in
    let b : m ≡ n = omega arith in
    cc

-- two keys with what follows them are equal only if the values and what follows are
mutual
  pub key_eq : (v w : Value) (x y : List ℤ) → Small v → Small w → key v ++ x ≡ key w ++ y → (v ≡ w) × (x ≡ y)
  key_eq (scalar s) (scalar r) x y h k e = (ap scalar (scalar_eq s r h k (cc) (cc)), cc)
  key_eq (scalar s) (pair c d) x y h k e = absurd (let q : scalar_tag s ≡ 4 = cc in omega (arith, tag_small s))
  key_eq (scalar s) (set r) x y h k e = absurd (let q : scalar_tag s ≡ 5 = cc in omega (arith, tag_small s))
  key_eq (pair a b) (scalar r) x y h k e = absurd (let q : scalar_tag r ≡ 4 = cc in omega (arith, tag_small r))
  key_eq (pair a b) (pair c d) x y h k e =
      let q : key a ++ (key b ++ x) ≡ key c ++ (key d ++ y) = cc (append_assoc (key a) (key b) x, append_assoc (key c) (key d) y) in
      let f = key_eq a c (key b ++ x) (key d ++ y) h.0 k.0 q in
      let g = key_eq b d x y h.1 k.1 f.1 in
      (cc (f.0, g.0), g.1)
  key_eq (pair a b) (set r) x y h k e = absurd (let q : ◌≡◌ {A = ℕ} 4 5 = cc in omega arith)
  key_eq (set s) (scalar r) x y h k e = absurd (let q : scalar_tag r ≡ 5 = cc in omega (arith, tag_small r))
  key_eq (set s) (pair c d) x y h k e = absurd (let q : ◌≡◌ {A = ℕ} 5 4 = cc in omega arith)
  key_eq (set s) (set r) x y h k e =
      let f = keys_eq s r x y (cc) h k (cc) in
      (ap set f.0, f.1)

  pub keys_eq : (s r : Values) (x y : List ℤ) → count s ≡ count r → Smalls s → Smalls r → keys s ++ x ≡ keys r ++ y → (s ≡ r) × (x ≡ y)
  keys_eq none none x y c h k e = (refl, e)
  keys_eq none (w ▸ ws) x y c h k e = absurd (omega arith)
  keys_eq (v ▸ vs) none x y c h k e = absurd (omega arith)
  keys_eq (v ▸ vs) (w ▸ ws) x y c h k e =
      let q : keys vs ++ (key v ++ x) ≡ keys ws ++ (key w ++ y) = cc (append_assoc (keys vs) (key v) x, append_assoc (keys ws) (key w) y) in
      let f = keys_eq vs ws (key v ++ x) (key w ++ y) (omega arith) h.1 k.1 q in
      let g = key_eq v w x y h.0 k.0 f.1 in
      (cc (f.0, g.0), g.1)

-- The laws of the order.

-- A value and itself do not differ.
pub order_refl : (v : Value) → order v v ≡ Ordering.eq
unfolding order
order_refl v = lex_refl (key v)

-- The order is total and antisymmetric.
pub order_flip : (v w : Value) → order w v ≡ flip (order v w)
unfolding order
order_flip v w = lex_flip (key v) (key w)

-- The order is transitive.
pub order_trans : (u v w : Value) → order u v ≡ Ordering.lt → order v w ≡ Ordering.lt → order u w ≡ Ordering.lt
unfolding order
order_trans u v w p q = lex_trans (key u) (key v) (key w) p q

-- Equal in the order is equal.
pub order_eq : (v w : Value) → Small v → Small w → order v w ≡ Ordering.eq → v ≡ w
unfolding order
order_eq v w h k e = (key_eq v w [] [] h k (ap (λ (l : List ℤ). l ++ []) (lex_eq (key v) (key w) e))).0

-- A pair is ordered by its parts from left to right.
pub order_pair : (a b c d : Value) → order (pair a b) (pair c d) ≡ (order a c then order b d)
unfolding order
order_pair a b c d = key_delimited a c (key b) (key d)

-- A set with fewer members comes first; sets of equal count are ordered by their members from the greatest down (N6).
pub order_fewer : (s r : Values) → count s < count r → order (set s) (set r) ≡ Ordering.lt
unfolding order
order_fewer s r l = rw (lt_compare (count s) (count r) l)

pub order_cons : (v w : Value) (s r : Values) → count s ≡ count r → order (set (v ▸ s)) (set (w ▸ r)) ≡ (order (set s) (set r) then order v w)
unfolding order
order_cons v w s r e = rw (e, compare_refl (1 + count r), compare_refl (count r)) (keys_delimited s r e (key v) (key w))

-- So of lists that rise, of which the last is the greatest: the last ones decide, then those before them.
keys_last : (vs : List Value) (u : Value) → keys (values (vs ++ (u ∷ []))) ≡ key u ++ keys (values vs)
keys_last [] u = sym (append-nil (key u))
keys_last (v ∷ vs) u = ap (λ (l : List ℤ). l ++ key v) (keys_last vs u) ∙ append_assoc (key u) (keys (values vs)) (key v)

count_last : (vs : List Value) (u : Value) → count (values (vs ++ (u ∷ []))) ≡ 1 + count (values vs)
count_last [] u = refl
count_last (v ∷ vs) u = omega (arith, count_last vs u)

pub order_last : (vs ws : List Value) (u x : Value) → count (values vs) ≡ count (values ws) →
    order (set (values (vs ++ (u ∷ [])))) (set (values (ws ++ (x ∷ [])))) ≡ (order u x then order (set (values vs)) (set (values ws)))
unfolding order
order_last vs ws u x e =
    rw (count_last vs u, count_last ws x, keys_last vs u, keys_last ws x, e, compare_refl (1 + count (values ws)), compare_refl (count (values ws)))
    (key_delimited u x (keys (values vs)) (keys (values ws)))

-- Numbers are ordered as integers.
pub order_int : (i j : ℤ) → order (int i) (int j) ≡ compareℤ i j
unfolding order
order_int i j = then_end (compareℤ i j)

-- Elements of one given set are ordered by their numbers.
pub order_element : (g j k : ℕ) → j < k → order (scalar (element g j)) (scalar (element g k)) ≡ Ordering.lt
unfolding order
order_element g j k h = rw (lt_compare (256 * g + j) (256 * g + k) (omega arith))

-- The tests `same` and `before`.

is_eq_eq : (o : Ordering) → T (compare_is_eq o) → o ≡ Ordering.eq
is_eq_eq Ordering.lt t = absurd t
is_eq_eq Ordering.eq t = refl
is_eq_eq Ordering.gt t = absurd t

is_lt_lt : (o : Ordering) → T (is_lt o) → o ≡ Ordering.lt
is_lt_lt Ordering.lt t = refl
is_lt_lt Ordering.eq t = absurd t
is_lt_lt Ordering.gt t = absurd t

-- `same` is no difference in the order.
pub same_order : (v w : Value) → T (same v w) → order v w ≡ Ordering.eq
unfolding same
same_order v w t = is_eq_eq (order v w) t

-- `before` is less in the order.
pub before_order : (v w : Value) → T (before v w) → order v w ≡ Ordering.lt
unfolding before
before_order v w t = is_lt_lt (order v w) t

-- Less in the order is `before`.
pub order_before : (v w : Value) → order v w ≡ Ordering.lt → T (before v w)
unfolding before
order_before v w e = subst (λ (o : Ordering). T (is_lt o)) (sym e) tt

-- Values that are the same are equal.
pub same_eq : (v w : Value) → Small v → Small w → T (same v w) → v ≡ w
same_eq v w h k t = order_eq v w h k (same_order v w t)

-- A value is the same as itself.
pub same_refl : (v : Value) → T (same v v)
unfolding same
same_refl v = subst (λ (o : Ordering). T (compare_is_eq o)) (sym (order_refl v)) tt

-- `before` is transitive.
pub before_trans : (u v w : Value) → T (before u v) → T (before v w) → T (before u w)
before_trans u v w p q = order_before u w (order_trans u v w (before_order u v p) (before_order v w q))

-- No value precedes itself.
pub before_irrefl : (v : Value) → T (before v v) → ⊥
before_irrefl v t = let z : ◌≡◌ {A = ℕ} 0 1 = cc (before_order v v t, order_refl v) in omega arith

-- both parts of a test that passes
pub and_left : (a b : Bool) → T (a && b) → T a
and_left true b t = tt
and_left false b t = t

pub and_right : (a b : Bool) → T (a && b) → T b
and_right true b t = t
and_right false b t = absurd t

-- Values of a table whose given sets have at most 256 elements are small.
mutual
  pub small_well_formed : (gs : List ℕ) → ((g : ℕ) → get_or gs g 0 ≤ 256) → (v : Value) → T (well_formed gs v) → Small v
  small_well_formed gs h (scalar (num n i)) t = tt
  small_well_formed gs h (scalar (truth b)) t = tt
  small_well_formed gs h (scalar (element g k)) t = omega (arith, ltb→lt k (get_or gs g 0) t, h g)
  small_well_formed gs h (pair v w) t =
      let a = well_formed gs v in
      let b = well_formed gs w in
      (small_well_formed gs h v (and_left a b t), small_well_formed gs h w (and_right a b t))
  small_well_formed gs h (set s) t = smalls_rising_all gs h s t

  pub smalls_rising_all : (gs : List ℕ) → ((g : ℕ) → get_or gs g 0 ≤ 256) → (s : Values) → T (rising_all gs s) → Smalls s
  smalls_rising_all gs h none t = tt
  smalls_rising_all gs h (v ▸ vs) t =
      let a = well_formed gs v in
      let b = precedes v vs in
      let c = rising_all gs vs in
      (small_well_formed gs h v (and_left a b (and_left (a && b) c t)), smalls_rising_all gs h vs (and_right (a && b) c t))
