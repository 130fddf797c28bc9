-- The order of two values by their cells. A value is ordered by its own cell and then by what stands behind it: the parts of a pair as a row
-- of which the first difference decides, the members of a set as one of which the last decides (`own_apart`, `own_same`). Values whose
-- cells agree are the same.
use Rattle.arena.proofs.Base.{ℕ, ◌-◌, ◌/◌, ◌%◌, ◌≤◌, ◌<◌, compare, Ordering, Ordering·eq, Bool, true, false, cond, List, [], ◌∷◌, ◌++◌, ◌≡◌, refl, sym, ap, ◌∙◌, subst, arith, ℕ_discrete, dec_lt, T, eqb, ℤ, pos, lt-ltb, le-ltb, nat_cmp}
use Rattle.rules.specs.Values.{Value, scalar, pair, set, Values, none, ◌▸◌, scalar_tag, count, compareℤ, ◌then◌, lex, key, keys, order, same}
use Rattle.laws.proofs.OrderLaws.{then_end, then_first, key_delimited, keys_delimited, compare_refl, compare_eq, lt_compare, gt_compare, same_refl}
use Rattle.laws.proofs.EndLaws.{T_true}
use Rattle.arena.specs.Code.{cell_size, scalar_low, CellsFit, ordering_of, EndsAt, SameAt, row_order}
use Rattle.arena.proofs.CodeLaws.{unexcess, payload_of, cell_parts, scalar_small, scalar_payload_law, all_agree}
use Rattle.arena.proofs.Standing.{own_cell, inner, Agree, cells_agree}

-- The order of two numbers as `cmp` answers it.
pub cmp_is : (x y : ℕ) → nat_cmp x y ≡ ordering_of (compare x y)
cmp_is x y = go (dec_lt x y) (dec_lt y x)
  where
    go : Dec (x < y) → Dec (y < x) → nat_cmp x y ≡ ordering_of (compare x y)
    go (yes p) d = rw (lt_compare x y p, lt-ltb x y p)
    go (no n) (yes p) = rw (gt_compare x y p, le-ltb x y (omega arith))
    go (no n) (no m) = let e : x ≡ y = omega arith in rw (e, compare_refl y, le-ltb y y (omega arith))

-- Two pairs of numbers in the same relation compare alike.
compare_same : (a b l m : ℕ) → (a < b → l < m) → (b < a → m < l) → (a ≡ b → l ≡ m) → compare a b ≡ compare l m
compare_same a b l m p q r = go (dec_lt a b) (dec_lt b a)
  where
    go : Dec (a < b) → Dec (b < a) → compare a b ≡ compare l m
    go (yes x) d = lt_compare a b x ∙ sym (lt_compare l m (p x))
    go (no x) (yes y) = gt_compare a b y ∙ sym (gt_compare l m (q y))
    go (no x) (no y) = let e : a ≡ b = omega arith in let f : l ≡ m = r e in rw (e, f) (compare_refl b ∙ sym (compare_refl m))

-- Numbers compare as their excess forms do.
unexcess_order : (l m : ℕ) → compareℤ (unexcess l) (unexcess m) ≡ compare l m
unexcess_order l m = go (dec_lt l 2147483648) (dec_lt m 2147483648)
  where
    go : Dec (l < 2147483648) → Dec (m < 2147483648) → compareℤ (unexcess l) (unexcess m) ≡ compare l m
    go (yes a) (yes b) = rw (lt-ltb l 2147483648 a, lt-ltb m 2147483648 b)
        (compare_same (2147483647 - m) (2147483647 - l) l m (omega arith) (omega arith) (omega arith))
    go (yes a) (no b) = rw (lt-ltb l 2147483648 a, le-ltb m 2147483648 (omega arith)) (sym (lt_compare l m (omega arith)))
    go (no a) (yes b) = rw (le-ltb l 2147483648 (omega arith), lt-ltb m 2147483648 b) (sym (gt_compare l m (omega arith)))
    go (no a) (no b) = rw (le-ltb l 2147483648 (omega arith), le-ltb m 2147483648 (omega arith))
        (compare_same (l - 2147483648) (m - 2147483648) l m (omega arith) (omega arith) (omega arith))

-- Cells of one tag compare as their payloads do.
payload_order : (t l m : ℕ) → compareℤ (payload_of t l) (payload_of t m) ≡ compare l m
payload_order t l m = go (eqb t 1)
  where
    go : (b : Bool) → compareℤ (cond b (unexcess l) (pos l)) (cond b (unexcess m) (pos m)) ≡ compare l m
    go true = unexcess_order l m
    go false = refl

-- Cells compare by tag and then by payload.
tag_payload_order : (c d : ℕ) (o : Ordering) →
    (compare c d then o) ≡ (compare (c / cell_size) (d / cell_size) then compareℤ (payload_of (c / cell_size) (c % cell_size))
    (payload_of (d / cell_size) (d % cell_size)) then o)
tag_payload_order c d o = go (dec_lt (c / cell_size) (d / cell_size)) (dec_lt (d / cell_size) (c / cell_size))
  where
    go : Dec (c / cell_size < d / cell_size) → Dec (d / cell_size < c / cell_size) →
        (compare c d then o) ≡ (compare (c / cell_size) (d / cell_size) then compareℤ (payload_of (c / cell_size) (c % cell_size))
        (payload_of (d / cell_size) (d % cell_size)) then o)
    go (yes a) b = rw (lt_compare (c / cell_size) (d / cell_size) a, lt_compare c d (omega arith))
    go (no a) (yes b) = rw (gt_compare (c / cell_size) (d / cell_size) b, gt_compare c d (omega arith))
    go (no a) (no b) =
        let e : c / cell_size ≡ d / cell_size = omega arith in
        rw (e, compare_refl (d / cell_size), payload_order (d / cell_size) (c % cell_size) (d % cell_size))
        (ap (λ (x : Ordering). x then o) (compare_same c d (c % cell_size) (d % cell_size) (λ h. omega arith) (λ h. omega arith) (λ h. omega arith)))

-- What decides behind a value's own cell.
abbrev inner_key : Value → List ℤ
inner_key (scalar s) = []
inner_key (pair v w) = key v ++ key w
inner_key (set s) = keys s

own_key : (v : Value) → CellsFit v →
    key v ≡ pos (own_cell v / cell_size) ∷ payload_of (own_cell v / cell_size) (own_cell v % cell_size) ∷ inner_key v
own_key (scalar s) h =
    let p = cell_parts (scalar_tag s) (scalar_low s) (scalar_small s h).1 in
    rw (p.0, p.1, scalar_payload_law s h)
own_key (pair v w) h = refl
own_key (set s) h = let p = cell_parts 5 (count s) h.0 in rw (p.0, p.1)

own_order : (v w : Value) → CellsFit v → CellsFit w → order v w ≡ (compare (own_cell v) (own_cell w) then lex (inner_key v) (inner_key w))
unfolding order lex
own_order v w h k = rw (own_key v h, own_key w k) (sym (tag_payload_order (own_cell v) (own_cell w) (lex (inner_key v) (inner_key w))))

-- Own cells that differ decide.
pub own_apart : (v w : Value) → CellsFit v → CellsFit w → (own_cell v ≡ own_cell w → ⊥) → order v w ≡ compare (own_cell v) (own_cell w)
own_apart v w h k n = own_order v w h k ∙ then_first (compare (own_cell v) (own_cell w)) _ (λ e. n (compare_eq (own_cell v) (own_cell w) e))

-- Where they are the same, what stands behind them decides: of a set the last members that differ, of a pair the first parts.
abbrev pub is_set : Value → Bool
is_set (scalar s) = false
is_set (pair v w) = false
is_set (set s) = true

row_members : (s r : Values) → count s ≡ count r → lex (keys s) (keys r) ≡ row_order true s r
unfolding lex row_order order
row_members none none e = refl
row_members none (w ▸ ws) e = absurd (omega arith)
row_members (v ▸ vs) none e = absurd (omega arith)
row_members (v ▸ vs) (w ▸ ws) e =
    keys_delimited vs ws (omega arith) (key v) (key w) ∙ ap (λ (o : Ordering). o then order v w) (row_members vs ws (omega arith))

row_inner : (v w : Value) → CellsFit v → CellsFit w → own_cell v ≡ own_cell w → lex (inner_key v) (inner_key w) ≡ row_order (is_set v) (inner v) (inner w)
unfolding lex row_order order
row_inner (scalar s) (scalar r) h k e = refl
row_inner (scalar s) (pair c d) h k e = absurd (omega (arith, scalar_small s h))
row_inner (scalar s) (set r) h k e = absurd (omega (arith, scalar_small s h))
row_inner (pair a b) (scalar r) h k e = absurd (omega (arith, scalar_small r k))
row_inner (pair a b) (pair c d) h k e = key_delimited a c (key b) (key d) ∙ ap (λ (o : Ordering). order a c then o) (sym (then_end (order b d)))
row_inner (pair a b) (set r) h k e = absurd (omega arith)
row_inner (set s) (scalar r) h k e = absurd (omega (arith, scalar_small r k))
row_inner (set s) (pair c d) h k e = absurd (omega arith)
row_inner (set s) (set r) h k e = row_members s r (omega arith)

pub own_same : (v w : Value) → CellsFit v → CellsFit w → own_cell v ≡ own_cell w → order v w ≡ row_order (is_set v) (inner v) (inner w)
own_same v w h k e =
    own_order v w h k ∙ ap (λ (o : Ordering). o then lex (inner_key v) (inner_key w)) (ap (compare (own_cell v)) (sym e) ∙ compare_refl (own_cell v))
    ∙ row_inner v w h k e

-- A value that nothing stands behind: own cells decide.
row_none : (last : Bool) (vs ws : Values) → count vs ≡ 0 → row_order last vs ws ≡ Ordering·eq
unfolding row_order
row_none last none ws e = refl
row_none last (v ▸ vs) ws e = absurd (omega arith)

pub leaf_order : (v w : Value) → CellsFit v → CellsFit w → count (inner v) ≡ 0 → order v w ≡ compare (own_cell v) (own_cell w)
leaf_order v w h k z = go (ℕ_discrete (own_cell v) (own_cell w))
  where
    go : Dec (own_cell v ≡ own_cell w) → order v w ≡ compare (own_cell v) (own_cell w)
    go (yes e) =
        own_same v w h k e ∙ row_none (is_set v) (inner v) (inner w) z ∙ sym (ap (compare (own_cell v)) (sym e) ∙ compare_refl (own_cell v))
    go (no n) = own_apart v w h k n

-- Values whose cells all agree are the same.
pub agree_same : (s : List ℕ) (a b end i : ℕ) → EndsAt s a end → Agree s a b i → end - a ≤ i → SameAt s a b true
agree_same s a b end i ends g l v w h k p q =
    let x = ends v h p in
    let e = all_agree v w p q (λ j m o. cells_agree s a b v w h k j m o (g j (omega arith))) in
    sym ((T_true (same v w)).0 (subst (λ (u : Value). T (same v u)) e (same_refl v)))
