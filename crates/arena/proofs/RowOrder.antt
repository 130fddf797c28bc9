-- Two rows of values that are compared one by one (`compare_rows`, `compare`): the values that are left, and the order of those that have been passed.
-- That order and the order of those that are left give the order of the whole (`RowsLeft`).
use Rattle.arena.proofs.Base.{ℕ, ◌+◌, ◌*◌, ◌-◌, ◌≤◌, ◌<◌, compare, Ordering, Ordering·eq, Bool, true, false, List, ◌≡◌, refl, sym, ap, ◌∙◌, subst, arith, add-zero, ltb, length, get_or, lt-ltb, le-ltb, RustOrdering, Equal, nat_cmp}
use Rattle.rules.specs.Values.{Value, scalar, pair, set, Values, none, ◌▸◌, count, weight, weights, order}
use Rattle.laws.proofs.OrderLaws.{then_end, then_assoc}
use Rattle.arena.specs.Code.{cell_size, codes, ValueAt, CellsFit, ordering_of, SomeAt, EndsAt, parts_of, then_next, row_order, ThenNext, RowAt, SomeRow, SomeLeft, RowsBegun, ValuesCompared, RowsCompared}
use Rattle.arena.specs.declared.Rows.{Rows}
use Rattle.arena.proofs.CodeLaws.{scalar_small}
use Rattle.arena.proofs.Standing.{own_cell, inner, ◌before◌, code_inner, weight_inner, fit_inner, parts_stand, stands_own, stands_tail, first_stands, rest_stand}
use Rattle.arena.proofs.ValueParts.{some_inside, one_cell}
use Rattle.arena.proofs.EvenLaws.{cell_compared}
use Rattle.arena.proofs.CellOrder.{cmp_is, own_apart, own_same, is_set}

-- Orders one after the other: no difference adds nothing, and how they are grouped does not matter.
then_next_eq : (last : Bool) (o : Ordering) → then_next last Ordering·eq o ≡ o
then_next_eq false o = refl
then_next_eq true o = then_end o

then_next_end : (last : Bool) (o : Ordering) → then_next last o Ordering·eq ≡ o
then_next_end false o = then_end o
then_next_end true o = refl

then_next_assoc : (last : Bool) (o p q : Ordering) → then_next last (then_next last o p) q ≡ then_next last o (then_next last p q)
then_next_assoc false o p q = then_assoc o p q
then_next_assoc true o p q = sym (then_assoc q p o)

-- Rows one behind the other.
pub row_before : (last : Bool) (xs ys vs ws : Values) → count xs ≡ count ys →
    row_order last (xs before vs) (ys before ws) ≡ then_next last (row_order last xs ys) (row_order last vs ws)
unfolding row_order
row_before last none none vs ws e = sym (then_next_eq last (row_order last vs ws))
row_before last none (y ▸ ys) vs ws e = absurd (omega arith)
row_before last (x ▸ xs) none vs ws e = absurd (omega arith)
row_before last (x ▸ xs) (y ▸ ys) vs ws e =
    ap (then_next last (order x y)) (row_before last xs ys vs ws (omega arith))
    ∙ sym (then_next_assoc last (order x y) (row_order last xs ys) (row_order last vs ws))

-- The first value of a row, and those behind it.
pub row_some : (s : List ℕ) (at n : ℕ) (v : Value) (vs : Values) → RowAt s at n (v ▸ vs) → SomeAt s at
row_some s at n v vs h = record { value = v; stands = first_stands s at v vs h.stands; fits = h.fit.0 }

row_rest : (s : List ℕ) (at n : ℕ) (v : Value) (vs : Values) → RowAt s at n (v ▸ vs) → (e : ℕ) → e ≡ at + weight v → RowAt s e (n - 1) vs
row_rest s at n v vs h e p = record {
  stands = rw p (rest_stand s at v vs h.stands);
  fit = h.fit.1;
  counted = omega (arith, h.counted);
}

-- What stands behind a value's own cell is a row.
inner_row : (s : List ℕ) (at : ℕ) (v : Value) → ValueAt s at v → CellsFit v → RowAt s (at + 1) (parts_of (get_or s at 0)) (inner v)
inner_row s at v h f = record {
  stands = stands_tail s at (own_cell v) (codes (inner v)) (rw (code_inner v) at h);
  fit = fit_inner v f;
  counted = parts_stand s at v h f;
}

-- Rows of which nothing has been compared.
pub left_start : (s : List ℕ) (a b n : ℕ) (last : Bool) (vs ws : Values) → RowAt s a n vs → RowAt s b n ws →
    SomeLeft s a b n last Equal (row_order last vs ws) (a + weights vs) (b + weights ws)
left_start s a b n last vs ws h k = (
  vs,
  ws,
  record {
    passed = Ordering·eq;
    known = refl;
    first = h;
    second = k;
    first_end = refl;
    second_end = refl;
    decides = then_next_eq last (row_order last vs ws);
  },
)

module _ {s : List ℕ} {i j n : ℕ} {last : Bool} {c : RustOrdering} {whole : Ordering} {e f : ℕ} where
  -- Both rows have a next value.
  pub left_some : SomeLeft s i j n last c whole e f → 0 < n → SomeAt s i × SomeAt s j
  left_some (none, ws, h) l = absurd (omega (arith, h.first.counted))
  left_some (v ▸ vs, none, h) l = absurd (omega (arith, h.second.counted))
  left_some (v ▸ vs, w ▸ ws, h) l = (row_some s i n v vs h.first, row_some s j n w ws h.second)

  -- The next values have been compared.
  pub left_next : SomeLeft s i j n last c whole e f → 0 < n → (r : Rows) → ValuesCompared s i j r → (d : RustOrdering) → ThenNext last c r.order d →
      SomeLeft s r.a r.b (n - 1) last d whole e f
  unfolding row_order
  left_next (none, ws, h) l r m d q = absurd (omega (arith, h.first.counted))
  left_next (v ▸ vs, none, h) l r m d q = absurd (omega (arith, h.second.counted))
  left_next (v ▸ vs, w ▸ ws, h) l r m d q =
      let x = first_stands s i v vs h.first.stands in
      let y = first_stands s j w ws h.second.stands in
      let z = m v w x y h.first.fit.0 h.second.fit.0 in (
        vs,
        ws,
        record {
          passed = then_next last h.passed (order v w);
          known = q h.passed (order v w) h.known z.order;
          first = row_rest s i n v vs h.first r.a z.first;
          second = row_rest s j n w ws h.second r.b z.second;
          first_end = omega (arith, h.first_end, z.first);
          second_end = omega (arith, h.second_end, z.second);
          decides = then_next_assoc last h.passed (order v w) (row_order last vs ws) ∙ h.decides;
        },
      )

  pub left_forward : SomeLeft s i j n last c whole e f → 0 < n → (r : Rows) → ValuesCompared s i j r → i ≤ r.a
  left_forward (none, ws, h) l r m = absurd (omega (arith, h.first.counted))
  left_forward (v ▸ vs, none, h) l r m = absurd (omega (arith, h.second.counted))
  left_forward (v ▸ vs, w ▸ ws, h) l r m =
      omega (arith, (m v w (first_stands s i v vs h.first.stands) (first_stands s j w ws h.second.stands) h.first.fit.0 h.second.fit.0).first)

  -- None is left.
  pub left_end : SomeLeft s i j n last c whole e f → n ≡ 0 → (c ≡ ordering_of whole) × (i ≡ e) × (j ≡ f)
  unfolding row_order
  left_end (v ▸ vs, ws, h) l = absurd (omega (arith, h.first.counted))
  left_end (none, w ▸ ws, h) l = absurd (omega (arith, h.second.counted))
  left_end (none, none, h) l =
      (h.known ∙ ap ordering_of (sym (then_next_end last h.passed) ∙ h.decides), omega (arith, h.first_end), omega (arith, h.second_end))

-- The same by the number of the value among n.
pub left_on : {s : List ℕ} {i j n k : ℕ} {last : Bool} {c : RustOrdering} {whole : Ordering} {e f : ℕ} → SomeLeft s i j (n - k) last c whole e f → k < n →
    (r : Rows) → ValuesCompared s i j r → (d : RustOrdering) → ThenNext last c r.order d → SomeLeft s r.a r.b (n - (k + 1)) last d whole e f
left_on {s} {n = n} {k} {last} {whole = whole} {e} {f} h l r m d q =
    let z : n - k - 1 ≡ n - (k + 1) = omega arith in
    subst (λ (x : ℕ). SomeLeft s r.a r.b x last d whole e f) z (left_next h (let y : 0 < n - k = omega arith in y) r m d q)

pub inner_some : (s : List ℕ) (at : ℕ) → SomeAt s at → (n : ℕ) → n ≡ parts_of (get_or s at 0) → SomeRow s (at + 1) n
inner_some s at h n e = (inner h.value, rw e (inner_row s at h.value h.stands h.fits))

-- Two values with the same own cell: what stands behind these has been compared.
set_tag : (v : Value) → CellsFit v → is_set v ≡ ltb (4 * cell_size) (own_cell v)
set_tag (scalar x) f = sym (le-ltb (4 * cell_size) (own_cell (scalar x)) (omega (arith, scalar_small x f)))
set_tag (pair v w) f = refl
set_tag (set vs) f = sym (lt-ltb (4 * cell_size) (own_cell (set vs)) (omega arith))

pub values_compared : (s : List ℕ) (a b n : ℕ) (r : Rows) → get_or s a 0 ≡ get_or s b 0 → n ≡ parts_of (get_or s a 0) →
    RowsCompared s (a + 1) (b + 1) n (ltb (4 * cell_size) (get_or s a 0)) r → ValuesCompared s a b r
values_compared s a b n r e f m v w h k p q =
    let x = stands_own s a v h in
    let y = stands_own s b w k in
    let z = m (inner v) (inner w) (rw f (inner_row s a v h p)) (rw (f, e) (inner_row s b w k q)) in
    let l = set_tag v p ∙ ap (ltb (4 * cell_size)) (sym x) in
    let o = own_same v w p q (sym x ∙ e ∙ y) ∙ ap (λ (l : Bool). row_order l (inner v) (inner w)) l in
    record {
      order = z.order ∙ ap ordering_of (sym o);
      first = omega (arith, z.first, weight_inner v);
      second = omega (arith, z.second, weight_inner w);
    }

-- Two values whose own cells differ: the order of these, and where the values end.
pub values_apart : (s : List ℕ) (a b : ℕ) (r : Rows) → (get_or s a 0 ≡ get_or s b 0 → ⊥) → r.order ≡ nat_cmp (get_or s a 0) (get_or s b 0) →
    EndsAt s a r.a → EndsAt s b r.b → ValuesCompared s a b r
values_apart s a b r n o e f v w h k p q =
    let x = stands_own s a v h in
    let y = stands_own s b w k in
    let c : compare (get_or s a 0) (get_or s b 0) ≡ order v w = rw (x, y) (sym (own_apart v w p q (λ z. n (x ∙ z ∙ sym y)))) in
    record {
      order = o ∙ cmp_is (get_or s a 0) (get_or s b 0) ∙ ap ordering_of c;
      first = e v h p;
      second = f w k q;
    }

-- Two scalars: their cells decide.
pub cells_compared : (s : List ℕ) (a b : ℕ) (r : Rows) → get_or s a 0 < 4 * cell_size → get_or s b 0 < 4 * cell_size →
    r.order ≡ nat_cmp (get_or s a 0) (get_or s b 0) → r.a ≡ a + 1 → r.b ≡ b + 1 → ValuesCompared s a b r
cells_compared s a b r l m o e f v w h k p q =
    let x = one_cell s a l v h p in
    let y = one_cell s b m w k q in
    record {
      order = o ∙ cmp_is (get_or s a 0) (get_or s b 0) ∙ cell_compared s a b (one_cell s b m) v w h k p q;
      first = e ∙ x;
      second = f ∙ y;
    }

-- `compare_cells`: i scalars of n values have been passed in both rows.
abbrev pub LeftFrom : List ℕ → ℕ → ℕ → ℕ → Bool → RustOrdering → ℕ → Type 0
LeftFrom s a b n last c i =
    (vs ws : Values) → RowAt s a n vs → RowAt s b n ws →
    SomeLeft s (a + i) (b + i) (n - i) last c (row_order last vs ws) (a + weights vs) (b + weights ws)

module _ (s : List ℕ) (a b n : ℕ) (last : Bool) where
  pub cells_start : LeftFrom s a b n last Equal 0
  cells_start vs ws h k =
      let z : n ≡ n - 0 = omega arith in
      rw (add-zero a, add-zero b)
      (subst (λ (m : ℕ). SomeLeft s a b m last Equal (row_order last vs ws) (a + weights vs) (b + weights ws)) z (left_start s a b n last vs ws h k))

  module _ (c : RustOrdering) (i : ℕ) (f : LeftFrom s a b n last c i) where
    pub cells_inside : SomeRow s a n → SomeRow s b n → i < n → (a + i < length s) × (b + i < length s)
    cells_inside (vs, h) (ws, k) l =
        let x = left_some (f vs ws h k) (omega arith) in
        (some_inside s (a + i) x.0, some_inside s (b + i) x.1)

    pub cells_next : i < n → get_or s (a + i) 0 < 4 * cell_size → get_or s (b + i) 0 < 4 * cell_size → (o d : RustOrdering) →
        o ≡ nat_cmp (get_or s (a + i) 0) (get_or s (b + i) 0) → ThenNext last c o d → LeftFrom s a b n last d (i + 1)
    cells_next l x y o d e q vs ws h k =
        let r : Rows = record { order = o; a = a + (i + 1); b = b + (i + 1) } in
        subst (λ (m : ℕ). SomeLeft s (a + (i + 1)) (b + (i + 1)) m last d (row_order last vs ws) (a + weights vs) (b + weights ws))
        (let z : n - i - 1 ≡ n - (i + 1) = omega arith in z)
        (left_next (f vs ws h k) (omega arith) r (cells_compared s (a + i) (b + i) r x y e (omega arith) (omega arith)) d q)

    pub cells_end : i ≤ n → RowsBegun s a b n last (record { order = c; a = a + i; b = b + i })
    cells_end l = record {
      behind = omega arith;
      few = omega arith;
      left = λ vs ws h k.
          subst (λ (m : ℕ). SomeLeft s (a + i) (b + i) m last c (row_order last vs ws) (a + weights vs) (b + weights ws))
          (let z : n - i ≡ n - (a + i - a) = omega arith in z) (f vs ws h k);
    }

    pub cells_all : i ≡ n → RowsBegun s a b n last (record { order = c; a = a + n; b = b + n })
    cells_all e =
        subst (λ (j : ℕ). RowsBegun s a b n last (record { order = c; a = a + j; b = b + j })) e (cells_end (let z : i ≤ n = omega arith in z))
