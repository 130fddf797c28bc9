-- Rows of cells. The search halves what is left (`Halving`). The members of a set that weigh one cell each, known by the first
-- (`flat_cells`), make a row (`cells_row`), and a value is a member where its cell is in the row (`cell_in`).
use Rattle.sets.proofs.Base.{ℕ, zero, suc, ◌+◌, ◌*◌, ◌-◌, ◌%◌, ◌≤◌, ◌<◌, compare, Option, Some, None, is_some, true, false, List, inl, inr, ◌≡◌, refl, sym, ap, ◌∙◌, subst, arith, ℕ_discrete, length, get_or}
use Rattle.sets.proofs.Terms.{Value, scalar, pair, set, Values, none, ◌▸◌, members, weight, order, is_in, cell_size, code, ValueAt, Same, CellsFit, EndsAt, parts_of, AllWeigh, EvenSet, SetBelow, SomeSet, ValueBelow, Front, Cells, RunEnds, Row, Found, FineValue, SomeFine}
use Rattle.rules.proofs.Basics.{bool_eq}
use Rattle.laws.proofs.OrderLaws.{order_eq, compare_refl, compare_lt, before_order}
use Rattle.laws.proofs.Membership.{In, is_in_right}
use Rattle.laws.proofs.CellsLaws.{weight_some, count_weights}
use Rattle.arena.proofs.CodeLaws.{length_code, length_codes, fits_small, scalar_small}
use Rattle.arena.proofs.Standing.{leaf_ends, leaf_parts, stands_own}
use Rattle.arena.proofs.ValueParts.{ends_at, scalar_cell_law, scalar_one}
use Rattle.arena.proofs.FrontLaws.{fit_small, front_start, front_value, front_next}
use Rattle.arena.proofs.EvenLaws.{weights_even, behind, value_at_law, cell_order}

-- `lower_bound`: of the cells passed, those before `from` are below x and those from `from + left` on are not.
pub record Halving (s : List ℕ) (at step n x from left : ℕ) : Type 0 where
  pub few : from + left ≤ n
  pub below : (i : ℕ) → i < from → get_or s (at + step * i) 0 < x
  pub above : (i : ℕ) → from + left ≤ i → i < n → x ≤ get_or s (at + step * i) 0

-- Cell m is below x, and so are those before it; or it is not, and neither are those behind it. k cells are left then.
module _ {s : List ℕ} {at step n x from left : ℕ} (h : Halving s at step n x from left) (row : Row s at step n) {m : ℕ} (inside : m < n) {k : ℕ} where
  pub halving_up : m + 1 + k ≡ from + left → get_or s (at + step * m) 0 < x → Halving s at step n x (m + 1) k
  halving_up e l = record {
    few = omega (arith, h.few);
    below = λ i p. omega (arith, row.rises i m (omega arith) inside);
    above = λ i p q. h.above i (omega arith) q;
  }

  pub halving_down : from + k ≡ m → x ≤ get_or s (at + step * m) 0 → Halving s at step n x from k
  halving_down e l = record { few = omega arith; below = h.below; above = λ i p q. omega (arith, row.rises m i (omega arith) q) }

-- A row of numbers, each no less than the one before it.
pub climb : (f : ℕ → ℕ) (n : ℕ) → ((i : ℕ) → suc i < n → f i ≤ f (suc i)) → (i j : ℕ) → i ≤ j → j < n → f i ≤ f j
climb f n h i zero l k = let e : i ≡ 0 = omega arith in rw e (omega arith)
climb f n h i (suc j) l k = elim (ℕ_discrete i (suc j)) [
  | yes e ↦ rw e (omega arith)
  | no d ↦ omega (arith, climb f n h i j (omega arith) (omega arith), h j k)
]

-- What holds of two neighbours in a row of values that each weigh k.
pub neighbours : (s : List ℕ) (top at n k : ℕ) (Q : Values → Type 0) (one : (v : Value) (vs : Values) → Q (v ▸ vs) → (weight v ≡ k) × Q vs)
    (P : ℕ → ℕ → Type 0) → ((i m : ℕ) (v w : Value) (ws : Values) → Front s top i m (v ▸ w ▸ ws) → Q (v ▸ w ▸ ws) → P i (i + k)) →
    (vs : Values) → Front s top at n vs → Q vs → (i : ℕ) → suc i < n → P (at + k * i) (at + k * suc i)
neighbours s top at n k Q one P p vs f h i l =
    let b = behind s top at n k Q one vs f h i (omega arith) in
    subst (P (at + k * i)) (let e : at + k * i + k ≡ at + k * suc i = omega arith in e) (two b.rest b.front b.row)
  where
    two : (ws : Values) → Front s top (at + k * i) (n - i) ws → Q ws → P (at + k * i) (at + k * i + k)
    two none g e = absurd (omega (arith, g.counted))
    two (v ▸ none) g e = absurd (omega (arith, g.counted))
    two (v ▸ w ▸ ws) g e = p (at + k * i) (n - i) v w ws g e

one_each : (v : Value) (vs : Values) → AllWeigh 1 (v ▸ vs) → (weight v ≡ 1) × AllWeigh 1 vs
one_each v vs h = h

-- Members of one cell each, told by their weight or by their places.
cells_of : {s : List ℕ} {top at n : ℕ} {vs : Values} → Front s top at n vs → AllWeigh 1 vs → Cells s at n
cells_of {s} {top} {at} {n} {vs} f h = record {
  inside = omega (arith, f.stands.inside, length_codes vs, weights_even 1 vs h, f.counted);
  each = λ i l. subst (λ (j : ℕ). parts_of (get_or s j 0) ≡ 0) (let e : at + 1 * i ≡ at + i = omega arith in e)
      (value_at_law s top at n 1 (AllWeigh 1) one_each (λ j. parts_of (get_or s j 0) ≡ 0)
      (λ j m w ws g e. leaf_parts s j w (front_value s top j m w ws g) g.fits.0 e.0) vs f h i l);
}

pub cells_part : {s : List ℕ} {at n : ℕ} {i k : ℕ} → Cells s at n → at ≤ i → i + k ≤ at + n → Cells s i k
cells_part {s} {at} {n} {i} {k} c l e = record {
  inside = omega (arith, c.inside);
  each = λ x p. subst (λ (j : ℕ). parts_of (get_or s j 0) ≡ 0) (let d : at + (i - at + x) ≡ i + x = omega arith in d) (c.each (i - at + x) (omega arith));
}

pub cells_first : {s : List ℕ} {at n : ℕ} → Cells s at n → 0 < n → EndsAt s at (at + 1)
cells_first {s} {at} c l = leaf_ends s at (subst (λ (j : ℕ). parts_of (get_or s j 0) ≡ 0) (let d : at + 0 ≡ at = omega arith in d) (c.each 0 l))

pub cells_frame : {k : ℕ} {s s' : List ℕ} {at n : ℕ} → Same k s s' → at + n ≤ k → Cells s at n → Cells s' at n
cells_frame {at = at} f l c = record {
  inside = omega (arith, c.inside, f.kept);
  each = λ i p. ap parts_of (f.same (at + i) (omega arith)) ∙ c.each i p;
}

pub cells_weigh : {s : List ℕ} {top at n : ℕ} {vs : Values} → Front s top at n vs → Cells s at n → AllWeigh 1 vs
cells_weigh {vs = none} f c = tt
cells_weigh {s} {top} {at} {n} {vs = v ▸ vs} f c =
    let e : weight v ≡ 1 = omega (arith, cells_first c (omega (arith, f.counted)) v (front_value s top at n v vs f) f.fits.0) in
    let g = front_next s top at n v vs f (at + 1) (n - 1) (omega arith) (omega (arith, f.counted)) in
    (e, cells_weigh {at = at + 1} {n = n - 1} {vs = vs} g (cells_part c (omega arith) (omega (arith, f.counted))))

pub cells_end : {s : List ℕ} {at n : ℕ} → Cells s at n → RunEnds s at n (at + n)
cells_end c top vs f = omega (arith, weights_even 1 vs (cells_weigh f c), f.counted)

-- The first member's cell tells that all members are one cell each.
module _ {s : List ℕ} {top a : ℕ} {vs : Values} (h : SetBelow s top a vs) where
  listing : Front s top (a + 1) (get_or s a 0 % 4294967296) vs
  listing = front_start s top a vs h (get_or s a 0 % 4294967296) refl

  pub flat_cells : get_or s (a + 1) 0 < 4 * cell_size → Cells s (a + 1) (get_or s a 0 % 4294967296)
  flat_cells l = go vs listing h.fine.even
    where
      go : (ws : Values) → Front s top (a + 1) (get_or s a 0 % 4294967296) ws → EvenSet ws → Cells s (a + 1) (get_or s a 0 % 4294967296)
      go none f e = cells_of f tt
      go (v ▸ ws) f e =
          let q = scalar_one v (scalar_cell_law s (a + 1) v (front_value s top (a + 1) _ v ws f) f.fits.0 l) in
          cells_of f (q.0, subst (λ (k : ℕ). AllWeigh k ws) q.0 (e q.1))

  -- there is a cell behind the set's own
  pub first_inside : (get_or s a 0 % 4294967296 ≡ 0 → ⊥) → a + 1 < length s
  first_inside e = let f = listing in omega (arith, f.stands.inside, length_codes vs, f.counted, count_weights vs)

  -- where the set ends, if they are
  pub cells_ends : Cells s (a + 1) (get_or s a 0 % 4294967296) → EndsAt s a (a + 1 + get_or s a 0 % 4294967296)
  cells_ends c = subst (EndsAt s a) (omega (arith, cells_end c top vs listing)) (ends_at s a (set vs) h.stands h.fine.fits)

-- A cell that is not below that of the empty set is a set's.
pub fine_set : (s : List ℕ) (at : ℕ) → SomeFine s at → 5 * cell_size ≤ get_or s at 0 → SomeSet s (length s) at
fine_set s at h l = go h.0 h.1 h.2
  where
    go : (v : Value) → ValueBelow s (length s) at v → FineValue v → SomeSet s (length s) at
    go (scalar x) b f = absurd (omega (arith, stands_own s at (scalar x) b.stands, scalar_small x b.fits))
    go (pair v w) b f = absurd (omega (arith, stands_own s at (pair v w) b.stands))
    go (set vs) b f = (vs, record { stands = b.stands; below = b.below; fine = f })

-- Members of one cell each make a row.
pub cells_row : {s : List ℕ} {top at n : ℕ} {vs : Values} → Front s top at n vs → Cells s at n → Row s at 1 n
cells_row {s} {top} {at} {n} {vs} f c = record {
  inside = λ i l. omega (arith, c.inside);
  rises = climb (λ i. get_or s (at + 1 * i) 0) n
      (neighbours s top at n 1 (AllWeigh 1) one_each (λ i j. get_or s i 0 ≤ get_or s j 0) rise vs f (cells_weigh f c));
}
  where
    rise : (i m : ℕ) (v w : Value) (ws : Values) → Front s top i m (v ▸ w ▸ ws) → AllWeigh 1 (v ▸ w ▸ ws) → get_or s i 0 ≤ get_or s (i + 1) 0
    rise i m v w ws g e =
        let k = front_next s top i m v (w ▸ ws) g (i + 1) (m - 1) (omega (arith, e.0)) (omega (arith, g.counted)) in
        let o : order v w ≡ compare (get_or s i 0) (get_or s (i + 1) 0) =
        cell_order s i (i + 1) v w (front_value s top i m v (w ▸ ws) g) (front_value s top (i + 1) (m - 1) w ws k) g.fits.0 k.fits.0 e.1.0 in
        omega (arith, compare_lt (get_or s i 0) (get_or s (i + 1) 0) (sym o ∙ before_order v w g.rises.0))

-- A member of a row of values that each weigh k stands at one of the places.
pub place_of : (s : List ℕ) (top k : ℕ) (Q : Values → Type 0) (one : (v : Value) (vs : Values) → Q (v ▸ vs) → (weight v ≡ k) × Q vs) (x : Value)
    (at n : ℕ) (vs : Values) → Front s top at n vs → Q vs → In x (members vs) → (i : ℕ) × (i < n) × ValueAt s (at + k * i) x
place_of s top k Q one x at n none f h i = absurd i
place_of s top k Q one x at n (v ▸ vs) f h (inl e) =
    (0, omega (arith, f.counted), rw (e, let z : at + k * 0 ≡ at = omega arith in z) (front_value s top at n v vs f))
place_of s top k Q one x at n (v ▸ vs) f h (inr i) =
    let w = one v vs h in
    let g = front_next s top at n v vs f (at + k) (n - 1) (omega (arith, w.0)) (omega (arith, f.counted)) in
    let r = place_of s top k Q one x (at + k) (n - 1) vs g w.1 i in
    (suc r.0, omega (arith, r.1), subst (λ (j : ℕ). ValueAt s j x) (let z : at + k + k * r.0 ≡ at + k * suc r.0 = omega arith in z) r.2)

-- Two places of one value have one cell; a value of one cell is told by it.
pub same_cell : (s : List ℕ) (a b : ℕ) (v : Value) → ValueAt s a v → ValueAt s b v → get_or s a 0 ≡ get_or s b 0
same_cell s a b v h k =
    let l : 0 < length (code v) = omega (arith, length_code v, weight_some v) in
    rw (let z : a ≡ a + 0 = omega arith in z, let z : b ≡ b + 0 = omega arith in z) (h.cells 0 l ∙ sym (k.cells 0 l))

pub cell_tells : (s : List ℕ) (a b : ℕ) (v w : Value) → ValueAt s a v → ValueAt s b w → CellsFit v → CellsFit w → weight w ≡ 1 →
    get_or s b 0 ≡ get_or s a 0 → w ≡ v
cell_tells s a b v w h k p q one e =
    sym (order_eq v w (fits_small v p) (fits_small w q)
    (cell_order s a b v w h k p q one ∙ ap (compare (get_or s a 0)) e ∙ compare_refl (get_or s a 0)))

-- A value is a member where its cell is one of the members' cells.
module _ {s : List ℕ} {e k : ℕ} {v : Value} (value : ValueBelow s k e v) {top at n : ℕ} {vs : Values} (f : Front s top at n vs) (c : Cells s at n) where
  among : (i : ℕ) → i < n → get_or s (at + 1 * i) 0 ≡ get_or s e 0 → In v (members vs)
  among =
      value_at_law s top at n 1 (λ ws. AllWeigh 1 ws × ((x : Value) → In x (members ws) → In x (members vs)))
      (λ w ws h. (h.0.0, (h.0.1, λ x j. h.1 x (inr j)))) (λ j. get_or s j 0 ≡ get_or s e 0 → In v (members vs))
      (λ j m w ws g h z. h.1 v (inl (sym (cell_tells s e j v w value.stands (front_value s top j m w ws g) value.fits g.fits.0 h.0.0 z))))
      vs f (cells_weigh f c, λ x j. j)

  pub cell_in : (r : Option ℕ) → Found s at 1 n (get_or s e 0) r → is_some r ≡ is_in v (members vs)
  cell_in (Some i) d =
      let right = is_in_right v (members vs) (fits_small v value.fits) (fit_small vs f.fits) in
      let here = d.here i refl in
      bool_eq true (is_in v (members vs)) (λ _. right.1 (among i here.0 here.1)) (λ _. tt)
  cell_in None d =
      let right = is_in_right v (members vs) (fits_small v value.fits) (fit_small vs f.fits) in
      bool_eq false (is_in v (members vs)) (λ t. absurd t) λ t.
      let x = place_of s top 1 (AllWeigh 1) one_each v at n vs f (cells_weigh f c) (right.0 t) in
      absurd (d.lost refl x.0 x.1 (same_cell s (at + 1 * x.0) e v x.2 value.stands))
