-- `compare`: the cells of two values agree up to i, none of them that of a set with members; what is left of both are rows of which the first
-- difference decides (`Undecided`). The next values, x and y, decide where their own cells differ, and are opened where these agree (`pass`).
use Rattle.arena.proofs.Base.{ℕ, ◌+◌, ◌*◌, ◌-◌, ◌≤◌, ◌<◌, compare, Ordering, Ordering·eq, false, List, ◌≡◌, refl, sym, ap, ◌∙◌, subst, arith, length, get_or, Equal, nat_cmp}
use Rattle.rules.specs.Values.{Value, scalar, pair, set, Values, none, ◌▸◌, count, weight, weights, ◌then◌, order}
use Rattle.laws.proofs.OrderLaws.{then_end, then_first, compare_refl, compare_eq}
use Rattle.laws.proofs.CellsLaws.{weight_some}
use Rattle.arena.specs.Code.{cell_size, ValueAt, CellsFit, ordering_of, parts_of, row_order, RowAt}
use Rattle.arena.proofs.Standing.{own_cell, inner, ◌before◌, weight_inner, weights_before, stands_own, parts_stand, first_stands, row_one, row_open}
use Rattle.arena.proofs.ValueParts.{some_inside}
use Rattle.arena.proofs.CellOrder.{cmp_is, own_apart, own_same, is_set}
use Rattle.arena.proofs.RowOrder.{row_some, row_before}

-- Of v and w, whose cells agree up to i, vs and ws are left.
pub record ValuesLeft (s : List ℕ) (a b i : ℕ) (v w : Value) (n : ℕ) (vs ws : Values) : Type 0 where
  pub first : RowAt s (a + i) n vs
  pub second : RowAt s (b + i) n ws
  pub ends : i + weights vs ≡ weight v
  pub decides : row_order false vs ws ≡ order v w

abbrev pub Undecided : List ℕ → ℕ → ℕ → ℕ → Value → Value → Type 0
Undecided s a b i v w = (n : ℕ) × (vs : Values) × (ws : Values) × ValuesLeft s a b i v w n vs ws

-- A row, its place told in another way.
moved : {s : List ℕ} {j n : ℕ} {vs : Values} → RowAt s j n vs → (k : ℕ) → k ≡ j → RowAt s k n vs
moved {s} {n = n} {vs} h k e = subst (λ (i : ℕ). RowAt s i n vs) (sym e) h

pub undecided_start : (s : List ℕ) (a b : ℕ) (v w : Value) → ValueAt s a v → ValueAt s b w → CellsFit v → CellsFit w → Undecided s a b 0 v w
unfolding row_order
undecided_start s a b v w h k p q = (
  1,
  v ▸ none,
  w ▸ none,
  record {
    first = moved (row_one s a v h p) (a + 0) (omega arith);
    second = moved (row_one s b w k q) (b + 0) (omega arith);
    ends = omega arith;
    decides = then_end (order v w);
  },
)

-- Behind an own cell that is not of a set with members the first difference decides.
other_inner : (x y : Value) → own_cell x ≤ 5 * cell_size → row_order (is_set x) (inner x) (inner y) ≡ row_order false (inner x) (inner y)
unfolding row_order
other_inner (scalar u) y l = refl
other_inner (pair t u) y l = refl
other_inner (set none) y l = refl
other_inner (set (u ▸ us)) y l = absurd (omega arith)

module _ (s : List ℕ) (a b i : ℕ) (v w : Value) where
  -- Where v has not ended, both have a next value.
  at_next : Undecided s a b i v w → i < weight v → (Q : Type 0) →
      ((n : ℕ) (x y : Value) (vs ws : Values) → ValuesLeft s a b i v w n (x ▸ vs) (y ▸ ws) → Q) → Q
  at_next (n, none, ws, h) l Q k = absurd (omega (arith, h.ends))
  at_next (n, x ▸ vs, none, h) l Q k = absurd (omega (arith, h.first.counted, h.second.counted))
  at_next (n, x ▸ vs, y ▸ ws, h) l Q k = k n x y vs ws h

  module _ {n : ℕ} {x y : Value} {vs ws : Values} (h : ValuesLeft s a b i v w n (x ▸ vs) (y ▸ ws)) where
    first_here : ValueAt s (a + i) x
    first_here = first_stands s (a + i) x vs h.first.stands

    second_here : ValueAt s (b + i) y
    second_here = first_stands s (b + i) y ws h.second.stands

    first_own : get_or s (a + i) 0 ≡ own_cell x
    first_own = stands_own s (a + i) x first_here

    second_own : get_or s (b + i) 0 ≡ own_cell y
    second_own = stands_own s (b + i) y second_here

    -- a difference between x and y decides
    whole : (order x y then row_order false vs ws) ≡ order v w
    unfolding row_order
    whole = h.decides

    differ : (o : Ordering) → (o ≡ Ordering·eq → ⊥) → order x y ≡ o → order v w ≡ o
    differ o d e = sym whole ∙ ap (λ (p : Ordering). p then row_order false vs ws) e ∙ then_first o (row_order false vs ws) d

    -- their own cells differ
    apart : (o : Ordering) → (o ≡ Ordering·eq → ⊥) → compare (get_or s (a + i) 0) (get_or s (b + i) 0) ≡ o → order v w ≡ o
    apart o d e =
        let c : compare (own_cell x) (own_cell y) ≡ o = rw (first_own, second_own) at e in
        let n : own_cell x ≡ own_cell y → ⊥ = λ z. d (sym c ∙ ap (compare (own_cell x)) (sym z) ∙ compare_refl (own_cell x)) in
        differ o d (own_apart x y h.first.fit.0 h.second.fit.0 n ∙ c)

    -- their own cells are the same
    module _ (e : get_or s (a + i) 0 ≡ get_or s (b + i) 0) where
      inner_order : order x y ≡ row_order (is_set x) (inner x) (inner y)
      inner_order = own_same x y h.first.fit.0 h.second.fit.0 (sym first_own ∙ e ∙ second_own)

      -- not those of sets with members
      pass : get_or s (a + i) 0 ≤ 5 * cell_size → Undecided s a b (i + 1) v w
      pass l =
          let m = parts_stand s (a + i) x first_here h.first.fit.0 in
          let k = parts_stand s (b + i) y second_here h.second.fit.0 in
          let c : count (inner x) ≡ count (inner y) = m ∙ ap parts_of e ∙ sym k in
          let o = inner_order ∙ other_inner x y (rw first_own at l) in (
            n - 1 + parts_of (get_or s (a + i) 0),
            inner x before vs,
            inner y before ws,
            record {
              first = moved (row_open s (a + i) n x vs h.first) (a + (i + 1)) (omega arith);
              second = rw e (moved (row_open s (b + i) n y ws h.second) (b + (i + 1)) (omega arith));
              ends = omega (arith, weights_before (inner x) vs, weight_inner x, h.ends);
              decides = row_before false (inner x) (inner y) vs ws c ∙ ap (λ (p : Ordering). p then row_order false vs ws) (sym o) ∙ whole;
            },
          )

  -- The next cells, as `compare` meets them.
  module _ (p : Undecided s a b i v w) (l : i < weight v) where
    pub undecided_inside : (a + i < length s) × (b + i < length s)
    undecided_inside = at_next p l _ (λ n x y vs ws h.
        (some_inside s (a + i) (row_some s (a + i) n x vs h.first), some_inside s (b + i) (row_some s (b + i) n y ws h.second)))

    pub first_apart : (get_or s (a + i) 0 ≡ get_or s (b + i) 0 → ⊥) → nat_cmp (get_or s (a + i) 0) (get_or s (b + i) 0) ≡ ordering_of (order v w)
    first_apart d = at_next p l _ (λ n x y vs ws h.
        cmp_is (get_or s (a + i) 0) (get_or s (b + i) 0) ∙ ap ordering_of (sym (apart h _ (λ e. d (compare_eq _ _ e)) refl)))

    pub cell_passed : get_or s (a + i) 0 ≡ get_or s (b + i) 0 → get_or s (a + i) 0 ≤ 5 * cell_size → Undecided s a b (i + 1) v w
    cell_passed e d = at_next p l _ (λ n x y vs ws h. pass h e d)

  pub undecided_end : Undecided s a b i v w → weight v ≤ i → Equal ≡ ordering_of (order v w)
  unfolding row_order
  undecided_end (n, x ▸ vs, ws, h) l = absurd (omega (arith, h.ends, weight_some x))
  undecided_end (n, none, y ▸ ws, h) l = absurd (omega (arith, h.first.counted, h.second.counted))
  undecided_end (n, none, none, h) l = ap ordering_of h.decides
