-- Values that stand in the arena: their cells one by one, where they end, how far two agree, and what copying keeps.
use Rattle.arena.proofs.Base.{ℕ, suc, ◌+◌, ◌*◌, ◌-◌, ◌/◌, ◌%◌, ◌≤◌, ◌<◌, List, ◌∷◌, ◌++◌, append_assoc, append-nil, ◌≡◌, refl, sym, ap, ◌∙◌, arith, add-zero, dec_lt, ℕ_discrete, length, get_or, length-append, list·get_d_append, get_or-append-add, eq-eqb, ne_eqb}
use Rattle.rules.specs.Values.{Value, scalar, pair, set, Values, none, ◌▸◌, scalar_tag, count, weight, weights}
use Rattle.arena.specs.Code.{cell_size, scalar_low, code, codes, Stands, ValueAt, ValuesAt, Same, CellsFit, AllFit, EndsAt, Copied, parts_of, RowAt}
use Rattle.arena.proofs.CodeLaws.{length_code, length_codes, scalar_small}
use Rattle.laws.proofs.CellsLaws.{count_weights}
use Rattle.prefix.specs.Forms.{Forms}
use Rattle.std.proofs.Common.{zero, drop, drop-cons, add-one, subst}

-- The first cell of a run, and the rest of it.
pub stands_head : (s : List ℕ) (at x : ℕ) (xs : List ℕ) → Stands s at (x ∷ xs) → get_or s at 0 ≡ x
stands_head s at x xs h = ap (λ (i : ℕ). get_or s i 0) (sym (add-zero at)) ∙ h.cells 0 (omega arith)

pub stands_tail : (s : List ℕ) (at x : ℕ) (xs : List ℕ) → Stands s at (x ∷ xs) → Stands s (at + 1) xs
stands_tail s at x xs h = record {
  inside = omega (arith, h.inside);
  cells = λ i p. ap (λ (j : ℕ). get_or s j 0) (let e : at + 1 + i ≡ at + suc i = omega arith in e) ∙ h.cells (suc i) (omega arith);
}

-- A run is its front and its back.
pub stands_front : (s : List ℕ) (at : ℕ) (xs ys : List ℕ) → Stands s at (xs ++ ys) → Stands s at xs
stands_front s at xs ys h = record {
  inside = omega (arith, h.inside, length-append xs ys);
  cells = λ i p. h.cells i (omega (arith, length-append xs ys)) ∙ list·get_d_append xs ys 0 i p;
}

pub stands_back : (s : List ℕ) (at : ℕ) (xs ys : List ℕ) → Stands s at (xs ++ ys) → Stands s (at + length xs) ys
stands_back s at xs ys h = record {
  inside = omega (arith, h.inside, length-append xs ys);
  cells = λ i p.
      ap (λ (j : ℕ). get_or s j 0) (let e : at + length xs + i ≡ at + (length xs + i) = omega arith in e)
      ∙ h.cells (length xs + i) (omega (arith, length-append xs ys)) ∙ get_or-append-add xs ys i 0;
}

pub stands_append : (s : List ℕ) (at : ℕ) (xs ys : List ℕ) → Stands s at xs → Stands s (at + length xs) ys → Stands s at (xs ++ ys)
stands_append s at xs ys h k = record { inside = omega (arith, k.inside, length-append xs ys); cells = λ i p. go i p (dec_lt i (length xs)) }
  where
    go : (i : ℕ) → i < length (xs ++ ys) → Dec (i < length xs) → get_or s (at + i) 0 ≡ get_or (xs ++ ys) i 0
    go i p (yes y) = h.cells i y ∙ sym (list·get_d_append xs ys 0 i y)
    go i p (no n) =
        let e : i ≡ length xs + (i - length xs) = omega arith in
        let a : at + i ≡ at + length xs + (i - length xs) = omega arith in
        let l : i - length xs < length ys = omega (arith, length-append xs ys) in
        ap (λ (j : ℕ). get_or s j 0) a ∙ k.cells (i - length xs) l ∙ sym (get_or-append-add xs ys (i - length xs) 0) ∙
        ap (λ (j : ℕ). get_or (xs ++ ys) j 0) (sym e)

-- The members of a set or the parts of a pair, before other values.
abbrev pub ◌before◌ : Values → Values → Values
none before ws = ws
(v ▸ vs) before ws = v ▸ (vs before ws)

infixr 40 ◌before◌
pub codes_before : (vs ws : Values) → codes (vs before ws) ≡ codes vs ++ codes ws
unfolding code
codes_before none ws = refl
codes_before (v ▸ vs) ws = ap (λ (l : List ℕ). code v ++ l) (codes_before vs ws) ∙ sym (append_assoc (code v) (codes vs) (codes ws))

pub count_before : (vs ws : Values) → count (vs before ws) ≡ count vs + count ws
count_before none ws = omega arith
count_before (v ▸ vs) ws = omega (arith, count_before vs ws)

pub weights_before : (vs ws : Values) → weights (vs before ws) ≡ weights vs + weights ws
weights_before none ws = omega arith
weights_before (v ▸ vs) ws = omega (arith, weights_before vs ws)

pub fit_before : (vs ws : Values) → AllFit vs → AllFit ws → AllFit (vs before ws)
fit_before none ws h k = k
fit_before (v ▸ vs) ws h k = (h.0, fit_before vs ws h.1 k)

-- A value's own cell, and the values within it, which stand behind it.
abbrev pub own_cell : Value → ℕ
own_cell (scalar x) = scalar_tag x * cell_size + scalar_low x
own_cell (pair v w) = 4 * cell_size
own_cell (set vs) = 5 * cell_size + count vs

abbrev pub inner : Value → Values
inner (scalar x) = none
inner (pair v w) = v ▸ w ▸ none
inner (set vs) = vs

pub code_inner : (v : Value) → code v ≡ own_cell v ∷ codes (inner v)
unfolding code
code_inner (scalar x) = refl
code_inner (pair v w) = ap (λ (l : List ℕ). (4 * cell_size) ∷ (code v ++ l)) (sym (append-nil (code w)))
code_inner (set vs) = refl

pub weight_inner : (v : Value) → weight v ≡ 1 + weights (inner v)
weight_inner (scalar x) = omega arith
weight_inner (pair v w) = omega arith
weight_inner (set vs) = omega arith

pub fit_inner : (v : Value) → CellsFit v → AllFit (inner v)
fit_inner (scalar x) f = tt
fit_inner (pair v w) f = (f.0, (f.1, tt))
fit_inner (set vs) f = f.1

pub stands_own : (s : List ℕ) (at : ℕ) (v : Value) → ValueAt s at v → get_or s at 0 ≡ own_cell v
stands_own s at v h = stands_head s at (own_cell v) (codes (inner v)) (rw (code_inner v) at h)

-- How many values follow a cell, by its tag.
pub parts_pair : (c t : ℕ) → t ≡ c / 4294967296 → t ≡ 4 → 2 ≡ parts_of c
parts_pair c t e h = rw (eq-eqb (c / 4294967296) 4 (sym e ∙ h))

pub parts_set : (c t l : ℕ) → t ≡ c / 4294967296 → (t ≡ 4 → ⊥) → t ≡ 5 → l ≡ c % 4294967296 → l ≡ parts_of c
parts_set c t l e n h k = rw (ne_eqb (c / 4294967296) 4 (λ f. n (e ∙ f)), eq-eqb (c / 4294967296) 5 (sym e ∙ h)) k

pub parts_scalar : (c t : ℕ) → t ≡ c / 4294967296 → (t ≡ 4 → ⊥) → (t ≡ 5 → ⊥) → 0 ≡ parts_of c
parts_scalar c t e n m = rw (ne_eqb (c / 4294967296) 4 (λ f. n (e ∙ f)), ne_eqb (c / 4294967296) 5 (λ f. m (e ∙ f)))

parts_inner : (v : Value) → CellsFit v → count (inner v) ≡ parts_of (own_cell v)
parts_inner (scalar x) f =
    let b = scalar_small x f in parts_scalar (own_cell (scalar x)) (scalar_tag x) (omega arith) (λ e. omega arith) (λ e. omega arith)
parts_inner (pair v w) f = refl
parts_inner (set vs) f = parts_set (own_cell (set vs)) 5 (count vs) (omega (arith, f.0)) (λ e. omega arith) refl (omega (arith, f.0))

pub parts_stand : (s : List ℕ) (at : ℕ) (v : Value) → ValueAt s at v → CellsFit v → count (inner v) ≡ parts_of (get_or s at 0)
parts_stand s at v h f = parts_inner v f ∙ ap parts_of (sym (stands_own s at v h))

-- A cell that no parts follow is a whole value.
none_weigh : (vs : Values) → count vs ≡ 0 → weights vs ≡ 0
none_weigh none e = refl
none_weigh (v ▸ vs) e = absurd (omega arith)

pub leaf_ends : (s : List ℕ) (at : ℕ) → parts_of (get_or s at 0) ≡ 0 → EndsAt s at (at + 1)
leaf_ends s at e v h f = omega (arith, weight_inner v, none_weigh (inner v) (parts_stand s at v h f ∙ e))

pub leaf_parts : (s : List ℕ) (at : ℕ) (v : Value) → ValueAt s at v → CellsFit v → weight v ≡ 1 → parts_of (get_or s at 0) ≡ 0
leaf_parts s at v h f e = omega (arith, weight_inner v, count_weights (inner v), parts_stand s at v h f)

-- The first of some values, and those behind it.
pub first_stands : (s : List ℕ) (at : ℕ) (v : Value) (vs : Values) → ValuesAt s at (v ▸ vs) → ValueAt s at v
unfolding code
first_stands s at v vs h = stands_front s at (code v) (codes vs) h

pub rest_stand : (s : List ℕ) (at : ℕ) (v : Value) (vs : Values) → ValuesAt s at (v ▸ vs) → ValuesAt s (at + weight v) vs
unfolding code
rest_stand s at v vs h = rw (← length_code v) (stands_back s at (code v) (codes vs) h)

-- Rows: a row of one value, how many cells there are, and the first value opened: its own cell passed.
pub row_one : (s : List ℕ) (at : ℕ) (v : Value) → ValueAt s at v → CellsFit v → RowAt s at 1 (v ▸ none)
unfolding code
row_one s at v h f = record { stands = rw (append-nil (code v)) h; fit = (f, tt); counted = refl }

pub row_inside : (s : List ℕ) (at n : ℕ) (vs : Values) → RowAt s at n vs → at + n ≤ length s
row_inside s at n vs h = omega (arith, h.stands.inside, length_codes vs, count_weights vs, h.counted)

pub row_open : (s : List ℕ) (at n : ℕ) (v : Value) (vs : Values) → RowAt s at n (v ▸ vs) →
    RowAt s (at + 1) (n - 1 + parts_of (get_or s at 0)) (inner v before vs)
unfolding code
row_open s at n v vs h = record {
  stands = rw (codes_before (inner v) vs) (stands_tail s at (own_cell v) (codes (inner v) ++ codes vs) (rw (code_inner v) at h.stands));
  fit = fit_before (inner v) vs (fit_inner v h.fit.0) h.fit.1;
  counted = omega (arith, count_before (inner v) vs, h.counted, parts_stand s at v (first_stands s at v vs h.stands) h.fit.0);
}

-- `left` values stand from i to e.
pub record Pending (s : List ℕ) (i left e : ℕ) : Type 0 where
  pub values : Values
  pub row : RowAt s i left values
  pub ends : i + weights values ≡ e

pub pending_start : (s : List ℕ) (at : ℕ) (v : Value) → ValueAt s at v → CellsFit v → Pending s at 1 (at + weight v)
pending_start s at v h f = record { values = v ▸ none; row = row_one s at v h f; ends = omega arith }

module _ (s : List ℕ) (i left e : ℕ) (p : Pending s i left e) where
  -- One cell further.
  pub pending_step : 0 < left → Pending s (i + 1) (left - 1 + parts_of (get_or s i 0)) e
  pending_step l = go p.values p.row p.ends
    where
      go : (vs : Values) → RowAt s i left vs → i + weights vs ≡ e → Pending s (i + 1) (left - 1 + parts_of (get_or s i 0)) e
      go none h en = absurd (omega (arith, h.counted))
      go (v ▸ vs) h en = record {
        values = inner v before vs;
        row = row_open s i left v vs h;
        ends = omega (arith, weights_before (inner v) vs, weight_inner v);
      }

  pub pending_inside : 0 < left → i < length s
  pending_inside l = omega (arith, row_inside s i left p.values p.row)

  pub pending_end : left ≡ 0 → i ≡ e
  pending_end z = omega (arith, none_weigh p.values (p.row.counted ∙ z), p.ends)

  pub pending_few : left ≤ length s
  pending_few = omega (arith, row_inside s i left p.values p.row)

-- Values that stand from i to e are forms in prefix order, as a step P sees them that answers how many parts follow a cell.
module _ (P : ℕ → ℕ → Type 0) (tells : (x r : ℕ) → P x r → r ≡ parts_of x) (s : List ℕ) where
  pending_forms : (n i left e : ℕ) → Pending s i left e → i + n ≡ e → Forms P n (drop i s) left
  unfolding Forms
  pending_forms zero i left e p z = omega (arith, p.row.counted, p.ends, count_weights p.values)
  pending_forms (suc n) i left e p z =
      let some : 0 < left = elim (ℕ_discrete left 0) [ yes q ↦ absurd (omega (arith, pending_end s i left e p q)) | no q ↦ omega arith ] in
      let d : get_or s i 0 ∷ drop (i + 1) s ≡ drop i s =
      ap (λ j. get_or s i 0 ∷ drop j s) (add-one i) ∙ sym (drop-cons s i 0 (pending_inside s i left e p some)) in
      subst (λ (xs : List ℕ). Forms P (suc n) xs left) d (
        some,
        omega (arith, p.row.counted, p.ends, count_weights p.values),
        λ r h. rw (tells _ r h) (pending_forms n (i + 1) _ e (pending_step s i left e p some) (omega arith)),
      )

  pub value_forms : (at : ℕ) (v : Value) → ValueAt s at v → CellsFit v → Forms P (weight v) (drop at s) 1
  value_forms at v h f = pending_forms (weight v) at 1 (at + weight v) (pending_start s at v h f) refl

-- Comparing two runs: the cells agree so far.
abbrev pub Agree : List ℕ → ℕ → ℕ → ℕ → Type 0
Agree s a b i = (j : ℕ) → j < i → get_or s (a + j) 0 ≡ get_or s (b + j) 0

pub cells_agree : (s : List ℕ) (a b : ℕ) (v w : Value) → ValueAt s a v → ValueAt s b w → (j : ℕ) → j < weight v → j < weight w →
    get_or s (a + j) 0 ≡ get_or s (b + j) 0 → get_or (code v) j 0 ≡ get_or (code w) j 0
cells_agree s a b v w h k j l m e = sym (h.cells j (omega (arith, length_code v))) ∙ e ∙ k.cells j (omega (arith, length_code w))

-- What stands below a frame stays, and frames compose.
pub stands_frame : (k : ℕ) (s s' : List ℕ) (at : ℕ) (xs : List ℕ) → Same k s s' → at + length xs ≤ k → Stands s at xs → Stands s' at xs
stands_frame k s s' at xs f l h = record {
  inside = omega (arith, f.kept, h.inside);
  cells = λ i p. f.same (at + i) (omega arith) ∙ h.cells i p;
}

pub same_refl : (k : ℕ) (s : List ℕ) → Same k s s
same_refl k s = record { same = λ i p. refl; kept = refl }

pub same_trans : (k m : ℕ) (s s' s'' : List ℕ) → Same k s s' → Same m s' s'' → k ≤ m → Same k s s''
same_trans k m s s' s'' f g l = record { same = λ i p. g.same i (omega arith) ∙ f.same i p; kept = g.kept ∙ f.kept }

-- A run that has been copied stands in its new place.
pub copied_stands : (s : List ℕ) (from n to : ℕ) (s' : List ℕ) (xs : List ℕ) → Copied s from n to s' → length xs ≡ n → to + n ≤ length s → Stands s from xs →
    Stands s' to xs
copied_stands s from n to s' xs c e l h = record {
  inside = omega (arith, c.kept);
  cells = λ i p. c.there i (omega arith) ∙ h.cells i p;
}
