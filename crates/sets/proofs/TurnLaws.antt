-- A turn of a walk over two sets, and inclusion, which takes such turns. Where the members are one cell each, a turn goes by the order of two cells as
-- numbers.
use Rattle.sets.proofs.Base.{ℕ, suc, RustOrdering, Less, Equal, Greater, Option, is_some, ◌+◌, ◌-◌, ◌≤◌, ◌<◌, Ordering, Ordering·lt, Ordering·eq, Ordering·gt, ◌%◌, Bool, true, false, cond, List, [], ◌∷◌, ◌≡◌, refl, sym, ap, ◌∙◌, subst, arith, length, get_or, eqb, eqb-true, eqb-false, bool_byte}
use Rattle.sets.proofs.Terms.{Value, Values, ◌▸◌, members, count, weight, order, none, all_in, is_in, CellsFit, ordering_of, SomeAt, EndsAt, Compared, ValuesCompared, Rows, Rises, Front, AllFit, SetBelow, Turn, keep_of, rest_left, rest_right, Turned, TurnAt, TwoFronts, TwoRuns, Cells, Found, TwoRows}
use Rattle.laws.proofs.OrderLaws.{flip, order_eq, order_flip, order_before}
use Rattle.laws.proofs.SetOrder.{All, Before}
use Rattle.arena.proofs.CodeLaws.{fits_small}
use Rattle.arena.proofs.FrontLaws.{rises_rising, front_value, front_below, front_next, front_at, ordering_less, ordering_equal, ordering_greater, front_start}
use Rattle.sets.proofs.MemberLaws.{after_order, before_all, is_in_turn, is_in_before}
use Rattle.sets.proofs.SearchLaws.{by_front, no_front, by_fronts}
use Rattle.rules.proofs.Basics.{absurd01}
use Rattle.arena.proofs.EvenLaws.{cell_less, cell_equal, cell_greater}
use Rattle.sets.proofs.RowLaws.{cells_first, cells_part, cells_weigh, cell_in}

-- Where the first member ends, and what is left behind it.
member_end : {s : List ℕ} {top a m end : ℕ} {v : Value} {vs : Values} → EndsAt s a end → Front s top a m (v ▸ vs) → {m' : ℕ} → suc m' ≡ m →
    (end ≡ a + weight v) × Front s top end m' vs
member_end {s} {top} {a} {m} {end} {v} {vs} ends f {m'} p =
    let x = ends v (front_value s top a m v vs f) f.fits.0 in (x, front_next s top a m v vs f end m' x p)

module _ {s : List ℕ} {a b : ℕ} {c : RustOrdering} (compared : Compared s a b c) where
  order_of : {top m n : ℕ} {v : Value} {vs : Values} {w : Value} {ws : Values} → Front s top a m (v ▸ vs) → Front s top b n (w ▸ ws) →
      c ≡ ordering_of (order v w)
  order_of {top} {m} {n} {v} {vs} {w} {ws} f g =
      compared v w (front_value s top a m v vs f) (front_value s top b n w ws g) f.fits.0 g.fits.0

  module _ {m n : ℕ} {l e r : Bool} {end : ℕ} (ends : EndsAt s a end) where
    pub turn_less : c ≡ Less → {m' : ℕ} → suc m' ≡ m →
        TurnAt s a m b n l e r (record { from = a; end = end; keep = l; rest = record { a = end; m = m'; b = b; n = n } })
    turn_less z p top v vs w ws f g =
        let x = member_end ends f p in
        rw (ordering_less (order v w) c (order_of f g) z)
        (record { keeps = refl; value = front_below s top a m v vs f; ends = x.0; on_left = x.1; on_right = g })

    module _ {end2 : ℕ} (ends2 : EndsAt s b end2) {n' : ℕ} (q : suc n' ≡ n) where
      pub turn_equal : c ≡ Equal → {m' : ℕ} → suc m' ≡ m →
          TurnAt s a m b n l e r (record { from = a; end = end; keep = e; rest = record { a = end; m = m'; b = end2; n = n' } })
      turn_equal z p top v vs w ws f g =
          let x = member_end ends f p in
          rw (ordering_equal (order v w) c (order_of f g) z)
          (record { keeps = refl; value = front_below s top a m v vs f; ends = x.0; on_left = x.1; on_right = (member_end ends2 g q).1 })

      pub turn_greater : c ≡ Greater → TurnAt s a m b n l e r (record { from = b; end = end2; keep = r; rest = record { a = a; m = m; b = end2; n = n' } })
      turn_greater z top v vs w ws f g =
          let d = member_end ends2 g q in
          rw (ordering_greater (order v w) c (order_of f g) z)
          (record { keeps = refl; value = front_below s top b n w ws g; ends = d.0; on_left = f; on_right = d.1 })

-- Two sets that both have members left.
module _ {s : List ℕ} {a m b n : ℕ} (h : TwoFronts s a m b n) where
  pub two_left : SomeAt s a
  two_left = front_at s h.top a m h.first h.rest h.on_left

  pub two_right : SomeAt s b
  two_right = front_at s h.top b n h.first' h.rest' h.on_right

  pub two_some : (0 < m) × (0 < n)
  two_some = (omega (arith, h.on_left.counted), omega (arith, h.on_right.counted))

  -- Their first members have been compared: the order, and where each ends.
  pub two_compared : {r : Rows} → ValuesCompared s a b r → Compared s a b r.order × EndsAt s a r.a × EndsAt s b r.b
  two_compared d =
      let first = front_value s h.top a m h.first h.rest h.on_left in
      let second = front_value s h.top b n h.first' h.rest' h.on_right in (
        λ v w p q f g. (d v w p q f g).order,
        λ v p f. (d v h.first' p second f h.on_right.fits.0).first,
        λ w q g. (d h.first w first q h.on_left.fits.0 g).second,
      )

pub two_fronts : {s : List ℕ} {top a m b n : ℕ} {vs ws : Values} → Front s top a m vs → Front s top b n ws → 0 < m → 0 < n → TwoFronts s a m b n
two_fronts {s} {top} {a} {m} {b} {n} =
    by_fronts (λ _ _. TwoFronts s a m b n) (λ v vs w ws f g. record { top = top; first = v; rest = vs; first' = w; rest' = ws; on_left = f; on_right = g })

-- A turn takes a member.
pub turn_fewer : (s : List ℕ) (top : ℕ) (l e r : Bool) (o : Ordering) (v : Value) (vs : Values) (w : Value) (ws : Values) (t : Turn) →
    Turned s top l e r o v vs w ws t → t.rest.m + t.rest.n < count (v ▸ vs) + count (w ▸ ws)
turn_fewer s top l e r Ordering·lt v vs w ws t h = omega (arith, h.on_left.counted, h.on_right.counted)
turn_fewer s top l e r Ordering·eq v vs w ws t h = omega (arith, h.on_left.counted, h.on_right.counted)
turn_fewer s top l e r Ordering·gt v vs w ws t h = omega (arith, h.on_left.counted, h.on_right.counted)

-- Inclusion.

-- a member before all of the first list decides nothing
all_in_drop : (vs : List Value) (w : Value) (ws : List Value) → All (Before w) vs → all_in vs (w ∷ ws) ≡ all_in vs ws
unfolding all_in
all_in_drop [] w ws h = refl
all_in_drop (v ∷ vs) w ws h = rw (is_in_turn Ordering·gt v w ws (after_order v w h.0), all_in_drop vs w ws h.1)

-- a turn, by the order of the first members
pub all_in_turn : (o : Ordering) (v : Value) (vs : Values) (w : Value) (ws : Values) → order v w ≡ o → Rises (v ▸ vs) → Rises (w ▸ ws) →
    CellsFit v → CellsFit w →
    all_in (v ∷ members vs) (w ∷ members ws) ≡ cond (keep_of false true true o) (all_in (members (rest_left o v vs)) (members (rest_right o w ws))) false
unfolding all_in
all_in_turn Ordering·lt v vs w ws e f g p q =
    rw (is_in_before v (w ∷ members ws) (before_all v w (members ws) (order_before v w e) (rises_rising (w ▸ ws) g)))
all_in_turn Ordering·eq v vs w ws e f g p q =
    let d = order_eq v w (fits_small v p) (fits_small w q) e in
    rw (is_in_turn Ordering·eq v w (members ws) e)
    (all_in_drop (members vs) w (members ws) (subst (λ (x : Value). All (Before x) (members vs)) d (rises_rising (v ▸ vs) f).0))
all_in_turn Ordering·gt v vs w ws e f g p q =
    all_in_drop (v ∷ members vs) w (members ws)
    (before_all w v (members vs) (order_before w v (order_flip v w ∙ ap flip e)) (rises_rising (v ▸ vs) f))

-- The answer is whether the members left of the first set are in the second.
pub record Including (s : List ℕ) (a m b n : ℕ) (whole : Bool) : Type 0 where
  pub left : Values
  pub right : Values
  pub on_left : Front s (length s) a m left
  pub on_right : Front s (length s) b n right
  pub same : whole ≡ all_in (members left) (members right)

-- It is so for m members from a on and n from b on, of which `left` from i on and `others` from j on are left.
abbrev pub Includings : List ℕ → ℕ → ℕ → ℕ → ℕ → ℕ → ℕ → ℕ → ℕ → Type 0
Includings s a m b n i left j others =
    (vs ws : Values) → Front s (length s) a m vs → Front s (length s) b n ws → Including s i left j others (all_in (members vs) (members ws))

pub including_start : (s : List ℕ) (a m b n : ℕ) → Includings s a m b n a m b n
including_start s a m b n vs ws f g = record { left = vs; right = ws; on_left = f; on_right = g; same = refl }

module _ {s : List ℕ} {a m b n : ℕ} {whole : Bool} (h : Including s a m b n whole) where
  pub including_end : m ≤ 0 → true ≡ whole
  unfolding all_in
  including_end l = no_front (λ vs. whole ≡ all_in (members vs) (members h.right) → true ≡ whole) (λ q. sym q) h.on_left l h.same

  pub including_short : 0 < m → n ≡ 0 → false ≡ whole
  unfolding all_in
  including_short l z =
      by_front (λ vs. whole ≡ all_in (members vs) (members h.right) → false ≡ whole)
      (λ v vs f. no_front (λ ws. whole ≡ all_in (v ∷ members vs) (members ws) → false ≡ whole) (λ q. sym q) h.on_right (omega arith)) h.on_left l h.same

  pub including_turn : 0 < m → (n ≡ 0 → ⊥) → {t : Turn} → TurnAt s a m b n false true true t →
      (t.keep ≡ true → Including s t.rest.a t.rest.m t.rest.b t.rest.n whole × (t.rest.m + t.rest.n < m + n)) × (t.keep ≡ false → false ≡ whole)
  including_turn l z {t} turn =
      by_fronts (λ vs ws. whole ≡ all_in (members vs) (members ws) →
      (t.keep ≡ true → Including s t.rest.a t.rest.m t.rest.b t.rest.n whole × (t.rest.m + t.rest.n < m + n)) × (t.keep ≡ false → false ≡ whole))
      (λ v vs w ws f g q. let d = turn (length s) v vs w ws f g in
      let o = order v w in
      let k = q ∙ all_in_turn o v vs w ws refl f.rises g.rises f.fits.0 g.fits.0 in (
        λ x. (
          record {
            left = rest_left o v vs;
            right = rest_right o w ws;
            on_left = d.on_left;
            on_right = d.on_right;
            same = k ∙ rw (sym d.keeps ∙ x);
          },
          omega (arith, turn_fewer s (length s) false true true o v vs w ws t d, f.counted, g.counted),
        ),
        λ x. sym (k ∙ rw (sym d.keeps ∙ x)),
      )) h.on_left h.on_right l (omega arith) h.same

-- No more members than in the set that includes them.
few_in : (vs ws : Values) → Rises vs → Rises ws → AllFit vs → AllFit ws → all_in (members vs) (members ws) ≡ true → count vs ≤ count ws
unfolding all_in
few_in none ws p q f g h = omega arith
few_in (v ▸ vs) none p q f g h = absurd (let z : ◌≡◌ {A = ℕ} 0 1 = cc in omega arith)
few_in (v ▸ vs) (w ▸ ws) p q f g h =
    go (order v w) (sym (all_in_turn (order v w) v vs w ws refl p q f.0 g.0) ∙ h) (few_in vs ws p.1 q.1 f.1 g.1)
    (few_in (v ▸ vs) ws p q.1 f g.1)
  where
    go : (o : Ordering) → cond (keep_of false true true o) (all_in (members (rest_left o v vs)) (members (rest_right o w ws))) false ≡ true →
        (all_in (members vs) (members ws) ≡ true → count vs ≤ count ws) →
        (all_in (v ∷ members vs) (members ws) ≡ true → count (v ▸ vs) ≤ count ws) → count (v ▸ vs) ≤ count (w ▸ ws)
    go Ordering·lt e i j = absurd01 (cc e)
    go Ordering·eq e i j = omega (arith, i e)
    go Ordering·gt e i j = omega (arith, j e)

module _ {s : List ℕ} {a m b n : ℕ} {whole : Bool} (h : Including s a m b n whole) where
  pub including_fewer : n < m → false ≡ whole
  including_fewer l =
      elim whole as (λ c. whole ≡ c → false ≡ c) [
        | true ↦ λ e.
            let x = few_in h.left h.right h.on_left.rises h.on_right.rises h.on_left.fits h.on_right.fits (sym h.same ∙ e) in
            absurd (omega (arith, h.on_left.counted, h.on_right.counted))
        | false ↦ λ e. refl
      ] refl

  -- A search for the first member.
  module _ (l : 0 < m) (left : Cells s a m) (right : Cells s b n) (r : Option ℕ) (found : Found s b 1 n (get_or s a 0) r) where
    -- what is told by the first member's cell
    first_in_law : (v : Value) (vs : Values) → Front s (length s) a m (v ▸ vs) → is_some r ≡ is_in v (members h.right)
    first_in_law v vs f = cell_in (front_below s (length s) a m v vs f) h.on_right right r found

    pub including_sought : (is_some r ≡ true → Including s (a + 1) (m - 1) b n whole) × (is_some r ≡ false → false ≡ whole)
    unfolding all_in
    including_sought =
        by_front (λ vs. whole ≡ all_in (members vs) (members h.right) →
        (is_some r ≡ true → Including s (a + 1) (m - 1) b n whole) × (is_some r ≡ false → false ≡ whole))
        (λ v vs f q. (
          λ z. record {
            left = vs;
            right = h.right;
            on_left = front_next s (length s) a m v vs f (a + 1) (m - 1) (omega (arith, (cells_weigh f left).0)) (omega arith);
            on_right = h.on_right;
            same = q ∙ rw (sym (first_in_law v vs f) ∙ z);
          },
          λ z. sym (q ∙ rw (sym (first_in_law v vs f) ∙ z)),
        )) h.on_left l h.same

  -- A turn of the walk over both.
  module _ (l : 0 < m) (k : 0 < n) (left : Cells s a m) (right : Cells s b n) where
    ends : EndsAt s a (a + 1)
    ends = cells_first left l

    ends2 : EndsAt s b (b + 1)
    ends2 = cells_first right k

    pub including_less : get_or s a 0 < get_or s b 0 → false ≡ whole
    including_less d =
        (including_turn h l (λ z. omega arith) (turn_less (cell_less s a b ends2 d) ends refl (let z : suc (m - 1) ≡ m = omega arith in z))).1 refl

    pub including_step : get_or s b 0 ≤ get_or s a 0 →
        Including s (a + bool_byte (eqb (get_or s a 0) (get_or s b 0))) (m - bool_byte (eqb (get_or s a 0) (get_or s b 0))) (b + 1) (n - 1) whole
    including_step d = go (eqb (get_or s a 0) (get_or s b 0)) refl
      where
        go : (e : Bool) → eqb (get_or s a 0) (get_or s b 0) ≡ e → Including s (a + bool_byte e) (m - bool_byte e) (b + 1) (n - 1) whole
        go true e =
            ((including_turn h l (λ z. omega arith)
            (turn_equal (cell_equal s a b ends2 (eqb-true _ _ e)) ends ends2 (let z : suc (n - 1) ≡ n = omega arith in z) refl
            (let z : suc (m - 1) ≡ m = omega arith in z))).0 refl).0
        go false e =
            rw (let z : a + 0 ≡ a = omega arith in z, let z : m - 0 ≡ m = omega arith in z)
            ((including_turn h l (λ z. omega arith)
            (turn_greater (cell_greater s a b ends2 (omega (arith, eqb-false (get_or s a 0) (get_or s b 0) e))) ends ends2
            (let z : suc (n - 1) ≡ n = omega arith in z) refl)).0 refl).0

-- A walk over m cells from a on and n from b on: those that are left decide.
pub record RowWalk (s : List ℕ) (a m b n i left j others : ℕ) : Type 0 where
  pub cells : Cells s i left
  pub other_cells : Cells s j others
  pub on : Includings s a m b n i left j others

-- Two sets as runs of members, and as rows of cells.
module _ {s : List ℕ} {top a b m n : ℕ} {vs ws : Values} (h : SetBelow s top a vs) (k : SetBelow s top b ws)
    (d : m ≡ get_or s a 0 % 4294967296) (e : n ≡ get_or s b 0 % 4294967296) where
  pub two_runs : TwoRuns s (a + 1) m (b + 1) n top
  two_runs = record { first = vs; second = ws; on_left = front_start s top a vs h m d; on_right = front_start s top b ws k n e }

  pub two_rows : Cells s (a + 1) (get_or s a 0 % 4294967296) → Cells s (b + 1) (get_or s b 0 % 4294967296) → TwoRows s (a + 1) m (b + 1) n top
  two_rows c c' = record { runs = two_runs; left = subst (Cells s (a + 1)) (sym d) c; right = subst (Cells s (b + 1)) (sym e) c' }

pub row_start : {s : List ℕ} {a m b n top : ℕ} → TwoRows s a m b n top → RowWalk s a m b n a m b n
row_start {s} {a} {m} {b} {n} h = record { cells = h.left; other_cells = h.right; on = including_start s a m b n }

pub byte_small : (b : Bool) → bool_byte b ≤ 1
byte_small true = omega arith
byte_small false = omega arith

pub row_step : {s : List ℕ} {a m b n i left j others : ℕ} → RowWalk s a m b n i left j others → 0 < left → left ≤ others → get_or s j 0 ≤ get_or s i 0 →
    RowWalk s a m b n (i + bool_byte (eqb (get_or s i 0) (get_or s j 0))) (left - bool_byte (eqb (get_or s i 0) (get_or s j 0))) (j + 1) (others - 1)
row_step {s} {i = i} {j = j} w l k d = record {
  cells = cells_part w.cells (omega arith) (omega (arith, byte_small (eqb (get_or s i 0) (get_or s j 0))));
  other_cells = cells_part w.other_cells (omega arith) (omega arith);
  on = λ vs ws f g. including_step (w.on vs ws f g) l (omega arith) w.cells w.other_cells d;
}
