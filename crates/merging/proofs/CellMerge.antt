-- The merge of two sets whose members are one cell each. A cell that is stored is a value put behind what has been built, or it lies
-- behind it (`cell_put`); so a turn at two cells is a turn of the merge (`merge_step`). What comes before the other set's first cell is
-- so many turns on one side (`taken`), with which the merge begins (`merge_start`).
use mathlib.Core.Bool.{beq, ◌&&◌}
use Rattle.sets.proofs.Base.{Option, ℕ, zero, suc, ◌+◌, ◌*◌, ◌-◌, ◌≤◌, ◌<◌, Ordering·lt, Ordering·gt, Bool, true, false, cond, List, [], ◌∷◌, ◌++◌, append_assoc, ◌⊎◌, inl, inr, ◌≡◌, refl, sym, ap, ◌∙◌, subst, arith, dec_lt, length, get_or, set_at, length-set, get_or-set_same, get_or-set_other, le-leb, lt-leb, bool_byte}
use Rattle.merging.proofs.Terms.{Value, Values, none, ◌▸◌, members, count, weight, weights, order, kept_value, code, codes, ValuesAt, Same, EndsAt, Front, Out, Walk, CellTurn, merged, comparisons, TurnAt, Cells, PutPre, PutBehind, Merging, EndPre, Ended, RunsMerge, Walking, CellTurned, RowsBelow, Ahead, RowMerge, SomeRowMerge, RowsWalked, Place}
use Rattle.laws.proofs.CellsLaws.{count_weights}
use Rattle.laws.proofs.OrderLaws.{flip, order_flip, lt_compare}
use Rattle.arena.proofs.CodeLaws.{length_code, length_codes}
use Rattle.arena.proofs.Standing.{stands_append, stands_frame, same_refl, same_trans}
use Rattle.arena.proofs.FrontLaws.{front_value, front_next, front_frame}
use Rattle.arena.proofs.EvenLaws.{cell_order, cell_less, cell_equal, cell_greater}
use Rattle.merging.proofs.MergedLaws.{merged_turn}
use Rattle.merging.proofs.ComparisonLaws.{comparisons_turn}
use Rattle.merging.proofs.CountLaws.{exhausted}
use Rattle.sets.proofs.TurnLaws.{turn_less, turn_equal, turn_greater, byte_small}
use Rattle.merging.proofs.BuildLaws.{store_frame, put_kept, put_none, built_none, step_on, walking_made, walking_end}
use Rattle.sets.proofs.RowLaws.{cells_part, cells_first, cells_frame, cells_weigh}

-- What holds of a turn in each case.
module _ (l e r : Bool) (x y : ℕ) (P : ℕ → ℕ → ℕ → ℕ → Type 0) (f : x < y → P x (bool_byte l) 1 0) (g : x ≡ y → P x (bool_byte e) 1 1)
    (h : y < x → P y (bool_byte r) 0 1) where
  by_turn : {u : CellTurn} → CellTurned l e r x y u → P u.cell u.keep u.left u.right
  by_turn {u} d = go (dec_lt x y) (dec_lt y x)
    where
      go : Dec (x < y) → Dec (y < x) → P u.cell u.keep u.left u.right
      go (yes p) q = rw (d.lesser.0 (omega arith), d.kept.less p, d.left, le-leb x y (omega arith), d.right, lt-leb y x p) (f p)
      go (no n) (yes q) = rw (d.lesser.1 q, d.kept.greater q, d.left, lt-leb x y q, d.right, le-leb y x (omega arith)) (h q)
      go (no n) (no m) =
          let z : x ≡ y = omega arith in
          rw (d.lesser.0 (omega arith), d.kept.equal z, d.left, le-leb x y (omega arith), d.right, le-leb y x (omega arith)) (g z)

-- At most one cell further in each set, and further in one.
pub turn_moves : {l e r : Bool} {x y : ℕ} {u : CellTurn} → CellTurned l e r x y u →
    (u.left ≤ 1) × (u.right ≤ 1) × (0 < u.left + u.right) × (u.keep ≤ 1)
turn_moves {l} {e} {r} {x} {y} =
    by_turn l e r x y (λ _ k i j. (i ≤ 1) × (j ≤ 1) × (0 < i + j) × (k ≤ 1))
    (λ d. omega (arith, byte_small l)) (λ d. omega (arith, byte_small e)) (λ d. omega (arith, byte_small r))

-- A cell stored at the end of what has been built is kept or not.
cell_put : (keep : Bool) {s : List ℕ} {from to count : ℕ} → from < to → to < length s → count < 4294967296 →
    PutBehind keep s from (from + 1) 1 (record { to = to; count = count }) (set_at s to (get_or s from 0))
    (record { to = to + bool_byte keep; count = count + bool_byte keep })
cell_put true {s} {from} {to} l k f =
    put_kept (record { forward = omega arith; behind = omega arith; room = omega arith; few = omega arith }) (record {
      there = λ i p.
          rw (let z : to + i ≡ to = omega arith in z, let z : from + i ≡ from = omega arith in z) (get_or-set_same s to (get_or s from 0) 0 k);
      before = λ i p. get_or-set_other s to i (get_or s from 0) 0 (λ e. omega arith);
      after = λ i p. get_or-set_other s to i (get_or s from 0) 0 (λ e. omega arith);
      kept = length-set s to (get_or s from 0);
    }) (omega arith) refl
cell_put false {s} {from} {to} {count} l k f =
    rw (let e : to + 0 ≡ to = omega arith in e, let e : count + 0 ≡ count = omega arith in e)
    (put_none (store_frame s to (get_or s from 0) (omega arith)))

pub rows_small : {s : List ℕ} {a m b n top : ℕ} → RowsBelow s a m b n top → (m ≤ 255) × (n ≤ 255) × (a + m ≤ top) × (b + n ≤ top)
rows_small p =
    let q = p.rows.runs in
    omega (arith, q.on_left, q.on_right, count_weights q.first, count_weights q.second)

cond_none : (k : Bool) (zs : List Value) → cond k [] [] ++ zs ≡ zs
cond_none true zs = refl
cond_none false zs = refl

kept_cond : (k : Bool) (v : Value) (xs zs : List Value) → kept_value k v (cond k xs [] ++ zs) ≡ cond k (v ∷ xs) [] ++ zs
kept_cond true v xs zs = refl
kept_cond false v xs zs = refl

-- The first p of a run's members, which are less than the other run's first, are taken one by one, in so many comparisons: M merges the rest, and C
-- counts its comparisons.
record Taken (k : Bool) (M : List Value → List Value) (C : List Value → ℕ) (s : List ℕ) (top at n : ℕ) (vs : Values) (p : ℕ) : Type 0 where
  pub first : Values
  pub rest : Values
  pub stands : ValuesAt s at first
  pub counted : p ≡ count first
  pub weighs : p ≡ weights first
  pub front : Front s top (at + p) (n - p) rest
  pub all : M (members vs) ≡ cond k (members first) [] ++ M (members rest)
  pub compared : C (members vs) ≡ p + C (members rest)

module _ (k : Bool) (M : List Value → List Value → List Value) (C : List Value → List Value → ℕ)
    (turn : (x y : Value) (xs ys : List Value) → order x y ≡ Ordering·lt →
    (M (x ∷ xs) (y ∷ ys) ≡ kept_value k x (M xs (y ∷ ys))) × (C (x ∷ xs) (y ∷ ys) ≡ 1 + C xs (y ∷ ys)))
    {s : List ℕ} {top b n : ℕ} where
  taken : (p : ℕ) {at m : ℕ} (vs ws : Values) → Front s top at m vs → Front s top b n ws → Cells s at m → Cells s b n → Ahead s at m b n p →
      Taken k (λ xs. M xs (members ws)) (λ xs. C xs (members ws)) s top at m vs p
  unfolding code
  taken zero {at} {m} vs ws f g c d h = record {
    first = none;
    rest = vs;
    stands = record { inside = omega (arith, f.stands.inside); cells = λ i l. absurd (omega arith) };
    counted = refl;
    weighs = refl;
    front = rw (let z : at + 0 ≡ at = omega arith in z, let z : m - 0 ≡ m = omega arith in z) f;
    all = sym (cond_none k (M (members vs) (members ws)));
    compared = omega arith;
  }
  taken (suc p) none ws f g c d h = absurd (omega (arith, f.counted, h.few))
  taken (suc p) (v ▸ vs) none f g c d h = absurd (omega (arith, h.some (omega arith), g.counted))
  taken (suc p) {at} {m} (v ▸ vs) (y ▸ ys) f g c d h =
      more (taken p vs (y ▸ ys) (front_next s top at m v vs f (at + 1) (m - 1) (omega (arith, one)) (omega (arith, h.few))) g
      (cells_part c (omega arith) (omega (arith, h.few))) d (record {
        few = omega (arith, h.few);
        some = λ _. h.some (omega arith);
        less = λ i l. less (suc i) (at + 1 + 1 * i) (omega arith) (omega arith);
      }))
    where
      one : weight v ≡ 1
      one = (cells_weigh f c).0

      less : (i j : ℕ) → i < suc p → at + 1 * i ≡ j → get_or s j 0 < get_or s b 0
      less i j l e = subst (λ (x : ℕ). get_or s x 0 < get_or s b 0) e (h.less i l)

      first : order v y ≡ Ordering·lt
      first = cell_order s at b v y (front_value s top at m v vs f) (front_value s top b n y ys g) f.fits.0 g.fits.0 (cells_weigh g d).0
          ∙ lt_compare (get_or s at 0) (get_or s b 0) (less 0 at (omega arith) (omega arith))

      more : Taken k (λ xs. M xs (y ∷ members ys)) (λ xs. C xs (y ∷ members ys)) s top (at + 1) (m - 1) vs p →
          Taken k (λ xs. M xs (y ∷ members ys)) (λ xs. C xs (y ∷ members ys)) s top at m (v ▸ vs) (suc p)
      more t = record {
        first = v ▸ t.first;
        rest = t.rest;
        stands = stands_append s at (code v) (codes t.first) (front_value s top at m v vs f)
            (subst (λ (j : ℕ). ValuesAt s j t.first) (omega (arith, length_code v, one)) t.stands);
        counted = omega (arith, t.counted);
        weighs = omega (arith, t.weighs, one);
        front = rw (let z : at + suc p ≡ at + 1 + p = omega arith in z, let z : m - suc p ≡ m - 1 - p = omega arith in z) t.front;
        all = (turn v y (members vs) (members ys) first).0 ∙ rw t.all (kept_cond k v (members t.first) _);
        compared = omega (arith, (turn v y (members vs) (members ys) first).1, t.compared);
      }

-- Both fronts, and where the merge goes on.
module _ {s : List ℕ} {a m b n top : ℕ} (below : RowsBelow s a m b n top) {p q : ℕ} (h : Ahead s a m b n p)
    (k : Ahead s b n (a + p) (m - p) q) where
  pub first_put : PutPre s a (a + p) p (record { to = top + 1; count = 0 })
  first_put = omega (arith, rows_small below, h.few, below.room)

  module _ {l : Bool} {s' : List ℕ} {o : Out} (put : PutBehind l s a (a + p) p (record { to = top + 1; count = 0 }) s' o) where
    counts : (o.to ≡ top + 1 + o.count) × (o.count ≤ p)
    counts = let x = put.even (omega arith) in (omega arith, omega (arith, put.near))

    pub second_put : PutPre s' b (b + q) q o
    second_put = omega (arith, rows_small below, counts, h.few, k.few, below.room, put.frame.kept)

    frame : Same top s s'
    frame = same_trans top (top + 1) s s s' (same_refl top s) put.frame (omega arith)

    module _ {r : Bool} {s'' : List ℕ} {o' : Out} (put' : PutBehind r s' b (b + q) q o s'' o') where
      frame' : Same top s s''
      frame' = same_trans top o.to s s' s'' frame put'.frame (omega (arith, counts.0))

      fronts_merging : (e : Bool) (vs ws : Values) → Front s top a m vs → Front s top b n ws →
          Merging l e r s'' top (record { fronts = record { a = a + p; m = m - p; b = b + q; n = n - q }; out = o'; turns = p + q })
          (members vs) (members ws)
      fronts_merging e vs ws f g =
          let t = taken l (merged l e r) comparisons
          (λ x y xs ys z. (merged_turn l e r Ordering·lt x y xs ys z, comparisons_turn Ordering·lt x y xs ys z))
          p vs ws f g below.rows.left below.rows.right h in
          let u = taken r (λ xs ys. merged l e r ys xs) (λ xs ys. comparisons ys xs)
          (λ x y xs ys z. let z = order_flip x y ∙ ap flip z in (merged_turn l e r Ordering·gt y x ys xs z, comparisons_turn Ordering·gt y x ys xs z))
          q ws t.rest g t.front below.rows.right (cells_part below.rows.left (omega arith) (omega (arith, h.few))) k in
          let first = cond l (members t.first) [] in
          let second = cond r (members u.first) [] in
          let rest = merged l e r (members t.rest) (members u.rest) in
          record {
            left = t.rest;
            right = u.rest;
            done = first ++ second;
            on_left = front_frame top s s'' top (a + p) (m - p) t.rest frame' (omega arith) t.front;
            on_right = front_frame top s s'' top (b + q) (n - q) u.rest frame' (omega arith) u.front;
            built = put'.on top first u.first
                (put.on top [] t.first (built_none below.room) t.stands (omega (arith, t.weighs)) t.counted)
                (stands_frame top s s' b (codes u.first) frame (omega (arith, length_codes u.first, u.weighs, k.few, (rows_small below).3)) u.stands)
                (omega (arith, u.weighs)) u.counted;
            all = t.all ∙ ap (λ (zs : List Value). first ++ zs) u.all
                ∙ sym {a = (first ++ second) ++ rest} {b = first ++ (second ++ rest)} (append_assoc first second rest);
            compared = omega (arith, t.compared, u.compared);
          }

      pub merge_start : (e : Bool) → RowMerge l e r s a m b n top s'' (a + p) (b + q) o'.to (p + q)
      merge_start e =
          let x = counts in
          let y = put'.even (omega arith) in
          record {
            below = below;
            on_left = (omega arith, omega (arith, h.few));
            on_right = (omega arith, omega (arith, k.few));
            count = o'.count;
            count_is = omega arith;
            few = omega (arith, put'.near);
            few_turns = omega arith;
            walking = record {
              frame = frame';
              on = rw (let z : a + m - (a + p) ≡ m - p = omega arith in z, let z : b + n - (b + q) ≡ n - q = omega arith in z) (fronts_merging e);
            };
          }

-- The merge after the walk from the fronts.
pub rows_walked : {l e r : Bool} {s₀ s : List ℕ} {a m b n top : ℕ} {w : Place} {s' : List ℕ} {w' : Place} →
    ((k : Bool) → RowMerge l k r s₀ a m b n top s w.a w.b w.to w.turns) → RowsWalked l e r s w (a + m) (b + n) s' w' →
    RowMerge l e r s₀ a m b n top s' w'.a w'.b w'.to w'.turns × ((a + m ≤ w'.a) ⊎ (b + n ≤ w'.b))
rows_walked {e = e} f d = d.on _ _ _ _ _ _ (f e) refl refl

-- Which members are kept is compared one by one.
pub all_kept : (l e r : Bool) → (beq l true && (beq e true && beq r true)) ≡ true → (l ≡ true) × (e ≡ true) × (r ≡ true)
all_kept true true true h = (refl, refl, refl)
all_kept true true false h = absurd (cc)
all_kept true false r h = absurd (cc)
all_kept false e r h = absurd (cc)

-- Where all three are kept, what is said of a union is said of the merge, both ways.
module _ {l e r : Bool} (x : l ≡ true) (y : e ≡ true) (z : r ≡ true) {s : List ℕ} {w : Place} {end end2 : ℕ} where
  pub union_ready : SomeRowMerge l e r s w end end2 → SomeRowMerge true true true s w end end2
  union_ready h =
      subst (λ (c : Bool). SomeRowMerge true true c s w end end2) z
      (subst (λ (c : Bool). SomeRowMerge true c r s w end end2) y (subst (λ (c : Bool). SomeRowMerge c e r s w end end2) x h))

  pub union_walked : {s' : List ℕ} {w' : Place} → RowsWalked true true true s w end end2 s' w' → RowsWalked l e r s w end end2 s' w'
  union_walked {s'} {w'} h =
      subst (λ (c : Bool). RowsWalked c e r s w end end2 s' w') (sym x)
      (subst (λ (c : Bool). RowsWalked true c r s w end end2 s' w') (sym y) (subst (λ (c : Bool). RowsWalked true true c s w end end2 s' w') (sym z) h))

-- A merge on its way.
module _ {l e r : Bool} {s₀ : List ℕ} {a m b n top : ℕ} {s : List ℕ} {i j to turns : ℕ}
    (h : RowMerge l e r s₀ a m b n top s i j to turns) where
  left_cells : Cells s i (a + m - i)
  left_cells =
      cells_frame h.walking.frame (omega (arith, (rows_small h.below).2, h.on_left.1))
      (cells_part h.below.rows.left h.on_left.0 (omega (arith, h.on_left.1)))

  right_cells : Cells s j (b + n - j)
  right_cells =
      cells_frame h.walking.frame (omega (arith, (rows_small h.below).3, h.on_right.1))
      (cells_part h.below.rows.right h.on_right.0 (omega (arith, h.on_right.1)))

  -- A turn at two sets that both have cells left.
  module _ (some : i < a + m) (some' : j < b + n) where
    pub merge_inside : (i < top) × (j < top) × (to < length s) × (to + 1 ≤ top + 512) × (turns ≤ 510)
    merge_inside = omega (arith, rows_small h.below, h.below.room, h.walking.frame.kept, h.few, h.count_is, h.few_turns)

    ends : EndsAt s i (i + 1)
    ends = cells_first left_cells (omega arith)

    ends' : EndsAt s j (j + 1)
    ends' = cells_first right_cells (omega arith)

    -- a turn that takes the cell at `from`
    next : (keep : Bool) {from i' j' : ℕ} → from < top → (i ≤ i') × (i' ≤ a + m) × (j ≤ j') × (j' ≤ b + n) × (i + j < i' + j') →
        TurnAt s i (a + m - i) j (b + n - j) l e r
        (record { from = from; end = from + 1; keep = keep; rest = record { a = i'; m = a + m - i'; b = j'; n = b + n - j' } }) →
        RowMerge l e r s₀ a m b n top (set_at s to (get_or s from 0)) i' j' (to + bool_byte keep) (turns + 1)
    next keep {from} low x turn =
        let y = byte_small keep in
        record {
          below = h.below;
          on_left = (omega (arith, h.on_left), omega arith);
          on_right = (omega (arith, h.on_right), omega arith);
          count = h.count + bool_byte keep;
          count_is = omega (arith, h.count_is);
          few = omega (arith, h.few, h.on_left, h.on_right);
          few_turns = omega (arith, h.few_turns, h.on_left, h.on_right);
          walking = record {
            frame = same_trans top top s₀ s _ h.walking.frame (store_frame s to (get_or s from 0) (omega (arith, h.count_is))) (omega arith);
            on = λ vs ws f g.
                step_on turn (cell_put keep (omega (arith, h.count_is)) merge_inside.2 (omega (arith, merge_inside.3, h.count_is)))
                (h.walking.on vs ws f g) (omega arith) (omega arith);
          };
        }

    pub merge_step : {u : CellTurn} → CellTurned l e r (get_or s i 0) (get_or s j 0) u →
        RowMerge l e r s₀ a m b n top (set_at s to u.cell) (i + u.left) (j + u.right) (to + u.keep) (turns + 1)
    merge_step =
        let x = merge_inside in
        by_turn l e r (get_or s i 0) (get_or s j 0) (λ c k p q. RowMerge l e r s₀ a m b n top (set_at s to c) (i + p) (j + q) (to + k) (turns + 1))
        (λ d. rw (let z : j + 0 ≡ j = omega arith in z) (next l x.0 (omega arith) (turn_less (cell_less s i j ends' d) ends refl (omega arith))))
        (λ d. next e x.0 (omega arith) (turn_equal (cell_equal s i j ends' d) ends ends' (omega arith) refl (omega arith)))
        (λ d. rw (let z : i + 0 ≡ i = omega arith in z)
        (next r x.1 (omega arith) (turn_greater (cell_greater s i j ends' d) ends ends' (omega arith) refl)))

  -- The end of the merge.
  abbrev pub last : Walk
  last = record { fronts = record { a = i; m = a + m - i; b = j; n = b + n - j }; out = record { to = to; count = to - top - 1 }; turns = turns }

  pub last_walking : Walking l e r s₀ a m b n top s last
  last_walking = rw (let z : to - top - 1 ≡ h.count = omega (arith, h.count_is) in z) h.walking

  module _ (o : (a + m ≤ i) ⊎ (b + n ≤ j)) where
    pub merge_end_law : EndPre l r s last top true
    merge_end_law =
        walking_end last_walking h.below.rows.runs h.below.room
        (elim o [ inl z ↦ inl (omega arith) | inr z ↦ inr (inl (omega arith)) ]) λ _. (left_cells, right_cells)

    -- One set is exhausted: no comparison is left.
    pub merge_made : {s' : List ℕ} {k : Option ℕ} → Ended l r s last top s' k →
        RunsMerge l e r s₀ a m b n top s' (record { end = k; comparisons = turns })
    merge_made {s'} {k} d =
        subst (λ (c : ℕ). RunsMerge l e r s₀ a m b n top s' (record { end = k; comparisons = c })) (let z : turns + 0 ≡ turns = omega arith in z)
        (walking_made last_walking d (exhausted (elim o [ inl z ↦ inl (omega arith) | inr z ↦ inr (omega arith) ])))

-- `walk_rows`: each merge that has come to i and j has come to i' and j'.
abbrev pub RowsOn : Bool → Bool → Bool → ℕ → ℕ → List ℕ → ℕ → ℕ → ℕ → ℕ → List ℕ → ℕ → ℕ → ℕ → ℕ → Type 0
RowsOn l e r end end2 s i j to turns s' i' j' to' turns' =
    (s₀ : List ℕ) (a m b n top : ℕ) → RowMerge l e r s₀ a m b n top s i j to turns → end ≡ a + m → end2 ≡ b + n →
    RowMerge l e r s₀ a m b n top s' i' j' to' turns'

module _ {l e r : Bool} {s : List ℕ} {w : Place} {end end2 : ℕ} {s' : List ℕ} {i j to turns : ℕ} where
  -- there is room for a cell, where both sets have cells left
  pub rows_inside : (p : SomeRowMerge l e r s w end end2) → RowsOn l e r end end2 s w.a w.b w.to w.turns s' i j to turns → i < end → j < end2 →
      (to < length s') × (to + 1 ≤ p.top + 512) × (p.top + 514 ≤ length s') × (turns ≤ 510)
  rows_inside p on x y =
      let h = on _ _ _ _ _ _ p.merge p.ends p.ends2 in
      omega (arith, merge_inside h (omega (arith, p.ends)) (omega (arith, p.ends2)), h.below.room, h.walking.frame.kept)

  pub rows_next : RowsOn l e r end end2 s w.a w.b w.to w.turns s' i j to turns → i < end → j < end2 → {u : CellTurn} →
      CellTurned l e r (get_or s' i 0) (get_or s' j 0) u →
      RowsOn l e r end end2 s w.a w.b w.to w.turns (set_at s' to u.cell) (i + u.left) (j + u.right) (to + u.keep) (turns + 1)
  rows_next on x y turn s₀ a m b n top h e e2 = merge_step (on s₀ a m b n top h e e2) (omega (arith, e)) (omega (arith, e2)) turn
