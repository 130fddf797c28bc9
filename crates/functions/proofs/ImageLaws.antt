-- Relations in the arena. Whether no pair shares its first part with the next one is decided by the pairs that are left (`Checking`); what is found is
-- an application (`image_found`). Pairs of two values of one cell each are three cells: the order of the first parts of two neighbours is that of their
-- cells (`cells_order`), so that the first parts make a row (`pair_row`), and e is one where its cell is in the row (`flat_none`, `flat_found`).
use Rattle.sets.proofs.Base.{ℕ, Some, None, ◌+◌, ◌-◌, ◌%◌, ◌≤◌, ◌<◌, Ordering·lt, Ordering·eq, Ordering·gt, suc, ◌*◌, compare, Bool, true, false, List, ◌≡◌, refl, sym, ap, ◌∙◌, subst, arith, compare_is_eq, length, get_or, inl, inr}
use Rattle.functions.proofs.Terms.{Value, pair, set, Values, none, ◌▸◌, members, weight, order, same, left, right, ValueAt, SomeAt, EndsAt, SameAt, SetBelow, SomeValue, ValueBelow, Front, IsPair, AllPairs, SomeRelation, cell_size, AllWeigh, EvenSet, Member, new_firsts, SomePairs, Relation, WithinSet, Applies, PairSought, IsFunction, FlatPairs, SomeFlat, Row}
use Rattle.laws.proofs.OrderLaws.{then_lt, order_pair, before_order, compare_lt, compare_eq, compare_refl, same_order}
use mathlib.Core.Bool.{false≢true}
use Rattle.laws.proofs.EndLaws.{T_true}
use Rattle.laws.proofs.SetOrder.{All}
use Rattle.laws.proofs.Membership.{all_in_law, In, in_all}
use Rattle.arena.proofs.CodeLaws.{length_codes}
use Rattle.arena.proofs.ValueParts.{left_stands, right_stands, scalar_cell_law, scalar_one}
use Rattle.arena.proofs.FrontLaws.{front_start, front_value, front_next, front_below}
use Rattle.sets.proofs.KeyLaws.{on_pair}
use Rattle.functions.proofs.PairLaws.{applied_none, applied_shared, applied_found}
use Rattle.sets.proofs.SearchLaws.{key_stands, by_front, no_front}
use Rattle.laws.proofs.CellsLaws.{weight_some}
use Rattle.arena.proofs.EvenLaws.{weights_even, value_at_law, cell_order}
use Rattle.sets.proofs.RowLaws.{climb, neighbours, place_of, same_cell, cell_tells}

-- What is shown of two pairs and the rest is shown of pairs, if there are two.
pub by_two : {s : List ℕ} {top i n : ℕ} (P : Values → Type 0) →
    ((a b c d : Value) (ws : Values) → Front s top i n (pair a b ▸ pair c d ▸ ws) → P (pair a b ▸ pair c d ▸ ws)) →
    (vs : Values) → Front s top i n vs → AllPairs vs → 1 < n → P vs
by_two P k none f h l = absurd (omega (arith, f.counted))
by_two P k (v ▸ none) f h l = absurd (omega (arith, f.counted))
by_two {s} {top} {i} {n} P k (v ▸ w ▸ ws) f h l =
    on_pair (λ x. Front s top i n (x ▸ w ▸ ws) → P (x ▸ w ▸ ws))
    (λ a b. on_pair (λ y. Front s top i n (pair a b ▸ y ▸ ws) → P (pair a b ▸ y ▸ ws)) (λ c d. k a b c d ws) w h.1.0) v h.0 f

-- Two values that differ, by their order.
other_of : (a c : Value) → (order a c ≡ Ordering·eq → ⊥) → same a c ≡ false
unfolding same
other_of a c =
    elim (order a c) as (λ o. (o ≡ Ordering·eq → ⊥) → compare_is_eq o ≡ false) [
      | Ordering·lt ↦ λ n. refl
      | Ordering·eq ↦ λ n. absurd (n refl)
      | Ordering·gt ↦ λ n. refl
    ]

-- `is_function` and `flat_function`: the pairs left decide. Q is what else is known of them.
pub record Checking (Q : Values → Type 0) (s : List ℕ) (top : ℕ) (vs : Values) (i left : ℕ) : Type 0 where
  pub rest : Values
  pub front : Front s top i left rest
  pub pairs : AllPairs rest
  pub known : Q rest
  pub result : new_firsts (members vs) ≡ new_firsts (members rest)

module _ {Q : Values → Type 0} {s : List ℕ} {top : ℕ} {vs : Values} {i left : ℕ} (h : Checking Q s top vs i left) where
  pub checking_end : left ≤ 1 → true ≡ new_firsts (members vs)
  checking_end l = go h.rest h.front h.result
    where
      go : (ws : Values) → Front s top i left ws → new_firsts (members vs) ≡ new_firsts (members ws) → true ≡ new_firsts (members vs)
      go none f q = sym q
      go (v ▸ none) f q = sym q
      go (v ▸ w ▸ ws) f q = absurd (omega (arith, f.counted))

  module _ (l : 1 < left) where
    checking_two : (P : Values → Type 0) → ((a b c d : Value) (ws : Values) → Front s top i left (pair a b ▸ pair c d ▸ ws) → P (pair a b ▸ pair c d ▸ ws)) →
        P h.rest
    checking_two P k = by_two P k h.rest h.front h.pairs l

    pub checking_shared : ((a b c d : Value) (ws : Values) → Front s top i left (pair a b ▸ pair c d ▸ ws) → Q (pair a b ▸ pair c d ▸ ws) →
        order a c ≡ Ordering·eq) → false ≡ new_firsts (members vs)
    unfolding same
    checking_shared o =
        checking_two (λ ws. Q ws → new_firsts (members vs) ≡ new_firsts (members ws) → false ≡ new_firsts (members vs))
        (λ a b c d ws f k q. sym (q ∙ rw (o a b c d ws f k))) h.known h.result

    pub checking_next : (k : ℕ) → ((a b c d : Value) (ws : Values) → Front s top i left (pair a b ▸ pair c d ▸ ws) → Q (pair a b ▸ pair c d ▸ ws) →
        (order a c ≡ Ordering·eq → ⊥) × (k ≡ i + weight (pair a b)) × Q (pair c d ▸ ws)) → Checking Q s top vs k (left - 1)
    checking_next k o =
        checking_two (λ ws. AllPairs ws → Q ws → new_firsts (members vs) ≡ new_firsts (members ws) → Checking Q s top vs k (left - 1))
        (λ a b c d ws f p g q. let x = o a b c d ws f g in record {
          rest = pair c d ▸ ws;
          front = front_next s top i left (pair a b) (pair c d ▸ ws) f k (left - 1) x.1 (omega arith);
          pairs = p.1;
          known = x.2;
          result = q ∙ rw (other_of a c x.0);
        }) h.pairs h.known h.result

-- The walk over two pairs: where the parts of the first stand, and the first part of the second.
module _ {s : List ℕ} {top i n : ℕ} {a b c d : Value} {ws : Values} (f : Front s top i n (pair a b ▸ pair c d ▸ ws)) where
  first_at : ValueAt s (i + 1) a
  first_at = left_stands s i a b (front_value s top i n (pair a b) (pair c d ▸ ws) f)

  module _ {r : ℕ} (e : EndsAt s (i + 1) r) where
    second_at : ValueAt s r b
    second_at = rw (e a first_at f.fits.0.0) (right_stands s i a b (front_value s top i n (pair a b) (pair c d ▸ ws) f))

    module _ {k : ℕ} (g : EndsAt s r k) where
      pair_ends : k ≡ i + weight (pair a b)
      pair_ends = omega (arith, e a first_at f.fits.0.0, g b second_at f.fits.0.1)

      next_at : ValueAt s (k + 1) c
      next_at =
          let h = front_next s top i n (pair a b) (pair c d ▸ ws) f k (n - 1) pair_ends (omega (arith, f.counted)) in
          left_stands s k c d (front_value s top k (n - 1) (pair c d) ws h)

module _ {s : List ℕ} {top : ℕ} {vs : Values} {i left : ℕ} (h : Checking (λ _. Unit {0}) s top vs i left) (l : 1 < left) where
  pub first_some : SomeAt s (i + 1)
  first_some = checking_two h l (λ _. SomeAt s (i + 1)) λ a b c d ws f. record { value = a; stands = first_at f; fits = f.fits.0.0 }

  module _ {r : ℕ} (e : EndsAt s (i + 1) r) where
    pub second_some : SomeAt s r
    second_some = checking_two h l (λ _. SomeAt s r) λ a b c d ws f. record { value = b; stands = second_at f e; fits = f.fits.0.1 }

    module _ {k : ℕ} (g : EndsAt s r k) where
      pub next_some : SomeAt s (k + 1)
      next_some = checking_two h l (λ _. SomeAt s (k + 1)) λ a b c d ws f. record { value = c; stands = next_at f e g; fits = f.fits.1.0.0 }

      module _ {q : Bool} (told : SameAt s (i + 1) (k + 1) q) where
        same_firsts : {a b c d : Value} {ws : Values} → Front s top i left (pair a b ▸ pair c d ▸ ws) → q ≡ same a c
        same_firsts {a} {b} {c} f = told a c (first_at f) (next_at f e g) f.fits.0.0 f.fits.1.0.0

        pub walk_shared : q ≡ true → false ≡ new_firsts (members vs)
        walk_shared z = checking_shared h l (λ a b c d ws f _. same_order a c ((T_true (same a c)).1 (sym (same_firsts f) ∙ z)))

        pub walk_next : q ≡ false → Checking (λ _. Unit {0}) s top vs k (left - 1)
        unfolding same
        walk_next z = checking_next h l k (λ a b c d ws f _. (λ y. false≢true (sym z ∙ same_firsts f ∙ ap compare_is_eq y), pair_ends f e g, tt))

pub all_pairs : (vs : Values) → AllPairs vs → All IsPair (members vs)
all_pairs none p = tt
all_pairs (v ▸ vs) p = (p.0, all_pairs vs p.1)

-- The relation as a run of pairs.
pub whole : {s : List ℕ} {f n : ℕ} {vs : Values} → SetBelow s (length s) f vs → n ≡ get_or s f 0 % 4294967296 → Front s (f + weight (set vs)) (f + 1) n vs
whole {s} {f} {n} {vs} h =
    front_start s (f + weight (set vs)) f vs (record { stands = h.stands; below = omega arith; fine = h.fine }) n

pub relation_run : {s : List ℕ} {f n : ℕ} {flat : Bool} → Relation s f n flat → SomePairs s (f + 1) n
relation_run r = let q = r.relation in (_, _, front_start _ _ _ _ q.1 _ r.counted, q.2)

-- What the search for a pair and the test tell of an application.
pub image_none : {s : List ℕ} {f e : ℕ} → PairSought s f e None → Applies s f e None
image_none sought vs v h k p = rw (applied_none v k.fits vs p h.fine (sought vs v h k p)) refl

pub image_shared : {s : List ℕ} {f e : ℕ} {b : Bool} → IsFunction s f b → b ≡ false → Applies s f e None
image_shared g z vs v h k p = rw (applied_shared v k.fits vs p h.fine (sym (g vs h p) ∙ z)) refl

module _ {s : List ℕ} {f e i : ℕ} (sought : PairSought s f e (Some i)) where
  -- the first part of the pair that is found
  pub first_part : SomeValue s (length s) e → SomeRelation s (length s) f → SomeAt s (i + 1)
  first_part q r =
      let m = sought r.0 q.0 r.1 q.1 r.2 in
      let p = all_in_law IsPair m.is (members r.0) (all_pairs r.0 r.2) m.among in
      let x = key_stands true s i m.is none (p, tt) m.value.stands m.value.fits in
      record { value = left m.is; stands = x.0; fits = x.1 }

  pub image_found : {b : Bool} → IsFunction s f b → b ≡ true → {r : ℕ} → EndsAt s (i + 1) r → Applies s f e (Some r)
  image_found g z {r} ends vs v h k p =
      let m = sought vs v h k p in
      rw (applied_found v k.fits vs p h.fine m.is m.among m.key (sym (g vs h p) ∙ z))
      (on_pair (λ w. ValueBelow s (f + weight (set vs)) i w → WithinSet s f vs r (right w))
      (λ a b w. let x : r ≡ i + 1 + weight a = ends a (left_stands s i a b w.stands) w.fits.0 in record {
        behind = omega (arith, m.behind);
        value = record {
          stands = rw x (right_stands s i a b w.stands);
          below = omega (arith, w.below);
          fits = w.fits.1;
          light = omega (arith, w.light);
        };
      }) m.is (all_in_law IsPair m.is (members vs) (all_pairs vs p) m.among) m.value)

three_each : (v : Value) (vs : Values) → FlatPairs (v ▸ vs) → (weight v ≡ 3) × FlatPairs vs
three_each v vs h = (h.0.0, (h.0.1, h.1.1))

-- The first part of such a pair is one cell.
first_one : (a b : Value) → weight (pair a b) ≡ 3 → weight a ≡ 1
first_one a b e = omega (arith, weight_some a, weight_some b)

pub flat_inside : {s : List ℕ} {top at n : ℕ} {vs : Values} → Front s top at n vs → FlatPairs vs → at + 3 * n ≤ length s
flat_inside {vs = vs} f h = omega (arith, f.stands.inside, length_codes vs, weights_even 3 vs h.0, f.counted)

-- The order of the first parts of two pairs.
cells_order : {s : List ℕ} {top i n : ℕ} {a b c d : Value} {ws : Values} → Front s top i n (pair a b ▸ pair c d ▸ ws) →
    AllWeigh 3 (pair a b ▸ pair c d ▸ ws) → order a c ≡ compare (get_or s (i + 1) 0) (get_or s (i + 3 + 1) 0)
cells_order {s} {top} {i} {n} {a} {b} {c} {d} {ws} f h =
    let g = front_next s top i n (pair a b) (pair c d ▸ ws) f (i + 3) (n - 1) (omega (arith, h.0)) (omega (arith, f.counted)) in
    cell_order s (i + 1) (i + 3 + 1) a c (left_stands s i a b (front_value s top i n (pair a b) (pair c d ▸ ws) f))
    (left_stands s (i + 3) c d (front_value s top (i + 3) (n - 1) (pair c d) ws g)) f.fits.0.0 g.fits.0.0 (first_one c d h.1.0)

-- The first parts do not fall.
pub pair_row : {s : List ℕ} {top at n : ℕ} {vs : Values} → Front s top at n vs → FlatPairs vs → Row s (at + 1) 3 n
pair_row {s} {top} {at} {n} {vs} f h = record {
  inside = λ i l. omega (arith, flat_inside f h);
  rises = climb (λ i. get_or s (at + 1 + 3 * i) 0) n (λ i l.
      let x = neighbours s top at n 3 FlatPairs three_each (λ i j. get_or s (i + 1) 0 ≤ get_or s (j + 1) 0)
      (λ i m v w ws g k. by_two (λ us. AllWeigh 3 us → get_or s (i + 1) 0 ≤ get_or s (i + 3 + 1) 0) (λ a b c d us. rise) (v ▸ w ▸ ws) g k.1
      (omega (arith, g.counted)) k.0) vs f h i l in
      let y : get_or s (at + 3 * i + 1) 0 ≡ get_or s (at + 1 + 3 * i) 0 = ap (λ (j : ℕ). get_or s j 0) (omega arith) in
      let z : get_or s (at + 3 * suc i + 1) 0 ≡ get_or s (at + 1 + 3 * suc i) 0 = ap (λ (j : ℕ). get_or s j 0) (omega arith) in
      omega arith);
}
  where
    rise : {i m : ℕ} {a b c d : Value} {ws : Values} → Front s top i m (pair a b ▸ pair c d ▸ ws) → AllWeigh 3 (pair a b ▸ pair c d ▸ ws) →
        get_or s (i + 1) 0 ≤ get_or s (i + 3 + 1) 0
    rise {a = a} {b} {c} {d} g k =
        elim (then_lt (order a c) (order b d) (sym (order_pair a b c d) ∙ before_order (pair a b) (pair c d) g.rises.0)) [
          | inl e ↦ omega (arith, compare_lt _ _ (sym (cells_order g k) ∙ e))
          | inr e ↦ omega (arith, compare_eq _ _ (sym (cells_order g k) ∙ e.0))
        ]

-- `of_flat_pairs`: the first pair's parts tell that all pairs are such.
module _ {s : List ℕ} {top f : ℕ} {vs : Values} (h : SetBelow s top f vs) (p : AllPairs vs) where
  fronted : Front s top (f + 1) (get_or s f 0 % 4294967296) vs
  fronted = front_start s top f vs h (get_or s f 0 % 4294967296) refl

  pub no_pairs : get_or s f 0 % 4294967296 ≡ 0 → FlatPairs vs
  no_pairs e = no_front FlatPairs (tt, tt) fronted (omega arith)

  module _ (some : get_or s f 0 % 4294967296 ≡ 0 → ⊥) where
    -- what is shown of a first pair and the rest
    by_pair : (P : Values → Type 0) →
        ((a b : Value) (ws : Values) → Front s top (f + 1) (get_or s f 0 % 4294967296) (pair a b ▸ ws) → AllPairs ws → EvenSet (pair a b ▸ ws) →
        P (pair a b ▸ ws)) → P vs
    by_pair P k =
        let n = get_or s f 0 % 4294967296 in
        by_front (λ ws. AllPairs ws → EvenSet ws → P ws)
        (λ v ws g q. on_pair (λ x. Front s top (f + 1) n (x ▸ ws) → EvenSet (x ▸ ws) → P (x ▸ ws)) (λ a b g. k a b ws g q.1) v q.0 g)
        fronted (omega arith) p h.fine.even

    pub flat_pairs : get_or s (f + 2) 0 < 4 * cell_size → get_or s (f + 3) 0 < 4 * cell_size → FlatPairs vs
    flat_pairs l r = by_pair FlatPairs λ a b ws g q e.
        let k = front_value s top (f + 1) _ (pair a b) ws g in
        let x = scalar_cell_law s (f + 1 + 1) a (left_stands s (f + 1) a b k) g.fits.0.0
        (omega (arith, ap (λ (i : ℕ). get_or s i 0) (let z : f + 1 + 1 ≡ f + 2 = omega arith in z))) in
        let y = scalar_cell_law s (f + 1 + 1 + weight a) b (right_stands s (f + 1) a b k) g.fits.0.1
        (omega (arith, ap (λ (i : ℕ). get_or s i 0) (let z : f + 1 + 1 + weight a ≡ f + 3 = omega (arith, (scalar_one a x).0) in z))) in
        let w : weight (pair a b) ≡ 3 = omega (arith, (scalar_one a x).0, (scalar_one b y).0) in
        ((w, subst (λ (n : ℕ). AllWeigh n ws) w (e (x, y))), (tt, q))

    pub pair_inside : f + 3 < length s
    pair_inside = by_pair (λ _. f + 3 < length s) λ a b ws g q e.
        omega (arith, g.stands.inside, length_codes (pair a b ▸ ws), weight_some a, weight_some b)

-- `flat_function`: cells tell whether two pairs share a first part.
pub flat_start : {s : List ℕ} {top at n i left : ℕ} {vs : Values} → Front s top at n vs → FlatPairs vs → i ≡ at → left ≡ n →
    Checking (AllWeigh 3) s top vs i left
flat_start f p u w = rw (u, w) (record { rest = _; front = f; pairs = p.1; known = p.0; result = refl })

module _ {s : List ℕ} {top : ℕ} {vs : Values} {i left : ℕ} (h : Checking (AllWeigh 3) s top vs i left) where
  pub checking_inside : i + 3 * left ≤ length s
  checking_inside = flat_inside h.front (h.known, h.pairs)

  module _ (l : 1 < left) where
    -- x and y are where the first parts stand
    module _ {x y : ℕ} (p : x ≡ i + 1) (q : y ≡ i + 3 + 1) where
      pub flat_shared : get_or s x 0 ≡ get_or s y 0 → false ≡ new_firsts (members vs)
      flat_shared e =
          let same_cells : get_or s (i + 1) 0 ≡ get_or s (i + 3 + 1) 0 = rw (← p, ← q) e in
          checking_shared h l (λ a b c d ws f k. cells_order f k ∙ rw same_cells (compare_refl (get_or s (i + 3 + 1) 0)))

      pub flat_next : {j m : ℕ} → (get_or s x 0 ≡ get_or s y 0 → ⊥) → j ≡ i + 3 → m ≡ left - 1 → Checking (AllWeigh 3) s top vs j m
      flat_next n u w = rw (u, w) (checking_next h l (i + 3) (λ a b c d ws f k. (
        λ z. n (rw (p, q) (compare_eq (get_or s (i + 1) 0) (get_or s (i + 3 + 1) 0) (sym (cells_order f k) ∙ z))),
        omega (arith, k.0),
        k.1,
      )))

pub relation_flat : {s : List ℕ} {f n : ℕ} {flat : Bool} → Relation s f n flat → flat ≡ true → SomeFlat s (f + 1) n
relation_flat r e = let q = r.relation in (_, _, front_start _ _ _ _ q.1 _ r.counted, r.thin e _ _ q.1 q.2)

-- `pair_with`: the cell of e is looked for in the row of first parts.
module _ {s : List ℕ} {e : ℕ} {v : Value} (value : ValueBelow s (length s) e v) {top at n : ℕ} {vs : Values} (f : Front s top at n vs)
    (flat : FlatPairs vs) where
  pub flat_none : ((i : ℕ) → i < n → get_or s (at + 1 + 3 * i) 0 ≡ get_or s e 0 → ⊥) → All (λ w. left w ≡ v → ⊥) (members vs)
  flat_none d = in_all (λ w. left w ≡ v → ⊥) (members vs) λ w j q.
      let x = place_of s top 3 FlatPairs three_each w at n vs f flat j in
      let i = x.0 in
      d i x.1 (on_pair (λ w. left w ≡ v → ValueAt s (at + 3 * i) w → get_or s (at + 1 + 3 * i) 0 ≡ get_or s e 0)
      (λ a b q h. same_cell s (at + 1 + 3 * i) e v
      (subst (λ (j : ℕ). ValueAt s j v) (let z : at + 3 * i + 1 ≡ at + 1 + 3 * i = omega arith in z) (rw (← q) (left_stands s (at + 3 * i) a b h)))
      value.stands) w (all_in_law IsPair w (members vs) (all_pairs vs flat.1) j) q x.2)

  pub flat_found : (i : ℕ) → i < n → get_or s (at + 1 + 3 * i) 0 ≡ get_or s e 0 → Member s top at true v (members vs) (at + 3 * i)
  flat_found i l q =
      value_at_law s top at n 3 (λ ws. FlatPairs ws × ((x : Value) → In x (members ws) → In x (members vs)))
      (λ w ws h. let x = three_each w ws h.0 in (x.0, (x.1, λ y j. h.1 y (inr j))))
      (λ j. at ≤ j → get_or s (j + 1) 0 ≡ get_or s e 0 → Member s top at true v (members vs) j)
      (λ j m w ws g h b z. record {
        is = w;
        among = h.1 w (inl refl);
        key = on_pair (λ w. Front s top j m (w ▸ ws) → weight w ≡ 3 → left w ≡ v)
            (λ a b g o. cell_tells s e (j + 1) v a value.stands (left_stands s j a b (front_value s top j m (pair a b) ws g)) value.fits g.fits.0.0
            (first_one a b o) z) w h.0.1.0 g h.0.0.0;
        behind = b;
        value = front_below s top j m w ws g;
      }) vs f (flat, λ x j. j) i l (omega arith) (ap (λ (j : ℕ). get_or s j 0) (let z : at + 3 * i + 1 ≡ at + 1 + 3 * i = omega arith in z) ∙ q)
