-- Two values that follow one another, the first a scalar or a pair of two scalars: which is before the other and whether they share a type, by
-- their cells. Scalars share a type where the cell of the one is within the bounds of the other's type.
use Prim.Native.Nat.{ℕ, ◌+◌, ◌*◌, ◌/◌, ◌≤◌, ◌<◌, compare, Ordering}
use mathlib.Core.Bool.{Bool, true, false, not, cond, ◌&&◌}
use mathlib.Core.List.{List}
use mathlib.Core.Logic.{◌≢◌, ◌↔◌}
use mathlib.Core.Path.{◌≡◌, refl, sym, ap, subst, ◌∙◌}
use native.Mathlib.Omega.{arith}
use native.Mathlib.Decide.{ℕ_discrete, dec_lt}
use borrow.Author.Tests.{eq-eqb, ne_eqb, eqb-true, eqb-false, lt-ltb, le-ltb, ltb-true, ltb-false}
use lib.Dec.{T, eqb, ltb}
use Rattle.std.specs.Ordering.{is_lt as is_less}
use lib.ListN.{length, get_or}
use Rattle.std.proofs.Common.{Some}
use Rattle.std.specs.Ordering.{partial_ordering_then, nat_cmp, is_le, is_some_and}
use Rattle.std.specs.declared.cmp.Ordering.TheVariants.{Less, Equal, Greater}
use Rattle.rules.specs.Values.{Value, scalar, pair, set, weight, ◌then◌, order}
use Rattle.laws.proofs.OrderLaws.{order_eq, order_pair, then_first, compare_eq, compare_refl, lt_compare, gt_compare}
use Rattle.laws.proofs.EndLaws.{T_true, T_and, t_eqb}
use Rattle.laws.proofs.CellsLaws.{weight_some}
use Rattle.arena.specs.Code.{cell_size, ValueAt, CellsFit, EndsAt, Compared, ordering_of, IsScalar}
use Rattle.arena.proofs.CodeLaws.{length_code, fits_small}
use Rattle.arena.proofs.EvenLaws.{first_cell_order}
use Rattle.arena.proofs.ValueParts.{first_cell_law, scalar_cell_law, scalar_one, one_cell, left_stands, right_stands}
use Rattle.fitting.specs.Agree.{SomeTyped, agree, Agreed, Full, atoms_alike}
use Rattle.fitting.proofs.Sharing.{tags_differ}
use Rattle.fitting.proofs.Cells.{tag_is, as_pair, PairHere, pair_here, pairs_agree, atoms_agree, scalar_low_law}
use Rattle.canonical.specs.Shared.{least_alike, most_alike, ScalarPair, pair_before}
use Rattle.canonical.proofs.Members.{FullAt, IsBefore, compared_before}

-- Two cells are alike where the second is within the bounds of those that are alike to the first.
module _ (x y : ℕ) where
  by_tag_law : (P : ℕ → ℕ → Bool → Type 0) →
      (x / cell_size ≡ 3 → P (x / 256 * 256) (x / 256 * 256 + 255) (eqb (x / 256) (y / 256))) →
      (x / cell_size ≢ 3 → P (x / cell_size * cell_size) (x / cell_size * cell_size + 4294967295) (eqb (x / cell_size) (y / cell_size))) →
      P (least_alike x) (most_alike x) (atoms_alike x y)
  by_tag_law P h k = go (ℕ_discrete (x / cell_size) 3)
    where
      go : Dec (x / cell_size ≡ 3) → P (least_alike x) (most_alike x) (atoms_alike x y)
      go (yes e) = rw (eq-eqb (x / cell_size) 3 e) (h e)
      go (no n) = rw (ne_eqb (x / cell_size) 3 n) (k n)

  pub alike_bounds : T (atoms_alike x y) ↔ ((least_alike x ≤ y) × (y ≤ most_alike x))
  alike_bounds =
      by_tag_law (λ l m b. T b ↔ ((l ≤ y) × (y ≤ m)))
      (λ t. simp t_eqb (λ e. (omega arith, omega arith), λ h. omega arith))
      (λ t. simp t_eqb (λ e. (omega arith, omega arith), λ h. omega arith))

  pub alike_within : least_alike x ≤ y → y ≤ most_alike x → atoms_alike x y ≡ true
  alike_within l m = (T_true _).0 (alike_bounds.1 (l, m))

  pub least_alike_law : least_alike x ≤ x
  least_alike_law = by_tag_law (λ l m b. l ≤ x) (λ t. omega arith) (λ t. omega arith)

  pub alike_low : x < 4 * cell_size → atoms_alike x y ≡ true → y < 4 * cell_size
  alike_low l e = let h = alike_bounds.0 ((T_true _).1 e) in by_tag_law (λ n m b. y ≤ m → y < 4 * cell_size) (λ t k. omega arith) (λ t k. omega arith) h.1

-- Two numbers, by their order.
less_is : (x y : ℕ) → is_less (ordering_of (compare x y)) ≡ ltb x y
less_is x y = go (dec_lt x y) (dec_lt y x)
  where
    go : Dec (x < y) → Dec (y < x) → is_less (ordering_of (compare x y)) ≡ ltb x y
    go (yes p) d = rw (lt_compare x y p, lt-ltb x y p)
    go (no n) (yes p) = rw (gt_compare x y p, le-ltb x y (omega arith))
    go (no n) (no m) = let e : x ≡ y = omega arith in rw (e, compare_refl y, le-ltb y y (omega arith))

-- A scalar is before a value just where its cell is less than that value's first.
pub cell_before : (s : List ℕ) (a b : ℕ) → get_or s a 0 < 4 * cell_size → IsBefore s a b (ltb (get_or s a 0) (get_or s b 0))
cell_before s a b low =
    subst (IsBefore s a b) (less_is (get_or s a 0) (get_or s b 0))
    (compared_before (λ v w h k p q. ap ordering_of (sym (first_cell_order s a b v w h k p q (omega (arith, one_cell s a low v h p))))))

-- The cells of a pair's parts, where the left one is a scalar.
abbrev left_cell : List ℕ → ℕ → ℕ
left_cell s a = get_or s (a + 1) 0

abbrev right_cell : List ℕ → ℕ → ℕ
right_cell s a = get_or s (a + 2) 0

abbrev parts_order : List ℕ → ℕ → ℕ → Ordering
parts_order s a b = compare (left_cell s a) (left_cell s b) then compare (right_cell s a) (right_cell s b)

-- A pair of two scalars: three cells, one type.
scalar_is_full : (v : Value) → IsScalar v → Full v
scalar_is_full (scalar x) h = tt
scalar_is_full (pair v w) h = absurd h
scalar_is_full (set vs) h = absurd h

pair_value : {s : List ℕ} {a : ℕ} → ScalarPair s a → (v : Value) → ValueAt s a v → CellsFit v → (weight v ≡ 3) × Full v
pair_value {s} {a} p (scalar x) h f = absurd (omega (arith, (first_cell_law s a (scalar x) h f).0, p.head, scalar_low_law x))
pair_value {s} {a} p (pair v w) h f =
    let x = scalar_cell_law s (a + 1) v (left_stands s a v w h) f.0 p.left in
    let l = (scalar_one v x).0 in
    let e : a + 2 ≡ a + 1 + weight v = omega arith in
    let y = scalar_cell_law s (a + 1 + weight v) w (right_stands s a v w h) f.1 (subst (λ (j : ℕ). get_or s j 0 < 4 * cell_size) e p.right) in
    (omega (arith, (scalar_one w y).0), (scalar_is_full v x, scalar_is_full w y))
pair_value {s} {a} p (set vs) h f = absurd (omega (arith, (first_cell_law s a (set vs) h f).0, p.head))

pub pair_ends : {s : List ℕ} {a : ℕ} → ScalarPair s a → EndsAt s a (a + 3)
pair_ends p v h f = omega (arith, (pair_value p v h f).0)

pub pair_full : {s : List ℕ} {a : ℕ} → ScalarPair s a → FullAt s a
pair_full p v h = (pair_value p v h.stands h.fits).1

-- A pair has three cells or more.
pub pair_inside : {s : List ℕ} {a : ℕ} → SomeTyped s a → get_or s a 0 ≡ 4 * cell_size → a + 2 < length s
pair_inside {s} {a} x e =
    let (v, w, _, h) = as_pair x.1 (omega arith) in
    omega (arith, h.stands.inside, length_code (pair v w), weight_some v, weight_some w)

-- Two pairs: which is before the other, and whether they share a type.
abbrev pub parts_before : List ℕ → ℕ → ℕ → Bool
parts_before s a b = pair_before (left_cell s a) (right_cell s a) (left_cell s b) (right_cell s b)

abbrev pub parts_alike : List ℕ → ℕ → ℕ → Bool
parts_alike s a b = atoms_alike (left_cell s a) (left_cell s b) && atoms_alike (right_cell s a) (right_cell s b)

-- The pair of c and d is before that of a and b or the same, as std compares them, just where that of a and b is not before it.
pub pair_not_before : (a b c d : ℕ) → is_some_and is_le (partial_ordering_then (Some (nat_cmp c a)) (Some (nat_cmp d b))) ≡ not (pair_before a b c d)
pair_not_before a b c d = go (ltb c a) refl (eqb c a) refl (ltb d b) refl (eqb d b) refl
  where
    go : (p : Bool) → ltb c a ≡ p → (q : Bool) → eqb c a ≡ q → (r : Bool) → ltb d b ≡ r → (t : Bool) → eqb d b ≡ t →
        is_some_and is_le (partial_ordering_then (Some (cond p Less (cond q Equal Greater))) (Some (cond r Less (cond t Equal Greater)))) ≡
        not (pair_before a b c d)
    go true e q f r g t h =
        let l : c < a = ltb-true c a e in rw (ne_eqb a c (λ z. omega arith), le-ltb a c (omega arith)) refl
    go false e true f true g t h =
        let l : d < b = ltb-true d b g in rw (eq-eqb a c (sym (eqb-true c a f)), le-ltb b d (omega arith)) refl
    go false e true f false g true h = rw (eq-eqb a c (sym (eqb-true c a f)), le-ltb b d (omega (arith, eqb-true d b h))) refl
    go false e true f false g false h =
        rw (eq-eqb a c (sym (eqb-true c a f)), lt-ltb b d (omega (arith, ltb-false d b g, eqb-false d b h))) refl
    go false e false f r g t h =
        let n = eqb-false c a f in rw (ne_eqb a c (λ z. n (sym z)), lt-ltb a c (omega (arith, ltb-false c a e, n))) refl

-- A pair of two scalars and another value.
module _ {s : List ℕ} {a b : ℕ} (p : ScalarPair s a) where
  -- that is no pair
  pub pair_other : get_or s b 0 ≢ 4 * cell_size → Agreed s a b false
  pair_other n v w h k =
      sym (tags_differ v w (λ e.
      let (x, y, _, t) = as_pair k (omega (arith, tag_is h, tag_is k, p.head)) in n (omega (arith, first_cell_law s b (pair x y) t.stands t.fits))))

  -- and another pair
  module _ (q : get_or s b 0 ≡ 4 * cell_size) where
    pairs_compared : Compared s a b (ordering_of (parts_order s a b))
    pairs_compared (scalar x) w h k f g = absurd (omega (arith, (first_cell_law s a (scalar x) h f).0, p.head, scalar_low_law x))
    pairs_compared (set vs) w h k f g = absurd (omega (arith, (first_cell_law s a (set vs) h f).0, p.head))
    pairs_compared (pair x y) (scalar z) h k f g = absurd (omega (arith, (first_cell_law s b (scalar z) k g).0, q, scalar_low_law z))
    pairs_compared (pair x y) (set ws) h k f g = absurd (omega (arith, (first_cell_law s b (set ws) k g).0, q))
    pairs_compared (pair x y) (pair z t) h k f g = ap ordering_of (sym whole)
      where
        one : weight x ≡ 1
        one = (scalar_one x (scalar_cell_law s (a + 1) x (left_stands s a x y h) f.0 p.left)).0

        lefts : order x z ≡ compare (left_cell s a) (left_cell s b)
        lefts = first_cell_order s (a + 1) (b + 1) x z (left_stands s a x y h) (left_stands s b z t k) f.0 g.0 one

        go : (o : Ordering) → compare (left_cell s a) (left_cell s b) ≡ o → (o then order y t) ≡ (o then compare (right_cell s a) (right_cell s b))
        go Ordering.lt e = refl
        go Ordering.gt e = refl
        go Ordering.eq e =
            let same = ap weight (order_eq x z (fits_small x f.0) (fits_small z g.0) (lefts ∙ e)) in
            let i : a + 2 ≡ a + 1 + weight x = omega (arith, one) in
            let j : b + 2 ≡ b + 1 + weight z = omega (arith, one, same) in
            let u = rw (← i) at (right_stands s a x y h) in
            let v = rw (← j) at (right_stands s b z t k) in
            first_cell_order s (a + 2) (b + 2) y t u v f.1 g.1 (scalar_one y (scalar_cell_law s (a + 2) y u f.1 p.right)).0

        whole : order (pair x y) (pair z t) ≡ parts_order s a b
        whole = order_pair x y z t ∙ ap (λ (o : Ordering). o then order y t) lefts ∙ go (compare (left_cell s a) (left_cell s b)) refl

    pub pairs_before : IsBefore s a b (parts_before s a b)
    pairs_before = subst (IsBefore s a b) (go (ℕ_discrete (left_cell s a) (left_cell s b))) (compared_before pairs_compared)
      where
        go : Dec (left_cell s a ≡ left_cell s b) → is_less (ordering_of (parts_order s a b)) ≡ parts_before s a b
        go (yes e) = rw (e, eq-eqb (left_cell s b) (left_cell s b) refl, compare_refl (left_cell s b)) (less_is (right_cell s a) (right_cell s b))
        go (no n) =
            rw (
              ne_eqb (left_cell s a) (left_cell s b) n,
              then_first (compare (left_cell s a) (left_cell s b)) (compare (right_cell s a) (right_cell s b))
                  (λ e. n (compare_eq (left_cell s a) (left_cell s b) e)),
            ) (less_is (left_cell s a) (left_cell s b))

    pub pairs_alike : Agreed s a b (parts_alike s a b)
    pairs_alike v w h k = go (atoms_alike (left_cell s a) (left_cell s b)) refl
      where
        here : PairHere s a
        here = pair_here (v, h) (omega (arith, p.head))

        there : PairHere s b
        there = pair_here (w, k) (omega arith)

        right : (c : ℕ) → left_cell s c < 4 * cell_size → EndsAt s (c + 1) (c + 2)
        right c l x i f = omega (arith, one_cell s (c + 1) l x i f)

        lefts : Agreed s (a + 1) (b + 1) (atoms_alike (left_cell s a) (left_cell s b))
        lefts = atoms_agree s (a + 1) (b + 1) p.left

        go : (c : Bool) → atoms_alike (left_cell s a) (left_cell s b) ≡ c → (c && atoms_alike (right_cell s a) (right_cell s b)) ≡ agree v w
        go false e = (pairs_agree here there lefts v w h k).0 e
        go true e =
            let l = alike_low (left_cell s a) (left_cell s b) p.left e in
            (pairs_agree here there lefts v w h k).1 _ _ _ e (right a p.left) (right b l) (atoms_agree s (a + 2) (b + 2) p.right)

-- The scalars of the pair at b are within the bounds of the types of those at a.
pub record Within (s : List ℕ) (a b : ℕ) : Type 0 where
  pub left : (least_alike (left_cell s a) ≤ left_cell s b) × (left_cell s b ≤ most_alike (left_cell s a))
  pub right : (least_alike (right_cell s a) ≤ right_cell s b) × (right_cell s b ≤ most_alike (right_cell s a))

pub parts_within : (s : List ℕ) (a b : ℕ) → T (parts_alike s a b) → Within s a b
parts_within s a b = simp (T_and, alike_bounds) (λ h. record { left = h.0; right = h.1 })

-- The pair of two scalars at i, its cells x and y: the left one is not less than that of the pair at a.
pub record PairBehind (s : List ℕ) (a i x y : ℕ) : Type 0 where
  pub pair : ScalarPair s i
  pub first : x ≡ left_cell s i
  pub second : y ≡ right_cell s i
  pub rises : left_cell s a ≤ left_cell s i

module _ {s : List ℕ} {a i x y : ℕ} (h : PairBehind s a i x y) (b : ℕ) where
  pub before_is : {r t : Bool} → r ≡ pair_before x y (left_cell s b) (right_cell s b) → r ≡ t → parts_before s i b ≡ t
  before_is e f = rw (← h.first, ← h.second) (sym e ∙ f)

  -- the next pair, within the bounds
  pub pair_next : ScalarPair s a → get_or s b 0 ≡ 4 * cell_size → parts_before s i b ≡ true → left_cell s b ≤ most_alike (left_cell s a) →
      least_alike (right_cell s a) ≤ right_cell s b → right_cell s b ≤ most_alike (right_cell s a) →
      (parts_alike s a b ≡ true) × PairBehind s a b (left_cell s b) (right_cell s b)
  pair_next p q f l m n =
      let u = alike_within (left_cell s a) (left_cell s b) (omega (arith, rises, least_alike_law (left_cell s a) 0)) l in
      let v = alike_within (right_cell s a) (right_cell s b) m n in (
        rw (u, v),
        record {
          pair = record { head = q; left = alike_low _ _ p.left u; right = alike_low _ _ p.right v };
          first = refl;
          second = refl;
          rises = rises;
        },
      )
    where
      rises : left_cell s a ≤ left_cell s b
      rises = elim (ℕ_discrete (left_cell s i) (left_cell s b)) [
        | yes e ↦ omega (arith, h.rises)
        | no d ↦ let z : ltb (left_cell s i) (left_cell s b) ≡ true = rw (ne_eqb (left_cell s i) (left_cell s b) d) at f in omega (arith, ltb-true, h.rises)
      ]
