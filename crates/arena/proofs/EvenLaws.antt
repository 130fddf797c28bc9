-- Members of one weight. Values of one type, one of them flat, weigh the same; in a row of values that each weigh k, value i stands
-- k · i cells behind the first (`value_at_law`); a value of one cell compares with another by its cell.
use Rattle.arena.proofs.Base.{ℕ, zero, suc, ◌+◌, ◌*◌, ◌-◌, ◌≤◌, ◌<◌, compare, List, ◌≡◌, refl, sym, ap, ◌∙◌, subst, arith, T, get_or, Less, Equal, Greater}
use Rattle.rules.specs.Types.{Ty, atom, POW, ◌⊗◌}
use Rattle.rules.specs.Values.{Value, scalar, pair, set, Values, none, ◌▸◌, count, weight, weights, order}
use Rattle.rules.specs.Fits.{HasType, HaveType, typed}
use Rattle.laws.proofs.OrderLaws.{flip, order_flip, compare_flip, compare_refl, lt_compare, gt_compare}
use Rattle.laws.proofs.CellsLaws.{count_weights}
use Rattle.laws.proofs.FitsLaws.{typed_right}
use Rattle.arena.specs.Code.{ValueAt, CellsFit, ordering_of, EndsAt, Compared, IsScalar, Flat, AllWeigh, EvenSet, Front}
use Rattle.arena.proofs.Standing.{inner, weight_inner, stands_own}
use Rattle.arena.proofs.CellOrder.{leaf_order}
use Rattle.arena.proofs.FrontLaws.{front_next}

-- Values of one type.
like_scalar : (v w : Value) (t : Ty) → HasType v t → HasType w t → IsScalar v → weight w ≡ weight v
like_scalar (scalar x) (scalar y) t h k f = refl
like_scalar (scalar x) (pair a b) t h k f = absurd (subst (HasType (pair a b)) h k)
like_scalar (scalar x) (set vs) t h k f = absurd (subst (HasType (set vs)) h k)
like_scalar (pair a b) w t h k f = absurd f
like_scalar (set vs) w t h k f = absurd f

like_pair : (a b w : Value) (t : Ty) → HasType (pair a b) t → HasType w t → IsScalar a → IsScalar b → weight w ≡ weight (pair a b)
like_pair a b w (atom x) h k f g = absurd h
like_pair a b w (POW t) h k f g = absurd h
like_pair a b (scalar x) (t ⊗ u) h k f g = absurd (subst (HasType (pair a b)) k h)
like_pair a b (pair c d) (t ⊗ u) h k f g = omega (arith, like_scalar a c t h.0 k.0 f, like_scalar b d u h.1 k.1 g)
like_pair a b (set vs) (t ⊗ u) h k f g = absurd k

like_flat : (v w : Value) (t : Ty) → HasType v t → HasType w t → Flat v → weight w ≡ weight v
like_flat (scalar x) w t h k f = like_scalar (scalar x) w t h k tt
like_flat (pair a b) w t h k f = like_pair a b w t h k f.0 f.1
like_flat (set vs) w t h k f = absurd f

all_like : (v : Value) (vs : Values) (t : Ty) → HasType v t → HaveType vs t → Flat v → AllWeigh (weight v) vs
all_like v none t h k f = tt
all_like v (w ▸ ws) t h k f = (like_flat v w t h k.0 f, all_like v ws t h k.1 f)

pub typed_even : (vs : Values) → T (typed (set vs)) → EvenSet vs
typed_even none h = tt
typed_even (v ▸ vs) h = let x = (typed_right (set (v ▸ vs))).0 h in of x.0 x.1
  where
    of : (t : Ty) → HasType (set (v ▸ vs)) t → EvenSet (v ▸ vs)
    of (atom a) h f = absurd h
    of (POW t) h f = all_like v vs t h.0 h.1 f
    of (t ⊗ u) h f = absurd h

pub weights_even : (k : ℕ) (vs : Values) → AllWeigh k vs → weights vs ≡ k * count vs
weights_even k none h = omega arith
weights_even k (v ▸ vs) h = omega (arith, weights_even k vs h.1)

-- The values behind the first i of a row, in which Q holds of what is left.
pub record Behind (s : List ℕ) (top at n k : ℕ) (Q : Values → Type 0) (i : ℕ) : Type 0 where
  pub rest : Values
  pub front : Front s top (at + k * i) (n - i) rest
  pub row : Q rest

module _ (s : List ℕ) (top at n k : ℕ) (Q : Values → Type 0) (one : (v : Value) (vs : Values) → Q (v ▸ vs) → (weight v ≡ k) × Q vs) where
  pub behind : (vs : Values) → Front s top at n vs → Q vs → (i : ℕ) → i ≤ n → Behind s top at n k Q i
  behind vs f h zero l = record {
    rest = vs;
    front = rw (let e : at + k * 0 ≡ at = omega arith in e, let e : n - 0 ≡ n = omega arith in e) f;
    row = h;
  }
  behind vs f h (suc i) l = let b = behind vs f h i (omega arith) in next b.rest b.front b.row
    where
      next : (ws : Values) → Front s top (at + k * i) (n - i) ws → Q ws → Behind s top at n k Q (suc i)
      next none g e = absurd (omega (arith, g.counted))
      next (w ▸ ws) g e = record {
        rest = ws;
        front = front_next s top (at + k * i) (n - i) w ws g (at + k * suc i) (n - suc i) (omega (arith, (one w ws e).0)) (omega arith);
        row = (one w ws e).1;
      }

  -- Value i of a row, and what stands behind it.
  pub value_at_law : (P : ℕ → Type 0) → ((j m : ℕ) (v : Value) (vs : Values) → Front s top j m (v ▸ vs) → Q (v ▸ vs) → P j) →
      (vs : Values) → Front s top at n vs → Q vs → (i : ℕ) → i < n → P (at + k * i)
  value_at_law P p vs f h i l = let b = behind vs f h i (omega arith) in first b.rest b.front b.row
    where
      first : (ws : Values) → Front s top (at + k * i) (n - i) ws → Q ws → P (at + k * i)
      first none g e = absurd (omega (arith, g.counted))
      first (w ▸ ws) g e = p (at + k * i) (n - i) w ws g e

-- The order of two values, one of which is one cell: first cells decide.
pub first_cell_order : (s : List ℕ) (a b : ℕ) (v w : Value) → ValueAt s a v → ValueAt s b w → CellsFit v → CellsFit w → weight v ≡ 1 →
    order v w ≡ compare (get_or s a 0) (get_or s b 0)
first_cell_order s a b v w h k p q one =
    rw (stands_own s a v h, stands_own s b w k) (leaf_order v w p q (omega (arith, weight_inner v, count_weights (inner v))))

-- The second of one cell.
module _ (s : List ℕ) (a b : ℕ) where
  pub cell_order : (v w : Value) → ValueAt s a v → ValueAt s b w → CellsFit v → CellsFit w → weight w ≡ 1 →
      order v w ≡ compare (get_or s a 0) (get_or s b 0)
  cell_order v w h k p q one =
      order_flip w v ∙ ap flip (first_cell_order s b a w v k h q p one) ∙ sym (compare_flip (get_or s b 0) (get_or s a 0))

  pub cell_compared : EndsAt s b (b + 1) → Compared s a b (ordering_of (compare (get_or s a 0) (get_or s b 0)))
  cell_compared e v w h k p q = ap ordering_of (sym (cell_order v w h k p q (omega (arith, e w k q))))

  pub cell_less : EndsAt s b (b + 1) → get_or s a 0 < get_or s b 0 → Compared s a b Less
  cell_less e l = subst (Compared s a b) (ap ordering_of (lt_compare (get_or s a 0) (get_or s b 0) l)) (cell_compared e)

  pub cell_equal : EndsAt s b (b + 1) → get_or s a 0 ≡ get_or s b 0 → Compared s a b Equal
  cell_equal e q =
      subst (Compared s a b) (ap (λ (x : ℕ). ordering_of (compare (get_or s a 0) x)) (sym q) ∙ ap ordering_of (compare_refl (get_or s a 0))) (cell_compared e)

  pub cell_greater : EndsAt s b (b + 1) → get_or s b 0 < get_or s a 0 → Compared s a b Greater
  cell_greater e l = subst (Compared s a b) (ap ordering_of (gt_compare (get_or s a 0) (get_or s b 0) l)) (cell_compared e)
