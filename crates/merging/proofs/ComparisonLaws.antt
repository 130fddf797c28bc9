-- The comparisons of a merge: a turn is one (`comparisons_turn`), there are none where either list is empty (`comparisons_none`), and
-- otherwise fewer than both have members (`comparisons_few`).
use Rattle.sets.proofs.Base.{◌+◌, ◌-◌, ◌≤◌, ◌<◌, Ordering, Ordering·lt, Ordering·eq, Ordering·gt, List, [], ◌∷◌, ◌⊎◌, inl, inr, ◌≡◌, refl, arith, length}
use Rattle.merging.proofs.Terms.{Value, Values, members, order, rest_left, rest_right, comparisons, compared_next}

pub comparisons_nil : (vs : List Value) → comparisons vs [] ≡ 0
unfolding comparisons
comparisons_nil [] = refl
comparisons_nil (v ∷ vs) = refl

-- A turn, by the order of the first members.
pub comparisons_turn : (o : Ordering) (v w : Value) (vs ws : List Value) → order v w ≡ o →
    comparisons (v ∷ vs) (w ∷ ws) ≡ 1 + compared_next o (comparisons vs (w ∷ ws)) (comparisons vs ws) (comparisons (v ∷ vs) ws)
unfolding comparisons
comparisons_turn o v w vs ws e = rw e

-- The same of the members that are left after the turn.
pub turn_compared : (o : Ordering) (v : Value) (vs : Values) (w : Value) (ws : Values) → order v w ≡ o →
    comparisons (v ∷ members vs) (w ∷ members ws) ≡ 1 + comparisons (members (rest_left o v vs)) (members (rest_right o w ws))
turn_compared Ordering·lt v vs w ws e = comparisons_turn Ordering·lt v w (members vs) (members ws) e
turn_compared Ordering·eq v vs w ws e = comparisons_turn Ordering·eq v w (members vs) (members ws) e
turn_compared Ordering·gt v vs w ws e = comparisons_turn Ordering·gt v w (members vs) (members ws) e

-- None where either list is empty.
pub comparisons_none : (vs ws : List Value) → (vs ≡ []) ⊎ (ws ≡ []) → comparisons vs ws ≡ 0
unfolding comparisons
comparisons_none vs ws (inl e) = rw e
comparisons_none vs ws (inr e) = rw (e, comparisons_nil vs)

-- At most one less.
pub comparisons_most : (vs ws : List Value) → comparisons vs ws ≤ length vs + length ws - 1
unfolding comparisons
comparisons_most [] ws = omega arith
comparisons_most (v ∷ vs) [] = omega arith
comparisons_most (v ∷ vs) (w ∷ ws) =
    go (order v w) refl (comparisons_most vs (w ∷ ws)) (comparisons_most vs ws) (comparisons_most (v ∷ vs) ws)
  where
    go : (o : Ordering) → order v w ≡ o → comparisons vs (w ∷ ws) ≤ length vs + length (w ∷ ws) - 1 → comparisons vs ws ≤ length vs + length ws - 1 →
        comparisons (v ∷ vs) ws ≤ length (v ∷ vs) + length ws - 1 → comparisons (v ∷ vs) (w ∷ ws) ≤ length (v ∷ vs) + length (w ∷ ws) - 1
    go Ordering·lt e x y z = omega (arith, comparisons_turn Ordering·lt v w vs ws e)
    go Ordering·eq e x y z = omega (arith, comparisons_turn Ordering·eq v w vs ws e)
    go Ordering·gt e x y z = omega (arith, comparisons_turn Ordering·gt v w vs ws e)

-- Fewer than both member counts together, where both have members.
pub comparisons_few : (vs ws : List Value) → 0 < length vs → 0 < length ws → comparisons vs ws < length vs + length ws
comparisons_few vs ws l k = omega (arith, comparisons_most vs ws)
