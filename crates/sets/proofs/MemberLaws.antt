-- Members of rising lists, by the order of the first: what comes before it, and whether a value is in.
use Rattle.sets.proofs.Base.{Ordering, Ordering·lt, Ordering·gt, false, ◌||◌, List, [], ◌∷◌, ◌≡◌, refl, ap, ◌∙◌, compare_is_eq}
use Rattle.sets.proofs.Terms.{Value, order, is_in}
use Rattle.laws.proofs.OrderLaws.{flip, order_flip, before_order, before_trans}
use Rattle.laws.proofs.SetOrder.{All, Before, Rising, all_imp}

-- Of two values that are before one another one is greater.
pub after_order : (v w : Value) → Before w v → order v w ≡ Ordering·gt
after_order v w h = order_flip w v ∙ ap flip (before_order w v h)

-- The first member of a rising list, and those before it.
pub before_all : (v w : Value) (ws : List Value) → Before v w → Rising (w ∷ ws) → All (Before v) (w ∷ ws)
before_all v w ws h k = (h, all_imp (Before w) (Before v) (λ x p. before_trans v w x h p) ws k.0)

-- The test of the first member.
pub is_in_turn : (o : Ordering) (v w : Value) (ws : List Value) → order v w ≡ o → is_in v (w ∷ ws) ≡ (compare_is_eq o || is_in v ws)
unfolding is_in
is_in_turn o v w ws e = rw e

-- A value before all is not in.
pub is_in_before : (v : Value) (ws : List Value) → All (Before v) ws → is_in v ws ≡ false
unfolding is_in
is_in_before v [] h = refl
is_in_before v (w ∷ ws) h = is_in_turn Ordering·lt v w ws (before_order v w h.0) ∙ is_in_before v ws h.1
