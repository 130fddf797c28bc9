-- Document 02, N12: two rising lists merged front to front in one pass, the comparisons that this takes, and the union of two values.
use Prim.Native.Nat.{ℕ, zero, suc, ◌+◌, Ordering}
use Rattle.std.specs.Prelude.{Bool, true, cond, List, [], ◌∷◌, leb}
use Rattle.rules.specs.Values.{Value, weight, order}
use Rattle.rules.specs.Kinds.{union}
use Rattle.rules.specs.Rules.{two_rule}
use Rattle.rules.specs.Fits.{fits}
use Rattle.rules.specs.Ends.{End, done, ◌>>=◌}
use Rattle.rules.specs.Reading.{reading}
use Rattle.rules.specs.Cells.{weight_limit, values_in}
use Rattle.rules.specs.Operations.{kept_value, elems, set_of}

-- One turn at the members v and w: whether the first of them is kept, and which of three rests follows.
abbrev pub turned : Bool → Bool → Bool → Ordering → Value → Value → List Value → List Value → List Value → List Value
turned l b r Ordering.lt v w x y z = kept_value l v x
turned l b r Ordering.eq v w x y z = kept_value b v y
turned l b r Ordering.gt v w x y z = kept_value r w z

-- v ∷ vs merged with a list, where f merges vs.
unfoldable pub merged_from : Bool → Bool → Bool → Value → List Value → (List Value → List Value) → List Value → List Value
unfolding order
merged_from l b r v vs f [] = cond l (v ∷ vs) []
merged_from l b r v vs f (w ∷ ws) =
    let x = f (w ∷ ws) in
    let y = f ws in
    let z = merged_from l b r v vs f ws in
    turned l b r (order v w) v w x y z

-- The members only in the first list (if l), in both (if b), only in the second (if r).
unfoldable pub merged : Bool → Bool → Bool → List Value → List Value → List Value
unfolding merged_from
merged l b r [] ws = cond r ws []
merged l b r (v ∷ vs) ws = merged_from l b r v vs (λ zs. merged l b r vs zs) ws

-- The union: equal fronts are taken together, and what is left of one list follows.
abbrev pub united : List Value → List Value → List Value
united vs ws = merged true true true vs ws

-- The comparisons after one at two fronts with this order: the list with the lesser front goes on, or both.
abbrev pub compared_next : Ordering → ℕ → ℕ → ℕ → ℕ
compared_next Ordering.lt x y z = x
compared_next Ordering.eq x y z = y
compared_next Ordering.gt x y z = z

-- Those of a list that begins with v and another, where f counts those of its rest.
unfoldable pub comparisons_from : Value → (List Value → ℕ) → List Value → ℕ
unfolding order
comparisons_from v f [] = 0
comparisons_from v f (w ∷ ws) =
    let x = f (w ∷ ws) in
    let y = f ws in
    let z = comparisons_from v f ws in
    1 + compared_next (order v w) x y z

-- The comparisons of a merge: one each time both lists still have a front.
unfoldable pub comparisons : List Value → List Value → ℕ
unfolding comparisons_from
comparisons [] ws = 0
comparisons (v ∷ vs) ws = comparisons_from v (λ zs. comparisons vs zs) ws

-- What the merge of two values answers: their union with the comparisons; that it would weigh over 256 (18 at a node), with those of
-- the whole merge; or that the two are not sets that share a type (15 at a node).
pub data Union : Type 0 where
  unites : ℕ → Value → Union
  heavy : ℕ → Union
  unfit : Union

abbrev pub weighed_union : ℕ → Value → Union
weighed_union n v = cond (leb (weight v) weight_limit) (unites n v) (heavy n)

unfoldable pub union_of : Value → Value → Union
unfolding fits merged comparisons
union_of v w =
    cond (fits (two_rule union).takes (v ∷ w ∷ [])) (weighed_union (comparisons (elems v) (elems w)) (set_of (united (elems v) (elems w)))) unfit

-- The values of the free identifiers, whose words are 0.
abbrev pub free_values : List ℕ → List Value → List Value
free_values [] vs = []
free_values (zero ∷ ws) [] = []
free_values (zero ∷ ws) (v ∷ vs) = v ∷ free_values ws vs
free_values (suc w ∷ ws) [] = []
free_values (suc w ∷ ws) (v ∷ vs) = free_values ws vs

-- The first two of a list merged.
abbrev pub first_two : List Value → Union
first_two [] = unfit
first_two (v ∷ []) = unfit
first_two (v ∷ w ∷ vs) = union_of v w

-- The values of the two lowest free identifiers merged, after refusals 1 to 9 and 14.
unfoldable pub union_in : List ℕ → List ℕ → End Union
unfolding reading values_in union_of
union_in bs buffer = do
  tb ← reading bs
  vs ← values_in tb buffer
  done (first_two (free_values tb.binds vs))
