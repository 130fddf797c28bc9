-- What a value is held against in a search: members, or the first parts of pairs, which do not fall.
use Rattle.sets.proofs.Base.{Bool, true, false, List, [], ◌∷◌, ◌⊎◌, inl, inr, ◌≡◌, sym, ◌∙◌, subst}
use Rattle.sets.proofs.Terms.{Value, scalar, pair, set, Values, none, ◌▸◌, members, order, left, IsPair, AllPairs, key_of}
use Rattle.laws.proofs.OrderLaws.{Small, order_eq, order_pair, before_order, order_before, before_trans, then_lt}
use Rattle.laws.proofs.SetOrder.{All, Before}

-- What holds of pairs holds of a value that is one.
pub on_pair : (P : Value → Type 0) → ((a b : Value) → P (pair a b)) → (w : Value) → IsPair w → P w
on_pair P f (scalar x) h = absurd h
on_pair P f (set x) h = absurd h
on_pair P f (pair a b) h = f a b

-- A small pair.
abbrev pub SmallPair : Value → Type 0
SmallPair x = IsPair x × Small x

-- The first parts of pairs that rise do not fall.
pub first_parts : (x y : Value) → SmallPair x → SmallPair y → Before x y → Before (left x) (left y) ⊎ (left x ≡ left y)
first_parts x y p q =
    on_pair (λ x. Small x → Before x y → Before (left x) (left y) ⊎ (left x ≡ left y))
    (λ a b k. on_pair (λ y. Small y → Before (pair a b) y → Before a (left y) ⊎ (a ≡ left y))
    (λ c d l h. elim (then_lt (order a c) (order b d) (sym (order_pair a b c d) ∙ before_order (pair a b) (pair c d) h)) [
      | inl e ↦ inl (order_before a c e)
      | inr e ↦ inr (order_eq a c k.0 l.0 e.0)
    ]) y q.0 q.1) x p.0 p.1

-- What is asked of a member so that its key can be held against a value: of a first part, that it is a small pair's.
abbrev pub Keeps : Bool → Value → Type 0
Keeps true x = SmallPair x
Keeps false x = Unit {0}

-- What is less than a member's key is less than those of the members behind it.
pub less_all : (first : Bool) (v x : Value) (xs : List Value) → Keeps first x → All (Keeps first) xs → All (Before x) xs → Before v (key_of first x) →
    All (λ z. Before v (key_of first z)) xs
less_all first v x [] p q h l = tt
less_all first v x (y ∷ ys) p q h l = (one first p q.0 l, less_all first v x ys p q.1 h.1 l)
  where
    one : (f : Bool) → Keeps f x → Keeps f y → Before v (key_of f x) → Before v (key_of f y)
    one true p q l = elim (first_parts x y p q h.0) [ inl b ↦ before_trans v (left x) (left y) l b | inr e ↦ subst (Before v) e l ]
    one false p q l = before_trans v x y l h.0

-- Pairs of a set, as a list.
pub pairs_small : (vs : Values) → AllPairs vs → All Small (members vs) → All SmallPair (members vs)
pairs_small none p h = tt
pairs_small (v ▸ vs) p h = ((p.0, h.0), pairs_small vs p.1 h.1)
