-- Walks over the members of sets in the arena, and what membership and inclusion answer.
use Prim.Native.Nat.{ℕ, ◌+◌, ◌≤◌, ◌<◌, Ordering}
use Rattle.std.specs.Prelude.{Bool, true, false, List, Option, Some, None, ◌≡◌, length, get_or}
use Rattle.rules.specs.Values.{Value, Values, ◌▸◌, members, weight, weights, order}
use Rattle.rules.specs.Operations.{left, is_in, all_in}
use Rattle.rules.specs.Safety.{All}
use Rattle.laws.proofs.Membership.{In}
use Rattle.arena.specs.Code.{SetBelow, ValueBelow, SomeValue, parts_of, Front, AllPairs}
use Rattle.sets.specs.declared.Turn.{Turn}

-- What is held against a value that is sought: a member, or its first part.
abbrev pub key_of : Bool → Value → Value
key_of true w = left w
key_of false w = w

-- Members that have first parts, if those are asked for.
abbrev pub Keyed : Bool → Values → Type 0
Keyed true vs = AllPairs vs
Keyed false vs = Unit {0}

pub record SeekPre (s : List ℕ) (at n e : ℕ) (first : Bool) : Type 0 where
  pub value : SomeValue s (length s) e
  pub top : ℕ
  pub rest : Values
  pub front : Front s top at n rest
  pub keyed : Keyed first rest

-- A member whose key is v stands at r, behind `at`.
pub record Member (s : List ℕ) (top at : ℕ) (first : Bool) (v : Value) (vs : List Value) (r : ℕ) : Type 0 where
  pub is : Value
  pub among : In is vs
  pub key : key_of first is ≡ v
  pub behind : at ≤ r
  pub value : ValueBelow s top r is

-- The answer is where such a member stands, if there is one.
abbrev pub MemberOrNone : List ℕ → ℕ → ℕ → Bool → Value → List Value → Option ℕ → Type 0
MemberOrNone s top at first v vs (Some r) = Member s top at first v vs r
MemberOrNone s top at first v vs None = All (λ w. key_of first w ≡ v → ⊥) vs

abbrev pub Sought : List ℕ → ℕ → ℕ → ℕ → Bool → Option ℕ → Type 0
Sought s at n e first r =
    (top : ℕ) (vs : Values) (v : Value) → Front s top at n vs → Keyed first vs → ValueBelow s (length s) e v →
    MemberOrNone s top at first v (members vs) r

-- r says whether the value at e is in the set at a.
abbrev pub Contains : List ℕ → ℕ → ℕ → Bool → Type 0
Contains s e a r = (v : Value) (vs : Values) → ValueBelow s (length s) e v → SetBelow s (length s) a vs → r ≡ is_in v (members vs)

-- r says whether the set at a is included in the set at b.
abbrev pub Includes : List ℕ → ℕ → ℕ → Bool → Type 0
Includes s a b r = (vs ws : Values) → SetBelow s (length s) a vs → SetBelow s (length s) b ws → r ≡ all_in (members vs) (members ws)

-- m members from a on and n from b on stand below `top`.
pub record TwoRuns (s : List ℕ) (a m b n top : ℕ) : Type 0 where
  pub first : Values
  pub second : Values
  pub on_left : Front s top a m first
  pub on_right : Front s top b n second

-- r says whether the former are among the latter.
abbrev pub RunIn : List ℕ → ℕ → ℕ → ℕ → ℕ → Bool → Type 0
RunIn s a m b n r = (vs ws : Values) → Front s (length s) a m vs → Front s (length s) b n ws → r ≡ all_in (members vs) (members ws)

-- A turn of a walk over two sets, at their first members v and w with the order o: the first of the two, whether it is
-- kept (l where it is only in the left set, b in both, r only in the right), and what is left of both sets.
abbrev pub keep_of : Bool → Bool → Bool → Ordering → Bool
keep_of l b r Ordering.lt = l
keep_of l b r Ordering.eq = b
keep_of l b r Ordering.gt = r

abbrev pub first_of : Ordering → Value → Value → Value
first_of Ordering.lt v w = v
first_of Ordering.eq v w = v
first_of Ordering.gt v w = w

abbrev pub rest_left : Ordering → Value → Values → Values
rest_left Ordering.lt v vs = vs
rest_left Ordering.eq v vs = vs
rest_left Ordering.gt v vs = v ▸ vs

abbrev pub rest_right : Ordering → Value → Values → Values
rest_right Ordering.lt w ws = w ▸ ws
rest_right Ordering.eq w ws = ws
rest_right Ordering.gt w ws = ws

pub record Turned (s : List ℕ) (top : ℕ) (l b r : Bool) (o : Ordering) (v : Value) (vs : Values) (w : Value) (ws : Values) (t : Turn) : Type 0 where
  pub keeps : t.keep ≡ keep_of l b r o
  pub value : ValueBelow s top t.from (first_of o v w)
  pub ends : t.end ≡ t.from + weight (first_of o v w)
  pub on_left : Front s top t.rest.a t.rest.m (rest_left o v vs)
  pub on_right : Front s top t.rest.b t.rest.n (rest_right o w ws)

-- t is the turn at two sets of which m members from a on and n from b on are left.
abbrev pub TurnAt : List ℕ → ℕ → ℕ → ℕ → ℕ → Bool → Bool → Bool → Turn → Type 0
TurnAt s a m b n l e r t =
    (top : ℕ) (v : Value) (vs : Values) (w : Value) (ws : Values) → Front s top a m (v ▸ vs) → Front s top b n (w ▸ ws) →
    Turned s top l e r (order v w) v vs w ws t

pub record TwoFronts (s : List ℕ) (a m b n : ℕ) : Type 0 where
  pub top : ℕ
  pub first : Value
  pub rest : Values
  pub first' : Value
  pub rest' : Values
  pub on_left : Front s top a m (first ▸ rest)
  pub on_right : Front s top b n (first' ▸ rest')

-- No parts follow the n cells from `at` on: each is a whole value.
pub record Cells (s : List ℕ) (at n : ℕ) : Type 0 where
  pub inside : at + n ≤ length s
  pub each : (i : ℕ) → i < n → parts_of (get_or s (at + i) 0) ≡ 0

-- r is where n members from `at` on end.
abbrev pub RunEnds : List ℕ → ℕ → ℕ → ℕ → Type 0
RunEnds s at n r = (top : ℕ) (vs : Values) → Front s top at n vs → r ≡ at + weights vs
