-- Domain and range: the first or second parts of a set of pairs, each put among the rising members that have been built, unless it is there.
-- What has been built is always `rising` of the parts so far; `insert` of the rules says what one part more makes of it.
use Rattle.std.specs.Prelude.{ℕ, ◌+◌, ◌≤◌, Bool, true, false, cond, List, [], ◌∷◌, ◌++◌, map, Option, Some, None, Result, Ok, Err, ◌≡◌, length}
use Rattle.rules.specs.Values.{Value, Values, members, values, count, weight, weights}
use Rattle.rules.specs.Operations.{left, right, set_of, insert, rising}
use Rattle.rules.specs.Safety.{All}
use Rattle.arena.specs.Code.{ValuesAt, Same, CellsFit, EndsAt, SetBelow, ValueBelow, Made, AllPairs}
use Rattle.parts.specs.declared.Out.{Out}

pub record PartsPre (s : List ℕ) (a top : ℕ) : Type 0 where
  pub pairs : Values
  pub whole : SetBelow s top a pairs
  pub all : AllPairs pairs
  pub room : top + 514 ≤ length s

-- The first or the second part of a pair.
abbrev pub part : Bool → Value → Value
part false v = left v
part true v = right v

abbrev pub TakesParts : Bool → List ℕ → ℕ → ℕ → List ℕ → ℕ → Type 0
TakesParts b s a top s' r = (vs : Values) → SetBelow s top a vs → AllPairs vs → Made top s s' (set_of (rising (map (part b) (members vs)))) (Some r)

abbrev pub Domains : List ℕ → ℕ → ℕ → List ℕ → ℕ → Type 0
Domains s a top s' r = (vs : Values) → SetBelow s top a vs → AllPairs vs → Made top s s' (set_of (rising (map left (members vs)))) (Some r)

abbrev pub Ranges : List ℕ → ℕ → ℕ → List ℕ → ℕ → Type 0
Ranges s a top s' r = (vs : Values) → SetBelow s top a vs → AllPairs vs → Made top s s' (set_of (rising (map right (members vs)))) (Some r)

-- The first of two numbers, or the second.
abbrev pub chosen : Bool → ℕ → ℕ → ℕ
chosen b x y = cond b y x

-- The values zs stand from `from` to `to`.
pub record StandBetween (s : List ℕ) (from to : ℕ) (zs : List Value) : Type 0 where
  pub stands : ValuesAt s from (values zs)
  pub fits : All CellsFit zs
  pub ends : to ≡ from + weights (values zs)

-- Where the last of them stands, if there is one.
abbrev pub last_of : Value → List Value → Value
last_of z [] = z
last_of z (y ∷ ys) = last_of y ys

abbrev pub LastAt : Option ℕ → ℕ → List Value → Type 0
LastAt last to [] = last ≡ None
LastAt last to (z ∷ zs) = (k : ℕ) × (last ≡ Some k) × (k + weight (last_of z zs) ≡ to)

-- The members zs have been built from `from` on.
pub record BuiltParts (s : List ℕ) (from : ℕ) (o : Out) (zs : List Value) : Type 0 where
  pub members : StandBetween s from o.to zs
  pub last : LastAt o.last o.to zs
  pub counted : o.count ≡ count (values zs)

-- v belongs between lo and hi: it is put there unless it is one of them.
pub record PlaceBetween (v : Value) (from : ℕ) (zs : List Value) (at : ℕ) (equal : Bool) : Type 0 where
  pub lo : List Value
  pub hi : List Value
  pub all : zs ≡ lo ++ hi
  pub there : at ≡ from + weights (values lo)
  pub inserted : insert v zs ≡ lo ++ cond equal hi (v ∷ hi)

-- The answer of a search: it is one of them, or where it is put.
abbrev pub SearchPlace : Value → ℕ → List Value → Result ℕ ℕ → Type 0
SearchPlace v from zs (Ok at) = PlaceBetween v from zs at true
SearchPlace v from zs (Err at) = PlaceBetween v from zs at false

pub record FindPre (s : List ℕ) (p end from to : ℕ) : Type 0 where
  pub value : Value
  pub below : ValueBelow s from p value
  pub ends : EndsAt s p end
  pub others : List Value
  pub members : StandBetween s from to others

abbrev pub Finds : List ℕ → ℕ → ℕ → ℕ → ℕ → Result ℕ ℕ → Type 0
Finds s p end from to r = (g : FindPre s p end from to) → SearchPlace g.value from g.others r

-- A value below `from`, the rising members built from there on of other values, and room for one more.
pub record InsertPre (s : List ℕ) (p end from : ℕ) (o : Out) : Type 0 where
  pub value : Value
  pub below : ValueBelow s from p value
  pub ends : EndsAt s p end
  pub others : List Value
  pub built : BuiltParts s from o (rising others)
  pub room : o.to + weight value ≤ length s
  pub few : o.count ≤ 256

abbrev pub FindsPlace : List ℕ → ℕ → ℕ → ℕ → Out → Result ℕ ℕ → Type 0
FindsPlace s p end from o r = (g : InsertPre s p end from o) → SearchPlace g.value from (rising g.others) r

abbrev pub Inserts : List ℕ → ℕ → ℕ → ℕ → Out → List ℕ → Out → Type 0
Inserts s p end from o s' r = (g : InsertPre s p end from o) → Same from s s' × BuiltParts s' from r (insert g.value (rising g.others))

-- r is where the last member stands after one of n cells has been put at `at` among members that ended at `to`.
pub record MovedLast (at to : ℕ) (last : Option ℕ) (n r : ℕ) : Type 0 where
  pub behind : at ≡ to → r ≡ at
  pub before : (at ≡ to → ⊥) → (k : ℕ) → last ≡ Some k → r ≡ k + n
