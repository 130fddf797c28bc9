-- Application of a relation f to e. The pairs of f rise by their first parts, so that two pairs that share one are neighbours; that
-- neighbours tell whether f is a function is `firsts_right`.
use Rattle.std.specs.Prelude.{ℕ, ◌+◌, ◌%◌, ◌<◌, Bool, true, not, ◌&&◌, List, [], ◌∷◌, Option, Some, None, ◌≡◌, length, get_or}
use Rattle.rules.specs.Values.{Value, set, Values, members, weight, same}
use Rattle.rules.specs.Runs.{Given, gives, lacks}
use Rattle.rules.specs.Operations.{left, applied}
use Rattle.sets.specs.Fronts.{MemberOrNone}
use Rattle.arena.specs.Code.{AllWeigh, SetBelow, ValueBelow, Front, AllPairs, SomeRelation}

-- The pair x does not share its first part with the next one.
abbrev pub new_first : Value → List Value → Bool
new_first x [] = true
new_first x (y ∷ ys) = not (same (left x) (left y))

-- No pair shares its first part with the next one.
abbrev pub new_firsts : List Value → Bool
new_firsts [] = true
new_firsts (x ∷ xs) = new_first x xs && new_firsts xs

-- n pairs that rise stand from `at` on.
abbrev pub SomePairs : List ℕ → ℕ → ℕ → Type 0
SomePairs s at n = (top : ℕ) × (vs : Values) × Front s top at n vs × AllPairs vs

-- r says whether none of n pairs from `at` on shares its first part with the next one.
abbrev pub FunctionAt : List ℕ → ℕ → ℕ → Bool → Type 0
FunctionAt s at n r = (top : ℕ) (vs : Values) → Front s top at n vs → AllPairs vs → r ≡ new_firsts (members vs)

-- Pairs of two values of one cell each: three cells a pair.
abbrev pub FlatPairs : Values → Type 0
FlatPairs vs = AllWeigh 3 vs × AllPairs vs

abbrev pub SomeFlat : List ℕ → ℕ → ℕ → Type 0
SomeFlat s at n = (top : ℕ) × (vs : Values) × Front s top at n vs × FlatPairs vs

-- `FunctionAt` for such pairs.
abbrev pub FlatFunctionAt : List ℕ → ℕ → ℕ → Bool → Type 0
FlatFunctionAt s at n r = (top : ℕ) (vs : Values) → Front s top at n vs → FlatPairs vs → r ≡ new_firsts (members vs)

-- The members of the relation at f are such pairs.
abbrev pub FlatAt : List ℕ → ℕ → Type 0
FlatAt s f = (top : ℕ) (vs : Values) → SetBelow s top f vs → AllPairs vs → FlatPairs vs

-- f is a relation of n pairs, such pairs if flat.
pub record Relation (s : List ℕ) (f n : ℕ) (flat : Bool) : Type 0 where
  pub relation : SomeRelation s (length s) f
  pub counted : n ≡ get_or s f 0 % 4294967296
  pub thin : flat ≡ true → FlatAt s f

-- r is where a pair of f stands whose first part is the value at e, if there is one.
abbrev pub PairSought : List ℕ → ℕ → ℕ → Option ℕ → Type 0
PairSought s f e r =
    (vs : Values) (v : Value) → SetBelow s (length s) f vs → ValueBelow s (length s) e v → AllPairs vs →
    MemberOrNone s (f + weight (set vs)) (f + 1) true v (members vs) r

-- r says whether f is a function.
abbrev pub IsFunction : List ℕ → ℕ → Bool → Type 0
IsFunction s f r = (vs : Values) → SetBelow s (length s) f vs → AllPairs vs → r ≡ new_firsts (members vs)

-- Where k is true, f is a function.
abbrev pub KnownFunction : List ℕ → ℕ → Bool → Type 0
KnownFunction s f k = k ≡ true → IsFunction s f true

-- u stands at r, within the set vs at f.
pub record WithinSet (s : List ℕ) (f : ℕ) (vs : Values) (r : ℕ) (u : Value) : Type 0 where
  pub behind : f < r
  pub value : ValueBelow s (f + weight (set vs)) r u

-- The answer is where that of an application stands, if there is one; otherwise the application lacks it (16).
abbrev pub ImageAt : List ℕ → ℕ → Values → Option ℕ → Given → Type 0
ImageAt s f vs None (lacks k) = k ≡ 16
ImageAt s f vs None (gives u) = ⊥
ImageAt s f vs (Some r) (lacks k) = ⊥
ImageAt s f vs (Some r) (gives u) = WithinSet s f vs r u

abbrev pub Applies : List ℕ → ℕ → ℕ → Option ℕ → Type 0
Applies s f e r =
    (vs : Values) (v : Value) → SetBelow s (length s) f vs → ValueBelow s (length s) e v → AllPairs vs → ImageAt s f vs r (applied (set vs) v)
