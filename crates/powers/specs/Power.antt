-- The power set of a set of at most five members: its subsets as bits.
use Rattle.std.specs.Prelude.{ℕ, ◌+◌, ◌/◌, ◌%◌, ◌≤◌, ◌<◌, List, [], ◌∷◌, map, Option, ◌≡◌, eqb, ltb, length, get_or}
use Rattle.rules.specs.Values.{Value, Values, none, ◌▸◌, members, values, count, weight, weights}
use Rattle.rules.specs.Operations.{set_of, rising, subsets, kept_value}
use Rattle.arena.specs.Code.{code, codes, SetBelow, ValueBelow, Made, Front}
use Rattle.products.specs.Growing.{Appended}

abbrev pub Powers : List ℕ → ℕ → ℕ → List ℕ → Option ℕ → Type 0
Powers s a top s' r = (vs : Values) → SetBelow s top a vs → Made top s s' (set_of (rising (map set_of (subsets (members vs))))) r

-- Bit i stands for member i: fewer bits first, then by the greatest members that differ.
abbrev pub masks : List ℕ
masks =
    0 ∷ 1 ∷ 2 ∷ 4 ∷ 8 ∷ 16 ∷ 3 ∷ 5 ∷ 6 ∷ 9 ∷ 10 ∷ 12 ∷ 17 ∷ 18 ∷ 20 ∷ 24 ∷ 7 ∷ 11 ∷ 13 ∷ 14 ∷ 19 ∷ 21 ∷ 22 ∷ 25 ∷ 26 ∷ 28 ∷ 15 ∷ 23 ∷ 27 ∷ 29 ∷ 30 ∷ 31 ∷ []

-- r is the number of subsets of n members; 64 for more than five.
abbrev pub subset_counts : List ℕ
subset_counts = 1 ∷ 2 ∷ 4 ∷ 8 ∷ 16 ∷ 32 ∷ []

pub record CountsSubsets (n r : ℕ) : Type 0 where
  pub many : 5 < n → r ≡ 64
  pub few : n ≤ 5 → r ≡ get_or subset_counts n 0

-- The members whose bits m has.
unfoldable pub subset_for : ℕ → List Value → List Value
subset_for m [] = []
subset_for m (v ∷ vs) = kept_value (eqb (m % 2) 1) v (subset_for (m / 2) vs)

-- The subsets for the masks below p.
unfoldable pub picked : ℕ → List ℕ → List Value → List Value
unfolding subset_for
picked p [] vs = []
picked p (m ∷ ms) vs = kept_value (ltb m p) (set_of (subset_for m vs)) (picked p ms vs)

-- The members vs stand below `top` at the places in the list `at`, from its place j on; each ends where the next begins.
abbrev pub StandAt : List ℕ → List ℕ → ℕ → ℕ → Values → Type 0
StandAt s at top j none = Unit {0}
StandAt s at top j (v ▸ vs) = ValueBelow s top (get_or at j 0) v × (get_or at (j + 1) 0 ≡ get_or at j 0 + weight v) × StandAt s at top (j + 1) vs

pub record MarkPre (s : List ℕ) (a n : ℕ) : Type 0 where
  pub top : ℕ
  pub whole : Values
  pub front : Front s top a n whole
  pub few : n ≤ 5

abbrev pub Marks : List ℕ → ℕ → ℕ → List ℕ → Type 0
Marks s a n at = (g : MarkPre s a n) → StandAt s at g.top 0 g.whole

-- The members vs stand at the places in `at`, below `to`.
pub record Marked (s at : List ℕ) (to : ℕ) (vs : Values) : Type 0 where
  pub top : ℕ
  pub each : StandAt s at top 0 vs
  pub counted : length at ≡ count vs + 1
  pub light : weights vs ≤ 255
  pub behind : top ≤ to

-- At most five, and room for a subset.
pub record SubsetPre (s at : List ℕ) (to : ℕ) : Type 0 where
  pub whole : Values
  pub marked : Marked s at to whole
  pub few : count whole ≤ 5
  pub room : to + 257 ≤ length s

-- The subset for a mask.
abbrev pub Subsets : List ℕ → List ℕ → ℕ → ℕ → List ℕ → ℕ → Type 0
Subsets s at mask to s' r = (g : SubsetPre s at to) → Appended s to s' r (code (set_of (subset_for mask (members g.whole))))

-- All subsets for the masks below p.
pub record AllPre (s at : List ℕ) (p to : ℕ) : Type 0 where
  pub whole : Values
  pub marked : Marked s at to whole
  pub few : count whole ≤ 5
  pub light : weights (values (picked p masks (members whole))) ≤ 255
  pub room : to + 512 ≤ length s

abbrev pub AllSubsets : List ℕ → List ℕ → ℕ → ℕ → List ℕ → ℕ → Type 0
AllSubsets s at p to s' r = (g : AllPre s at p to) → Appended s to s' r (codes (values (picked p masks (members g.whole))))
