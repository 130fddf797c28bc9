-- Parts of the operations: which kind a flag picks, sets merged, and integers with their range checked.
use Rattle.std.specs.Prelude.{ℕ, suc, ◌+◌, Bool, cond, List, [], ◌∷◌, ◌≡◌, ℤ, pos, negsuc}
use Rattle.rules.specs.Types.{whole}
use Rattle.rules.specs.Values.{set, Values, members}
use Rattle.rules.specs.Kinds.{One, dom, ran, Two, plus, minus}
use Rattle.rules.specs.Rules.{t̂, P̂, two_rule}
use Rattle.rules.specs.Runs.{gives}
use Rattle.rules.specs.Operations.{set_of, ranged, two_value}
use Rattle.arena.specs.Code.{FineSet}
use Rattle.rules.specs.Merges.{merged}
use Rattle.operations.specs.Outcomes.{NodeAnswer, weighed, Gives, TwoDone}

-- The range, or the domain.
abbrev pub side_kind : Bool → One
side_kind right = cond right ran dom

-- The difference, or the sum.
abbrev pub sum_kind : Bool → Two
sum_kind less = cond less (minus whole) (plus whole)

-- j merges two sets: it gives the members that are only in the left one (if left), in both (if both), only in the right one (if right).
pub record IsMerge (j : Two) (left both right : Bool) : Type 0 where
  pub takes : (two_rule j).takes ≡ P̂ t̂ ∷ P̂ t̂ ∷ []
  pub merges : (vs ws : Values) → FineSet vs → FineSet ws → two_value j (set vs) (set ws) ≡ gives (set_of (merged left both right (members vs) (members ws)))

-- Union, intersection and difference are such.
abbrev pub MergeDone : Bool → Bool → Bool → List ℕ → ℕ → ℕ → ℕ → List ℕ → NodeAnswer → Type 0
MergeDone left both right s a b top s' r = (j : Two) → IsMerge j left both right → TwoDone j s a b top s' r

-- x is i + 2^32.
abbrev pub Shifted : ℤ → ℕ → Type 0
Shifted (pos n) x = x ≡ 4294967296 + n
Shifted (negsuc n) x = x + suc n ≡ 4294967296

-- The integer that x stands for is given, where it has 32 bits (17).
abbrev pub NumberDone : ℕ → NodeAnswer → Type 0
NumberDone x r = (s : List ℕ) (mid top : ℕ) (i : ℤ) → Shifted i x → Gives s mid top (weighed (ranged whole i)) r
