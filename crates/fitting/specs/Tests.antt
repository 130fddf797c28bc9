-- Refusal 15 at the lists of operand types that the rules have.
use Rattle.std.specs.Prelude.{ℕ, Bool, List, [], ◌∷◌, ◌≡◌}
use Rattle.rules.specs.Values.{Value, Values}
use Rattle.rules.specs.Rules.{Pattern}
use Rattle.rules.specs.Fits.{every, ◌×ˢ◌, types_of, shared_types, fits}
use Rattle.arena.specs.Code.{AllPairs}
use Rattle.fitting.specs.Agree.{meets, TypedAt, RunAt, SomeTyped}

-- r is the test of refusal 15 on the value at a.
abbrev pub FitOne : List Pattern → List ℕ → ℕ → Bool → Type 0
FitOne ps s a r = (v : Value) → TypedAt s a v → r ≡ fits ps (v ∷ [])

-- r is the test of refusal 15 on the values at a and b.
abbrev pub FitTwo : List Pattern → List ℕ → ℕ → ℕ → Bool → Type 0
FitTwo ps s a b r = (v w : Value) → TypedAt s a v → TypedAt s b w → r ≡ fits ps (v ∷ w ∷ [])

-- Two typed values stand at a and b.
pub record Both (s : List ℕ) (a b : ℕ) : Type 0 where
  pub first : SomeTyped s a
  pub second : SomeTyped s b

-- n pairs of one type stand from a on, and a typed value at b.
pub record PairsAndOne (s : List ℕ) (a n b : ℕ) : Type 0 where
  pub values : Values
  pub run : RunAt s a n values
  pub pairs : AllPairs values
  pub second : SomeTyped s b

-- r says whether the left parts of the pairs share a type with the value.
abbrev pub AgreedLefts : List ℕ → ℕ → ℕ → ℕ → Bool → Type 0
AgreedLefts s a n b r = (p : PairsAndOne s a n b) → r ≡ meets (shared_types p.values) (types_of p.second.0 ×ˢ every)
