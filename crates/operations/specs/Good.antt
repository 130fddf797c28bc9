-- Good values of the arena: those that refusal 14 lets through and those that evaluation forms.
use Rattle.std.specs.Prelude.{ℕ, ◌+◌, ◌≤◌, Bool, true, List, ◌≡◌, T, length, get_or}
use Rattle.rules.specs.Values.{Value, set, Values, members, weight}
use Rattle.rules.specs.Cells.{good}
use Rattle.arena.specs.Code.{ValueAt}
use Rattle.functions.specs.Pairs.{new_firsts}
pub use Rattle.functions.specs.Pairs.{KnownFunction}

-- The sizes of the given sets of a readable table.
pub record Sizes (gs : List ℕ) : Type 0 where
  pub few : length gs ≤ 16
  pub small : (g : ℕ) → get_or gs g 0 ≤ 32

-- A good value stands at `at`, below `top`.
pub record GoodAt (gs s : List ℕ) (top at : ℕ) (v : Value) : Type 0 where
  pub stands : ValueAt s at v
  pub below : at + weight v ≤ top
  pub good : T (good gs v)

-- Some good value stands there.
pub record SomeGood (s : List ℕ) (at : ℕ) : Type 0 where
  pub sizes : List ℕ
  pub small : Sizes sizes
  pub top : ℕ
  pub value : Value
  pub stands : GoodAt sizes s top at value

-- If the value is a set, no member shares its first part with the next one.
abbrev pub NewFirsts : Value → Type 0
NewFirsts v = (vs : Values) → v ≡ set vs → true ≡ new_firsts (members vs)

-- Where r is true, the good value at a is a function.
abbrev pub FunctionSeen : List ℕ → ℕ → Bool → Type 0
FunctionSeen s a r = r ≡ true → (gs : List ℕ) (top : ℕ) (v : Value) → Sizes gs → GoodAt gs s top a v → NewFirsts v
