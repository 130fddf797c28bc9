-- Rows of cells: sets whose members are one cell each. The search in a row is about numbers only.
use Rattle.std.specs.Prelude.{ℕ, ◌+◌, ◌*◌, ◌%◌, ◌≤◌, ◌<◌, Bool, true, List, Option, Some, None, ◌≡◌, length, get_or}
use Rattle.rules.specs.Values.{Value, scalar, pair, set}
use Rattle.arena.specs.Code.{FineSet, ValueBelow}
use Rattle.sets.specs.Fronts.{Cells, TwoRuns}

-- n cells from `at` on, every step-th one, that do not fall.
pub record Row (s : List ℕ) (at step n : ℕ) : Type 0 where
  pub inside : (i : ℕ) → i < n → at + step * i < length s
  pub rises : (i j : ℕ) → i ≤ j → j < n → get_or s (at + step * i) 0 ≤ get_or s (at + step * j) 0

-- Cell r is the first of them that is not below x; n where all are.
pub record LowerBound (s : List ℕ) (at step n x r : ℕ) : Type 0 where
  pub few : r ≤ n
  pub below : (i : ℕ) → i < r → get_or s (at + step * i) 0 < x
  pub above : (i : ℕ) → r ≤ i → i < n → x ≤ get_or s (at + step * i) 0

-- r is which cell is x, if one is.
pub record Found (s : List ℕ) (at step n x : ℕ) (r : Option ℕ) : Type 0 where
  pub here : (k : ℕ) → r ≡ Some k → (k < n) × (get_or s (at + step * k) 0 ≡ x)
  pub lost : r ≡ None → (i : ℕ) → i < n → get_or s (at + step * i) 0 ≡ x → ⊥

-- Where the answer is `true`, the members of the set at a are one cell each.
abbrev pub OfCells : List ℕ → ℕ → Bool → Type 0
OfCells s a r = r ≡ true → Cells s (a + 1) (get_or s a 0 % 4294967296)

-- A value that evaluation may have formed stands at `at`.
abbrev pub FineValue : Value → Type 0
FineValue (scalar x) = Unit {0}
FineValue (pair v w) = Unit {0}
FineValue (set vs) = FineSet vs

abbrev pub SomeFine : List ℕ → ℕ → Type 0
SomeFine s at = (v : Value) × ValueBelow s (length s) at v × FineValue v

-- m members from a on and n from b on, one cell each, stand below `top`.
pub record TwoRows (s : List ℕ) (a m b n top : ℕ) : Type 0 where
  pub runs : TwoRuns s a m b n top
  pub left : Cells s a m
  pub right : Cells s b n
