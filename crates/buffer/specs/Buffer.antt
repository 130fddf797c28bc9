-- The values buffer as a run of cells, and what reading it into the arena answers.
use Rattle.std.specs.Prelude.{Option, Some, None, ℕ, zero, suc, ◌+◌, ◌*◌, ◌-◌, ◌/◌, ◌%◌, ◌≤◌, min, Bool, true, false, ◌&&◌, cond, List, ◌≡◌, T, eqb, leb, ltb, length, get_or, drop}
use Rattle.std.proofs.Math.Option.{some}
use Rattle.rules.specs.Tables.{word_at}
use Rattle.rules.specs.Values.{Value, scalar, pair, set, Values, none, ◌▸◌, weight}
use Rattle.rules.specs.Cells.{scalar_good, value as value_first, good}
use Rattle.rules.specs.Readable.{Readable}
use Rattle.arena.specs.Code.{cell_size, ValueAt, CellsFit}
use Rattle.buffer.specs.declared.Step.{Step}
use Rattle.buffer.specs.declared.Placed.{Placed}

-- A run of bytes begins with a cell: eight bytes, the last three zero.
abbrev pub cell_first : List ℕ → Bool
cell_first bs = leb 8 (length bs) && eqb (get_or bs 5 0 + get_or bs 6 0 + get_or bs 7 0) 0

-- It as a number: byte 4, the tag, times 2^32, and the payload word.
abbrev pub first_cell : List ℕ → ℕ
first_cell bs = get_or bs 4 0 * cell_size + word_at bs 0

-- The arena's cell for a cell of the buffer, and the buffer's for one of the arena: it is its own inverse.
unfoldable pub arena_cell : ℕ → ℕ
arena_cell x = cond (eqb (x / 4294967296) 1) (4294967296 + (x % 4294967296 + 2147483648) % 4294967296) x

-- A cell that a value may have, where the given sets have the sizes gs.
abbrev pub tag_good : List ℕ → ℕ → ℕ → Bool
tag_good gs zero p = false
tag_good gs (suc zero) p = true
tag_good gs (suc (suc zero)) p = ltb p 2
tag_good gs (suc (suc (suc zero))) p = ltb (p % 256) (get_or gs (p / 256) 0)
tag_good gs (suc (suc (suc (suc zero)))) p = eqb p 0
tag_good gs (suc (suc (suc (suc (suc zero))))) p = true
tag_good gs (suc (suc (suc (suc (suc (suc n)))))) p = false

unfoldable pub cell_good : List ℕ → ℕ → Bool
cell_good gs x = tag_good gs (x / 4294967296) (x % 4294967296)

-- Each scalar of a value is good: numbers of 32 bits, elements that the given sets have.
abbrev mutual
  pub scalars_good : List ℕ → Value → Bool
  scalars_good gs (scalar s) = scalar_good gs s
  scalars_good gs (pair v w) = scalars_good gs v && scalars_good gs w
  scalars_good gs (set s) = all_good gs s

  pub all_good : List ℕ → Values → Bool
  all_good gs none = true
  all_good gs (v ▸ vs) = scalars_good gs v && all_good gs vs

-- A good cell at `at`, and the place behind it; or there is none.
pub record GoodCell (gs bs : List ℕ) (at x next : ℕ) : Type 0 where
  pub here : T (cell_first (drop at bs))
  pub number : x ≡ first_cell (drop at bs)
  pub good : T (cell_good gs x)
  pub behind : next ≡ at + 8

abbrev pub StepTakes : List ℕ → List ℕ → ℕ → Option Step → Type 0
StepTakes gs bs at (Some step) = GoodCell gs bs at step.cell step.next.at
StepTakes gs bs at None = T (cell_first (drop at bs)) → T (cell_good gs (first_cell (drop at bs))) → ⊥

-- The most cells that n values may take: 256 each, and one for each eight bytes that are left of the buffer.
abbrev pub cells_at_most : ℕ → ℕ → ℕ
cells_at_most n bytes = min (256 * n) (bytes / 8)

-- The value that is read at `at` stands in the arena from `top` to `end`; the next may begin at `next`.
pub record ReadAt (gs bs : List ℕ) (at : ℕ) (s : List ℕ) (top next end : ℕ) : Type 0 where
  pub first : Value
  pub reads : value_first (drop at bs) ≡ some (first, drop next bs)
  pub light : weight first ≤ 256
  pub good : T (scalars_good gs first)
  pub fits : CellsFit first
  pub stands : ValueAt s top first
  pub ends : end ≡ top + weight first
  pub spent : next ≡ at + 8 * weight first
  pub held : 8 * weight first ≤ length bs - at

-- No good value is read at `at`.
abbrev pub Unread : List ℕ → List ℕ → ℕ → Type 0
Unread gs bs at = (v : Value) (rest : List ℕ) → value_first (drop at bs) ≡ some (v, rest) → T (good gs v) → ⊥

-- What reading one value asks: the arena has room for it from `top` on.
pub record CopyReady (table bs : List ℕ) (at : ℕ) (s : List ℕ) (top : ℕ) : Type 0 where
  pub readable : Readable table
  pub room : top + cells_at_most 1 (length bs - at) ≤ length s

abbrev pub CopyAnswers : List ℕ → List ℕ → ℕ → List ℕ → ℕ → Option Placed → Type 0
CopyAnswers gs bs at s top (Some placed) = ReadAt gs bs at s top placed.next.at placed.end
CopyAnswers gs bs at s top None = Unread gs bs at
