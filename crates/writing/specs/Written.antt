-- A value that stands in the arena, written as the cells of the values buffer to the front of a lent buffer.
use Rattle.std.specs.Prelude.{ℕ, ◌+◌, ◌*◌, ◌/◌, ◌%◌, ◌≤◌, cond, List, [], ◌∷◌, ◌++◌, ◌≡◌, leb, length, drop}
use Rattle.rules.specs.Values.{Value, weight}
use Rattle.rules.specs.Cells.{bytes4, cells}
use Rattle.arena.specs.Code.{cell_size, ValueAt, CellsFit}
use Rattle.buffer.specs.Buffer.{arena_cell}

-- Bytes put at the front of a lent buffer, if they fit there; what lies behind them stays, and where they do not fit all of it does.
abbrev pub written : List ℕ → List ℕ → List ℕ
written out bs = cond (leb (length bs) (length out)) (bs ++ drop (length bs) out) out

-- The bytes of a cell of the arena in the buffer's form: a word for its payload, and one for its tag.
abbrev pub cell_bytes : ℕ → List ℕ
cell_bytes x = bytes4 (arena_cell x % cell_size) ++ bytes4 (arena_cell x / cell_size)

-- Those of a run of cells.
unfoldable pub bytes_of : List ℕ → List ℕ
unfolding arena_cell
bytes_of [] = []
bytes_of (x ∷ xs) = cell_bytes x ++ bytes_of xs

-- What stands in `out` once these cells are written to its front.
abbrev pub cells_put : List ℕ → List ℕ → List ℕ
cells_put xs out = bytes_of xs ++ drop (8 * length xs) out

-- Some value that fits stands from `at` to `end`; it is light, so that its bytes can be counted.
pub record WriteReady (s : List ℕ) (at end : ℕ) : Type 0 where
  pub value : Value
  pub stands : ValueAt s at value
  pub fits : CellsFit value
  pub light : weight value ≤ 256
  pub ends : end ≡ at + weight value

-- The value from `at` to `end` has r bytes, and they are written to the front of `out` if they fit there.
abbrev pub Writes : List ℕ → ℕ → ℕ → List ℕ → List ℕ → ℕ → Type 0
Writes s at end out out' r =
    (v : Value) → ValueAt s at v → CellsFit v → end ≡ at + weight v → (r ≡ 8 * weight v) × (out' ≡ written out (cells v))
