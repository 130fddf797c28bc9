-- The cells of the leaves that are scalars.
use Rattle.std.specs.Prelude.{ℕ, ◌+◌, ◌*◌, ◌%◌, ◌<◌, cond, ◌≡◌, eqb}

-- The cell of an element (22), an integer (23) or a truth (24) with the words a and b.
abbrev pub scalar_cell : ℕ → ℕ → ℕ → ℕ
scalar_cell k a b =
    cond (eqb k 22) (12884901888 + 256 * a + b)
    (cond (eqb k 23) (4294967296 + (a + 2147483648) % 4294967296) (8589934592 + a))

-- The words are small enough for a cell; b counts in an element only.
pub record Narrow (k a b : ℕ) : Type 0 where
  pub first : a < 4294967296
  pub second : k ≡ 22 → b < 32
