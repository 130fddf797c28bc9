-- The cells of the leaves that are scalars, by the kind's code.
use Prim.Native.Nat.{ℕ, ◌+◌, ◌*◌, ◌%◌}
use mathlib.Core.Logic.{◌≢◌}
use mathlib.Core.Path.{◌≡◌}
use native.Mathlib.Omega.{arith}
use borrow.Author.Tests.{eq-eqb, ne_eqb}
use Rattle.constants.specs.Leaves.{scalar_cell}

pub cell_element : (k a b : ℕ) → k ≡ 22 → 12884901888 + 256 * a + b ≡ scalar_cell k a b
cell_element k a b e = rw (eq-eqb k 22 e)

pub cell_number : (k a b : ℕ) → k ≡ 23 → 4294967296 + (a + 2147483648) % 4294967296 ≡ scalar_cell k a b
cell_number k a b e = rw (ne_eqb k 22 (λ f. omega arith), eq-eqb k 23 e)

pub cell_truth : (k a b : ℕ) → k ≢ 22 → k ≢ 23 → 8589934592 + a ≡ scalar_cell k a b
cell_truth k a b n m = rw (ne_eqb k 22 n, ne_eqb k 23 m)
