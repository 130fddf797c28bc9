-- The invariant: each node passed is within the limit and has its height.
use Prim.Native.Nat.{ℕ, ◌<◌}
use mathlib.Core.Bool.{true}
use mathlib.Core.Path.{◌≡◌}
use lib.ListN.{length}
use Rattle.rules.specs.Tables.{table_of}
use Rattle.rules.specs.Reading.{height_good}
use Rattle.trees.specs.Arrays.{Heights}
use Rattle.trees.proofs.set_heights.Given as goal

abbrev pub invariant-loop-n : goal.invariant-loop-n
invariant-loop-n l =
    (length l.heights ≡ length l.initial.heights) × ((j : ℕ) → j < l.n → height_good (table_of l.table) j ≡ true) × Heights l.table l.n l.heights
