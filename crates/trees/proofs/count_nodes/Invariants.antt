-- The invariant: the children of the nodes passed are counted.
use mathlib.Core.Path.{◌≡◌}
use lib.ListN.{length}
use Rattle.trees.specs.Arrays.{Counted}
use Rattle.trees.proofs.count_nodes.Given as goal

abbrev pub invariant-loop-n : goal.invariant-loop-n
invariant-loop-n l = (length l.counted ≡ length l.initial.counted) × Counted l.table l.n l.counted
