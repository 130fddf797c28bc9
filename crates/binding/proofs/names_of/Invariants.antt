-- The invariant: what the pass has after n nodes (`Passed`), in an array of length 512.
use mathlib.Core.Path.{◌≡◌}
use lib.ListN.{length}
use Rattle.binding.proofs.Occurs.{Passed}
use Rattle.binding.proofs.names_of.Given as goal

abbrev pub invariant-loop-n : goal.invariant-loop-n
invariant-loop-n l = (length l.names ≡ 512) × Passed l.table l.names l.n l.bound l.twice l.free
