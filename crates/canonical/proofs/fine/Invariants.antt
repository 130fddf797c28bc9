-- `fine`: from the last set's cell backward, what is left of the value from the cell i on is fine.
use Rattle.canonical.proofs.FineValues.{FineDown}
use Rattle.canonical.proofs.fine.Given as goal

abbrev pub invariant-loop-i : goal.invariant-loop-i
invariant-loop-i l = FineDown l.s l.at l.end l.i
