-- `run`: cells that follow one another, behind the cell of their set.
use Rattle.products.proofs.GrowLaws.{Running}
use Rattle.products.proofs.run.Given as goal

abbrev pub invariant-loop-i : goal.invariant-loop-i
invariant-loop-i l = Running l.initial.s l.cell l.n l.top l.s l.i
