-- Invariant: the arrays hold the constraints of the nodes so far.
use Rattle.rules.specs.Tables.{table_of}
use Rattle.constraints.specs.Constrained.{Constrained}
use Rattle.constraints.proofs.build.Given as goal

abbrev pub invariant-loop-n : goal.invariant-loop-n
invariant-loop-n l = Constrained (table_of l.table) l.n l.shapes l.equations l.starts
