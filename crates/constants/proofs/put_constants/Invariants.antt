-- The constants below n stand in the cells of their nodes, and only cells of nodes have been changed.
use Rattle.rules.specs.Tables.{node_count}
use Rattle.constants.specs.Constants.{Constants, OnlyBelow}
use Rattle.constants.proofs.put_constants.Given as goal

abbrev pub invariant-loop-n : goal.invariant-loop-n
invariant-loop-n l = Constants l.table l.n l.s × OnlyBelow (node_count l.table) l.initial.s l.s
