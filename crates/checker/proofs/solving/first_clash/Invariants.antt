-- The bisection: the nodes below lo have a typing, those below hi have none.
use Prim.Native.Nat.{◌-◌}
use Rattle.rules.specs.Tables.{table_of}
use Rattle.checker.specs.Solving.{Between, WorkRoom}
use Rattle.checker.proofs.solving.first_clash.Given as goal

abbrev pub invariant-loop-hi : goal.invariant-loop-hi
invariant-loop-hi l = Between (table_of l.problem.table.now) l.n l.lo l.hi × WorkRoom l.problem.table.now l.work.terms.now l.work.stack.now l.work.marks.now

abbrev pub decreases-loop-hi : goal.decreases-loop-hi
decreases-loop-hi l = l.hi - l.lo
