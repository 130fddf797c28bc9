-- `next_free`: the identifiers from x on that have been passed are bound.
use Rattle.rules.specs.Tables.{table_of}
use Rattle.unions.specs.Answers.{Passed}
use Rattle.unions.proofs.next_free.Given as goal

abbrev pub invariant-loop-y : goal.invariant-loop-y
invariant-loop-y l = Passed (table_of l.table).binds l.x l.y
