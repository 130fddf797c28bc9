-- `load`: the values of the first x identifiers have been read (`Loading`).
use Rattle.rules.specs.Tables.{table_of}
use Rattle.buffer.proofs.Loading.{Loading}
use Rattle.buffer.proofs.load.Given as goal

abbrev pub invariant-loop-x : goal.invariant-loop-x
invariant-loop-x l = Loading (table_of l.table).sizes (table_of l.table).binds l.values l.x l.c.at l.initial.s l.s l.top l.end l.env
