-- `is_row`: the row is that of a type exactly where the bytes that are left of it are read as `left` types (`Begun`).
use Rattle.conforms.proofs.RowLaws.{Begun}
use Rattle.conforms.proofs.is_row.Given as goal

abbrev pub invariant-loop-c : goal.invariant-loop-c
invariant-loop-c l = Begun l.sheet l.p l.row l.c-index l.left
