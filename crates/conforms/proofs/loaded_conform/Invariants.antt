-- `loaded_conform`: in a sheet of the table's length, the values of the identifiers below x have their types.
use mathlib.Core.Bool.{true}
use Rattle.conforms.proofs.NameLaws.{HaveBelow}
use Rattle.conforms.proofs.loaded_conform.Given as goal

abbrev pub invariant-loop-x : goal.invariant-loop-x
invariant-loop-x l = HaveBelow l.table l.s l.env l.sheet l.x true
