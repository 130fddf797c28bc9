-- `mark`: the entries bind what was bound.
use Rattle.evaluate.specs.Arenas.{Rebinds}
use Rattle.evaluate.proofs.mark.Given as goal

abbrev pub invariant-loop-x : goal.invariant-loop-x
invariant-loop-x l = Rebinds l.table l.s l.fn.env l.env
