-- `parts`: each turn puts the part of one pair more among those that have been put.
use Rattle.parts.proofs.Terms.{Values, PartsPre}
use Rattle.parts.proofs.TakeLaws.{Taking}
use Rattle.parts.proofs.parts.Given as goal

abbrev pub invariant-loop : goal.invariant-loop
invariant-loop l =
    (g : PartsPre l.initial.s l.a l.top) →
    (rest : Values) × Taking l.second g l.s l.counter l.i l.o rest
