-- `row`: the pairs of a value with each member of a set.
use Rattle.products.proofs.Terms.{RowPre}
use Rattle.products.proofs.WalkLaws.{RowAt}
use Rattle.products.proofs.row.Given as goal

abbrev pub invariant-loop : goal.invariant-loop
invariant-loop l = (g : RowPre l.initial.s l.v l.k l.b l.m l.to) → RowAt g l.s l.i l.counter l.at
