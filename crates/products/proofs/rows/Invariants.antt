-- `rows`: a row of pairs for each member of the first set.
use Rattle.products.proofs.Base.{◌-◌}
use Rattle.products.proofs.Terms.{SquarePre}
use Rattle.products.proofs.WalkLaws.{SquareAt}
use Rattle.products.proofs.rows.Given as goal

abbrev pub invariant-loop : goal.invariant-loop
invariant-loop l = (g : SquarePre l.initial.s l.a l.n l.b l.m l.to) → SquareAt g l.s l.i (l.n - l.counter) l.at
