-- `values_fine`: the first k values rise and share a type (`Passed`); the next is compared with the last of them, and tested against those that
-- stand for them, the first or all.
use Rattle.rules.specs.Values.{Values}
use Rattle.arena.specs.Code.{EndsAt}
use Rattle.canonical.specs.Shared.{TypedRow}
use Rattle.canonical.proofs.Members.{Passed}
use Rattle.canonical.proofs.values_fine.Given as goal

abbrev pub invariant-loop-k : goal.invariant-loop-k
invariant-loop-k l = EndsAt l.s l.i l.e × ((vs : Values) → TypedRow l.s l.at l.n vs → Passed l.s l.at l.i l.e l.k l.n vs)
