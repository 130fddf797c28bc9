-- `pairs_fine`: the first k values are pairs of two scalars that rise and share a type (`Passed`), as far as their cells tell; so does the next where
-- it is behind the last of them and its scalars are within the bounds of the first's types.
use Prim.Native.Nat.{◌+◌}
use Rattle.rules.specs.Values.{Values}
use Rattle.canonical.specs.Shared.{TypedRow}
use Rattle.canonical.proofs.Members.{Passed}
use Rattle.canonical.proofs.Neighbours.{PairBehind}
use Rattle.canonical.proofs.pairs_fine.Given as goal

abbrev pub invariant-loop : goal.invariant-loop
invariant-loop l = PairBehind l.s l.at l.i l.a l.b × ((vs : Values) → TypedRow l.s l.at l.n vs → Passed l.s l.at l.i (l.i + 3) l.counter l.n vs)
