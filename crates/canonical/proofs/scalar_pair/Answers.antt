-- `scalar_pair`: by the three cells, which a pair has.
use Prim.Native.Nat.{◌+◌, ◌<◌}
use native.Mathlib.Omega.{arith}
use lib.ListN.{length}
use Rattle.fitting.proofs.Cells.{inside}
use Rattle.canonical.proofs.Neighbours.{pair_inside}
use Rattle.canonical.proofs.scalar_pair.Goals as goal

pub bounds-s-at : goal.bounds-s-at
bounds-s-at c = inside c.requires

pub bounds-s-at-then-s-at-eq-PAIR : goal.bounds-s-at-then-s-at-eq-PAIR
bounds-s-at-then-s-at-eq-PAIR c =
    let within : c.args.at + 2 < length c.args.s.now = pair_inside c.requires c.if-s-at-eq-PAIR.true in
    omega (arith, within)

pub bounds-s-at-then-s-at-eq-PAIR-2 : goal.bounds-s-at-then-s-at-eq-PAIR-2
bounds-s-at-then-s-at-eq-PAIR-2 c =
    let within : c.args.at + 2 < length c.args.s.now = pair_inside c.requires c.if-s-at-eq-PAIR.true in
    omega (arith, within)
