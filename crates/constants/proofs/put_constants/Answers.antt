-- One constant more.
use Prim.Native.Nat.{◌<◌}
use native.Mathlib.Omega.{arith}
use lib.ListN.{length}
use Rattle.rules.specs.Tables.{node_count}
use Rattle.table.proofs.Least.{below}
use Rattle.constants.proofs.ConstantLaws.{only_more, more_put}
use Rattle.constants.proofs.put_constants.Goals as goal

pub loop-n-preserved : goal.loop-n-preserved
loop-n-preserved c =
    let inside : c.loop-n.n < node_count c.args.table.now = below c.loop-n-test.true c.nodes-n-end.ensures in
    let reached : c.loop-n.n < length c.loop-n.s = omega (arith, inside, c.requires.1, c.loop-n.invariant.1.kept) in
    let l = c.loop-n in (more_put _ l.s l.n _ reached c.constant_cell.ensures l.invariant.0, only_more _ l.n _ _ l.s inside l.invariant.1)
