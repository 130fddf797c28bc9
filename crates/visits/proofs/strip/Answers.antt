-- `strip`. The invariant: the node reached tells the answer for the first one.
use Rattle.visits.proofs.Terms.{◌<◌, arith, node_count}
use Rattle.visits.proofs.BareLaws.{passes_on}
use Rattle.visits.proofs.strip.Goals as goal

pub loop-l-preserved : goal.loop-l-preserved
loop-l-preserved c =
    let reached : c.loop-l.n < node_count c.args.table.now = omega (arith, c.requires.1, c.loop-l.invariant.below) in
    passes_on c.requires.0 reached c.node_kind.ensures (omega (arith, c.if-node_kind-eq4.true)) c.loop-l.invariant
    (omega (arith, c.loop-l-test.true)) c.node_field-n.ensures
