-- Each node passed is within the limit and has its height; the search ends at the first that is too high.
use Prim.Native.Nat.{◌<◌}
use mathlib.Core.Path.{◌≡◌, ◌∙◌, sym}
use native.Mathlib.Nat.{lt_of_lt_of_le}
use native.Mathlib.Omega.{arith}
use lib.ListN.{length, length-set}
use Rattle.std.proofs.Common.{below_more, rules}
use Rattle.rules.specs.Tables.{node_count}
use Rattle.table.proofs.Least.{least_here, least_none, below}
use Rattle.trees.proofs.Heights.{height_high, height_low, heights_more}
use Rattle.trees.proofs.set_heights.Goals as goal

pub returns-then-h-ge-HEIGHT_LIMIT : goal.returns-then-h-ge-HEIGHT_LIMIT
returns-then-h-ge-HEIGHT_LIMIT c =
    let inside : c.loop-n.n < node_count c.args.table.now = below c.loop-n-test.true c.nodes-n-end.ensures in
    let l = c.loop-n in (
      least_here _ _ _ l.invariant.1 inside
          (height_high c.args.table.now c.args.at l.n c.requires.0 inside l.heights l.invariant.2 _
          c.tallest_child-h.ensures c.if-h-ge-HEIGHT_LIMIT.true),
      l.invariant.2,
    )

pub loop-n-preserved : goal.loop-n-preserved
loop-n-preserved c =
    let inside : c.loop-n.n < node_count c.args.table.now = below c.loop-n-test.true c.nodes-n-end.ensures in
    let few : c.loop-n.n < 512 = lt_of_lt_of_le inside c.requires.0.laid.header.few_nodes in
    let long : length c.loop-n.heights ≡ 512 = c.loop-n.invariant.0 ∙ c.requires.1 in
    let l = c.loop-n in
    let table = c.args.table.now in
    let h = c.tallest_child-h in (
      simp length-set l.invariant.0,
      below_more _ _ l.invariant.1
          (height_low table c.args.at l.n c.requires.0 inside l.heights l.invariant.2 h.result h.ensures c.if-h-ge-HEIGHT_LIMIT.false),
      heights_more table c.args.at l.n c.requires.0 inside l.heights l.invariant.2 h.result h.ensures (below few (sym long)),
    )

pub returns : goal.returns
returns c = let l = c.loop-n.invariant in (least_none _ _ l.1 (search rules), λ m h. l.2 m (omega arith))
