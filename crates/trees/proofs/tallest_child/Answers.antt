-- The greatest of the heights that the three fields give.
use Prim.Native.Nat.{ℕ}
use lib.ListN.{get_or}
use Rattle.trees.proofs.Counting.{usable, height_here}
use Rattle.trees.proofs.Heights.{tallest_held}
use Rattle.trees.proofs.tallest_child.Goals as goal

pub child_height-a-requires : goal.child_height-a-requires
child_height-a-requires c = (usable c.node_fields-fields.ensures.a c.requires.0 c.requires.1, c.requires.2)

pub child_height-b-requires : goal.child_height-b-requires
child_height-b-requires c = (usable c.node_fields-fields.ensures.b c.requires.0 c.requires.1, c.requires.2)

pub child_height-c-requires : goal.child_height-c-requires
child_height-c-requires c = (usable c.node_fields-fields.ensures.c c.requires.0 c.requires.1, c.requires.2)

pub returns : goal.returns
returns c =
    let heights : ℕ → ℕ = λ m. get_or c.args.heights.now m 0 in
    let fields = c.node_fields-fields.ensures in
    tallest_held heights c.args.table.now c.args.n c.child_height-a.result c.child_height-b.result c.child_height-c.result _ _
    (height_here fields.a heights c.child_height-a.ensures) (height_here fields.b heights c.child_height-b.ensures)
    (height_here fields.c heights c.child_height-c.ensures) c.max.ensures c.max-2.ensures
