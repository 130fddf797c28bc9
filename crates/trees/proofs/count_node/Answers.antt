-- The three fields in turn, each by `count_field`. No count is above three for each node before and one for each field before, so each has
-- room for one more.
use mathlib.Core.Path.{◌∙◌}
use lib.Dec.{lit<}
use Rattle.trees.proofs.Counting.{Low, low_room, counted_low, bumped_low, counted_more, usable, bumped_here}
use Rattle.trees.proofs.count_node.Goals as goal

pub count_field-requires : goal.count_field-requires
count_field-requires c =
    let low₀ : Low 1536 c.args.counted.now =
    counted_low c.args.table.now c.args.n c.args.counted.now c.requires.0.laid.header.few_nodes c.requires.1 c.requires.3 in
    let fields = c.node_fields-fields.ensures in
    (usable fields.a c.requires.0 c.requires.1, c.requires.2, low_room 1536 c.args.counted.now (lit< tt) low₀)

pub count_field-requires-2 : goal.count_field-requires-2
count_field-requires-2 c =
    let low₀ : Low 1536 c.args.counted.now =
    counted_low c.args.table.now c.args.n c.args.counted.now c.requires.0.laid.header.few_nodes c.requires.1 c.requires.3 in
    let first = c.count_field in
    let low₁ : Low 1537 first.new.counted = bumped_low 1536 c.args.counted.now _ _ _ first.auto.counted low₀ first.ensures in
    let fields = c.node_fields-fields.ensures in
    (usable fields.b c.requires.0 c.requires.1, first.auto.counted ∙ c.requires.2, low_room 1537 first.new.counted (lit< tt) low₁)

pub count_field-requires-3 : goal.count_field-requires-3
count_field-requires-3 c =
    let low₀ : Low 1536 c.args.counted.now =
    counted_low c.args.table.now c.args.n c.args.counted.now c.requires.0.laid.header.few_nodes c.requires.1 c.requires.3 in
    let first = c.count_field in
    let second = c.count_field-2 in
    let low₁ : Low 1537 first.new.counted = bumped_low 1536 c.args.counted.now _ _ _ first.auto.counted low₀ first.ensures in
    let low₂ : Low 1538 second.new.counted = bumped_low 1537 first.new.counted _ _ _ second.auto.counted low₁ second.ensures in
    let fields = c.node_fields-fields.ensures in (
      usable fields.c c.requires.0 c.requires.1,
      second.auto.counted ∙ first.auto.counted ∙ c.requires.2,
      low_room 1538 second.new.counted (lit< tt) low₂,
    )

pub returns : goal.returns
returns c =
    let fields = c.node_fields-fields.ensures in
    counted_more c.args.table.now c.args.n c.args.counted.now
    c.count_field.new.counted c.count_field-2.new.counted c.count_field-3.new.counted c.requires.1
    c.count_field.auto.counted c.count_field-2.auto.counted c.count_field-3.auto.counted
    c.requires.3 (bumped_here fields.a _ _ c.count_field.ensures) (bumped_here fields.b _ _ c.count_field-2.ensures)
    (bumped_here fields.c _ _ c.count_field-3.ensures)
