-- The last node by its category, another by how often it is a child.
use Prim.Native.Nat.{◌<◌}
use mathlib.Core.Path.{sym, ◌∙◌}
use native.Mathlib.Nat.{lt_of_lt_of_le}
use Rattle.table.specs.declared.NodeCategory.TheVariants.{Predicate}
use Rattle.table.proofs.Least.{below}
use Rattle.table.proofs.Fields.{category_read}
use Rattle.trees.proofs.Counting.{parent_last, parent_other, counted_all}
use Rattle.trees.proofs.parent_is_good.Goals as goal

pub returns-then-n-nodes : goal.returns-then-n-nodes
returns-then-n-nodes c =
    category_read _ _ _ _ Predicate _ c.kind.ensures c.category.ensures c.eq.ensures ∙ parent_last _ _ (c.if-n-nodes.true ∙ c.nodes.ensures)

pub returns : goal.returns
returns c =
    let few : c.args.n < 512 = lt_of_lt_of_le c.requires.0.below c.requires.0.laid.header.few_nodes in
    parent_other _ _ _ c.requires.0.below (λ e. c.if-n-nodes.false (e ∙ sym c.nodes.ensures))
    (counted_all _ c.args.counted.now c.requires.2 c.args.n (below few (sym c.requires.1)))
