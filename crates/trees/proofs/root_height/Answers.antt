-- The height of the last node, or 0 where there is none.
use mathlib.Core.Path.{◌∙◌}
use Rattle.std.proofs.Common.{rules}
use Rattle.trees.proofs.Heights.{root_height_law, no_height}
use Rattle.trees.proofs.root_height.Goals as goal

pub returns-in-0 : goal.returns-in-0
returns-in-0 c = no_height c.args.table.now _ c.nodes.ensures c.in-0.is

pub returns-in_default : goal.returns-in_default
returns-in_default c =
    c.from.ensures ∙ root_height_law c.args.table.now _ c.nodes.ensures c.args.heights.now c.requires.2 (search rules)
