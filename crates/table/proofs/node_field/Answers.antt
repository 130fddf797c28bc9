-- The field, at the offset of the nodes that stands in the header.
use native.Mathlib.Omega.{arith}
use Rattle.table.proofs.Access.{node_here}
use Rattle.table.proofs.node_field.Goals as goal

pub word-requires : goal.word-requires
word-requires c = omega (arith, c.requires.0.laid.header.long)

pub field-requires : goal.field-requires
field-requires c = (node_here c.requires.0 c.word.ensures.0, c.requires.1)

pub returns : goal.returns
returns c = c.field.ensures
