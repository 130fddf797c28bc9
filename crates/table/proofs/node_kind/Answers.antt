-- The kind, at the offset of the nodes that stands in the header.
use native.Mathlib.Omega.{arith}
use Rattle.table.proofs.Access.{node_here}
use Rattle.table.proofs.node_kind.Goals as goal

pub word-requires : goal.word-requires
word-requires c = omega (arith, c.requires.laid.header.long)

pub kind-requires : goal.kind-requires
kind-requires c = node_here c.requires c.word.ensures.0

pub returns : goal.returns
returns c = c.kind.ensures
