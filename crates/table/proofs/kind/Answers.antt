-- The word at a node's place.
use Rattle.table.proofs.Access.{kind_read}
use Rattle.table.proofs.kind.Goals as goal

pub returns : goal.returns
returns c = kind_read _ _ _ _ c.requires.laid.base c.requires.below c.word.ensures.0
