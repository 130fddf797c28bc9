-- The word at a field's place.
use Rattle.table.proofs.Access.{field_read}
use Rattle.table.proofs.field.Goals as goal

pub returns : goal.returns
returns c = field_read _ _ _ _ _ c.requires.0.laid.base c.requires.0.below c.requires.1 c.word.ensures.0
