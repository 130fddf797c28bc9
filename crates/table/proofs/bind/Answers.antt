-- The word at an identifier's place.
use Rattle.table.proofs.Access.{bind_read}
use Rattle.table.proofs.bind.Goals as goal

pub returns : goal.returns
returns c = bind_read _ _ _ _ c.givens.ensures c.requires.1 c.word.ensures.0
