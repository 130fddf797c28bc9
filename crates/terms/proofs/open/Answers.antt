-- The word that is put together, by its law.
use Rattle.terms.proofs.WordLaws.{open_word}
use Rattle.terms.proofs.open.Goals as goal

pub returns : goal.returns
returns c = open_word
