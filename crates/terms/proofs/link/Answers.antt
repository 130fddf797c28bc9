-- The word that is put together, by its law.
use native.Mathlib.Omega.{arith}
use Rattle.terms.proofs.WordLaws.{link_word}
use Rattle.terms.proofs.link.Goals as goal

pub returns : goal.returns
returns c = link_word (omega arith) c.requires
