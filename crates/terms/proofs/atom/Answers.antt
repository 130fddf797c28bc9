-- The word that is put together, by its law.
use native.Mathlib.Omega.{arith}
use Rattle.terms.proofs.WordLaws.{atom_word}
use Rattle.terms.proofs.atom.Goals as goal

pub returns : goal.returns
returns c = atom_word (omega arith) c.requires.0 c.requires.1
