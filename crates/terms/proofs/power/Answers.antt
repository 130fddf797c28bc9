-- The word that is put together, by its law.
use native.Mathlib.Omega.{arith}
use Rattle.terms.proofs.WordLaws.{power_word}
use Rattle.terms.proofs.power.Goals as goal

pub returns : goal.returns
returns c = power_word (omega arith) c.requires
