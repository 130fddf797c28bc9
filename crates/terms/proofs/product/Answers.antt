-- The word that is put together, by its law.
use native.Mathlib.Omega.{arith}
use Rattle.terms.proofs.WordLaws.{product_word}
use Rattle.terms.proofs.product.Goals as goal

pub returns : goal.returns
returns c = product_word (omega arith) c.requires.0 c.requires.1
