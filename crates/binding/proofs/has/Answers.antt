-- Bit x is the last one of the word shifted by x.
use borrow.Author.Rules.{rules}
use Rattle.binding.specs.Words.{has_bit}
use Rattle.binding.proofs.has.Goals as goal

pub returns : goal.returns
unfolding has_bit
returns c = search rules
