-- The word with the bit x alone is 2 ^ x.
use Rattle.binding.proofs.Words.{bit_shifted}
use Rattle.binding.proofs.bit.Goals as goal

pub returns : goal.returns
returns c = bit_shifted c.args.x c.requires
