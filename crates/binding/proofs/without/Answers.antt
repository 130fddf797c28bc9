-- Bit by bit.
use Rattle.binding.proofs.Words.{bit_without}
use Rattle.binding.proofs.without.Goals as goal

pub returns : goal.returns
returns c = λ x. bit_without c.args.names c.args.here c.ranges.names.fits c.ranges.here.fits x
