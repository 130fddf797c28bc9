-- Only the first field of a kind binds.
use mathlib.Core.Path.{ap}
use Rattle.table.specs.Codes.{field_of}
use Rattle.binding.proofs.Occurs.{bound_one, bound_none}
use Rattle.binding.proofs.bound_at.Goals as goal

pub bit-requires : goal.bit-requires
bit-requires c = c.requires.bound (ap field_of c.in-IdentifierBound.is)

pub returns-in-IdentifierBound : goal.returns-in-IdentifierBound
returns-in-IdentifierBound c = bound_one _ _ c.in-IdentifierBound.is c.bit.ensures

pub returns-in_default : goal.returns-in_default
returns-in_default c = bound_none c.args.first.holds c.args.first.word c.in_default.not-IdentifierBound
