-- By what the field holds.
use mathlib.Core.Path.{ap}
use Rattle.table.specs.Codes.{field_of}
use Rattle.binding.proofs.Occurs.{names_none}
use Rattle.binding.proofs.field_names.Goals as goal

pub bit-requires : goal.bit-requires
bit-requires c = c.requires.0.used (ap field_of c.in-IdentifierUsed.is)

pub returns-in_default : goal.returns-in_default
returns-in_default c =
    let f = c.args.field in
    names_none c.args.names.now c.args.here f.word f.holds c.in_default.not-Predicate c.in_default.not-Expression c.in_default.not-IdentifierUsed
