-- `belongs`: where the second value is a set, the value shares a type with its members.
use mathlib.Core.Path.{sym, ◌∙◌}
use Rattle.rules.specs.Fits.{types_of}
use Rattle.fitting.specs.Agree.{SetHere}
use Rattle.fitting.proofs.Cells.{members_run}
use Rattle.fitting.proofs.Tests.{fits_belongs, set_here, set_not, belongs_fits}
use Rattle.fitting.proofs.belongs.Goals as goal

pub returns-else-is_set : goal.returns-else-is_set
returns-else-is_set c = λ v w h k. c.if-is_set.false ∙ sym (fits_belongs v w ∙ set_not c.is_set.ensures k c.if-is_set.false (types_of v))

pub members-requires : goal.members-requires
members-requires c = set_here c.is_set.ensures c.requires.second c.if-is_set.true

pub against-requires : goal.against-requires
against-requires c =
    let a_set : SetHere c.args.s.now c.args.b = set_here c.is_set.ensures c.requires.second c.if-is_set.true in
    record { first = c.requires.first; second = members_run a_set c.members.ensures }

pub returns-then-is_set : goal.returns-then-is_set
returns-then-is_set c =
    let a_set : SetHere c.args.s.now c.args.b = set_here c.is_set.ensures c.requires.second c.if-is_set.true in
    belongs_fits a_set c.members.ensures c.against.ensures
