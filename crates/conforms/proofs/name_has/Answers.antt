-- `name_has`: the word of a bound identifier is not zero. A row of no type has no values; where it is that of a type, its codes stand there.
use Rattle.conforms.specs.Rows.{TypeRow}
use Rattle.conforms.proofs.RowLaws.{type_there}
use Rattle.conforms.proofs.NameLaws.{name_bound, name_no, name_yes}
use Rattle.conforms.proofs.name_has.Goals as goal

pub returns-then-bind-ne0 : goal.returns-then-bind-ne0
returns-then-bind-ne0 c = name_bound _ _ _ _ _ _ c.bind.ensures c.if-bind-ne0.true

pub returns-then-not-is_row : goal.returns-then-not-is_row
returns-then-not-is_row c = name_no _ _ _ _ _ _ c.bind.ensures c.if-bind-ne0.false c.is_row.ensures c.if-not-is_row.true

pub has_type-requires : goal.has_type-requires
has_type-requires c =
    let row : TypeRow c.args.sheet.now c.args.x = c.is_row.ensures.sound c.if-not-is_row.false in
    let p = c.requires in (p.value, (row.type, type_there p.inside row))

pub returns : goal.returns
returns c =
    let row : TypeRow c.args.sheet.now c.args.x = c.is_row.ensures.sound c.if-not-is_row.false in
    name_yes _ _ _ _ _ _ c.bind.ensures c.if-bind-ne0.false c.requires.inside row c.has_type.ensures
