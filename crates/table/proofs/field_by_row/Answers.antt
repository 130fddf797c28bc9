-- What the field holds, by the row, and its word.
use Rattle.table.proofs.Fields.{holds_read}
use Rattle.table.proofs.field_by_row.Goals as goal

pub returns : goal.returns
returns c =
    let s = c.args in
    record { holds = holds_read s.table.now s.n s.row s.i _ c.requires.2 c.field_holds.ensures; word = c.field.ensures }
