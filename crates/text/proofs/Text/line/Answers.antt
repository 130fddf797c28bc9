-- The parts one after the other; the room for each is part of the room for the line.
use Rattle.text.proofs.TextLaws.{grown_then, grown_as, line_text}
use Rattle.text.proofs.Text.line.Goals as goal

pub returns : goal.returns
returns c =
    let number = grown_then c.bytes.ensures c.decimal.ensures in
    let row = grown_then (grown_then number c.bytes-2.ensures) c.row.ensures in
    grown_as
    (line_text c.args.identifiers c.args.p c.args.row.now _ _ c.name-letter.ensures.0 c.name-letter.ensures.1)
    (grown_then row c.bytes-3.ensures)
