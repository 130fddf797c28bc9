-- The parts one after the other; the room for each is part of the room for the line.
use Rattle.text.proofs.TextLaws.{grown_then, grown_as, refusal_text}
use Rattle.text.proofs.Text.refusal.Goals as goal

pub returns : goal.returns
returns c =
    let number = grown_then c.bytes.ensures c.decimal.ensures in
    let place = grown_then (grown_then number c.bytes-2.ensures) c.decimal-2.ensures in
    grown_as (refusal_text c.args.number c.args.place) (grown_then place c.bytes-3.ensures)
