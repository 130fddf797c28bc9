-- The class on top gets its mark, or a part of it goes on the stack, or waits there already: the laws of a turn.
use Rattle.deciding.proofs.Turns.{turn_store, turn_stuck, turn_push}
use Rattle.deciding.proofs.turn.Goals as goal

pub returns-in_default : goal.returns-in_default
returns-in_default c =
    let p = c.requires in
    rw (c.pop.ensures.rest.words, c.pop.ensures.rest.height)
    (turn_store p.flat_terms.0 p.flat_terms.1 p.on_top.0 p.on_top.1 c.in_default.ensures c.mark_of.ensures)

pub returns-then-marks-p-eq-WAITING : goal.returns-then-marks-p-eq-WAITING
returns-then-marks-p-eq-WAITING c =
    let p = c.requires in turn_stuck p.flat_terms.0 p.flat_terms.1 p.on_top.0 p.on_top.1 c.in-Some.ensures c.if-marks-p-eq-WAITING.true

pub returns : goal.returns
returns c =
    let p = c.requires in
    rw (c.push.ensures.0, c.push.ensures.1.words, c.push.ensures.1.height)
    (turn_push p.flat_terms.0 p.flat_terms.1 p.on_top.0 p.on_top.1 c.in-Some.ensures c.if-marks-p-eq-WAITING.false)
