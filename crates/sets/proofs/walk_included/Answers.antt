-- `walk_included`: the answer is whether the members left of the first run are among those left of the second.
use Rattle.sets.proofs.Base.{arith, not-true, not-false}
use Rattle.sets.proofs.TurnLaws.{including_end, including_short, two_fronts, including_turn}
use Rattle.sets.proofs.walk_included.Goals as goal

pub returns-then-f-eq0 : goal.returns-then-f-eq0
returns-then-f-eq0 c = λ vs ws f g. including_short (c.loop-f.invariant vs ws f g) c.loop-f-test.true c.if-f-eq0.true

pub turn_at-t-requires : goal.turn_at-t-requires
turn_at-t-requires c =
    let q = c.requires in
    let including = c.loop-f.invariant _ _ q.on_left q.on_right in
    let h = including in two_fronts h.on_left h.on_right c.loop-f-test.true (omega (arith, c.if-f-eq0.false))

pub returns-then-not-t : goal.returns-then-not-t
returns-then-not-t c =
    λ vs ws f g.
    (including_turn (c.loop-f.invariant vs ws f g) c.loop-f-test.true c.if-f-eq0.false c.turn_at-t.ensures).1 (not-true _ c.if-not-t.true)

pub loop-f-smaller : goal.loop-f-smaller
loop-f-smaller c =
    let q = c.requires in
    let including = c.loop-f.invariant _ _ q.on_left q.on_right in
    ((including_turn including c.loop-f-test.true c.if-f-eq0.false c.turn_at-t.ensures).0 (not-false _ c.if-not-t.false)).1

pub loop-f-preserved : goal.loop-f-preserved
loop-f-preserved c =
    λ vs ws f g.
    ((including_turn (c.loop-f.invariant vs ws f g) c.loop-f-test.true c.if-f-eq0.false c.turn_at-t.ensures).0 (not-false _ c.if-not-t.false)).0

pub returns : goal.returns
returns c = λ vs ws f g. including_end (c.loop-f.invariant vs ws f g) c.loop-f-test.false
