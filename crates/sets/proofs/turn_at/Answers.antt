-- `turn_at`: the first of two members, by their order; both ends come with it.
use Rattle.sets.proofs.Base.{arith}
use Rattle.sets.proofs.TurnLaws.{turn_less, turn_equal, turn_greater, two_left, two_right, two_some, two_compared}
use Rattle.sets.proofs.turn_at.Goals as goal

pub compare_values-r-requires : goal.compare_values-r-requires
compare_values-r-requires c = let p = c.requires in (two_left p, two_right p)

pub returns-in-Less : goal.returns-in-Less
returns-in-Less c =
    let p = c.requires in
    let d = two_compared p c.compare_values-r.ensures in
    turn_less d.0 d.1 c.in-Less.is (omega (arith, (two_some p).0))

pub returns-in-Equal : goal.returns-in-Equal
returns-in-Equal c =
    let p = c.requires in
    let d = two_compared p c.compare_values-r.ensures in
    turn_equal d.0 d.1 d.2 (omega (arith, (two_some p).1)) c.in-Equal.is (omega (arith, (two_some p).0))

pub returns-in-Greater : goal.returns-in-Greater
returns-in-Greater c =
    let p = c.requires in
    let d = two_compared p c.compare_values-r.ensures in
    turn_greater d.0 d.1 d.2 (omega (arith, (two_some p).1)) c.in-Greater.is
