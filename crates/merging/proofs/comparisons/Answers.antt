-- `comparisons`: a turn at two runs is one; none is left where either is exhausted.
use Rattle.sets.proofs.Base.{◌≤◌, inl, inr, arith}
use Rattle.merging.proofs.CountLaws.{runs_few, counting_turn, counting_end}
use Rattle.sets.proofs.TurnLaws.{two_fronts}
use Rattle.merging.proofs.comparisons.Goals as goal

pub turn_at-requires : goal.turn_at-requires
turn_at-requires c =
    let q = c.requires in
    let counting = c.loop-f.invariant q.0 q.1.first q.1.second q.1.on_left q.1.on_right in
    let h = counting in two_fronts h.on_left h.on_right c.loop-f-test.true c.if-f-gt0.true

pub overflow_add-turns : goal.overflow_add-turns
overflow_add-turns c =
    let q = c.requires in
    let counting = c.loop-f.invariant q.0 q.1.first q.1.second q.1.on_left q.1.on_right in
    let few : c.loop-f.turns ≤ 510 = let r = c.requires.1 in omega (arith, counting.compared, runs_few r.on_left r.on_right) in
    omega (arith, few)

pub loop-f-smaller : goal.loop-f-smaller
loop-f-smaller c =
    let q = c.requires in
    let counting = c.loop-f.invariant q.0 q.1.first q.1.second q.1.on_left q.1.on_right in
    (counting_turn counting c.loop-f-test.true c.if-f-gt0.true c.turn_at.ensures).1

pub loop-f-preserved : goal.loop-f-preserved
loop-f-preserved c = λ top vs ws f g. (counting_turn (c.loop-f.invariant top vs ws f g) c.loop-f-test.true c.if-f-gt0.true c.turn_at.ensures).0

pub returns-else-f-gt0 : goal.returns-else-f-gt0
returns-else-f-gt0 c =
    λ top vs ws f g.
    counting_end (c.loop-f.invariant top vs ws f g) (inr (omega (arith, c.if-f-gt0.false)))

pub returns-after-loop-f : goal.returns-after-loop-f
returns-after-loop-f c = λ top vs ws f g. counting_end (c.loop-f.invariant top vs ws f g) (inl (omega (arith, c.loop-f-test.false)))
