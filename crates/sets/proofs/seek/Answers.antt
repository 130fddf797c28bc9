-- `seek`: the value is found in the set where it is found among the members that are left.
use Rattle.sets.proofs.Base.{◌+◌, ◌-◌, ◌≡◌, arith}
use Rattle.arena.proofs.FrontLaws.{value_some, front_some}
use Rattle.arena.proofs.ValueParts.{some_inside}
use Rattle.sets.proofs.SearchLaws.{seeking_key, seeking_end, seeking_found, seeking_past, seeking_next}
use Rattle.sets.proofs.seek.Goals as goal

pub overflow_add-i : goal.overflow_add-i
overflow_add-i c =
    let q = c.requires in
    let seeking = c.loop.invariant _ _ _ q.front q.keyed q.value.1 in
    omega (arith, some_inside _ _ (seeking_key seeking (omega (arith, c.loop-test.true))))

pub compare-requires : goal.compare-requires
compare-requires c =
    let q = c.requires in
    let seeking = c.loop.invariant _ _ _ q.front q.keyed q.value.1 in
    (value_some _ _ _ _ c.requires.value.1, seeking_key seeking (omega (arith, c.loop-test.true)), c.end_of-end.ensures)

pub returns-in-Equal : goal.returns-in-Equal
returns-in-Equal c = λ top vs v f k h.
    seeking_found (c.loop.invariant top vs v f k h) h c.compare.ensures (omega (arith, c.loop-test.true)) c.in-Equal.is

pub returns-in-Less : goal.returns-in-Less
returns-in-Less c = λ top vs v f k h.
    seeking_past (c.loop.invariant top vs v f k h) h c.compare.ensures (omega (arith, c.loop-test.true)) c.in-Less.is

pub end_of-i-requires : goal.end_of-i-requires
end_of-i-requires c =
    let q = c.requires in
    let seeking = c.loop.invariant _ _ _ q.front q.keyed q.value.1 in
    front_some _ _ _ _ _ seeking.front (omega (arith, c.loop-test.true))

pub loop-preserved : goal.loop-preserved
loop-preserved c = λ top vs v f k h.
    let z : c.args.n - (c.loop.counter + 1) ≡ c.args.n - c.loop.counter - 1 = omega arith in
    rw z
    (seeking_next (c.loop.invariant top vs v f k h) h c.compare.ensures (omega (arith, c.loop-test.true)) c.in-Greater.is c.end_of-i.ensures)

pub returns : goal.returns
returns c = λ top vs v f k h. seeking_end (c.loop.invariant top vs v f k h) (omega (arith, c.loop-test.false))
