-- `is_function`: of the pairs that are left none shares its first part with the next one exactly where none of all does.
use Rattle.sets.proofs.Base.{◌+◌, ◌-◌, ◌≡◌, arith}
use Rattle.functions.proofs.Terms.{SomeAt}
use Rattle.arena.proofs.ValueParts.{some_inside}
use Rattle.functions.proofs.ImageLaws.{checking_end, first_some, second_some, next_some, walk_shared, walk_next}
use Rattle.functions.proofs.is_function.Goals as goal

pub overflow_add-i : goal.overflow_add-i
overflow_add-i c =
    let q = c.requires in
    let checking = c.loop.invariant _ _ q.2 q.3 in
    let first : SomeAt c.args.s.now (c.loop.i + 1) = first_some checking (omega (arith, c.loop-test.true)) in
    omega (arith, some_inside _ _ first)

pub end_of-right-requires : goal.end_of-right-requires
end_of-right-requires c =
    let q = c.requires in
    let checking = c.loop.invariant _ _ q.2 q.3 in
    let first : SomeAt c.args.s.now (c.loop.i + 1) = first_some checking (omega (arith, c.loop-test.true)) in
    first

pub end_of-next-requires : goal.end_of-next-requires
end_of-next-requires c =
    let q = c.requires in
    let checking = c.loop.invariant _ _ q.2 q.3 in
    second_some checking (omega (arith, c.loop-test.true)) c.end_of-right.ensures

pub overflow_add-i-in-loop : goal.overflow_add-i-in-loop
overflow_add-i-in-loop c =
    let q = c.requires in
    let checking = c.loop.invariant _ _ q.2 q.3 in
    let first : SomeAt c.args.s.now (c.loop.i + 1) = first_some checking (omega (arith, c.loop-test.true)) in
    omega (arith, some_inside _ _ first)

pub overflow_add-next : goal.overflow_add-next
overflow_add-next c =
    let q = c.requires in
    let checking = c.loop.invariant _ _ q.2 q.3 in
    let next : SomeAt c.args.s.now (c.end_of-next.result + 1) =
    next_some checking (omega (arith, c.loop-test.true)) c.end_of-right.ensures c.end_of-next.ensures in
    omega (arith, some_inside _ _ next)

pub same-requires : goal.same-requires
same-requires c =
    let q = c.requires in
    let checking = c.loop.invariant _ _ q.2 q.3 in
    let first : SomeAt c.args.s.now (c.loop.i + 1) = first_some checking (omega (arith, c.loop-test.true)) in
    let next : SomeAt c.args.s.now (c.end_of-next.result + 1) =
    next_some checking (omega (arith, c.loop-test.true)) c.end_of-right.ensures c.end_of-next.ensures in
    (first, next, c.end_of-right.ensures)

pub returns-then-same : goal.returns-then-same
returns-then-same c =
    λ top vs f p. walk_shared (c.loop.invariant top vs f p) (omega (arith, c.loop-test.true)) c.end_of-right.ensures c.end_of-next.ensures c.same.ensures
    c.if-same.true

pub loop-preserved : goal.loop-preserved
loop-preserved c = λ top vs f p.
    let z : c.args.n + 1 - (c.loop.counter + 1) ≡ c.args.n + 1 - c.loop.counter - 1 = omega arith in
    rw z
    (walk_next (c.loop.invariant top vs f p) (omega (arith, c.loop-test.true)) c.end_of-right.ensures c.end_of-next.ensures c.same.ensures
    c.if-same.false)

pub returns : goal.returns
returns c = λ top vs f p. checking_end (c.loop.invariant top vs f p) (omega (arith, c.loop-test.false))
