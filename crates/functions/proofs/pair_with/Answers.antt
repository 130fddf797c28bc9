-- `pair_with`: flat pairs are found by the row of first parts, others one by one.
use Rattle.sets.proofs.Base.{◌+◌, arith}
use Rattle.functions.proofs.Terms.{SomeFlat}
use Rattle.arena.proofs.ValueParts.{some_inside}
use Rattle.arena.proofs.FrontLaws.{value_some}
use Rattle.functions.proofs.ImageLaws.{whole, relation_run, pair_row, flat_none, flat_found, flat_inside, relation_flat}
use Rattle.functions.proofs.pair_with.Goals as goal

pub bounds-s-e : goal.bounds-s-e
bounds-s-e c = some_inside _ _ (value_some _ _ _ _ c.requires.0.1)

pub find-requires : goal.find-requires
find-requires c =
    let some : SomeFlat c.args.s.now (c.args.p.f + 1) c.args.p.n = relation_flat c.requires.1 c.if-p.true in
    let q = some in pair_row q.2 q.3

pub returns-in_err-k : goal.returns-in_err-k
returns-in_err-k c = rw c.from_residual.ensures λ vs v h k p.
    let q = c.requires.1 in
    flat_none k (whole h q.counted) (q.thin c.if-p.true _ vs h p) (c.find.ensures.lost c.in_err-k.was)

pub overflow_mul-result : goal.overflow_mul-result
overflow_mul-result c =
    let some : SomeFlat c.args.s.now (c.args.p.f + 1) c.args.p.n = relation_flat c.requires.1 c.if-p.true in
    omega (arith, flat_inside some.2 some.3, (c.find.ensures.here _ c.in_ok-k.was).0)

pub overflow_add-result : goal.overflow_add-result
overflow_add-result c =
    let some : SomeFlat c.args.s.now (c.args.p.f + 1) c.args.p.n = relation_flat c.requires.1 c.if-p.true in
    omega (arith, flat_inside some.2 some.3, (c.find.ensures.here _ c.in_ok-k.was).0)

pub returns-then-p : goal.returns-then-p
returns-then-p c = λ vs v h k p.
    let q = c.requires.1 in
    let (l, e) = c.find.ensures.here _ c.in_ok-k.was in
    flat_found k (whole h q.counted) (q.thin c.if-p.true _ vs h p) _ l e

pub seek-requires : goal.seek-requires
seek-requires c =
    let q = c.requires in
    let r = relation_run q.1 in
    record { value = q.0; top = _; rest = _; front = r.2; keyed = r.3 }

pub returns : goal.returns
returns c = λ vs v h k p. c.seek.ensures _ vs v (whole h c.requires.1.counted) p k
