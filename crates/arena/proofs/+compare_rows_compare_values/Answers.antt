-- The cycle of comparing values. `compare_rows`: the order of the values that have been passed, and the values that are left, decide.
-- `compare_values`: own cells that differ decide; otherwise what stands behind them.
use native.Mathlib.Omega.{arith}
use mathlib.Core.Path.{ap, ◌∙◌}
use Rattle.arena.specs.Code.{parts_of}
use Rattle.arena.proofs.ValueParts.{some_inside}
use Rattle.arena.proofs.RowOrder.{left_some, left_on, left_forward, left_end, inner_some, values_compared}
use Rattle.arena.proofs.+compare_rows_compare_values.Goals as goal

-- A turn of the loop: the values that are left of what stands there.
pub compare_rows-compare_values-next-requires : goal.compare_rows-compare_values-next-requires
compare_rows-compare_values-next-requires t c =
    let p = c.requires in
    let whole = c.loop.invariant.1 p.0.0 p.1.0 p.0.1 p.1.1 in
    (omega (arith, c.decreases, c.loop.invariant.0), left_some whole (omega (arith, c.loop-test.true)))

pub compare_rows-loop-preserved : goal.compare_rows-loop-preserved
compare_rows-loop-preserved t c =
    let p = c.requires in
    let whole = c.loop.invariant.1 p.0.0 p.1.0 p.0.1 p.1.1 in
    let m = c.compare_values-next.ensures in
    let taken = c.loop-test.true in (
      omega (arith, c.loop.invariant.0, left_forward whole (omega (arith, taken)) _ m),
      λ vs ws h k. left_on (c.loop.invariant.1 vs ws h k) taken _ m _ c.then_next.ensures,
    )

pub compare_rows-returns : goal.compare_rows-returns
compare_rows-returns t c = λ vs ws h k.
    let q = left_end (c.loop.invariant.1 vs ws h k) (omega (arith, c.loop-test.false)) in
    record { order = q.0; first = q.1; second = q.2 }

pub compare_values-bounds-s-a : goal.compare_values-bounds-s-a
compare_values-bounds-s-a t c = some_inside _ _ c.requires.0

pub compare_values-bounds-s-b : goal.compare_values-bounds-s-b
compare_values-bounds-s-b t c = some_inside _ _ c.requires.1

pub compare_values-compare_rows-requires : goal.compare_values-compare_rows-requires
compare_values-compare_rows-requires t c =
    let p = c.requires in
    let n = c.parts.ensures.0 in (
      omega (arith, c.decreases, some_inside _ _ p.0),
      (inner_some _ _ p.0 _ n, inner_some _ _ p.1 _ (n ∙ ap parts_of c.if-x-s.false)),
    )

pub compare_values-returns : goal.compare_values-returns
compare_values-returns t c = values_compared _ _ _ _ _ c.if-x-s.false c.parts.ensures.0 c.compare_rows.ensures
