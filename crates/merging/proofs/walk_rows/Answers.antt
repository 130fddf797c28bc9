-- `walk_rows`: each turn stores the lesser of the first cells, which is a turn of the merge; at the end one set is exhausted.
use Rattle.sets.proofs.Base.{arith}
use Rattle.merging.proofs.CellMerge.{turn_moves, rows_inside, rows_next}
use Rattle.merging.proofs.walk_rows.Goals as goal

pub offset_bounds-s-to : goal.offset_bounds-s-to
offset_bounds-s-to c = omega (arith, rows_inside c.requires c.loop-i.invariant c.loop-i-test.true c.if-j-end2.true)

pub bounds-s-to : goal.bounds-s-to
bounds-s-to c = (rows_inside c.requires c.loop-i.invariant c.loop-i-test.true c.if-j-end2.true).0

pub overflow_add-to : goal.overflow_add-to
overflow_add-to c =
    omega (arith, rows_inside c.requires c.loop-i.invariant c.loop-i-test.true c.if-j-end2.true, (turn_moves c.cell_turn-t.ensures).3)

pub overflow_add-turns : goal.overflow_add-turns
overflow_add-turns c = omega (arith, rows_inside c.requires c.loop-i.invariant c.loop-i-test.true c.if-j-end2.true)

pub loop-i-preserved : goal.loop-i-preserved
loop-i-preserved c = rows_next c.loop-i.invariant c.loop-i-test.true c.if-j-end2.true c.cell_turn-t.ensures
