-- `merge_cells`: the fronts, then the walk to the end of one of the sets, then the rest.
use Rattle.sets.proofs.Base.{refl, arith}
use Rattle.merging.proofs.CellMerge.{rows_walked, merge_end_law, merge_made}
use Rattle.merging.proofs.merge_cells.Goals as goal

pub walk_by_kind-v-requires : goal.walk_by_kind-v-requires
walk_by_kind-v-requires c = record { start = _; a = _; m = _; b = _; n = _; top = _; merge = c.merge_fronts-w.ensures _; ends = refl; ends2 = refl }

pub overflow_sub-rest : goal.overflow_sub-rest
overflow_sub-rest c = (rows_walked c.merge_fronts-w.ensures c.walk_by_kind-v.ensures).0.on_left.1

pub overflow_sub-rest-2 : goal.overflow_sub-rest-2
overflow_sub-rest-2 c = (rows_walked c.merge_fronts-w.ensures c.walk_by_kind-v.ensures).0.on_right.1

pub overflow_sub-rest-3 : goal.overflow_sub-rest-3
overflow_sub-rest-3 c = omega (arith, (rows_walked c.merge_fronts-w.ensures c.walk_by_kind-v.ensures).0.count_is)

pub overflow_sub-rest-4 : goal.overflow_sub-rest-4
overflow_sub-rest-4 c = omega (arith, (rows_walked c.merge_fronts-w.ensures c.walk_by_kind-v.ensures).0.count_is)

pub finish-requires : goal.finish-requires
finish-requires c =
    let w = rows_walked c.merge_fronts-w.ensures c.walk_by_kind-v.ensures in
    merge_end_law w.0 w.1

pub returns : goal.returns
returns c =
    let w = rows_walked c.merge_fronts-w.ensures c.walk_by_kind-v.ensures in
    merge_made w.0 w.1 c.finish.ensures
