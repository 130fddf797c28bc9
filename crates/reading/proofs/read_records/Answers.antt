-- Stages 4 to 6 of `reading`, then the tree.
use Rattle.std.proofs.lemmas.Result.{err_from_is_err_and}
use Rattle.reading.specs.Answers.{reading_records}
use Rattle.reading.proofs.Stages.{stage_refused, stage_passed, nodes_fielded}
use Rattle.reading.proofs.read_records.Goals as goal

pub returns-in_err-require_none : goal.returns-in_err-require_none
unfolding reading_records
returns-in_err-require_none c =
    let r = c.from_residual in
    let p = err_from_is_err_and r.result r.ensures.1 in
    rw (p.1, p.2)
    (stage_refused _ _ (c.in_err-require_none.ensures _ _ c.first_bad_size.ensures))

pub returns-in_err-require_none-2 : goal.returns-in_err-require_none-2
unfolding reading_records
returns-in_err-require_none-2 c =
    let r = c.from_residual-in_err-require_none-2 in
    let p = err_from_is_err_and r.result r.ensures.1 in
    rw (p.1, p.2)
    (stage_passed _ _ _ (c.in_ok-require_none.ensures _ _ c.first_bad_size.ensures)
    (stage_refused _ _ (c.in_err-require_none-2.ensures _ _ c.first_bad_bind.ensures)))

pub returns-in_err-require_none-3 : goal.returns-in_err-require_none-3
unfolding reading_records
returns-in_err-require_none-3 c =
    let r = c.from_residual-in_err-require_none-3 in
    let p = err_from_is_err_and r.result r.ensures.1 in
    rw (p.1, p.2)
    (stage_passed _ _ _ (c.in_ok-require_none.ensures _ _ c.first_bad_size.ensures)
    (stage_passed _ _ _ (c.in_ok-require_none-2.ensures _ _ c.first_bad_bind.ensures)
    (stage_refused _ _ (c.in_err-require_none-3.ensures _ _ c.first_bad_node.ensures))))

pub read_tree-requires : goal.read_tree-requires
read_tree-requires c = nodes_fielded _ _ c.requires c.nodes_offset-at.ensures (c.in_ok-require_none-3.ensures _ _ c.first_bad_node.ensures)

pub returns : goal.returns
unfolding reading_records
returns c =
    stage_passed _ _ _ (c.in_ok-require_none.ensures _ _ c.first_bad_size.ensures)
    (stage_passed _ _ _ (c.in_ok-require_none-2.ensures _ _ c.first_bad_bind.ensures)
    (stage_passed _ _ _ (c.in_ok-require_none-3.ensures _ _ c.first_bad_node.ensures)
    c.read_tree.ensures))
