-- Stages 7 to 9 of `reading`, in order, and then the height of the root.
use mathlib.Core.Path.{ap, subst}
use Rattle.std.proofs.lemmas.Result.{err_from_is_err_and}
use Rattle.rules.specs.Ends.{done}
use Rattle.trees.specs.Arrays.{Heights}
use Rattle.reading.specs.Answers.{reading_tree}
use Rattle.reading.proofs.Stages.{stage_refused, stage_passed, all_passed}
use Rattle.reading.proofs.read_tree.Goals as goal

pub returns-in_err-require_none : goal.returns-in_err-require_none
unfolding reading_tree
returns-in_err-require_none c =
    let r = c.from_residual in
    let p = err_from_is_err_and r.result r.ensures.1 in
    rw (p.1, p.2)
    (stage_refused _ _ (c.in_err-require_none.ensures _ _ c.first_bad_parent.ensures))

pub returns-in_err-require_none-2 : goal.returns-in_err-require_none-2
unfolding reading_tree
returns-in_err-require_none-2 c =
    let r = c.from_residual-in_err-require_none-2 in
    let p = err_from_is_err_and r.result r.ensures.1 in
    rw (p.1, p.2)
    (stage_passed _ _ _ (c.in_ok-require_none.ensures _ _ c.first_bad_parent.ensures)
    (stage_refused _ _ (c.in_err-require_none-2.ensures _ _ c.set_heights.ensures.0)))

pub returns-in_err-require_none-3 : goal.returns-in_err-require_none-3
unfolding reading_tree
returns-in_err-require_none-3 c =
    let r = c.from_residual-in_err-require_none-3 in
    let p = err_from_is_err_and r.result r.ensures.1 in
    rw (p.1, p.2)
    (stage_passed _ _ _ (c.in_ok-require_none.ensures _ _ c.first_bad_parent.ensures)
    (stage_passed _ _ _ (c.in_ok-require_none-2.ensures _ _ c.set_heights.ensures.0)
    (stage_refused _ _ (c.in_err-require_none-3.ensures _ _ c.first_bad_binding.ensures))))

pub root_height-requires : goal.root_height-requires
root_height-requires c =
    let h = c.set_heights in
    let all = all_passed 8 _ _ _ h.ensures.0 (c.in_ok-require_none-2.ensures _ _ h.ensures.0) in
    (c.requires.laid.header, h.auto.heights, subst (λ i. Heights c.args.table.now i h.new.heights) all h.ensures.1)

pub returns : goal.returns
unfolding reading_tree
returns c =
    stage_passed _ _ _ (c.in_ok-require_none.ensures _ _ c.first_bad_parent.ensures)
    (stage_passed _ _ _ (c.in_ok-require_none-2.ensures _ _ c.set_heights.ensures.0)
    (stage_passed _ _ _ (c.in_ok-require_none-3.ensures _ _ c.first_bad_binding.ensures)
    (ap done c.root_height.ensures)))
