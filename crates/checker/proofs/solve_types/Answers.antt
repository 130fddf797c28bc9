-- Refusal 11, or the answer from the solved table.
use Rattle.checker.proofs.PosedLaws.{variables_are, stack_fit, marks_fit, stack_inside, marks_inside}
use Rattle.checker.proofs.SolveLaws.{answerable}
use Rattle.checker.proofs.Telling.{told_clash}
use Rattle.checker.proofs.solve_types.Goals as goal

pub returns-in-Err : goal.returns-in-Err
returns-in-Err c = told_clash _ _ _ c.requires.checkable (rw c.in-Err.is at c.solve.ensures.solved)

pub slice_bounds-places-end-2 : goal.slice_bounds-places-end-2
slice_bounds-places-end-2 c = marks_inside c.requires.ready c.nodes.ensures c.solve.ensures.work_room c.variable-v.ensures

pub slice_bounds-answer-end : goal.slice_bounds-answer-end
slice_bounds-answer-end c = stack_inside c.requires.ready c.nodes.ensures c.solve.ensures.work_room c.variable-v.ensures

pub answer-requires : goal.answer-requires
answer-requires c =
    let p = c.requires in
    let w = c.solve.ensures.work_room in
    let v = c.variable-v.ensures in
    answerable p.checkable p.ready c.nodes_offset.ensures (variables_are p.ready c.nodes.ensures w v) _ _ _
    (stack_fit p.ready c.nodes.ensures w v) (marks_fit p.ready c.nodes.ensures w v) (rw c.in_default.is at c.solve.ensures.solved)
