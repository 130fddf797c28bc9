-- The attempt at all constraints: solved, or the node of the first equation that clashes, or a search among the nodes up to one where there is
-- no solution.
use mathlib.Core.Path.{◌∙◌}
use Rattle.checker.proofs.PosedLaws.{all_equations, equations_inside, terms_fit, marks_fit, terms_inside}
use Rattle.checker.proofs.PosedLaws.{marks_inside, all_variables, marks_beside, whole_room}
use Rattle.checker.proofs.SolvingLaws.{some_node, node_found}
use Rattle.checker.proofs.SolveLaws.{whole_solved, clash_below, clash_first, none_upto}
use Rattle.checker.proofs.solving.solve.Goals as goal

pub slice_bounds-solve_shapes-end : goal.slice_bounds-solve_shapes-end
slice_bounds-solve_shapes-end c = equations_inside c.requires.ready c.nodes-n.ensures c.equation_count-m.ensures

pub slice_bounds-solve_shapes-end-2 : goal.slice_bounds-solve_shapes-end-2
slice_bounds-solve_shapes-end-2 c = terms_fit c.requires.ready c.nodes-n.ensures c.requires.work_room c.variable-v.ensures

pub slice_bounds-solve_shapes-end-3 : goal.slice_bounds-solve_shapes-end-3
slice_bounds-solve_shapes-end-3 c = terms_inside c.requires.ready c.nodes-n.ensures c.requires.work_room c.variable-v.ensures

pub slice_bounds-solve_shapes-end-5 : goal.slice_bounds-solve_shapes-end-5
slice_bounds-solve_shapes-end-5 c = marks_fit c.requires.ready c.nodes-n.ensures c.requires.work_room c.variable-v.ensures

pub slice_bounds-solve_shapes-end-6 : goal.slice_bounds-solve_shapes-end-6
slice_bounds-solve_shapes-end-6 c = marks_inside c.requires.ready c.nodes-n.ensures c.requires.work_room c.variable-v.ensures

pub solve_shapes-requires : goal.solve_shapes-requires
solve_shapes-requires c =
    whole_room c.requires.ready c.nodes-n.ensures c.requires.work_room c.variable-v.ensures c.equation_count-m.ensures

pub overflow_sub-result : goal.overflow_sub-result
overflow_sub-result c =
    let r = c.requires.ready in
    let variables = all_variables c.requires.ready c.nodes-n.ensures c.requires.work_room c.variable-v.ensures in
    let count = all_equations c.requires.ready c.nodes-n.ensures c.equation_count-m.ensures in
    let x = rw c.in-Err-At.field-0-is at c.in-Err-At.ensures in
    let below = clash_below r c.nodes-n.ensures variables count _ _ x in
    some_node below c.nodes_to.ensures

pub first_clash-requires-clause-untypable : goal.first_clash-requires-clause-untypable
first_clash-requires-clause-untypable c =
    let r = c.requires.ready in
    let variables = all_variables c.requires.ready c.nodes-n.ensures c.requires.work_room c.variable-v.ensures in
    let count = all_equations c.requires.ready c.nodes-n.ensures c.equation_count-m.ensures in
    let x = rw c.in-Err-UpTo.field-0-is at c.in-Err-UpTo.ensures in
    none_upto r c.nodes-n.ensures variables count c.solve_shapes.new.terms c.solve_shapes.new.marks x c.nodes_to-hi.ensures

pub returns-in-Ok-clause-solved : goal.returns-in-Ok-clause-solved
returns-in-Ok-clause-solved c =
    let r = c.requires.ready in
    let variables = all_variables c.requires.ready c.nodes-n.ensures c.requires.work_room c.variable-v.ensures in
    let count = all_equations c.requires.ready c.nodes-n.ensures c.equation_count-m.ensures in
    whole_solved r c.nodes-n.ensures variables count _ _ c.in-Ok.ensures _ _
    (c.solve_shapes.auto.marks ∙ marks_beside c.requires.ready c.nodes-n.ensures c.requires.work_room c.variable-v.ensures)

pub returns-in-Err-At-clause-solved : goal.returns-in-Err-At-clause-solved
returns-in-Err-At-clause-solved c =
    let r = c.requires.ready in
    let variables = all_variables c.requires.ready c.nodes-n.ensures c.requires.work_room c.variable-v.ensures in
    let count = all_equations c.requires.ready c.nodes-n.ensures c.equation_count-m.ensures in
    let x = rw c.in-Err-At.field-0-is at c.in-Err-At.ensures in
    let below = clash_below r c.nodes-n.ensures variables count _ _ x in
    clash_first r c.nodes-n.ensures variables count _ _ x (node_found below c.nodes_to.ensures)
