-- The node's words are copied behind those of the nodes before it.
use borrow.Author.Rules.{rules}
use mathlib.Core.Path.{◌≡◌}
use native.Mathlib.Omega.{arith}
use lib.ListN.{length}
use Rattle.constraints.proofs.CopyLaws.{words_copied}
use Rattle.constraints.proofs.BuildLaws.{shapes_fit, equations_fit, next_small, next_constrained}
use Rattle.constraints.proofs.add_node.Goals as goal

pub slice_bounds-copy_from_slice-end : goal.slice_bounds-copy_from_slice-end
slice_bounds-copy_from_slice-end c = shapes_fit c.requires c.variable-v.ensures

pub slice_bounds-copy_from_slice-end-3 : goal.slice_bounds-copy_from_slice-end-3
slice_bounds-copy_from_slice-end-3 c = equations_fit c.requires c.equation_count-m.ensures

pub overflow_add-starts : goal.overflow_add-starts
overflow_add-starts c = omega (arith, next_small c.requires c.node_rule-node.ensures)

pub returns : goal.returns
returns c =
    let six : length c.node_rule-node.result.shapes ≡ 6 = search rules in
    let two : length c.node_rule-node.result.equations ≡ 2 = search rules in
    next_constrained c.requires c.node_rule-node.ensures c.variable-v.ensures c.equation_count-m.ensures
    (words_copied 6 _ c.args.shapes.now _ _ _ (omega arith) c.copy_from_slice.ensures.after six (shapes_fit c.requires c.variable-v.ensures))
    (words_copied 2 _ c.args.equations.now _ _ _ (omega arith) c.copy_from_slice-2.ensures.after two (equations_fit c.requires c.equation_count-m.ensures))
