-- The cycle of the evaluators: the measures, five for each node and what is left to do at the node; and what the loops over members keep.
use Rattle.visits.proofs.Terms.{◌+◌, ◌-◌, ◌*◌}
use Rattle.visits.proofs.ChosenLaws.{Choosing}
use Rattle.visits.proofs.QuantLaws.{Turning}
use Rattle.evaluators.proofs.+evaluators.Given as goal

abbrev pub decreases-each_chosen : goal.decreases-each_chosen
decreases-each_chosen l = 5 * l.node

abbrev pub decreases-each_member : goal.decreases-each_member
decreases-each_member l = 5 * l.node

abbrev pub decreases-eval_bare : goal.decreases-eval_bare
decreases-eval_bare l = 5 * l.node + 2

abbrev pub decreases-eval_bool : goal.decreases-eval_bool
decreases-eval_bool l = 5 * l.node + 1

abbrev pub decreases-eval_expr : goal.decreases-eval_expr
decreases-eval_expr l = 5 * l.node + 3

abbrev pub decreases-eval_join : goal.decreases-eval_join
decreases-eval_join l = 5 * l.node + 1

abbrev pub decreases-eval_one : goal.decreases-eval_one
decreases-eval_one l = 5 * l.node + 1

abbrev pub decreases-eval_pred : goal.decreases-eval_pred
decreases-eval_pred l = 5 * l.node + 3

abbrev pub decreases-eval_quant : goal.decreases-eval_quant
decreases-eval_quant l = 5 * l.node + 1

abbrev pub decreases-eval_select : goal.decreases-eval_select
decreases-eval_select l = 5 * l.node + 1

abbrev pub decreases-eval_test : goal.decreases-eval_test
decreases-eval_test l = 5 * l.node + 1

abbrev pub decreases-eval_two : goal.decreases-eval_two
decreases-eval_two l = 5 * l.node + 1

abbrev pub decreases-eval_value : goal.decreases-eval_value
decreases-eval_value l = 5 * l.node + 2

abbrev pub decreases-operand : goal.decreases-operand
decreases-operand l = 5 * l.node + 4

abbrev pub invariant-each_chosen-loop-turn : goal.invariant-each_chosen-loop-turn
invariant-each_chosen-loop-turn l =
    Choosing l.table l.env l.initial.s l.top l.node l.from l.count l.left l.x l.s l.inner l.at (l.count - l._turn) l.n l.to l.chosen

abbrev pub invariant-each_member-loop-turn : goal.invariant-each_member-loop-turn
invariant-each_member-loop-turn l =
    Turning l.table l.env l.initial.s l.top l.all l.node l.from l.count l.left l.x l.s l.inner l.at (l.count - l._turn) l.n
