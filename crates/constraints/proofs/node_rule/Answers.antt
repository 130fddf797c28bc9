-- What is read of the node is what its plan speaks of.
use Rattle.constraints.proofs.BuildLaws.{rule_room, rule_node}
use Rattle.constraints.proofs.node_rule.Goals as goal

pub rule-requires : goal.rule-requires
rule-requires c = rule_room c.requires c.variable.ensures c.operand.ensures.0 c.operand-2.ensures.0 c.name_of.ensures.0

pub returns : goal.returns
returns c =
    rule_node c.requires c.kind-kind.ensures c.variable.ensures c.field-a.ensures c.operand.ensures
    c.field-b.ensures c.operand-2.ensures c.name_of.ensures.1 c.rule.ensures
