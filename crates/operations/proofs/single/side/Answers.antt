-- `side`: the parts of a set of pairs.
use mathlib.Core.Bool.{not}
use mathlib.Core.Path.{ap}
use Rattle.operations.proofs.Common.{ready_typed, ready_pairs, side_unlike, domain_done, range_done}
use Rattle.operations.proofs.single.side.Goals as goal

pub is_relation-requires : goal.is_relation-requires
is_relation-requires c = ready_typed c.requires

pub returns-then-not-is_relation : goal.returns-then-not-is_relation
returns-then-not-is_relation c = side_unlike c.args.right c.is_relation.ensures (ap not c.if-not-is_relation.true)

pub range-requires : goal.range-requires
range-requires c = ready_pairs c.requires c.is_relation.ensures (ap not c.if-not-is_relation.false)

pub returns-then-right : goal.returns-then-right
returns-then-right c = rw c.if-right.true (range_done c.requires c.is_relation.ensures (ap not c.if-not-is_relation.false) c.range.ensures)

pub domain-requires : goal.domain-requires
domain-requires c = ready_pairs c.requires c.is_relation.ensures (ap not c.if-not-is_relation.false)

pub returns : goal.returns
returns c = rw c.if-right.false (domain_done c.requires c.is_relation.ensures (ap not c.if-not-is_relation.false) c.domain.ensures)
