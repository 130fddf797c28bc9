-- `known_function`: a relation whose pairs are seen to have different first parts.
use mathlib.Core.Bool.{not}
use mathlib.Core.Path.{ap}
use Rattle.operations.proofs.Common.{function_seen, some_relation, some_typed}
use Rattle.operations.proofs.known_function.Goals as goal

pub is_relation-requires : goal.is_relation-requires
is_relation-requires c = some_typed c.requires

pub flat_mapping-requires : goal.flat_mapping-requires
flat_mapping-requires c = some_relation c.is_relation.ensures (ap not c.if-is_relation.true) c.requires

pub returns-then-is_relation : goal.returns-then-is_relation
returns-then-is_relation c = function_seen c.is_relation.ensures (ap not c.if-is_relation.true) c.flat_mapping.ensures
