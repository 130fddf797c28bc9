-- `power`: the subsets of a set.
use mathlib.Core.Bool.{not}
use mathlib.Core.Path.{ap}
use Rattle.operations.proofs.Common.{power, ready_typed, ready_set, one_unlike, power_done}
use Rattle.operations.proofs.single.power.Goals as goal

pub is_set-requires : goal.is_set-requires
is_set-requires c = ready_typed c.requires

pub returns-then-not-is_set : goal.returns-then-not-is_set
returns-then-not-is_set c = one_unlike power c.is_set.ensures (ap not c.if-not-is_set.true)

pub power-requires : goal.power-requires
power-requires c = ready_set c.requires c.is_set.ensures (ap not c.if-not-is_set.false)

pub returns : goal.returns
returns c = power_done c.requires c.is_set.ensures (ap not c.if-not-is_set.false) c.power.ensures c.built.ensures
