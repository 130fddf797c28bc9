-- `choice`: the first member of a set, where it has one.
use mathlib.Core.Bool.{not}
use mathlib.Core.Path.{ap}
use Rattle.operations.proofs.Common.{choice, some_typed, some_inside, one_unlike, choice_none, choice_some}
use Rattle.operations.proofs.single.choice.Goals as goal

pub is_set-requires : goal.is_set-requires
is_set-requires c = some_typed c.requires

pub returns-then-not-is_set : goal.returns-then-not-is_set
returns-then-not-is_set c = λ _. one_unlike choice c.is_set.ensures (ap not c.if-not-is_set.true)

pub bounds-s-a : goal.bounds-s-a
bounds-s-a c = some_inside c.requires

pub returns-then-low-eq0 : goal.returns-then-low-eq0
returns-then-low-eq0 c = λ _. choice_none c.is_set.ensures (ap not c.if-not-is_set.false) _ c.low.ensures.0 c.if-low-eq0.true

pub returns : goal.returns
returns c = λ _. choice_some c.is_set.ensures (ap not c.if-not-is_set.false) _ c.low.ensures.0 c.if-low-eq0.false
