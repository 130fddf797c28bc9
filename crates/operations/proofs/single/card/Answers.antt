-- `card`: the number of members stands in the first cell of a set.
use mathlib.Core.Bool.{not}
use mathlib.Core.Path.{ap}
use Rattle.operations.proofs.Common.{card, some_typed, some_inside, one_unlike, card_done}
use Rattle.operations.proofs.single.card.Goals as goal

pub is_set-requires : goal.is_set-requires
is_set-requires c = some_typed c.requires

pub returns-then-not-is_set : goal.returns-then-not-is_set
returns-then-not-is_set c = λ _. one_unlike card c.is_set.ensures (ap not c.if-not-is_set.true)

pub bounds-s-a : goal.bounds-s-a
bounds-s-a c = some_inside c.requires

pub returns : goal.returns
returns c = λ _. card_done c.is_set.ensures (ap not c.if-not-is_set.false) _ c.low-n.ensures.0
