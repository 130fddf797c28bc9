-- `range_of`: the number of members stands in the first cell of a set.
use Rattle.visits.proofs.Terms.{good_typed_at, good_inside}
use Rattle.visits.proofs.RangeLaws.{range_not, range_set}
use Rattle.visits.proofs.range_of.Goals as goal

pub is_set-requires : goal.is_set-requires
is_set-requires c = let p = c.requires in (p.value, good_typed_at p.small p.stands)

pub returns-then-not-is_set : goal.returns-then-not-is_set
returns-then-not-is_set c = range_not c.is_set.ensures c.if-not-is_set.true

pub bounds-s-at : goal.bounds-s-at
bounds-s-at c = let p = c.requires in good_inside p.small p.stands

pub returns : goal.returns
returns c = range_set c.is_set.ensures c.if-not-is_set.false _ c.low.ensures.0
