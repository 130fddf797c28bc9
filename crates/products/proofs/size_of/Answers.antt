-- `size_of`: the payload of the set's cell, and what lies between that cell and the set's end.
use Rattle.arena.proofs.FrontLaws.{set_inside}
use Rattle.products.proofs.WalkLaws.{size_is}
use Rattle.products.proofs.size_of.Goals as goal

pub bounds-s-a : goal.bounds-s-a
bounds-s-a c = set_inside _ _ _ _ c.requires.1.1

pub returns : goal.returns
returns c = size_is c.requires c.end_of.ensures c.low.ensures.0
