-- `apart`: own cells that differ decide; both values are walked to their ends.
use Rattle.arena.proofs.ValueParts.{some_inside}
use Rattle.arena.proofs.RowOrder.{values_apart}
use Rattle.arena.proofs.apart.Goals as goal

pub bounds-s-a : goal.bounds-s-a
bounds-s-a c = some_inside _ _ c.requires.0

pub bounds-s-b : goal.bounds-s-b
bounds-s-b c = some_inside _ _ c.requires.1

pub returns : goal.returns
returns c = values_apart _ _ _ _ c.requires.2 c.cmp.ensures c.end_of.ensures c.end_of-2.ensures
