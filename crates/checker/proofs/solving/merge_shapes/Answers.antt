-- The copy is the first shapes, so merging takes them and says what they say.
use Rattle.checker.proofs.SolvingLaws.{merge_asks, merge_gives}
use Rattle.checker.proofs.solving.merge_shapes.Goals as goal

pub merge_all-requires : goal.merge_all-requires
merge_all-requires c = merge_asks c.requires c.copy.ensures

pub returns : goal.returns
returns c = merge_gives c.requires c.copy.ensures c.merge_all.result _ c.merge_all.ensures
