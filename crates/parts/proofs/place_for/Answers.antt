-- `place_for`: the last member decides unless the value is less; then the walk does.
use Rattle.laws.proofs.SetOrder.{rising_rising}
use Rattle.arena.proofs.FrontLaws.{value_some}
use Rattle.parts.proofs.InsertLaws.{place_some, place_same, place_behind, place_find}
use Rattle.parts.proofs.place_for.Goals as goal

pub compare-requires : goal.compare-requires
compare-requires c = let g = c.requires in (value_some _ _ _ _ g.below, place_some g.below c.in-Some.is _ g.built, g.ends)

pub returns-in-Equal : goal.returns-in-Equal
returns-in-Equal c = λ g. place_same g.below c.in-Some.is _ g.built (rising_rising g.others) c.in-Equal.ensures

pub returns-in-Greater : goal.returns-in-Greater
returns-in-Greater c = λ g. place_behind g.below c.in-Some.is _ g.built (rising_rising g.others) c.in-Greater.ensures

pub returns : goal.returns
returns c = λ g. c.find.ensures (place_find g)
