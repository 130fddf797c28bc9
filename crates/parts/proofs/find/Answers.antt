-- `find`: the members passed are less than the value, so what is left of them decides.
use Rattle.products.proofs.Base.{refl, arith}
use Rattle.arena.proofs.FrontLaws.{value_some}
use Rattle.parts.proofs.InsertLaws.{finding_end, finding_some, finding_on, finding_here, finding_next}
use Rattle.parts.proofs.find.Goals as goal

pub compare-requires : goal.compare-requires
compare-requires c = let g = c.requires in (value_some _ _ _ _ g.below, finding_some g (c.loop-i.invariant g) c.loop-i-test.true, g.ends)

pub returns-in-Less : goal.returns-in-Less
returns-in-Less c = λ g. finding_here g (c.loop-i.invariant g) c.loop-i-test.true _ c.in-Less.ensures refl

pub returns-in-Equal : goal.returns-in-Equal
returns-in-Equal c = λ g. finding_here g (c.loop-i.invariant g) c.loop-i-test.true _ c.in-Equal.ensures refl

pub end_of-i-requires : goal.end_of-i-requires
end_of-i-requires c = let g = c.requires in finding_some g (c.loop-i.invariant g) c.loop-i-test.true

pub loop-i-smaller : goal.loop-i-smaller
loop-i-smaller c =
    let g = c.requires in
    omega (arith, finding_on g (c.loop-i.invariant g) c.loop-i-test.true _ c.end_of-i.ensures)

pub loop-i-preserved : goal.loop-i-preserved
loop-i-preserved c = λ g. finding_next g (c.loop-i.invariant g) c.loop-i-test.true c.in-Greater.ensures _ c.end_of-i.ensures

pub returns : goal.returns
returns c = λ g. finding_end g (c.loop-i.invariant g) c.loop-i-test.false
