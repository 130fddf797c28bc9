-- `marks`: each turn writes where the next member begins.
use Rattle.products.proofs.Base.{arith}
use Rattle.arena.proofs.FrontLaws.{front_some}
use Rattle.powers.proofs.SubsetLaws.{marking_end, marking_next}
use Rattle.powers.proofs.marks.Goals as goal

pub end_of-requires : goal.end_of-requires
end_of-requires c = front_some _ _ _ _ _ (c.loop-j.invariant c.requires).1.front (omega (arith, c.loop-j-test.true))

pub loop-j-preserved : goal.loop-j-preserved
loop-j-preserved c = λ g. marking_next g (c.loop-j.invariant g) c.loop-j-test.true _ c.end_of.ensures

pub returns : goal.returns
returns c = λ g. marking_end g (c.loop-j.invariant g) c.loop-j-test.false
