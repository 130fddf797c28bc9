-- `rest_end`: n members of one cell each end n cells further; others are walked, one by one.
use Rattle.sets.proofs.Base.{arith}
use Rattle.arena.proofs.FrontLaws.{front_some}
use Rattle.sets.proofs.RowLaws.{cells_end}
use Rattle.merging.proofs.RunLaws.{running_next, running_end}
use Rattle.merging.proofs.rest_end.Goals as goal

pub returns-then-cells : goal.returns-then-cells
returns-then-cells c = cells_end (c.requires.1 c.if-cells.true)

pub end_of-end-requires : goal.end_of-end-requires
end_of-end-requires c = front_some _ _ _ _ _ (c.loop.invariant _ _ c.requires.0.2).front (omega (arith, c.loop-test.true))

pub loop-preserved : goal.loop-preserved
loop-preserved c = λ top vs h. running_next (c.loop.invariant top vs h) (omega (arith, c.loop-test.true)) c.end_of-end.ensures

pub returns : goal.returns
returns c = λ top vs h. running_end (c.loop.invariant top vs h) (omega (arith, c.loop-test.false))
