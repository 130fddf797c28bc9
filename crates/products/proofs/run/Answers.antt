-- `run`: cells that follow one another, behind the cell of their set.
use Rattle.products.proofs.GrowLaws.{running_start, running_next, running_end}
use Rattle.products.proofs.run.Goals as goal

pub loop-i-init : goal.loop-i-init
loop-i-init c = running_start c.requires

pub loop-i-preserved : goal.loop-i-preserved
loop-i-preserved c = running_next c.loop-i.invariant c.loop-i-test.true

pub returns : goal.returns
returns c = λ vs e q. running_end c.loop-i.invariant c.loop-i-test.false vs e q
