-- `interval`: the cells of integers in excess form follow one another.
use Rattle.products.proofs.Base.{arith}
use Rattle.products.proofs.ScalarLaws.{interval_made, interval_heavy}
use Rattle.products.proofs.interval.Goals as goal

pub returns-then-n-gt-BEHIND_FIRST : goal.returns-then-n-gt-BEHIND_FIRST
returns-then-n-gt-BEHIND_FIRST c = interval_heavy _ _ _ _ (omega (arith, c.saturating_sub-n.ensures, c.if-n-gt-BEHIND_FIRST.true))

pub returns : goal.returns
returns c = interval_made _ _ _ _ _ _ _ (omega (arith, c.saturating_sub-n.ensures)) c.run.ensures
