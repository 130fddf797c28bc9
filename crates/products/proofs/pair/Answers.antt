-- `pair`: the pair of two values, unless it is too heavy.
use Rattle.products.proofs.GrowLaws.{pair_made}
use Rattle.products.proofs.pair.Goals as goal

pub returns : goal.returns
returns c = λ v w h k. pair_made _ _ c.end_of.ensures c.end_of-2.ensures h k c.if-n-m-gt-BEHIND_FIRST.false c.pair_at.ensures
