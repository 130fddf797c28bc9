-- `pair_at`: both parts copied, behind the cell of their pair.
use Rattle.products.proofs.GrowLaws.{pair_put}
use Rattle.products.proofs.pair_at.Goals as goal

pub returns : goal.returns
returns c = pair_put c.requires c.copy_forward.ensures c.copy_forward-2.ensures
