-- `product`: sets, multiplied.
use mathlib.Core.Bool.{not}
use mathlib.Core.Path.{ap}
use Rattle.operations.proofs.Common.{product, û, ready_both, ready_sets, two_unlike, product_done}
use Rattle.operations.proofs.double.product.Goals as goal

pub sets-requires : goal.sets-requires
sets-requires c = ready_both c.requires.operands

pub returns-then-not-sets : goal.returns-then-not-sets
returns-then-not-sets c = two_unlike product c.sets.ensures (ap not c.if-not-sets.true)

pub product-requires : goal.product-requires
product-requires c = ready_sets c.requires û c.sets.ensures (ap not c.if-not-sets.false)

pub returns : goal.returns
returns c = product_done c.requires.operands c.sets.ensures (ap not c.if-not-sets.false) c.product.ensures c.built.ensures
