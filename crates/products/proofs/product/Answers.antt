-- `product`: all pairs, unless their set is too heavy.
use Rattle.products.proofs.Base.{arith}
use Rattle.products.proofs.GrowLaws.{made_heavy}
use Rattle.products.proofs.WalkLaws.{product_weighs, product_pre, product_made}
use Rattle.products.proofs.product.Goals as goal

pub returns-then-product_weight-gt-HEAVIEST : goal.returns-then-product_weight-gt-HEAVIEST
returns-then-product_weight-gt-HEAVIEST c =
    λ vs ws h k. let weight = product_weighs c.size_of-x.ensures c.size_of-y.ensures h k in
    made_heavy (omega (arith, weight, c.product_weight.ensures, c.if-product_weight-gt-HEAVIEST.true))

pub rows-end-requires : goal.rows-end-requires
rows-end-requires c =
    let q = c.requires in
    product_pre c.size_of-x.ensures c.size_of-y.ensures q.0.1 q.1.1 q.2 (omega (arith, c.product_weight.ensures, c.if-product_weight-gt-HEAVIEST.false))

pub returns : goal.returns
returns c =
    λ vs ws h k. product_made c.size_of-x.ensures c.size_of-y.ensures h k c.requires.2
    (omega (arith, c.product_weight.ensures, c.if-product_weight-gt-HEAVIEST.false)) _ _ c.rows-end.ensures
