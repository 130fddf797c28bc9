-- By the term of the class's word, and whether its parts have marks.
use borrow.Author.Rules.{rules}
use Rattle.deciding.proofs.Parts.{power_asks, product_asks, next_none, next_power, next_product}
use Rattle.deciding.proofs.next_part.Goals as goal

pub unmarked-requires : goal.unmarked-requires
unmarked-requires c = let p = power_asks c.requires c.in-Power.ensures in (p.0, p.1, c.requires.len)

pub unmarked-requires-in-Product : goal.unmarked-requires-in-Product
unmarked-requires-in-Product c = let p = product_asks c.requires c.in-Product.ensures in (p.0, p.1, c.requires.len)

pub or_else-requires : goal.or_else-requires
or_else-requires c = let p = product_asks c.requires c.in-Product.ensures in search rules

pub returns-in-Power : goal.returns-in-Power
returns-in-Power c = next_power c.requires c.in-Power.ensures c.unmarked.result c.unmarked.ensures

pub returns-in-Product : goal.returns-in-Product
returns-in-Product c = next_product c.requires c.in-Product.ensures c.unmarked-in-Product.result c.or_else.result c.unmarked-in-Product.ensures (search rules)

pub returns-in_default : goal.returns-in_default
returns-in_default c = next_none c.requires c.from.result c.from.ensures c.in_default.not-Power c.in_default.not-Product
