-- By the term of the class's word: the law of its mark.
use native.Mathlib.Omega.{arith}
use mathlib.Core.Path.{◌∙◌}
use Rattle.deciding.proofs.Parts.{power_asks, product_asks, mark_open, mark_atom, small_power, mark_power, small_product, mark_product}
use Rattle.deciding.proofs.mark_of.Goals as goal

pub returns-in-Open : goal.returns-in-Open
returns-in-Open c = mark_open c.requires.0 c.from.result c.from.ensures c.in-Open.is

pub returns-in-Atom : goal.returns-in-Atom
returns-in-Atom c = mark_atom c.requires.0 c.in-Atom.ensures

pub class-requires : goal.class-requires
class-requires c = power_asks c.requires.0 c.in-Power.ensures

pub mark_over-requires : goal.mark_over-requires
mark_over-requires c = (small_power c.requires.0 c.class.ensures.0 c.in-Power.ensures c.requires.1, omega arith)

pub returns-in-Power : goal.returns-in-Power
returns-in-Power c = c.mark_over.ensures ∙ mark_power c.requires.0 c.class.ensures.0 c.in-Power.ensures

pub class-requires-in-Product : goal.class-requires-in-Product
class-requires-in-Product c = let p = product_asks c.requires.0 c.in-Product.ensures in (p.0, p.1)

pub class-requires-in-Product-2 : goal.class-requires-in-Product-2
class-requires-in-Product-2 c = let p = product_asks c.requires.0 c.in-Product.ensures in (p.0, p.2)

pub mark_over-requires-in-Product : goal.mark_over-requires-in-Product
mark_over-requires-in-Product c =
    let s = small_product c.requires.0 c.class-in-Product.ensures.0 c.class-in-Product-2.ensures.0 c.in-Product.ensures c.requires.1 in
    (omega (arith, s.0), omega (arith, s.0, s.1))

pub returns-in-Product : goal.returns-in-Product
returns-in-Product c =
    c.mark_over-in-Product.ensures ∙ mark_product c.requires.0 c.class-in-Product.ensures.0 c.class-in-Product-2.ensures.0 c.in-Product.ensures
