-- The code of the outermost constructor, then the codes of its parts. The measure is the room before `end`.
use mathlib.Core.Path.{◌≡◌, ◌∙◌}
use native.Mathlib.Omega.{arith}
use lib.ListN.{length, length-set}
use Rattle.sheets.proofs.Codes.{leaf_term, left_below, right_below, write_leaf, write_power, write_product, put_same}
use Rattle.sheets.proofs.+write_type.Goals as goal

pub write_type-requires : goal.write_type-requires
write_type-requires t c =
    let s = c.args in
    let k = c.class in
    let is = c.in-Power.ensures in (
      omega (arith, c.decreases, c.if-at-end.false),
      (
        c.requires.0,
        rw is.1 (left_below s.terms.now s.v k.result c.requires.1 k.ensures.0 k.ensures.1 c.requires.0 (omega (arith, is.0), omega (arith, is.0))),
        rw length-set c.requires.2,
      ),
    )

pub write_type-next-requires : goal.write_type-next-requires
write_type-next-requires t c =
    let s = c.args in
    let k = c.class in
    let is = c.in-Product.ensures in (
      omega (arith, c.decreases, c.if-at-end.false),
      (
        c.requires.0,
        rw is.1 (left_below s.terms.now s.v k.result c.requires.1 k.ensures.0 k.ensures.1 c.requires.0 (omega (arith, is.0), omega (arith, is.0))),
        rw length-set c.requires.2,
      ),
    )

pub write_type-requires-in-Product : goal.write_type-requires-in-Product
write_type-requires-in-Product t c =
    let s = c.args in
    let k = c.class in
    let is = c.in-Product.ensures in
    let kept : length c.write_type-next.new.sheet ≡ length s.sheet.now =
    c.write_type-next.auto.sheet ∙ length-set s.sheet.now s.at c.code.result in (
      omega (arith, c.decreases, c.if-at-end.false, c.write_type-next.ensures.onward),
      (
        c.requires.0,
        rw is.2 (right_below s.terms.now s.v k.result c.requires.1 k.ensures.0 k.ensures.1 c.requires.0 is.0),
        omega (arith, c.requires.2, kept),
      ),
    )

pub returns-in-Power : goal.returns-in-Power
returns-in-Power t c =
    let s = c.args in
    let k = c.class in
    let is = c.in-Power.ensures in
    write_power s.terms.now s.v k.result c.requires.1 k.ensures.0 k.ensures.1 s.sheet.now s.at s.end c.code.result c.code.ensures
    _ _ is.0 (put_same is.1 c.write_type.ensures)

pub returns-in-Product : goal.returns-in-Product
returns-in-Product t c =
    let s = c.args in
    let k = c.class in
    let is = c.in-Product.ensures in
    write_product s.terms.now s.v k.result c.requires.1 k.ensures.0 k.ensures.1 s.sheet.now s.at s.end c.code.result c.code.ensures
    _ _ _ _ is.0 (put_same is.1 c.write_type-next.ensures) (put_same is.2 c.write_type-in-Product.ensures)

pub returns-in_default : goal.returns-in_default
returns-in_default t c =
    let s = c.args in
    let k = c.class in
    write_leaf s.terms.now s.v k.result c.requires.1 k.ensures.0 k.ensures.1 s.sheet.now s.at s.end c.code.result c.code.ensures
    c.requires.0 (leaf_term _ c.from.result c.from.ensures c.in_default.not-Power c.in_default.not-Product)
