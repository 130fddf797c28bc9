-- The text of the codes, or p where there are none.
use Rattle.std.proofs.Common.{◌≡◌, sym, ap, ◌∙◌, arith, length}
use borrow.Author.Tests.{eqb-true, eqb-false}
use Rattle.text.proofs.TextLaws.{grown_as, row_none, row_some}
use Rattle.text.proofs.Text.row.Goals as goal

pub bytes-requires : goal.bytes-requires
bytes-requires c =
    let none = row_none c.args.row.now _ c.unfilled-codes.ensures (eqb-true _ 0 (sym c.is_empty.ensures ∙ c.if-is_empty.true)) in
    omega (arith, ap length none)

pub hex-requires : goal.hex-requires
hex-requires c =
    let codes : length c.unfilled-codes.result.now ≡ 0 → ⊥ = eqb-false _ 0 (sym c.is_empty.ensures ∙ c.if-is_empty.false) in
    omega (arith, ap length (row_some c.args.row.now _ c.unfilled-codes.ensures codes))

pub returns-then-is_empty : goal.returns-then-is_empty
returns-then-is_empty c =
    grown_as (sym (row_none c.args.row.now _ c.unfilled-codes.ensures (eqb-true _ 0 (sym c.is_empty.ensures ∙ c.if-is_empty.true)))) c.bytes.ensures

pub returns-else-is_empty : goal.returns-else-is_empty
returns-else-is_empty c =
    grown_as (sym (row_some c.args.row.now _ c.unfilled-codes.ensures (eqb-false _ 0 (sym c.is_empty.ensures ∙ c.if-is_empty.false)))) c.hex.ensures
