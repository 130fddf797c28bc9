-- The codes in front of the first 0, or the whole row.
use Rattle.std.proofs.Common.{eqb, ap, ◌∙◌, take, length, unwrap_or}
use Rattle.text.proofs.TextLaws.{unfilled_front, position_else}
use Rattle.text.proofs.unfilled.Goals as goal

pub returns : goal.returns
returns c =
    let row = c.args.row.now in
    ap (λ k. take k row) (c.unwrap_or.ensures ∙ ap (λ o. unwrap_or o (length row)) c.fill.ensures ∙ position_else (λ x. eqb x 0) row) ∙ unfilled_front row
