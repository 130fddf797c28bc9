-- The closure tells where the mark is not below the limit.
use borrow.Author.Tests.{tests}
use Rattle.std.proofs.Common.{rules}
use Rattle.rules.specs.Tables.{table_of}
use Rattle.sheets.specs.Rows.{MarkBelow}
use Rattle.sheets.proofs.Scan.{finds_first}
use Rattle.sheets.proofs.Places.first_above.Goals as goal

pub returns : goal.returns
returns c =
    let s = c.args.self.now in
    finds_first (table_of s.table.now) (MarkBelow (table_of s.table.now) s.terms.now s.marks.now c.args.limit) _ _ _ c.count.ensures c.find.ensures.ran
    (λ x q k. search (rules, tests)) (λ x q k. search (rules, tests))
