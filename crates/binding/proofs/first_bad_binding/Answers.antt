-- The closure fails the test of refusal 9.
use borrow.Author.Tests.{tests}
use Rattle.std.proofs.Common.{rules}
use Rattle.rules.specs.Tables.{table_of}
use Rattle.rules.specs.Reading.{binding}
use Rattle.table.proofs.Least.{finds_least}
use Rattle.binding.proofs.first_bad_binding.Goals as goal

pub returns : goal.returns
returns c =
    finds_least (binding (table_of c.args.table.now)) _ _ _ _ c.identifiers.ensures c.find.ensures.ran
    (λ x q k. search (rules, tests)) (λ x q k. search (rules, tests))
