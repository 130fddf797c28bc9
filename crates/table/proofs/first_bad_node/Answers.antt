-- The closure fails the test of the rules.
use borrow.Author.Tests.{tests}
use Rattle.std.proofs.Common.{rules}
use Rattle.rules.specs.Tables.{table_of}
use Rattle.rules.specs.Reading.{node_good}
use Rattle.table.proofs.Least.{finds_least}
use Rattle.table.proofs.first_bad_node.Goals as goal

pub returns : goal.returns
returns c =
    finds_least (node_good (table_of c.args.table.now)) _ _ _ _ c.nodes.ensures c.find.ensures.ran
    (λ x q k. search (rules, tests)) (λ x q k. search (rules, tests))
