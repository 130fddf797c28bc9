-- The children are counted first; then the closure fails the test of refusal 7.
use mathlib.Core.Path.{refl}
use borrow.Author.Tests.{tests}
use Rattle.std.proofs.Common.{rules}
use Rattle.rules.specs.Tables.{table_of}
use Rattle.rules.specs.Reading.{parent_good}
use Rattle.table.proofs.Least.{finds_least}
use Rattle.trees.proofs.Counting.{counted_none}
use Rattle.trees.proofs.first_bad_parent.Goals as goal

pub count_nodes-requires : goal.count_nodes-requires
count_nodes-requires c = (c.requires, refl, counted_none c.args.table.now 512)

pub returns : goal.returns
returns c =
    finds_least (parent_good (table_of c.args.table.now)) _ _ _ _ c.nodes.ensures c.find.ensures.ran
    (λ x q k. search (rules, tests)) (λ x q k. search (rules, tests))
