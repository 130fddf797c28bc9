-- The closure says whether a node's kind builds.
use borrow.Author.Tests.{tests}
use Rattle.std.proofs.Common.{rules}
use Rattle.rules.specs.Tables.{table_of, kind_at}
use Rattle.constants.specs.Built.{built}
use Rattle.constants.proofs.BuiltLaws.{any_below, decides}
use Rattle.constants.proofs.builds.Goals as goal

pub returns : goal.returns
returns c =
    decides c.args.table.now _ c.nodes.ensures
    (any_below (λ n. built (kind_at (table_of c.args.table.now).nodes n)) _ _ _ _ c.any.ensures.ran
    (λ x q k. search (rules, tests)) (λ x q k. search (rules, tests)))
