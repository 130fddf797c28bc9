-- The counts with which the code compares are the lengths in `field_good`.
use Rattle.table.proofs.Fields.{good_given, good_identifier}
use Rattle.table.proofs.field_is_good.Goals as goal

pub returns-in-IdentifierUsed : goal.returns-in-IdentifierUsed
returns-in-IdentifierUsed c = let s = c.args in good_identifier s.table.now s.n s.here.word _ s.here.holds c.in-IdentifierUsed.is c.identifiers.ensures

pub returns-in-GivenSet : goal.returns-in-GivenSet
returns-in-GivenSet c = let s = c.args in good_given s.table.now s.n s.here.word _ s.here.holds c.in-GivenSet.is c.givens.ensures
