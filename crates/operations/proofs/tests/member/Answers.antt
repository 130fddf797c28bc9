-- `member`: 7. In the last need, e is where the operands fit.
use mathlib.Core.Bool.{not}
use mathlib.Core.Path.{ap}
use Rattle.operations.proofs.Common.{member, ready_both, test_unlike, member_ready, member_told}
use Rattle.operations.proofs.tests.member.Goals as goal

pub belongs-requires : goal.belongs-requires
belongs-requires c = ready_both c.requires.1

pub returns-then-not-belongs : goal.returns-then-not-belongs
returns-then-not-belongs c = test_unlike member c.belongs.ensures (ap not c.if-not-belongs.true)

pub contains-requires : goal.contains-requires
contains-requires c = member_ready c.belongs.ensures (ap not c.if-not-belongs.false) c.requires.1

pub returns : goal.returns
returns c = member_told c.belongs.ensures (ap not c.if-not-belongs.false) _ c.contains.ensures
