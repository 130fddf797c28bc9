-- `equal`: 6.
use mathlib.Core.Bool.{not}
use mathlib.Core.Path.{ap}
use Rattle.operations.proofs.Common.{equal, good_fine, good_value, good_whole, good_some, ready_both, test_unlike, equal_told}
use Rattle.operations.proofs.tests.equal.Goals as goal

pub alike-requires : goal.alike-requires
alike-requires c = ready_both c.requires.1

pub returns-then-not-alike : goal.returns-then-not-alike
returns-then-not-alike c = test_unlike equal c.alike.ensures (ap not c.if-not-alike.true)

pub value_end-end-requires : goal.value_end-end-requires
value_end-end-requires c =
    let p = c.requires.1 in
    (p.first, good_value p.small (good_whole p.small p.left), good_fine p.small p.first p.left.good)

pub same-requires : goal.same-requires
same-requires c = let p = c.requires.1 in (good_some p.small p.left, good_some p.small p.right, c.value_end-end.ensures)

pub returns : goal.returns
returns c = equal_told _ c.alike.ensures (ap not c.if-not-alike.false) c.same.ensures
