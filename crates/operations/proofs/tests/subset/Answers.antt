-- `subset`: 8. In the last need, e is where the operands fit.
use mathlib.Core.Bool.{not}
use mathlib.Core.Path.{ap}
use Rattle.operations.proofs.Common.{subset, ready_both, test_unlike, subset_ready, subset_told}
use Rattle.operations.proofs.tests.subset.Goals as goal

pub alike_sets-requires : goal.alike_sets-requires
alike_sets-requires c = ready_both c.requires.1

pub returns-then-not-alike_sets : goal.returns-then-not-alike_sets
returns-then-not-alike_sets c = test_unlike subset c.alike_sets.ensures (ap not c.if-not-alike_sets.true)

pub included-requires : goal.included-requires
included-requires c = subset_ready c.alike_sets.ensures (ap not c.if-not-alike_sets.false) c.requires.1

pub returns : goal.returns
returns c = subset_told c.alike_sets.ensures (ap not c.if-not-alike_sets.false) _ c.included.ensures
