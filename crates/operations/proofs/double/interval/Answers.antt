-- `interval`: the integers from one to another.
use mathlib.Core.Bool.{not}
use mathlib.Core.Path.{ap}
use Rattle.operations.proofs.Common.{interval, ready_both, two_unlike, interval_done}
use Rattle.operations.proofs.double.interval.Goals as goal

pub numbers-requires : goal.numbers-requires
numbers-requires c = ready_both c.requires.operands

pub returns-then-not-numbers : goal.returns-then-not-numbers
returns-then-not-numbers c = two_unlike interval c.numbers.ensures (ap not c.if-not-numbers.true)

pub returns : goal.returns
returns c =
    interval_done c.numbers.ensures (ap not c.if-not-numbers.false) c.low-x.ensures.0 c.low-y.ensures.0 c.requires.operands
    c.interval.ensures c.built.ensures
