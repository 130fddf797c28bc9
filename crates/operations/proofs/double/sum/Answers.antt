-- `sum`: on payloads, numbers in excess form.
use mathlib.Core.Bool.{not}
use mathlib.Core.Path.{ap}
use Rattle.operations.proofs.Common.{ready_both, ready_first, ready_second, sum_unlike, plus_done, minus_done}
use Rattle.operations.proofs.double.sum.Goals as goal

pub numbers-requires : goal.numbers-requires
numbers-requires c = ready_both c.requires.1

pub returns-then-not-numbers : goal.returns-then-not-numbers
returns-then-not-numbers c = λ _. sum_unlike c.args.minus c.numbers.ensures (ap not c.if-not-numbers.true)

pub bounds-s-a : goal.bounds-s-a
bounds-s-a c = ready_first c.requires.1

pub bounds-s-b : goal.bounds-s-b
bounds-s-b c = ready_second (c.requires.1)

pub returns-then-minus : goal.returns-then-minus
returns-then-minus c =
    λ _.
    rw c.if-minus.true (minus_done c.numbers.ensures (ap not c.if-not-numbers.false) c.low-x.ensures.0 c.low-y.ensures.0 c.number.ensures)

pub returns : goal.returns
returns c = λ _. rw c.if-minus.false (plus_done c.numbers.ensures (ap not c.if-not-numbers.false) c.low-x.ensures.0 c.low-y.ensures.0 c.number-2.ensures)
