-- `test`: two numbers by their cells, any other operands by the codes of kinds 6 to 9.
use Rattle.operations.proofs.Common.{not, ap, whole, equal, member, subset, at_most, ready_first, ready_second, ready_both, test_unlike, test_numbers, test_of, test_last}
use Rattle.operations.proofs.test.Goals as goal

pub numbers-requires : goal.numbers-requires
numbers-requires c = ready_both c.requires.1

pub bounds-s-a : goal.bounds-s-a
bounds-s-a c = ready_first c.requires.1

pub bounds-s-b : goal.bounds-s-b
bounds-s-b c = ready_second c.requires.1

pub returns-then-numbers : goal.returns-then-numbers
returns-then-numbers c = test_numbers _ c.numbers.ensures (ap not c.if-numbers.true) c.numbers-then-numbers.ensures

pub returns-in-6 : goal.returns-in-6
returns-in-6 c = test_of equal c.in-6.is c.equal.ensures

pub returns-in-7 : goal.returns-in-7
returns-in-7 c = test_of member c.in-7.is c.member.ensures

pub returns-in-8 : goal.returns-in-8
returns-in-8 c = test_of subset c.in-8.is c.subset.ensures

pub returns-in_default : goal.returns-in_default
returns-in_default c =
    let n = c.in_default.in_default-own.rest in
    test_last n.0.0.1 n.0.1 n.1 (test_unlike (at_most whole) c.numbers.ensures (ap not c.if-numbers.false))
