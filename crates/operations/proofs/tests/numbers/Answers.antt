-- `numbers`: by the kind's code.
use Rattle.operations.proofs.Common.{numbers_equal, numbers_at_most, numbers_unlike}
use Rattle.operations.proofs.tests.numbers.Goals as goal

pub returns-in-6 : goal.returns-in-6
returns-in-6 c = numbers_equal c.in-6.is

pub returns-in-9 : goal.returns-in-9
returns-in-9 c = numbers_at_most c.in-9.is

pub returns-in_default : goal.returns-in_default
returns-in_default c = numbers_unlike c.in_default.in_default-own.rest.0.1 c.in_default.in_default-own.rest.1
