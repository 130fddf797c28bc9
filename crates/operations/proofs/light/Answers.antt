-- `light`: each of the three codes has its kind.
use Rattle.operations.proofs.Common.{arith, whole, apply, plus, minus, two_of}
use Rattle.operations.proofs.light.Goals as goal

pub returns-in-37 : goal.returns-in-37
returns-in-37 c = λ top. two_of apply c.in-37.is (c.apply.ensures top)

pub returns-in-39 : goal.returns-in-39
returns-in-39 c = λ top. two_of (plus whole) c.in-39.is (c.sum.ensures top)

pub returns-in_default : goal.returns-in_default
returns-in_default c =
    λ top. let q = c.requires.2 in
    let other = c.in_default.in_default-own.rest in
    two_of (minus whole) (omega (arith, q.low, q.high, q.other, other.0, other.1)) (c.sum-in_default.ensures top)
