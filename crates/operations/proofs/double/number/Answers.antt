-- `number`: an integer of 32 bits, or 17.
use Rattle.operations.proofs.Common.{arith, number_near}
use Rattle.operations.proofs.double.number.Goals as goal

pub returns-in-Some : goal.returns-in-Some
returns-in-Some c =
    let n = c.in-Some.ensures in
    rw n.1 (number_near _ n.0 (omega (arith, n.1, c.if-n-lt-CELL.true)))
