-- The bisection: the nodes below lo have a typing, those below hi have none.
use native.Mathlib.Omega.{arith}
use Rattle.checker.proofs.SolvingLaws.{clash_start, clash_end}
use Rattle.checker.proofs.solving.first_clash.Goals as goal

pub loop-hi-init : goal.loop-hi-init
loop-hi-init c = (clash_start c.requires.untypable, c.requires.work_room)

pub returns-clause-first : goal.returns-clause-first
returns-clause-first c = clash_end c.loop-hi.invariant.0 (omega (arith, c.loop-hi-test.false))
