-- The cycle of the test whether two values share a type. Measures: four times the cells from the first value or its members to the end of the
-- arena, and a number for each function. The parts and the members of a value stand behind its cell. In `against` and `each` the values that are
-- left decide.
use Prim.Native.Nat.{◌+◌, ◌*◌, ◌-◌, ◌≤◌}
use lib.ListN.{length}
use Rattle.rules.specs.Fits.{types_of, shared_types}
use Rattle.fitting.specs.Agree.{SomeTyped, SomeRun, RunAndRun}
use Rattle.fitting.proofs.Cells.{Rest}
use Rattle.fitting.proofs.+against_agree_each_meet.Given as goal

abbrev pub decreases-meet : goal.decreases-meet
decreases-meet l = 4 * (length l.s.now - l.a)

abbrev pub decreases-agree : goal.decreases-agree
decreases-agree l = 4 * (length l.s.now - l.a) + 1

abbrev pub decreases-against : goal.decreases-against
decreases-against l = 4 * (length l.s.now - l.a) + 2

abbrev pub decreases-each : goal.decreases-each
decreases-each l = 4 * (length l.s.now - l.a) + 3

abbrev pub invariant-against-loop-left : goal.invariant-against-loop-left
invariant-against-loop-left l = (v : SomeTyped l.s l.a) (ws : SomeRun l.s l.b l.m) → Rest l.s l.j l.left (types_of v.0) ws.0

abbrev pub invariant-each-loop : goal.invariant-each-loop
invariant-each-loop l =
    (l.a ≤ l.i) × ((p : RunAndRun l.s l.a l.n l.b l.m) → Rest l.s l.i (l.n - l.counter) (shared_types p.second.0) p.first.0)
