-- The cycle of the test of a value against a type. Measures: twice the cells from the value or its members to the end of the arena, and one more
-- for the members. The parts and the members of a value stand behind its cell. In `all_of_type` the values that are left decide.
use Prim.Native.Nat.{◌+◌, ◌*◌, ◌-◌, ◌≤◌}
use lib.ListN.{length}
use Rattle.fitting.specs.Types.{ValuesAndType}
use Rattle.fitting.proofs.Types.{SomeLeft}
use Rattle.fitting.proofs.+all_of_type_has_type.Given as goal

abbrev pub decreases-has_type : goal.decreases-has_type
decreases-has_type l = 2 * (length l.s.now - l.at)

abbrev pub decreases-all_of_type : goal.decreases-all_of_type
decreases-all_of_type l = 2 * (length l.s.now - l.at) + 1

abbrev pub invariant-all_of_type-loop : goal.invariant-all_of_type-loop
invariant-all_of_type-loop l =
    (l.at ≤ l.i) × ((p : ValuesAndType l.s l.at l.n l.row l.from) → SomeLeft l.s l.i (l.n - l.counter) p.type.0 p.values)
