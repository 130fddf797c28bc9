-- `copy_value`: the cells read so far stand in the arena, and a value is read where the values that are left are (`Walk`).
use Prim.Native.Nat.{◌-◌, ◌≤◌, ◌<◌}
use Rattle.rules.specs.Tables.{table_of}
use Rattle.buffer.proofs.Walk.{Walk}
use Rattle.buffer.proofs.copy_value.Given as goal

abbrev pub invariant-loop-left : goal.invariant-loop-left
invariant-loop-left l = (l.n ≤ 256) × (l.left < 8589934592) × Walk (table_of l.table).sizes l.values l.initial.c.at l.c.at l.left l.n l.initial.s l.s l.top

abbrev pub decreases-loop-left : goal.decreases-loop-left
decreases-loop-left l = 256 - l.n
