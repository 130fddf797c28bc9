-- `room`: by whether any node builds a value.
use native.Mathlib.Omega.{arith}
use Rattle.evaluate.proofs.EntryLaws.{root_high, room_for}
use Rattle.evaluate.proofs.room.Goals as goal

pub overflow_sub-result : goal.overflow_sub-result
overflow_sub-result c = root_high c.requires.0 c.requires.1 (c.builds.ensures.some c.if-builds.true)

pub overflow_mul-result : goal.overflow_mul-result
overflow_mul-result c = omega (arith, (room_for c.requires.0 c.requires.1).most)

pub overflow_add-result : goal.overflow_add-result
overflow_add-result c = omega (arith, (room_for c.requires.0 c.requires.1).most)

pub returns-then-builds : goal.returns-then-builds
returns-then-builds c = room_for c.requires.0 c.requires.1
