-- The measure is the room before `end`.
use Prim.Native.Nat.{◌-◌}
use Rattle.sheets.proofs.+write_type.Given as goal

abbrev pub decreases-write_type : goal.decreases-write_type
decreases-write_type l = l.end - l.at
