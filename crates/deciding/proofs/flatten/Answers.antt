-- The links of the variables below v go to classes.
use native.Mathlib.Omega.{arith}
use Rattle.deciding.proofs.FlatLaws.{flat_turn, flat_asks}
use Rattle.deciding.proofs.flatten.Goals as goal

pub shortened-requires : goal.shortened-requires
shortened-requires c = flat_asks c.loop-v.invariant (omega arith)

pub loop-v-preserved : goal.loop-v-preserved
loop-v-preserved c = flat_turn c.loop-v.invariant (omega arith) c.shortened.result c.shortened.ensures
