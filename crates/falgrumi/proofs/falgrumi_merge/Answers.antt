-- `falgrumi_merge`: the number of a merge's refusal goes into a byte.
use Rattle.std.proofs.Common.{◌<◌}
use mathlib.Core.Path.{refl}
use native.Mathlib.Omega.{arith}
use Rattle.rules.specs.Merges.{union_in}
use Rattle.falgrumi.proofs.EndNumbers.{union_byte}
use Rattle.falgrumi.proofs.MergeLaws.{merge_byte}
use Rattle.falgrumi.proofs.falgrumi_merge.Goals as goal

pub overflow_cast-result : goal.overflow_cast-result
overflow_cast-result c =
    let told = rw c.in-Refused.is at c.in-Err.ensures.0 in
    let low : c.in-Refused.refusal.number < 256 = merge_byte (union_in c.args.table.now c.args.values.now) told refl (union_byte _ _) in
    omega (arith, low)
