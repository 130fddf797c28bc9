-- `falgrumi_checked_evaluate`: the number of the answer of `checked_evaluation` goes into a byte.
use Rattle.std.proofs.Common.{rules, ◌<◌}
use Rattle.falgrumi.proofs.CheckedLaws.{reported_byte}
use Rattle.falgrumi.proofs.Numbers.{report_byte}
use Rattle.falgrumi.proofs.falgrumi_checked_evaluate.Goals as goal

pub tell-requires : goal.tell-requires
tell-requires c =
    let low : c.in-Err.r.number < 256 = report_byte _ _ c.checked_evaluation.ensures.0 c.in-Err.is (reported_byte _ _ _ _) in
    search rules

pub tell-requires-in-Ok : goal.tell-requires-in-Ok
tell-requires-in-Ok c = report_byte _ _ c.checked_evaluation.ensures.0 c.in-Ok.is (reported_byte _ _ _ _)
