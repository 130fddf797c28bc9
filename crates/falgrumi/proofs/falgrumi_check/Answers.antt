-- `falgrumi_check`: the number that Check refuses with goes into a byte.
use Rattle.std.proofs.Common.{◌<◌, length}
use mathlib.Core.Path.{sym, ap, ◌∙◌}
use native.Mathlib.Omega.{arith}
use Rattle.typing.specs.Model.{verdict}
use Rattle.checker.specs.Answers.{answer_of}
use Rattle.reports.proofs.ToldLaws.{told_byte}
use Rattle.falgrumi.proofs.EndNumbers.{verdict_byte}
use Rattle.falgrumi.proofs.Numbers.{answered_told}
use Rattle.falgrumi.proofs.falgrumi_check.Goals as goal

pub overflow_cast-result : goal.overflow_cast-result
overflow_cast-result c =
    let v = verdict c.args.table.now (length c.args.sheet.now) in
    let low : c.in-Err.r.number < 256 =
    told_byte v (answered_told v _ (sym (ap answer_of c.in-Err.is) ∙ c.check-checked.ensures.0)) (verdict_byte _ _) in
    omega (arith, low)
