-- What an evaluation answers, with whether the values conform.
use Rattle.std.specs.Prelude.{ℕ, List, ◌≡◌}
use Rattle.rules.specs.Evaluation.{evaluation}
use Rattle.conforms.specs.Conforming.{conforming}
use Rattle.reports.specs.Result.{Reported}
use Rattle.evaluate.specs.declared.GuardedRun.{GuardedRun}

-- The report of an evaluation, and whether the values conform to the sheet.
pub record Judged (bs values sheet : List ℕ) (budget : ℕ) (r : GuardedRun) : Type 0 where
  pub reported : Reported (evaluation bs values budget) r.evaluation
  pub conforms : r.conforms ≡ conforming bs sheet values
