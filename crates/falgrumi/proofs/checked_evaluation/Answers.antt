-- `checked_evaluation`: what reading refuses, Check's answer, or the evaluation of a table that it accepts.
use Rattle.std.proofs.lemmas.Result.{err_from_is_err_and}
use mathlib.Core.Path.{refl}
use Rattle.reading.proofs.Promise.{measured_readable, unmeasured_refused}
use Rattle.checker.proofs.Telling.{unread_final}
use Rattle.falgrumi.proofs.CheckedLaws.{checked_refused, checked_accepted}
use Rattle.falgrumi.proofs.checked_evaluation.Goals as goal

pub returns-in_err-height : goal.returns-in_err-height
returns-in_err-height c =
    let p = err_from_is_err_and c.from_residual.result c.from_residual.ensures.1 in
    let a = c.args in
    let v = unread_final a.table.now a.sheet.now _ (unmeasured_refused a.table.now c.in_err-height.ensures) in
    rw (p.1, p.2) (checked_refused _ a.sheet.now a.values.now a.budget v.0 _ refl, v.1)

pub check_readable-requires : goal.check_readable-requires
check_readable-requires c = (measured_readable _ c.in_ok-height.ensures).0

pub returns-in_err-check_readable : goal.returns-in_err-check_readable
returns-in_err-check_readable c =
    let p = err_from_is_err_and c.from_residual-in_err-check_readable.result c.from_residual-in_err-check_readable.ensures.1 in
    let v = c.in_err-check_readable.ensures in
    rw (p.1, p.2) (checked_refused _ c.args.sheet.now c.args.values.now c.args.budget v.0 _ refl, v.1)

pub evaluate_sized-run-requires : goal.evaluate_sized-run-requires
evaluate_sized-run-requires c = measured_readable _ c.in_ok-height.ensures

pub returns : goal.returns
returns c =
    let v = c.in_ok-check_readable.ensures in
    let j = c.evaluate_sized-run.ensures in (
      checked_accepted _ c.args.sheet.now c.args.values.now c.args.budget v.0 v.1 _ _ _
          refl j.reported.ending j.reported.spent j.conforms,
      v.1,
    )
