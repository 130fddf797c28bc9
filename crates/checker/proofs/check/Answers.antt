-- `check`: what reading refuses, or what `check_readable` answers.
use mathlib.Core.Path.{refl, sym}
use Rattle.std.proofs.lemmas.Result.{err_from_is_err_and}
use Rattle.reading.proofs.Promise.{read_readable}
use Rattle.checker.proofs.Telling.{unread_final}
use Rattle.checker.proofs.check.Goals as goal

pub returns-in_err-read : goal.returns-in_err-read
returns-in_err-read c =
    let p = err_from_is_err_and c.from_residual.result c.from_residual.ensures.1 in
    rw (p.1, p.2) (unread_final _ _ _ (sym c.in_err-read.ensures))

pub check_readable-requires : goal.check_readable-requires
check_readable-requires c = read_readable _ _ c.in_ok-read.ensures refl
