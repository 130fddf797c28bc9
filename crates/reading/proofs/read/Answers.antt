-- The answer of `read_height`, without the height.
use mathlib.Core.Path.{refl}
use Rattle.std.proofs.lemmas.Result.{err_from_is_err_and}
use Rattle.reading.proofs.Promise.{height_passed, height_refused}
use Rattle.reading.proofs.read.Goals as goal

pub returns-in_err-read_height : goal.returns-in_err-read_height
returns-in_err-read_height c =
    let p = err_from_is_err_and c.from_residual.result c.from_residual.ensures.1 in
    rw (p.1, p.2) (height_refused _ _ _ c.in_err-read_height.ensures refl)

pub returns : goal.returns
returns c = height_passed _ _ _ c.in_ok-read_height.ensures refl
