-- `apply`: the image where it stands, or none (16).
use mathlib.Core.Bool.{not}
use mathlib.Core.Path.{◌≡◌, ap, ◌∙◌}
use Rattle.std.specs.Result.{result_ok}
use Rattle.std.proofs.lemmas.Result.{err_from_is_err_and}
use Rattle.std.specs.Option.{ok_or}
use Rattle.std.specs.Prelude.{ℕ, Option, Some, None, Err}
use Rattle.operations.proofs.Terms.{NoValue}
use Rattle.operations.proofs.Common.{apply, ready_both, ready_function, two_unlike, apply_none, apply_some}
use Rattle.operations.proofs.double.apply.Goals as goal

pub applies-requires : goal.applies-requires
applies-requires c = ready_both c.requires.0.1

pub returns-then-not-applies : goal.returns-then-not-applies
returns-then-not-applies c = λ _. two_unlike apply c.applies.ensures (ap not c.if-not-applies.true)

pub image-requires : goal.image-requires
image-requires c =
    let p = c.requires in
    let (v, f) = ready_function p.0.1 c.applies.ensures (ap not c.if-not-applies.false) in (v, f, p.1)

pub returns-in_err-at : goal.returns-in_err-at
returns-in_err-at c =
    let none : c.image.result ≡ None = c.ok_or.ensures.ok_part ∙ ap result_ok c.in_err-at.was in
    let told : Err c.in_err-at.field-0.0 ≡ ok_or None NoValue =
    c.in_err-at.ensures.value ∙ ap (λ (o : Option ℕ). ok_or o NoValue) none in
    let lack : c.in_err-at.field-0.0 ≡ NoValue = cc in
    let p = err_from_is_err_and c.from_residual.result c.from_residual.ensures.1 in
    rw (p.1, p.2, lack) (λ _. apply_none c.applies.ensures (ap not c.if-not-applies.false) (rw none at c.image.ensures))

pub returns : goal.returns
returns c =
    let some : c.image.result ≡ Some c.in_ok-at.at = c.ok_or.ensures.ok_part ∙ ap result_ok c.in_ok-at.was in
    λ _. apply_some c.applies.ensures (ap not c.if-not-applies.false) _ (rw some at c.image.ensures)
