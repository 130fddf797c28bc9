-- Stages 1 to 3 of `reading`, then the records.
use mathlib.Core.Path.{ap, ◌∙◌}
use Rattle.std.proofs.lemmas.Result.{err_from_is_err_and}
use Rattle.rules.specs.Ends.{require}
use Rattle.rules.specs.Reading.{reading}
use Rattle.reading.specs.Answers.{reading_tree, reading_records, reading_height}
use Rattle.reading.proofs.Stages.{stage_refused, stage_passed, test_passed, long, header_read}
use Rattle.reading.proofs.read_height.Goals as goal

pub returns-in_err-require : goal.returns-in_err-require
unfolding reading_height reading
returns-in_err-require c =
    let r = c.from_residual in
    let p = err_from_is_err_and r.result r.ensures.1 in
    rw (p.1, p.2)
    (stage_refused _ _ (c.in_err-require.ensures ∙ ap (require 1 0) c.is_headed.ensures))

pub returns-in_err-require-2 : goal.returns-in_err-require-2
unfolding reading_height reading
returns-in_err-require-2 c =
    let r = c.from_residual-in_err-require-2 in
    let p = err_from_is_err_and r.result r.ensures.1 in
    rw (p.1, p.2)
    (stage_passed _ _ _ (c.in_ok-require.ensures ∙ ap (require 1 0) c.is_headed.ensures)
    (stage_refused _ _ (c.in_err-require-2.ensures ∙ ap (require 2 0) c.is_limited.ensures)))

pub returns-in_err-require-3 : goal.returns-in_err-require-3
unfolding reading_height reading
returns-in_err-require-3 c =
    let r = c.from_residual-in_err-require-3 in
    let p = err_from_is_err_and r.result r.ensures.1 in
    rw (p.1, p.2)
    (stage_passed _ _ _ (c.in_ok-require.ensures ∙ ap (require 1 0) c.is_headed.ensures)
    (stage_passed _ _ _ (c.in_ok-require-2.ensures ∙ ap (require 2 0) c.is_limited.ensures)
    (stage_refused _ _ (c.in_err-require-3.ensures ∙ ap (require 3 0) c.is_laid_out.ensures))))

pub is_limited-requires : goal.is_limited-requires
is_limited-requires c = long _ (test_passed 1 c.in_ok-require.ensures c.is_headed.ensures)

pub is_laid_out-requires : goal.is_laid_out-requires
is_laid_out-requires c = long _ (test_passed 1 c.in_ok-require.ensures c.is_headed.ensures)

pub read_records-requires : goal.read_records-requires
read_records-requires c =
    header_read _ (test_passed 1 c.in_ok-require.ensures c.is_headed.ensures)
    (test_passed 2 c.in_ok-require-2.ensures c.is_limited.ensures) (test_passed 3 c.in_ok-require-3.ensures c.is_laid_out.ensures)

pub returns : goal.returns
unfolding reading_height reading reading_records reading_tree
returns c =
    stage_passed _ _ _ (c.in_ok-require.ensures ∙ ap (require 1 0) c.is_headed.ensures)
    (stage_passed _ _ _ (c.in_ok-require-2.ensures ∙ ap (require 2 0) c.is_limited.ensures)
    (stage_passed _ _ _ (c.in_ok-require-3.ensures ∙ ap (require 3 0) c.is_laid_out.ensures)
    c.read_records.ensures))
