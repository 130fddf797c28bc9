-- `evaluate`: refusals 1 to 9, or the evaluation of a readable table.
use mathlib.Core.Path.{sym, ap, ◌∙◌}
use Rattle.reading.specs.Answers.{height_of}
use Rattle.reading.proofs.Promise.{measured_readable}
use Rattle.evaluate.proofs.EntryLaws.{unread_reported}
use Rattle.evaluate.proofs.evaluate.Goals as goal

pub evaluate_sized-run-requires : goal.evaluate_sized-run-requires
evaluate_sized-run-requires c = measured_readable _ (sym (ap height_of c.in-Ok.is) ∙ c.read_height.ensures)

pub returns-in-Err : goal.returns-in-Err
returns-in-Err c =
    let r = c.read_height in
    let x = unread_reported c.args.table.now c.args.values.now c.args.budget r.result r.ensures c.in-Err.is c.refused.ensures in
    (x.ending, x.spent)
