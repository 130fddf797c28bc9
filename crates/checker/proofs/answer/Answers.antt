-- Refusal 12, then 13, then the rows.
use Rattle.checker.proofs.Telling.{told_open, told_heavy, rows_fit, told_accepted}
use Rattle.checker.proofs.answer.Goals as goal

pub returns-in-Some : goal.returns-in-Some
returns-in-Some c = told_open c.requires _ c.in-Some.ensures

pub returns-in-Some-first_above : goal.returns-in-Some-first_above
returns-in-Some-first_above c = told_heavy c.requires c.in_default.ensures _ c.in-Some-first_above.ensures

pub write_rows-requires-clause-rows_fit : goal.write_rows-requires-clause-rows_fit
write_rows-requires-clause-rows_fit c = rows_fit c.requires c.in_default.ensures c.in_default-first_above.ensures

pub returns : goal.returns
returns c = told_accepted c.requires c.in_default.ensures c.in_default-first_above.ensures _ c.write_rows.ensures
