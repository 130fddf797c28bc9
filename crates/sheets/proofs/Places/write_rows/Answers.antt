-- The loop writes a row a turn; at its start no class has a row.
use borrow.Author.Rules.{rules}
use mathlib.Core.Path.{◌∙◌}
use native.Mathlib.Omega.{arith}
use Rattle.rules.specs.Tables.{table_of}
use Rattle.sheets.proofs.Turn.{all_zero, rows_start, rows_end}
use Rattle.sheets.proofs.Places.write_rows.Goals as goal

pub loop-p-init : goal.loop-p-init
loop-p-init c =
    let s = c.args.self.now in
    rows_start (table_of s.table.now) s.terms.now s.marks.now _ _ (all_zero _ _ (c.fill.ensures.after (search rules)))

pub returns : goal.returns
returns c =
    let s = c.args.self.now in
    rows_end (table_of s.table.now) s.terms.now s.marks.now c.loop-p.firsts c.loop-p.sheet c.loop-p.p (c.loop-p.auto.sheet ∙ c.requires.rows_fit.fits)
    (omega (arith, c.count-p-end.ensures, c.loop-p.auto.p-end)) (omega (arith, c.count-p-end.ensures, c.loop-p-test.false)) c.loop-p.invariant
