-- The loop writes a row a turn; at its start no class has a row.
use Rattle.rules.specs.Tables.{table_of}
use Rattle.sheets.specs.Steps.{RowsTo}
use Rattle.sheets.proofs.Places.write_rows.Given as goal

abbrev pub invariant-loop-p : goal.invariant-loop-p
invariant-loop-p l = RowsTo (table_of l.self.table.now) l.self.terms.now l.self.marks.now l.firsts l.sheet l.p
