-- A place without a type fails nothing; at one with a type the mark of its class is compared with the limit.
use Rattle.rules.specs.Tables.{table_of}
use Rattle.sheets.proofs.Scan.{is_place_law, above_typed}
use Rattle.sheets.proofs.Places.is_above.Goals as goal

pub returns : goal.returns
returns c =
    let s = c.args.self.now in
    let tb = table_of s.table.now in
    above_typed tb s.terms.now s.marks.now c.args.limit c.args.p c.place_class-c.result
    (is_place_law tb c.args.p c.has_type.result c.has_type.ensures c.if-not-has_type.false) c.place_class-c.ensures.0
