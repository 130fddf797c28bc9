-- The row is cleared; a place with a type has the codes of its class put into it.
use Prim.Native.Nat.{◌*◌}
use borrow.Author.Rules.{rules}
use native.Mathlib.Omega.{arith}
use Rattle.rules.specs.Tables.{table_of}
use Rattle.sheets.proofs.Scan.{is_place_law}
use Rattle.sheets.proofs.Turn.{blank_row, row_room, row_left, class_fits, row_put}
use Rattle.sheets.proofs.Places.write_row.Goals as goal

pub write_class-requires : goal.write_class-requires
write_class-requires c =
    let q = c.requires in
    let blank = blank_row c.args.sheet.now c.fill.new.self (64 * c.args.p) _ (c.fill.ensures.after (search rules)) (omega arith)
    (row_room q.places_in q.rows_fit q.p_bound.1 q.p_bound.0) in
    let typed = is_place_law (table_of c.args.self.now.table.now) c.args.p c.has_type.result c.has_type.ensures c.if-has_type.true in
    class_fits q.places_in q.rows_fit q.p_bound.1 q.p_bound.0 _ blank typed c.place_class-c.result c.place_class-c.ensures

pub returns-then-has_type : goal.returns-then-has_type
returns-then-has_type c =
    let q = c.requires in
    let blank = blank_row c.args.sheet.now c.fill.new.self (64 * c.args.p) _ (c.fill.ensures.after (search rules)) (omega arith)
    (row_room q.places_in q.rows_fit q.p_bound.1 q.p_bound.0) in
    let typed = is_place_law (table_of c.args.self.now.table.now) c.args.p c.has_type.result c.has_type.ensures c.if-has_type.true in
    row_put q.places_in q.rows_fit q.p_bound.1 q.p_bound.0 _ blank typed c.place_class-c.result c.place_class-c.ensures _ _ c.write_class.ensures

pub returns-else-has_type : goal.returns-else-has_type
returns-else-has_type c =
    let q = c.requires in
    let blank = blank_row c.args.sheet.now c.fill.new.self (64 * c.args.p) _ (c.fill.ensures.after (search rules)) (omega arith)
    (row_room q.places_in q.rows_fit q.p_bound.1 q.p_bound.0) in
    row_left q.places_in q.rows_fit q.p_bound.1 q.p_bound.0 _ blank c.has_type.result c.has_type.ensures c.if-has_type.false
