-- `next`: the eight bytes are two words. The last three bytes are zero where the second word is less than 256.
use Prim.Native.Nat.{◌+◌}
use native.Mathlib.Omega.{arith}
use Rattle.rules.specs.Tables.{table_of}
use Rattle.buffer.proofs.CellAt.{cell_short, cell_bad, cell_marked, cell_good_law}
use Rattle.buffer.proofs.Cursor.next.Goals as goal

pub returns-then-len-lt8 : goal.returns-then-len-lt8
returns-then-len-lt8 c = let p = c.args in cell_short _ p.values.now p.self.at (omega (arith, c.if-len-lt8.true))

pub returns-then-len-at : goal.returns-then-len-at
returns-then-len-at c =
    let p = c.args in
    cell_short _ p.values.now p.self.at (omega (arith, c.if-len-at.true, c.if-len-lt8.false))

pub returns-then-x-ge-FREE : goal.returns-then-x-ge-FREE
returns-then-x-ge-FREE c =
    let p = c.args in
    cell_marked (table_of p.table.now).sizes p.values.now p.self.at _ _ c.word.ensures.0 c.word-2.ensures.0
    (omega (arith, c.type_inv.values (p.self.at + 4)))
    (omega (arith, c.if-x-ge-FREE.true, c.word.ensures.1))

pub returns-then-not-good_cell : goal.returns-then-not-good_cell
returns-then-not-good_cell c =
    let p = c.args in
    cell_bad _ p.values.now p.self.at _ _ c.word.ensures.0 c.word-2.ensures.0 c.good_cell.ensures c.if-not-good_cell.true

pub returns : goal.returns
returns c =
    cell_good_law _ _ _ _ _ c.word.ensures.0 c.word-2.ensures.0 (omega (arith, c.if-len-at.false, c.if-len-lt8.false))
    (omega (arith, c.if-x-ge-FREE.false, c.word.ensures.1)) c.good_cell.ensures c.if-not-good_cell.false
