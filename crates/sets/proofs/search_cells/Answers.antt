-- `search_cells`: the first set is included where each of its members that are left is found in the second.
use Rattle.sets.proofs.Base.{◌+◌, ◌-◌, ◌≡◌, arith}
use Rattle.sets.proofs.RowLaws.{cells_row, cells_part}
use Rattle.sets.proofs.TurnLaws.{including_end, including_sought}
use Rattle.sets.proofs.search_cells.Goals as goal

pub find-requires : goal.find-requires
find-requires c = let q = c.requires in cells_row q.runs.on_right q.right

pub returns-then-is_none : goal.returns-then-is_none
returns-then-is_none c = λ vs ws f g.
    let w = c.loop-i.invariant in
    (including_sought (w.on vs ws f g) (omega (arith, c.loop-i-test.true)) w.cells w.other_cells _ c.find.ensures).1 c.if-is_none.ensures

pub loop-i-preserved : goal.loop-i-preserved
loop-i-preserved c =
    let w = c.loop-i.invariant in
    let q = c.args.rows in
    let z : q.a + q.m - (c.loop-i.i + 1) ≡ q.a + q.m - c.loop-i.i - 1 = omega arith in
    rw z (record {
      cells = cells_part w.cells (omega arith) (omega (arith, c.loop-i-test.true));
      other_cells = w.other_cells;
      on = λ vs ws f g.
          (including_sought (w.on vs ws f g) (omega (arith, c.loop-i-test.true)) w.cells w.other_cells _ c.find.ensures).0 c.if-is_none.ensures;
    })

pub returns : goal.returns
returns c = λ vs ws f g. including_end (c.loop-i.invariant.on vs ws f g) (omega (arith, c.loop-i-test.false))
