-- `compare_cells`: as many scalars have been passed in both rows, and their order and the values that are left decide.
use Rattle.arena.proofs.Base.{arith}
use Rattle.arena.proofs.RowOrder.{cells_inside, cells_next, cells_end, cells_all}
use Rattle.arena.proofs.compare_cells.Goals as goal

pub bounds-s-a : goal.bounds-s-a
bounds-s-a c = (cells_inside _ _ _ _ c.args.last _ _ c.loop-i.invariant c.requires.0 c.requires.1 c.loop-i-test.true).0

pub bounds-s-b : goal.bounds-s-b
bounds-s-b c = (cells_inside _ _ _ _ c.args.last _ _ c.loop-i.invariant c.requires.0 c.requires.1 c.loop-i-test.true).1

pub returns-then-x-ge-PAIR : goal.returns-then-x-ge-PAIR
returns-then-x-ge-PAIR c = cells_end _ _ _ _ _ _ _ c.loop-i.invariant c.loop-i.auto.i-end

pub loop-i-preserved : goal.loop-i-preserved
loop-i-preserved c =
    let q = c.args in
    cells_next q.s.now q.a q.b q.n q.last _ _ c.loop-i.invariant c.loop-i-test.true
    (omega (arith, c.if-x-ge-PAIR.false)) (omega (arith, c.if-y-ge-PAIR.false)) _ _ c.cmp.ensures c.then_next-order.ensures

pub returns : goal.returns
returns c = cells_all _ _ _ _ _ _ _ c.loop-i.invariant (omega (arith, c.loop-i.auto.i-end, c.loop-i-test.false))
