-- `walk_cells`: the first set is included where the members that are left of it are among those left of the second.
use Rattle.sets.proofs.Base.{arith}
use Rattle.sets.proofs.TurnLaws.{including_end, including_fewer, including_less, row_step}
use Rattle.sets.proofs.walk_cells.Goals as goal

pub returns-then-f : goal.returns-then-f
returns-then-f c = λ vs ws f g. including_fewer (c.loop-f.invariant.on vs ws f g) (omega (arith, c.if-f.true))

pub returns-then-x-y : goal.returns-then-x-y
returns-then-x-y c =
    λ vs ws f g. let w = c.loop-f.invariant in
    including_less (w.on vs ws f g) c.loop-f-test.true (omega (arith, c.loop-f-test.true, c.if-f.false)) w.cells w.other_cells
    c.if-x-y.true

pub loop-f-preserved : goal.loop-f-preserved
loop-f-preserved c = row_step c.loop-f.invariant c.loop-f-test.true (omega (arith, c.if-f.false)) c.if-x-y.false

pub returns : goal.returns
returns c = λ vs ws f g. including_end (c.loop-f.invariant.on vs ws f g) c.loop-f-test.false
