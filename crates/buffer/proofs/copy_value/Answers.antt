-- `copy_value`: the cells read so far stand in the arena, and a value is read where the values that are left are (`Walk`).
use Prim.Native.Nat.{◌+◌, ◌<◌}
use native.Mathlib.Omega.{arith}
use lib.ListN.{length}
use Rattle.rules.specs.Tables.{table_of}
use Rattle.laws.proofs.CellsLaws.{Sizes}
use Rattle.buffer.proofs.Walk.{bytes_all, readable_sizes, walk_start, walk_room, walk_step, walk_none, walk_heavy, walk_end}
use Rattle.buffer.proofs.copy_value.Goals as goal

pub loop-left-init : goal.loop-left-init
loop-left-init c =
    let b = bytes_all c.args.values.now (λ i l. omega (arith, c.type_inv.values i)) in
    (omega arith, omega arith, walk_start _ _ c.args.from.at _ _ b (omega (arith, c.requires.room)))

pub returns-then-left-n : goal.returns-then-left-n
returns-then-left-n c =
    let sizes : Sizes (table_of c.args.table.now).sizes = readable_sizes c.requires.readable in
    let i = c.loop-left.invariant in (
      i.2.frame,
      λ v rest e g.
          walk_heavy i.2 c.loop-left-test.true sizes v rest e g (omega (arith, c.if-left-n.true, i.0)),
    )

pub returns-in_err-step : goal.returns-in_err-step
returns-in_err-step c =
    let sizes : Sizes (table_of c.args.table.now).sizes = readable_sizes c.requires.readable in
    let i = c.loop-left.invariant in (
      i.2.frame,
      rw c.from_residual.ensures (λ v rest e g. walk_none i.2 c.loop-left-test.true sizes v rest e g c.in_err-step.ensures),
    )

pub bounds-s-top : goal.bounds-s-top
bounds-s-top c =
    let cell = c.in_ok-step.ensures in
    let few : c.loop-left.n < 256 = omega (arith, c.if-left-n.false, c.loop-left-test.true) in
    let room : c.args.top + c.loop-left.n < length c.loop-left.s = walk_room c.loop-left.invariant.2 cell few c.requires.room in
    room

pub loop-left-preserved : goal.loop-left-preserved
loop-left-preserved c =
    let cell = c.in_ok-step.ensures in
    let few : c.loop-left.n < 256 = omega (arith, c.if-left-n.false, c.loop-left-test.true) in
    let room : c.args.top + c.loop-left.n < length c.loop-left.s = walk_room c.loop-left.invariant.2 cell few c.requires.room in (
      omega (arith, few),
      omega (arith, c.if-left-n.false, c.parts.ensures.1),
      walk_step c.loop-left.invariant.2 c.loop-left-test.true
          _ _ _ _ cell c.code_cell.ensures c.parts.ensures.0 room,
    )

pub returns : goal.returns
returns c = let i = c.loop-left.invariant in (i.2.frame, walk_end i.2 (omega (arith, c.loop-left-test.false)) i.0)
