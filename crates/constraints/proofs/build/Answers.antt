-- Before the loop the identifiers have their variables, and there is no node yet.
use borrow.Author.Rules.{rules}
use Prim.Native.Nat.{◌≤◌}
use mathlib.Core.Path.{sym, ◌∙◌}
use native.Mathlib.Omega.{arith}
use lib.ListN.{length}
use lib.Seq.{get_or-set_same, length-take-le}
use Rattle.laws.proofs.TableLaws.{binds_length}
use Rattle.constraints.proofs.CopyLaws.{opened}
use Rattle.constraints.proofs.NodeLaws.{constrained_none}
use Rattle.constraints.proofs.build.Goals as goal

pub loop-n-init : goal.loop-n-init
loop-n-init c =
    let i = c.identifiers-names in
    let count = binds_length c.args.table.now in
    let room = c.requires.1 in
    let few : i.result ≤ length c.args.shapes.now = omega (arith, room.shapes_room, c.requires.0.laid.header.identifiers, i.ensures) in
    constrained_none _ _ _ _ (get_or-set_same c.args.starts.now 0 i.result 0 (omega (arith, room.starts_room)) ∙ i.ensures ∙ sym count)
    (λ v l. opened _ (c.fill.ensures.after (search rules)) {m = i.result} (length-take-le _ _ few) v (omega (arith, count, i.ensures)))
