-- `standing`: the offset that the environment has for the identifier, or the node's own cell.
use Rattle.visits.proofs.Terms.{refl, arith}
use Rattle.visits.proofs.SafeLaws.{entry_below, entry_scaled}
use Rattle.visits.proofs.DispatchLaws.{standing_name, placed_name, placed_constant}
use Rattle.visits.proofs.standing.Goals as goal

pub returns-then-kind-ne20 : goal.returns-then-kind-ne20
returns-then-kind-ne20 c = placed_constant c.requires (λ e. omega (arith, c.if-kind-ne20.true))

pub offset_bounds-env-x : goal.offset_bounds-env-x
offset_bounds-env-x c = entry_scaled c.node_field-x.ensures (standing_name c.requires (omega (arith, c.if-kind-ne20.false)))

pub bounds-env-x : goal.bounds-env-x
bounds-env-x c = entry_below c.node_field-x.ensures (standing_name c.requires (omega (arith, c.if-kind-ne20.false)))

pub returns : goal.returns
returns c = placed_name c.requires (omega (arith, c.if-kind-ne20.false)) c.node_field-x.ensures refl
