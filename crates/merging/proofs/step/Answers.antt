-- `step`: a turn of a merge, which is one comparison.
use Rattle.merging.proofs.BuildLaws.{step_put, step_returns}
use Rattle.sets.proofs.TurnLaws.{two_fronts}
use Rattle.merging.proofs.step.Goals as goal

pub turn_at-t-requires : goal.turn_at-t-requires
turn_at-t-requires c = let p = c.requires in two_fronts p.merging.on_left p.merging.on_right p.more_left p.more_right

pub put-out-requires : goal.put-out-requires
put-out-requires c = step_put c.requires c.turn_at-t.ensures

pub returns : goal.returns
returns c = step_returns c.requires c.turn_at-t.ensures c.put-out.ensures
