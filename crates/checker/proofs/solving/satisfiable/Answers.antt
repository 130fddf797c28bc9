-- What is merged is decided.
use Rattle.checker.proofs.SolvingLaws.{decide_gives, satisfied_by}
use Rattle.checker.proofs.solving.satisfiable.Goals as goal

pub returns-in-Ok : goal.returns-in-Ok
returns-in-Ok c = satisfied_by _ _ _ _ _ _ c.in-Ok.ensures _ (decide_gives c.in-Ok.ensures.terms _ _ _ c.decide.ensures)
