-- A clash in an equation's parts fails at once; else the terms are decided, and fail by a cycle or are solved.
use Rattle.checker.proofs.SolvingLaws.{decide_gives}
use Rattle.checker.proofs.AttemptLaws.{merged_solves, merged_fails, clash_solves}
use Rattle.checker.proofs.solving.solve_shapes.Goals as goal

pub returns-then-decide : goal.returns-then-decide
returns-then-decide c =
    let d = decide_gives c.in-Ok.ensures.terms _ _ c.decide.result c.decide.ensures in
    merged_solves _ _ _ _ _ _ c.in-Ok.ensures (rw c.if-decide.true at d)

pub returns-then-decide-2 : goal.returns-then-decide-2
returns-then-decide-2 c =
    let m = rw c.in-Err-Here.field-0-is at c.in-Err-Here.ensures in
    let d = decide_gives m.2.terms _ _ c.decide-in-Err-Here.result c.decide-in-Err-Here.ensures in
    clash_solves _ _ _ _ _ _ c.in-Err-Here.e m (rw c.if-decide-2.true at d)

pub returns-else-decide : goal.returns-else-decide
returns-else-decide c =
    let d = decide_gives c.in-Ok.ensures.terms _ _ c.decide.result c.decide.ensures in
    merged_fails _ _ _ _ c.decide.new.terms c.decide.new.marks c.in-Ok.ensures (rw c.if-decide.false at d)
