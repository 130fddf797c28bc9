-- `of_cells`: an empty set has no members to speak of; where the first member is a scalar, all members weigh one cell.
use Rattle.sets.proofs.Base.{ltb-true, ◌∙◌, arith}
use Rattle.arena.proofs.FrontLaws.{set_inside}
use Rattle.sets.proofs.RowLaws.{flat_cells, first_inside}
use Rattle.sets.proofs.of_cells.Goals as goal

pub bounds-s-a : goal.bounds-s-a
bounds-s-a c = set_inside _ _ _ _ c.requires.1.1

pub returns-then-low-eq0 : goal.returns-then-low-eq0
returns-then-low-eq0 c = λ _. record {
  inside = omega (arith, set_inside _ _ _ _ c.requires.1.1);
  each = λ i k. absurd (omega (arith, c.low.ensures.0, c.if-low-eq0.true));
}

pub bounds-s-a-2 : goal.bounds-s-a-2
bounds-s-a-2 c = first_inside c.requires.1.1 (λ e. c.if-low-eq0.false (c.low.ensures.0 ∙ e))

pub returns : goal.returns
returns c = λ e. flat_cells c.requires.1.1 (omega (arith, ltb-true))
