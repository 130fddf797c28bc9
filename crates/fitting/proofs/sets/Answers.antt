-- `sets`: P(t) and P(u) fit where both values are sets.
use mathlib.Core.Path.{sym, ◌∙◌}
use Rattle.fitting.proofs.Tests.{fits_sets, set_inner}
use Rattle.fitting.proofs.sets.Goals as goal

pub returns-else-is_set : goal.returns-else-is_set
returns-else-is_set c = λ v w h k. c.if-is_set.false ∙ sym (fits_sets v w ∙ rw (set_inner c.is_set.ensures h ∙ c.if-is_set.false))

pub returns-then-is_set : goal.returns-then-is_set
returns-then-is_set c = λ v w h k. sym (fits_sets v w ∙ rw (set_inner c.is_set.ensures h ∙ c.if-is_set.true) (set_inner c.is_set-then-is_set.ensures k))
