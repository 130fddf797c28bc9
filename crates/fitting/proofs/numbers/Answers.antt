-- `numbers`: by the tags of the two cells.
use mathlib.Core.Path.{◌∙◌}
use native.Mathlib.Omega.{arith}
use borrow.Author.Tests.{ne_eqb}
use Rattle.fitting.proofs.Cells.{inside}
use Rattle.fitting.proofs.Tests.{numbers_not, numbers_fit}
use Rattle.fitting.proofs.numbers.Goals as goal

pub bounds-s-a : goal.bounds-s-a
bounds-s-a c = inside c.requires.first

pub returns-else-tag-eq-NUMBER_TAG : goal.returns-else-tag-eq-NUMBER_TAG
returns-else-tag-eq-NUMBER_TAG c =
    rw (ne_eqb _ 1 c.if-tag-eq-NUMBER_TAG.false) (numbers_not (λ e. c.if-tag-eq-NUMBER_TAG.false (c.tag.ensures ∙ e)))

pub bounds-s-b : goal.bounds-s-b
bounds-s-b c = inside c.requires.second

pub returns-then-tag-eq-NUMBER_TAG : goal.returns-then-tag-eq-NUMBER_TAG
returns-then-tag-eq-NUMBER_TAG c = rw c.tag-then-tag-eq-NUMBER_TAG.ensures (numbers_fit (omega (arith, c.if-tag-eq-NUMBER_TAG.true, c.tag.ensures)))
