-- `is_set`: by the tag of the cell.
use mathlib.Core.Path.{sym, ◌∙◌}
use Rattle.fitting.proofs.Cells.{inside}
use Rattle.fitting.proofs.Tests.{set_cell, fits_set}
use Rattle.fitting.proofs.is_set.Goals as goal

pub bounds-s-a : goal.bounds-s-a
bounds-s-a c = inside c.requires

pub returns : goal.returns
returns c = λ v h. rw c.tag.ensures (set_cell h ∙ sym (fits_set v))
