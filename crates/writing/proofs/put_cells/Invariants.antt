-- `put_cells`: after i turns the first i cells are written (`WrittenLaws`).
use mathlib.Core.Path.{◌≡◌}
use lib.ListN.{take}
use Rattle.writing.specs.Written.{cells_put}
use Rattle.writing.proofs.put_cells.Given as goal

abbrev pub invariant-loop-i : goal.invariant-loop-i
invariant-loop-i l = l.out ≡ cells_put (take l.i l.cells) l.initial.out
