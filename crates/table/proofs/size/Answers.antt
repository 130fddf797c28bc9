-- The word at a given set's place, or none.
use mathlib.Core.Path.{sym, ◌∙◌}
use Rattle.laws.proofs.TableLaws.{sizes_entry}
use Rattle.table.proofs.Least.{below}
use Rattle.table.proofs.Access.{size_none}
use Rattle.table.proofs.size.Goals as goal

pub returns-then-givens-g : goal.returns-then-givens-g
returns-then-givens-g c = size_none _ _ _ c.givens.ensures c.if-givens-g.true

pub returns : goal.returns
returns c = c.word.ensures.0 ∙ sym (sizes_entry _ _ 0 (below c.if-givens-g.false c.givens.ensures))
