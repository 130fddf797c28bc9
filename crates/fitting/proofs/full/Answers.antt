-- By what std's search answers.
use Rattle.fitting.proofs.Cells.{full_decides}
use Rattle.fitting.proofs.full.Goals as goal

pub returns : goal.returns
returns c = full_decides _ _ _ _ c.requires.0 c.requires.1 c.contains.ensures.cases
