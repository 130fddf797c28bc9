-- `settle`: by what the operation answers.
use Rattle.visits.proofs.Terms.{ap, ◌∙◌, Ok}
use Rattle.visits.proofs.SettleLaws.{settles_built}
use Rattle.visits.proofs.settle.Goals as goal

pub returns-else-next-top : goal.returns-else-next-top
returns-else-next-top c = settles_built c.requires (c.in-Ok.is ∙ ap Ok c.in-Built.is) c.copy_forward.ensures
