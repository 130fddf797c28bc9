-- The terms after flattening say what they said, the marks are cleared, and then each class is marked, or none can be.
use Rattle.deciding.proofs.Answers.{decision}
use Rattle.deciding.proofs.decide.Goals as goal

pub returns : goal.returns
returns c = rw c.is_ok.ensures.value (decision c.flatten.ensures c.mark_all.new.marks c.mark_all.new.stack c.mark_all.result c.mark_all.ensures)
