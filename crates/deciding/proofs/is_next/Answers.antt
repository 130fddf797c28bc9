-- A link is no class; any other variable is one, and its mark decides.
use Rattle.terms.proofs.TermLaws.{not_link}
use Rattle.deciding.proofs.Parts.{no_next, next_answer}
use Rattle.deciding.proofs.is_next.Goals as goal

pub returns-in-Link : goal.returns-in-Link
returns-in-Link c = no_next c.requires.0 c.args.marks.now c.requires.1 c.in-Link.ensures

pub returns-in_default : goal.returns-in_default
returns-in_default c =
    next_answer c.requires.0 c.args.marks.now c.requires.1 (not_link _ c.from.result c.from.ensures c.in_default.not-Link)
