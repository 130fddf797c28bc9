-- `singleton`: a value copied behind the cell of a set of one member.
use Rattle.products.proofs.GrowLaws.{single_made}
use Rattle.products.proofs.singleton.Goals as goal

pub returns : goal.returns
returns c = λ v h. single_made _ _ _ _ _ c.requires.1 c.end_of.ensures c.if-n-gt-BEHIND_FIRST.false c.copy_forward.ensures v h
