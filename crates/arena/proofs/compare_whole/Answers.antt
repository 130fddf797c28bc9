-- `compare_whole`: the order alone of what has been found.
use Rattle.arena.proofs.compare_whole.Goals as goal

pub returns : goal.returns
returns c = λ v w h k p q. (c.compare_values.ensures v w h k p q).order
