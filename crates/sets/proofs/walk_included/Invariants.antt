-- `walk_included`: the answer is whether the members left of the first run are among those left of the second.
use Rattle.sets.proofs.Base.{◌+◌}
use Rattle.sets.proofs.TurnLaws.{Includings}
use Rattle.sets.proofs.walk_included.Given as goal

abbrev pub invariant-loop-f : goal.invariant-loop-f
invariant-loop-f l = Includings l.s l.fn.fronts.a l.fn.fronts.m l.fn.fronts.b l.fn.fronts.n l.f.a l.f.m l.f.b l.f.n

abbrev pub decreases-loop-f : goal.decreases-loop-f
decreases-loop-f l = l.f.m + l.f.n
