-- `walk_merge`: the walk goes on while both runs have members left and what is built is not too heavy; what is left then is only counted.
use Rattle.sets.proofs.Base.{◌+◌}
use Rattle.merging.proofs.Terms.{Walking}
use Rattle.merging.proofs.walk_merge.Given as goal

abbrev pub invariant-loop-w : goal.invariant-loop-w
invariant-loop-w l =
    Walking l.keeps.left l.keeps.both l.keeps.right l.initial.s l.fn.fronts.a l.fn.fronts.m l.fn.fronts.b l.fn.fronts.n l.top l.s l.w

abbrev pub decreases-loop-w : goal.decreases-loop-w
decreases-loop-w l = l.w.fronts.m + l.w.fronts.n
