-- `comparisons`: a turn at two runs is one; none is left where either is exhausted.
use Rattle.sets.proofs.Base.{ℕ, ◌+◌}
use Rattle.merging.proofs.Terms.{Values, members, comparisons, Front}
use Rattle.merging.proofs.CountLaws.{Counting}
use Rattle.merging.proofs.comparisons.Given as goal

abbrev pub invariant-loop-f : goal.invariant-loop-f
invariant-loop-f l =
    (top : ℕ) (vs ws : Values) → Front l.s top l.fn.fronts.a l.fn.fronts.m vs → Front l.s top l.fn.fronts.b l.fn.fronts.n ws →
    Counting l.s top l.f.a l.f.m l.f.b l.f.n l.turns (comparisons (members vs) (members ws))

abbrev pub decreases-loop-f : goal.decreases-loop-f
decreases-loop-f l = l.f.m + l.f.n
