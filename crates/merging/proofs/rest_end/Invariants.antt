-- `rest_end`: n members of one cell each end n cells further; others are walked, one by one.
use Rattle.sets.proofs.Base.{ℕ, ◌+◌, ◌-◌}
use Rattle.merging.proofs.Terms.{Values, weights, Front}
use Rattle.merging.proofs.RunLaws.{Running}
use Rattle.merging.proofs.rest_end.Given as goal

abbrev pub invariant-loop : goal.invariant-loop
invariant-loop l = (top : ℕ) (vs : Values) → Front l.s top l.at l.n vs → Running l.s top l.end (l.n - l.counter) (l.at + weights vs)
