-- `is_function`: of the pairs that are left none shares its first part with the next one exactly where none of all does.
use Rattle.sets.proofs.Base.{ℕ, ◌+◌, ◌-◌}
use Rattle.functions.proofs.Terms.{Values, Front, AllPairs}
use Rattle.functions.proofs.ImageLaws.{Checking}
use Rattle.functions.proofs.is_function.Given as goal

abbrev pub invariant-loop : goal.invariant-loop
invariant-loop l = (top : ℕ) (vs : Values) → Front l.s top l.at l.n vs → AllPairs vs → Checking (λ _. Unit {0}) l.s top vs l.i (l.n + 1 - l.counter)
