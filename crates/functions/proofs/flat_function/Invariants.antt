-- `flat_function`: the pairs stand within what was lent, and of those that are left none shares its first part with the next one exactly where none
-- of all does.
use Rattle.sets.proofs.Base.{ℕ, ◌+◌, ◌-◌, ◌*◌, ◌≤◌, length}
use Rattle.functions.proofs.Terms.{Values, AllWeigh, Front, FlatPairs}
use Rattle.functions.proofs.ImageLaws.{Checking}
use Rattle.functions.proofs.flat_function.Given as goal

abbrev pub invariant-loop-k : goal.invariant-loop-k
invariant-loop-k l = record {
  inside : l.at + 3 * l.n ≤ length l.s;
  checked : (top : ℕ) (vs : Values) → Front l.s top l.at l.n vs → FlatPairs vs → Checking (AllWeigh 3) l.s top vs (l.at + 3 * (l.k - 1)) (l.n + 1 - l.k);
}
