-- `seek`: the value is found in the set where it is found among the members that are left.
use Rattle.sets.proofs.Base.{ℕ, ◌-◌, length}
use Rattle.sets.proofs.Terms.{Value, Values, members, ValueBelow, Front, Keyed}
use Rattle.sets.proofs.SearchLaws.{Seeking}
use Rattle.sets.proofs.seek.Given as goal

abbrev pub invariant-loop : goal.invariant-loop
invariant-loop l = (top : ℕ) (vs : Values) (v : Value) → Front l.s top l.at l.n vs → Keyed l.first vs → ValueBelow l.s (length l.s) l.e v →
    Seeking l.s top l.at l.first v (members vs) l.i (l.n - l.counter)
