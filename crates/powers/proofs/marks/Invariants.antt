-- `marks`: each turn writes where the next member begins.
use Rattle.powers.proofs.Terms.{Values, MarkPre}
use Rattle.powers.proofs.SubsetLaws.{Marking}
use Rattle.powers.proofs.marks.Given as goal

abbrev pub invariant-loop-j : goal.invariant-loop-j
invariant-loop-j l = (g : MarkPre l.s l.a l.n) → (rest : Values) × Marking g l.at l.j rest
