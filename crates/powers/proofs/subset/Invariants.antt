-- `subset`: the members whose bits the mask has.
use Rattle.powers.proofs.Terms.{Values, SubsetPre}
use Rattle.powers.proofs.SubsetLaws.{SubsetAt}
use Rattle.powers.proofs.subset.Given as goal

abbrev pub invariant-loop-j : goal.invariant-loop-j
invariant-loop-j l = (g : SubsetPre l.initial.s l.at l.to) → (rest : Values) × SubsetAt g l.mask l.s l.j l.bits l.end l.count rest
