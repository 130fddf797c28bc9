-- `all_subsets`: mask by mask. The array is the list of masks.
use Rattle.powers.proofs.Terms.{Grown, AllPre}
use Rattle.powers.proofs.PowerLaws.{all_from}
use Rattle.powers.proofs.all_subsets.Given as goal

abbrev pub invariant-loop-mask : goal.invariant-loop-mask
invariant-loop-mask l =
    (g : AllPre l.initial.s l.at l.p l.to) → Grown l.initial.s l.to l.s l.end (all_from l.p 0 g.whole) (all_from l.p l.mask-index g.whole)
