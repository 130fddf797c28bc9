-- `all_subsets`: mask by mask. The array is the list of masks.
use Rattle.products.proofs.Base.{refl}
use Rattle.powers.proofs.PowerLaws.{all_pre, all_next, all_put, all_passed, all_end}
use Rattle.powers.proofs.all_subsets.Goals as goal
use Rattle.powers.proofs.all_subsets.Goals.{then-mask-p, else-mask-p}

pub subset-end-requires : goal.subset-end-requires
subset-end-requires c = all_pre c.requires c.loop-mask.mask-index (c.loop-mask.invariant c.requires)

pub loop-mask-preserved : goal.loop-mask-preserved
loop-mask-preserved c = λ g.
    let i = c.loop-mask.mask-index in
    let h = c.loop-mask.invariant g in
    elim c.if-mask-p.branch [
      | then-mask-p w ↦ rw (w.s-is, w.end-is) (all_next g i h _ _ _ c.loop-mask-test.true refl (all_put g i h w.if-mask-p.true w.subset-end.ensures))
      | else-mask-p w ↦ rw (w.s-is, w.end-is) (all_next g i h _ _ _ c.loop-mask-test.true refl (all_passed g i h w.if-mask-p.false))
    ]

pub returns : goal.returns
returns c = λ g. all_end g c.loop-mask.mask-index (c.loop-mask.invariant g) c.loop-mask-test.false
