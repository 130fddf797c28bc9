-- `subset`: the members whose bits the mask has.
use Rattle.products.proofs.Base.{◌%◌, arith, eqb}
use Rattle.powers.proofs.SubsetLaws.{byte_most, subset_few, subset_copy, subset_next, subset_end}
use Rattle.powers.proofs.subset.Goals as goal

pub copy_if-end-requires : goal.copy_if-end-requires
copy_if-end-requires c = let g = c.requires in subset_copy g _ (c.loop-j.invariant g) (omega (arith, c.loop-j-test.true))

pub loop-j-preserved : goal.loop-j-preserved
loop-j-preserved c = λ g. rw c.from-count.ensures (subset_next g _ (c.loop-j.invariant g) (omega (arith, c.loop-j-test.true)) c.copy_if-end.ensures)

pub overflow_add-count : goal.overflow_add-count
overflow_add-count c = let g = c.requires in omega (arith, subset_few g _ (c.loop-j.invariant g), c.from-count.ensures, byte_most (eqb (c.loop-j.bits % 2) 1))

pub overflow_add-s : goal.overflow_add-s
overflow_add-s c = let g = c.requires in omega (arith, subset_few g _ (c.loop-j.invariant g))

pub returns : goal.returns
returns c = λ g. subset_end g _ (c.loop-j.invariant g) (omega (arith, c.loop-j-test.false))
