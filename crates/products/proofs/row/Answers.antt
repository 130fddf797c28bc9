-- `row`: the pairs of a value with each member of a set.
use Rattle.products.proofs.Base.{refl, arith}
use Rattle.products.proofs.Terms.{code}
use Rattle.products.proofs.WalkLaws.{walk_some, walk_forward, walk_end, row_pair, row_next}
use Rattle.products.proofs.row.Goals as goal

pub end_of-e-requires : goal.end_of-e-requires
end_of-e-requires c = walk_some (c.loop.invariant c.requires) (omega (arith, c.loop-test.true))

pub overflow_sub-e : goal.overflow_sub-e
overflow_sub-e c = walk_forward _ c.end_of-e.ensures (c.loop.invariant c.requires) (omega (arith, c.loop-test.true))

pub pair_at-at-requires : goal.pair_at-at-requires
pair_at-at-requires c = let g = c.requires in row_pair g _ c.end_of-e.ensures (c.loop.invariant g) (omega (arith, c.loop-test.true))

pub loop-preserved : goal.loop-preserved
loop-preserved c = λ g. row_next g _ c.end_of-e.ensures (c.loop.invariant g) (omega (arith, c.loop-test.true)) _ _ c.pair_at-at.ensures

pub returns : goal.returns
unfolding code
returns c = λ g. walk_end (c.loop.invariant g) (omega (arith, c.loop-test.false)) refl
