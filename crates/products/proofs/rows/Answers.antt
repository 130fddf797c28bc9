-- `rows`: a row of pairs for each member of the first set.
use Rattle.products.proofs.Base.{refl, arith}
use Rattle.products.proofs.Terms.{code, pairs_of}
use Rattle.products.proofs.WalkLaws.{walk_some, walk_forward, walk_end, square_row, square_next}
use Rattle.products.proofs.rows.Goals as goal

pub end_of-e-requires : goal.end_of-e-requires
end_of-e-requires c = walk_some (c.loop.invariant c.requires) (omega (arith, c.loop-test.true))

pub overflow_sub-e : goal.overflow_sub-e
overflow_sub-e c = walk_forward _ c.end_of-e.ensures (c.loop.invariant c.requires) (omega (arith, c.loop-test.true))

pub row-at-requires : goal.row-at-requires
row-at-requires c = let g = c.requires in square_row g _ c.end_of-e.ensures (c.loop.invariant g) (omega (arith, c.loop-test.true))

pub loop-preserved : goal.loop-preserved
loop-preserved c = λ g. square_next g _ c.end_of-e.ensures (c.loop.invariant g) (omega (arith, c.loop-test.true)) _ _ c.row-at.ensures

pub returns : goal.returns
unfolding code pairs_of
returns c = λ g. walk_end (c.loop.invariant g) (omega (arith, c.loop-test.false)) refl
