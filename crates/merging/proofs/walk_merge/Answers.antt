-- `walk_merge`: the walk goes on while both runs have members left and what is built is not too heavy; what is left then is only counted.
use Rattle.sets.proofs.Base.{◌+◌, ◌<◌, ◌⊎◌, inl, inr, ◌≡◌, arith}
use Rattle.rules.proofs.Basics.{absurd01}
use Rattle.merging.proofs.BuildLaws.{walking_start, walking_step, walking_next, walking_left, walking_all_few, walking_end, walking_made}
use Rattle.merging.proofs.walk_merge.Goals as goal
use Rattle.merging.proofs.walk_merge.Goals.{then-loop-w-test+then-w-gt0+else-w-limit, then-loop-w-test+else-w-gt0, else-loop-w-test}

pub loop-w-init : goal.loop-w-init
loop-w-init c = walking_start c.requires.room

pub step-w-requires : goal.step-w-requires
step-w-requires c =
    let q = c.requires in
    walking_step c.loop-w.invariant q.runs q.room c.loop-w-test.true c.if-w-gt0.true c.if-w-limit.true

pub loop-w-preserved : goal.loop-w-preserved
loop-w-preserved c = walking_next c.loop-w.invariant c.requires.runs c.requires.room c.step-w.ensures

pub comparisons-more-requires : goal.comparisons-more-requires
comparisons-more-requires c = walking_left c.loop-w.invariant c.requires.runs c.requires.room

pub finish-requires : goal.finish-requires
finish-requires c =
    let over : let w = c.loop-w.w in (w.fronts.m ≡ 0) ⊎ ((w.fronts.n ≡ 0) ⊎ (c.args.top + 256 < w.out.to)) = elim c.loop-w-test.branch [
      | then-loop-w-test+then-w-gt0+else-w-limit x ↦ inr (inr (omega (arith, x.if-w-limit.false)))
      | then-loop-w-test+else-w-gt0 x ↦ inr (inl (omega (arith, x.if-w-gt0.false)))
      | else-loop-w-test x ↦ inl (omega (arith, x.loop-w-test.false))
    ] in
    walking_end c.loop-w.invariant c.requires.runs c.requires.room over (λ e. absurd01 (cc e))

pub overflow_add-result : goal.overflow_add-result
overflow_add-result c = omega (arith, walking_all_few c.loop-w.invariant c.requires.runs c.requires.room c.comparisons-more.ensures)

pub returns : goal.returns
returns c = walking_made c.loop-w.invariant c.finish.ensures c.comparisons-more.ensures
