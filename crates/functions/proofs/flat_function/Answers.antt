-- `flat_function`: of the pairs that are left none shares its first part with the next one exactly where none of all does.
use Rattle.sets.proofs.Base.{arith}
use Rattle.functions.proofs.ImageLaws.{checking_end, flat_inside, flat_start, flat_shared, flat_next}
use Rattle.functions.proofs.flat_function.Goals as goal

pub loop-k-init : goal.loop-k-init
loop-k-init c = record { inside = flat_inside c.requires.2 c.requires.3; checked = λ top vs f p. flat_start f p (omega arith) (omega arith) }

pub returns-then-s-next : goal.returns-then-s-next
returns-then-s-next c = λ top vs f p.
    let l = c.loop-k-test.true in
    let some = c.loop-k.auto.k in
    flat_shared (c.loop-k.invariant.checked top vs f p) (omega arith) (omega arith) (omega arith) c.if-s-next.true

pub loop-k-preserved : goal.loop-k-preserved
loop-k-preserved c = record {
  inside = c.loop-k.invariant.inside;
  checked = λ top vs f p.
      let l = c.loop-k-test.true in
      let some = c.loop-k.auto.k in
      flat_next (c.loop-k.invariant.checked top vs f p) (omega arith) (omega arith) (omega arith) c.if-s-next.false (omega arith) (omega arith);
}

pub returns : goal.returns
returns c = λ top vs f p. checking_end (c.loop-k.invariant.checked top vs f p) (omega (arith, c.loop-k-test.false))
