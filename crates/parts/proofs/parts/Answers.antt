-- `parts`: each turn puts the part of one pair more among those that have been put.
use Rattle.products.proofs.Base.{◌+◌, refl, arith, ◌≡◌}
use Rattle.parts.proofs.Terms.{PartsPre, chosen}
use Rattle.parts.proofs.TakeLaws.{taking_start, taking_near, taking_end, taking_first, taking_inside, taking_second, taking_insert, taking_next}
use Rattle.parts.proofs.parts.Goals as goal
use Rattle.parts.proofs.parts.Goals.{then-second, else-second}

pub loop-init : goal.loop-init
loop-init c = λ g. (g.pairs, taking_start g _ (omega arith))

pub overflow_add-x : goal.overflow_add-x
overflow_add-x c = let g = c.requires in omega (arith, taking_inside g (c.loop.invariant g) (omega (arith, c.loop-test.true)), g.room)

pub end_of-y-requires : goal.end_of-y-requires
end_of-y-requires c = let g = c.requires in taking_first g (c.loop.invariant g) (omega (arith, c.loop-test.true))

pub end_of-e-requires : goal.end_of-e-requires
end_of-e-requires c =
    let g = c.requires in
    taking_second g (c.loop.invariant g) (omega (arith, c.loop-test.true)) _ c.end_of-y.ensures

pub insert-o-requires : goal.insert-o-requires
insert-o-requires c =
    let g = c.requires in
    let part : (c.if-second.p.0 ≡ chosen c.args.second (c.loop.i + 1) c.end_of-y.result) ×
    (c.if-second.p.1 ≡ chosen c.args.second c.end_of-y.result c.end_of-e.result) = elim c.if-second.branch [
      | then-second w ↦ rw (w.p-is, w.if-second.true) (refl, refl)
      | else-second w ↦ rw (w.p-is, w.if-second.false) (refl, refl)
    ] in
    taking_insert g (c.loop.invariant g) (omega (arith, c.loop-test.true)) _ c.end_of-y.ensures _ c.end_of-e.ensures part.0 part.1

pub loop-preserved : goal.loop-preserved
loop-preserved c = λ g.
    let part : (c.if-second.p.0 ≡ chosen c.args.second (c.loop.i + 1) c.end_of-y.result) ×
    (c.if-second.p.1 ≡ chosen c.args.second c.end_of-y.result c.end_of-e.result) = elim c.if-second.branch [
      | then-second w ↦ rw (w.p-is, w.if-second.true) (refl, refl)
      | else-second w ↦ rw (w.p-is, w.if-second.false) (refl, refl)
    ] in
    taking_next g (c.loop.invariant g) (omega (arith, c.loop-test.true)) _ c.end_of-y.ensures _ c.end_of-e.ensures part.0 part.1
    (omega (arith, c.loop-test.true)) _ _ c.insert-o.ensures

pub overflow_add-s : goal.overflow_add-s
overflow_add-s c = let g = c.requires in omega (arith, taking_near g (c.loop.invariant g))

pub returns : goal.returns
returns c =
    λ vs h p. let g : PartsPre _ _ _ = record { pairs = vs; whole = h; all = p; room = c.requires.room } in
    taking_end g (c.loop.invariant g) (omega (arith, c.loop-test.false))
