-- `of_flat_pairs`: an empty relation has no pairs; where both parts of the first pair are scalars, all pairs weigh three cells.
use Rattle.sets.proofs.Base.{sym, ◌∙◌, ltb-true, ◌+◌, ◌<◌, arith, length}
use Rattle.functions.proofs.ImageLaws.{no_pairs, flat_pairs, pair_inside}
use Rattle.functions.proofs.of_flat_pairs.Goals as goal

pub returns-then-low-eq0 : goal.returns-then-low-eq0
returns-then-low-eq0 c = λ e top vs h p. no_pairs h p (sym c.low.ensures.0 ∙ c.if-low-eq0.true)

pub bounds-s-f-2 : goal.bounds-s-f-2
bounds-s-f-2 c =
    let inside : c.args.f + 3 < length c.args.s.now = let q = c.requires in pair_inside q.1 q.2 (λ e. c.if-low-eq0.false (c.low.ensures.0 ∙ e)) in
    omega (arith, inside)

pub bounds-s-f-then-s-f-lt-PAIR : goal.bounds-s-f-then-s-f-lt-PAIR
bounds-s-f-then-s-f-lt-PAIR c =
    let inside : c.args.f + 3 < length c.args.s.now = let q = c.requires in pair_inside q.1 q.2 (λ e. c.if-low-eq0.false (c.low.ensures.0 ∙ e)) in
    inside

pub returns-then-s-f-lt-PAIR : goal.returns-then-s-f-lt-PAIR
returns-then-s-f-lt-PAIR c = λ e top vs h p. flat_pairs h p (λ z. c.if-low-eq0.false (c.low.ensures.0 ∙ z)) c.if-s-f-lt-PAIR.true (ltb-true _ _ e)
