-- The classes on the stack wait, and what was marked where the loop began still is; each turn goes on.
use Rattle.deciding.proofs.Turns.{visit_first}
use Rattle.deciding.proofs.visit.Goals as goal

pub loop-c-init : goal.loop-c-init
loop-c-init c =
    let p = c.requires in
    let s = c.push.ensures.1 in (
      rw (c.push.ensures.0, s.words, s.height, p.stack_room.0) (visit_first p.flat_terms.1 p.visit_next c.args.stack.now.words.now p.stack_room.1),
      (λ u h x. x),
    )
