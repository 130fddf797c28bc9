-- The terms and the stack say what they said at the start; each turn lowers twice the count of classes and the height.
use mathlib.Core.Path.{refl, ap, ◌∙◌}
use native.Mathlib.Omega.{arith}
use lib.ListN.{length}
use Rattle.classes.proofs.Loops.{stack_end, loop_start, loop_turnable, loop_clash, loop_next, loop_falls}
use Rattle.classes.proofs.merge_stack.Goals as goal

pub loop-e-init : goal.loop-e-init
loop-e-init c = (loop_start c.requires, refl)

pub turn-requires : goal.turn-requires
turn-requires c =
    let s = c.in-Some.ensures in rw (s.rest.words, s.rest.height) (loop_turnable c.loop-e.invariant.0 s.top)

pub loop-e-preserved : goal.loop-e-preserved
loop-e-preserved c =
    let s = c.in-Some.ensures in
    let t = rw (s.rest.words, s.rest.height) at c.in_ok-turn.ensures in
    (loop_next c.loop-e.invariant.0 s.top t, t.long ∙ c.loop-e.invariant.1)

pub loop-e-smaller : goal.loop-e-smaller
loop-e-smaller c =
    let s = c.in-Some.ensures in
    let t = rw (s.rest.words, s.rest.height) at c.in_ok-turn.ensures in
    loop_falls c.loop-e.invariant.0 s.top t

pub returns-in_err-turn : goal.returns-in_err-turn
returns-in_err-turn c =
    let s = c.in-Some.ensures in
    rw c.from_residual.ensures (loop_clash c.loop-e.invariant.0 s.top c.in_err-turn.ensures)

pub returns : goal.returns
returns c =
    let i = c.loop-e.invariant in
    let s = c.in_default.ensures in (
      stack_end i.0.says s.top,
      omega (arith, s.rest.height, s.top),
      ap length s.rest.words ∙ i.1,
    )
