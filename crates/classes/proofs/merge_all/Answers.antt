-- The terms say what the equations before i say; the turn and the merging of what it leaves keep that up, or tell a clash.
use mathlib.Core.Path.{refl, ◌∙◌}
use native.Mathlib.Numerals.{add-one}
use Rattle.std.proofs.lemmas.Result.{err_from_is_err_and}
use Rattle.classes.proofs.Loops.{all_start, all_turnable, all_clash, all_mergeable, all_inside, all_next, all_long, all_end, clash_told}
use Rattle.classes.proofs.merge_all.Goals as goal

pub loop-i-init : goal.loop-i-init
loop-i-init c = (all_start c.args.equations.now c.requires.terms, refl, refl)

pub turn-requires : goal.turn-requires
turn-requires c = let i = c.loop-i.invariant in all_turnable c.requires i.0 c.loop-i-test.true (i.1, i.2)

pub returns-in_err-ok_or : goal.returns-in_err-ok_or
returns-in_err-ok_or c =
    let p = err_from_is_err_and c.from_residual.result c.from_residual.ensures.1 in
    rw (p.1, p.2, clash_told c.in_err-ok_or.ensures.ok_part c.in_err-ok_or.ensures.value)
    (all_clash c.args.equations.now c.loop-i.invariant.0 c.loop-i-test.true (rw c.in_err-ok_or.ensures.ok_part at c.turn.ensures))

pub merge_stack-requires : goal.merge_stack-requires
merge_stack-requires c =
    let i = c.loop-i.invariant in
    all_mergeable c.requires i.0 c.loop-i-test.true (i.1, i.2) (rw c.in_ok-ok_or.ensures.ok_part at c.turn.ensures)

pub returns-in_err-ok_or-2 : goal.returns-in_err-ok_or-2
returns-in_err-ok_or-2 c =
    let i = c.loop-i.invariant in
    let p = err_from_is_err_and c.from_residual-in_err-ok_or-2.result c.from_residual-in_err-ok_or-2.ensures.1 in
    rw (p.1, p.2, clash_told c.in_err-ok_or-2.ensures.ok_part c.in_err-ok_or-2.ensures.value)
    (all_inside c.requires i.0 c.loop-i-test.true (i.1, i.2) (rw c.in_ok-ok_or.ensures.ok_part at c.turn.ensures)
    (rw c.in_err-ok_or-2.ensures.ok_part at c.merge_stack.ensures))

pub loop-i-preserved : goal.loop-i-preserved
loop-i-preserved c =
    let i = c.loop-i.invariant in
    let t = rw c.in_ok-ok_or.ensures.ok_part at c.turn.ensures in
    let m = rw c.in_ok-ok_or-2.ensures.ok_part at c.merge_stack.ensures in (
      rw add-one (all_next c.requires i.0 c.loop-i-test.true (i.1, i.2) t m.0),
      m.1,
      m.2 ∙ all_long c.requires i.0 c.loop-i-test.true (i.1, i.2) t,
    )

pub returns : goal.returns
returns c = all_end c.args.equations.now c.loop-i.invariant.0 c.loop-i.auto.i-end c.loop-i-test.false
