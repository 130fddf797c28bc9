-- `is_row`: a byte that may not stand in its place, or types that are still to be read at the end, leave no type.
use Prim.Native.Nat.{ℕ, ◌+◌, ◌*◌, ◌-◌}
use mathlib.Core.Path.{◌≡◌, sym, ap, ◌∙◌}
use lib.ListN.{take, drop}
use native.Mathlib.Omega.{arith}
use borrow.Author.Tests.{eqb-true, eq-eqb}
use Rattle.fitting.proofs.Types.{refuses}
use Rattle.conforms.proofs.RowLaws.{begun_start, begun_stops, begun_step, begun_end}
use Rattle.conforms.proofs.is_row.Goals as goal

pub loop-c-init : goal.loop-c-init
loop-c-init c =
    let e : 64 * c.args.p + 64 - 64 * c.args.p ≡ 64 = omega arith in
    begun_start (ap (λ (n : ℕ). take n (drop (64 * c.args.p) c.args.sheet.now)) e)

pub returns-then-not-goes_on : goal.returns-then-not-goes_on
returns-then-not-goes_on c =
    refuses (begun_stops c.loop-c.invariant c.loop-c-test.true (sym c.goes_on.ensures ∙ c.if-not-goes_on.true))

pub left_behind-left-requires : goal.left_behind-left-requires
left_behind-left-requires c =
    omega (arith, c.loop-c.invariant.few, c.loop-c-test.true)

pub loop-c-preserved : goal.loop-c-preserved
loop-c-preserved c =
    begun_step c.loop-c.invariant c.loop-c-test.true (sym c.goes_on.ensures ∙ c.if-not-goes_on.false) c.left_behind-left.ensures

pub returns : goal.returns
returns c =
    let e = begun_end c.loop-c.invariant c.loop-c-test.false in
    record { sound = λ h. e.1 (sym (eqb-true _ 0 h)); complete = λ x. eq-eqb _ 0 (sym (e.0 x)) }
