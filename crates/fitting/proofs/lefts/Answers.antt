-- `lefts`: the pairs that are left decide. The first of them is a pair; its left part shares a type with b, or does not.
use mathlib.Core.Bool.{true}
use mathlib.Core.Path.{sym, ◌∙◌}
use native.Mathlib.Omega.{arith}
use Rattle.rules.specs.Fits.{types_of, inhabited}
use Rattle.rules.proofs.Basics.{and_of}
use Rattle.fitting.proofs.Cells.{inside, some_at, run_whole, rest_first, rest_end, rest_no, rest_yes, rest_last}
use Rattle.fitting.proofs.Tests.{pairs_first, left_meets}
use Rattle.fitting.proofs.lefts.Goals as goal

pub loop-left-init : goal.loop-left-init
loop-left-init c = λ p. run_whole _ (p.values, p.run)

pub overflow_add-i : goal.overflow_add-i
overflow_add-i c =
    let t = c.loop-left.invariant c.requires in
    let first = pairs_first t.run (t.pairs c.requires.pairs) c.loop-left-test.true in
    omega (arith, inside first.left)

pub agree-requires : goal.agree-requires
agree-requires c =
    let t = c.loop-left.invariant c.requires in
    let first = pairs_first t.run (t.pairs c.requires.pairs) c.loop-left-test.true in
    record { first = first.left; second = c.requires.second }

pub returns-then-not-agree : goal.returns-then-not-agree
returns-then-not-agree c = λ p.
    let t = c.loop-left.invariant c.requires in
    let first = pairs_first t.run (t.pairs c.requires.pairs) c.loop-left-test.true in
    rest_no (c.loop-left.invariant p) c.loop-left-test.true (left_meets first p.second c.agree.ensures) c.if-not-agree.true

pub returns-then-left-eq0 : goal.returns-then-left-eq0
returns-then-left-eq0 c = λ p.
    let t = c.loop-left.invariant c.requires in
    let first = pairs_first t.run (t.pairs c.requires.pairs) c.loop-left-test.true in
    let g = left_meets first p.second c.agree.ensures in
    sym c.if-not-agree.false ∙ rest_last (c.loop-left.invariant p) c.loop-left-test.true g (omega (arith, c.if-left-eq0.true))

pub end_of-i-requires : goal.end_of-i-requires
end_of-i-requires c = some_at (rest_first (c.loop-left.invariant c.requires) c.loop-left-test.true)

pub loop-left-preserved : goal.loop-left-preserved
loop-left-preserved c = λ p.
    let t = c.loop-left.invariant c.requires in
    let first = pairs_first t.run (t.pairs c.requires.pairs) c.loop-left-test.true in
    let g = left_meets first p.second c.agree.ensures in
    rest_yes (c.loop-left.invariant p) c.loop-left-test.true g c.if-not-agree.false c.end_of-i.ensures

pub returns : goal.returns
returns c = λ p.
    rest_end (c.loop-left.invariant p) (omega (arith, c.loop-left-test.false)) (and_of (inhabited (types_of p.second.0)) true p.second.1.typed tt)
