-- `members_fine`: no members are fine; scalars and pairs of scalars go by their cells, other members value by value.
use native.Mathlib.Omega.{arith}
use Rattle.fitting.specs.Agree.{SomeTyped}
use Rattle.fitting.proofs.Cells.{inside}
use Rattle.canonical.proofs.Members.{some_first, none_fine}
use Rattle.canonical.proofs.members_fine.Goals as goal

pub returns-then-n-eq0 : goal.returns-then-n-eq0
returns-then-n-eq0 c = λ vs r. none_fine vs (omega (arith, c.if-n-eq0.true, r.counted))

pub bounds-s-at : goal.bounds-s-at
bounds-s-at c =
    let first : SomeTyped c.args.s.now c.args.at = some_first c.requires (omega (arith, c.if-n-eq0.false)) in
    inside first

pub scalar_pair-requires : goal.scalar_pair-requires
scalar_pair-requires c =
    let first : SomeTyped c.args.s.now c.args.at = some_first c.requires (omega (arith, c.if-n-eq0.false)) in
    first
