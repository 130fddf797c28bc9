-- `few`: a scalar has one type only, and so has any value without an empty set.
use mathlib.Core.Logic.{inr}
use mathlib.Core.Path.{refl, sym, ◌∙◌}
use native.Mathlib.Omega.{arith}
use Rattle.fitting.proofs.Cells.{inside, end_is, end_bounds, full_value, scalar_full}
use Rattle.fitting.proofs.few.Goals as goal
use Rattle.fitting.proofs.few.Goals.{then-s-at-lt-PAIR, else-s-at-lt-PAIR}

pub bounds-s-at : goal.bounds-s-at
bounds-s-at c = inside (c.requires c.if-n-gt0.true)

pub full-requires : goal.full-requires
full-requires c = let b = end_bounds (c.requires c.if-n-gt0.true) c.end_of.ensures in (omega (arith, b.0), b.1)

pub returns-then-full : goal.returns-then-full
returns-then-full c = elim c.if-s-at-lt-PAIR.branch [
  | then-s-at-lt-PAIR w ↦ inr (refl, c.if-n-gt0.true, scalar_full _ _ w.if-s-at-lt-PAIR.true)
  | else-s-at-lt-PAIR w ↦
      let no_empty = w.full.ensures.sound (sym w.value-is ∙ c.if-full.true) in
      inr (refl, c.if-n-gt0.true, λ v h. full_value v _ _ h.stands (rw (end_is w.end_of.ensures h) at no_empty))
]
