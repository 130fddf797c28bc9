-- A value that stands in the arena: that its place tells it, the tag and the payload of its first cell, and where the parts of a
-- pair stand.
use Rattle.arena.proofs.Base.{ℕ, ◌+◌, ◌*◌, ◌/◌, ◌%◌, ◌<◌, List, ◌++◌, ◌≡◌, refl, sym, ◌∙◌, arith, length, get_or}
use Rattle.rules.specs.Values.{Value, scalar, pair, set, scalar_tag, tag, count, weight}
use Rattle.laws.proofs.CellsLaws.{weight_some}
use Rattle.arena.specs.Code.{cell_size, scalar_low, code, ValueAt, CellsFit, SomeAt, EndsAt, IsScalar, Flat}
use Rattle.arena.proofs.CodeLaws.{length_code, cell_parts, scalar_small, all_agree}
use Rattle.arena.proofs.Standing.{own_cell, stands_own, stands_tail, stands_front, stands_back}

-- Two values that stand at one place are the same.
pub value_eq : (s : List ℕ) (at : ℕ) (v w : Value) → ValueAt s at v → ValueAt s at w → CellsFit v → CellsFit w → v ≡ w
value_eq s at v w h k p q = all_agree v w p q (λ j l m. sym (h.cells j (omega (arith, length_code v))) ∙ k.cells j (omega (arith, length_code w)))

pub ends_at : (s : List ℕ) (at : ℕ) (v : Value) → ValueAt s at v → CellsFit v → EndsAt s at (at + weight v)
ends_at s at v h f w k q = let e : v ≡ w = value_eq s at v w h k f q in rw e

pub some_inside : (s : List ℕ) (at : ℕ) → SomeAt s at → at < length s
some_inside s at h = omega (arith, h.stands.inside, length_code h.value, weight_some h.value)

-- The tag and the payload of a value's own cell.
abbrev low : Value → ℕ
low (scalar x) = scalar_low x
low (pair v w) = 0
low (set vs) = count vs

own_parts : (v : Value) → CellsFit v → (own_cell v / cell_size ≡ tag v) × (own_cell v % cell_size ≡ low v)
own_parts (scalar x) f = cell_parts (scalar_tag x) (scalar_low x) (scalar_small x f).1
own_parts (pair v w) f = (omega arith, omega arith)
own_parts (set vs) f = cell_parts 5 (count vs) f.0

pub first_cell_law : (s : List ℕ) (at : ℕ) (v : Value) → ValueAt s at v → CellsFit v → (get_or s at 0 / cell_size ≡ tag v) × (get_or s at 0 % cell_size ≡ low v)
first_cell_law s at v h f = rw (stands_own s at v h) (own_parts v f)

-- A cell below that of a pair is a scalar's, a whole value.
pub scalar_cell_law : (s : List ℕ) (at : ℕ) (v : Value) → ValueAt s at v → CellsFit v → get_or s at 0 < 4 * cell_size → IsScalar v
scalar_cell_law s at (scalar x) h f l = tt
scalar_cell_law s at (pair a b) h f l = absurd (omega (arith, (first_cell_law s at (pair a b) h f).0))
scalar_cell_law s at (set vs) h f l = absurd (omega (arith, (first_cell_law s at (set vs) h f).0))

pub scalar_one : (v : Value) → IsScalar v → (weight v ≡ 1) × Flat v
scalar_one (scalar x) h = (refl, tt)
scalar_one (pair a b) h = absurd h
scalar_one (set vs) h = absurd h

pub one_cell : (s : List ℕ) (at : ℕ) → get_or s at 0 < 4 * cell_size → EndsAt s at (at + 1)
one_cell s at l v h f = omega (arith, (scalar_one v (scalar_cell_law s at v h f l)).0)

-- The parts of a pair stand behind its cell.
module _ (s : List ℕ) (at : ℕ) (v w : Value) (h : ValueAt s at (pair v w)) where
  pub left_stands : ValueAt s (at + 1) v
  unfolding code
  left_stands = stands_front s (at + 1) (code v) (code w) (stands_tail s at (4 * cell_size) (code v ++ code w) h)

  pub right_stands : ValueAt s (at + 1 + weight v) w
  unfolding code
  right_stands = rw (← length_code v) (stands_back s (at + 1) (code v) (code w) (stands_tail s at (4 * cell_size) (code v ++ code w) h))
