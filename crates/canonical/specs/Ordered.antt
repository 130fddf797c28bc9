-- Members that rise, in every set of a value.
use Rattle.std.specs.Prelude.{ℕ, Bool, true, ◌&&◌, List}
use Rattle.rules.specs.Values.{Value, scalar, pair, set, Values, none, ◌▸◌}
use Rattle.rules.specs.Cells.{precedes}
use Rattle.arena.specs.Code.{SomeAt, EndsAt}

-- The members of a set rise.
abbrev pub in_order : Values → Bool
in_order none = true
in_order (v ▸ vs) = precedes v vs && in_order vs

-- Those of every set inside a value.
abbrev mutual
  pub ordered : Value → Bool
  ordered (scalar s) = true
  ordered (pair v w) = ordered v && ordered w
  ordered (set s) = in_order s && ordered_all s

  pub ordered_all : Values → Bool
  ordered_all none = true
  ordered_all (v ▸ vs) = ordered v && ordered_all vs

-- A value stands from `at` to `end`.
pub record WholeValue (s : List ℕ) (at end : ℕ) : Type 0 where
  pub value : SomeAt s at
  pub ends : EndsAt s at end
