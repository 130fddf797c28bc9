-- Members that rise and share a type, in every set of a value.
use Rattle.std.specs.Prelude.{ℕ, ◌+◌, ◌*◌, ◌-◌, ◌/◌, ◌%◌, ◌<◌, Bool, ◌&&◌, cond, List, ◌≡◌, T, eqb, ltb, leb, get_or}
use Rattle.rules.specs.Values.{Value, Values, none, ◌▸◌, count}
use Rattle.rules.specs.Fits.{types_of, shared_types, inhabited, typed}
use Rattle.arena.specs.Code.{ValueAt, ValuesAt, CellsFit, AllFit}
use Rattle.canonical.specs.Ordered.{in_order, ordered}

-- P holds of each value.
abbrev pub AllOf : (Value → Type 0) → Values → Type 0
AllOf P none = Unit {0}
AllOf P (v ▸ vs) = P v × AllOf P vs

-- Each value has a type.
abbrev pub AllTyped : Values → Type 0
AllTyped vs = AllOf (λ v. T (inhabited (types_of v))) vs

-- n values that have types stand from `at` on.
pub record TypedRow (s : List ℕ) (at n : ℕ) (vs : Values) : Type 0 where
  pub stands : ValuesAt s at vs
  pub fits : AllFit vs
  pub counted : n ≡ count vs
  pub typed : AllTyped vs

abbrev pub SomeTypedRow : List ℕ → ℕ → ℕ → Type 0
SomeTypedRow s at n = (vs : Values) × TypedRow s at n vs

-- The least and the greatest cell of a scalar that shares a type with the scalar of the cell x.
abbrev pub least_alike : ℕ → ℕ
least_alike x = cond (eqb (x / 4294967296) 3) (x / 256 * 256) (x / 4294967296 * 4294967296)

abbrev pub most_alike : ℕ → ℕ
most_alike x = cond (eqb (x / 4294967296) 3) (x / 256 * 256 + 255) (x / 4294967296 * 4294967296 + 4294967295)

-- The cells of a pair of two scalars stand at `at`.
pub record ScalarPair (s : List ℕ) (at : ℕ) : Type 0 where
  pub head : get_or s at 0 ≡ 17179869184
  pub left : get_or s (at + 1) 0 < 17179869184
  pub right : get_or s (at + 2) 0 < 17179869184

-- The pair of the scalars of the cells a and b is before that of c and d.
abbrev pub pair_before : ℕ → ℕ → ℕ → ℕ → Bool
pair_before a b c d = cond (eqb a c) (ltb b d) (ltb a c)

-- Values rise and share a type, as the members of a set do; r says whether n values that have types do.
abbrev pub fine_members : Values → Bool
fine_members vs = in_order vs && inhabited (shared_types vs)

abbrev pub MembersFine : List ℕ → ℕ → ℕ → Bool → Type 0
MembersFine s at n r = (vs : Values) → TypedRow s at n vs → r ≡ fine_members vs

-- A value of n cells, the first of which is x, is a set with as many members as cells behind the first, so one cell each.
abbrev pub is_flat : ℕ → ℕ → Bool
is_flat x n = leb 21474836480 x && eqb (x % 4294967296 + 1) n

-- Where the cells of sets that are to be tested end in a value from `at` to `end`, whose first cell is x.
abbrev pub sets_end : ℕ → ℕ → ℕ → ℕ
sets_end x at end = cond (is_flat x (end - at)) (at + 1) end

-- r says whether the sets in the value at `at` are in order and it has a type.
abbrev pub Fine : List ℕ → ℕ → Bool → Type 0
Fine s at r = (v : Value) → ValueAt s at v → CellsFit v → r ≡ (ordered v && typed v)
