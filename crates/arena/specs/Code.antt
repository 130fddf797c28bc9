-- Values as runs of cells in the arena. A cell is its tag times 2^32 and its payload, numbers in excess form, so that the
-- order of cells as numbers is the order of document 01 by tag and then payload.
use Prim.Native.Nat.{ℕ, ◌+◌, ◌*◌, ◌-◌, ◌/◌, ◌%◌, ◌≤◌, ◌<◌, Ordering}
use Rattle.std.specs.Prelude.{Bool, true, false, cond, List, [], ◌∷◌, ◌++◌, Option, Some, None, ◌≡◌, T, eqb, ℤ, pos, negsuc, length, get_or}
use Rattle.std.specs.declared.cmp.Ordering.{Ordering as RustOrdering}
use Rattle.std.specs.declared.cmp.Ordering.TheVariants.{Less, Equal, Greater}
use Rattle.std.specs.Int.Signed.{mag}
use Rattle.rules.specs.Cells.{precedes}
use Rattle.rules.specs.Values.{Scalar, num, truth, element, Value, scalar, pair, set, Values, none, ◌▸◌, scalar_tag, bit, count, weight, weights, order}
use Rattle.rules.specs.Values.{same, ◌then◌}
use Rattle.arena.specs.declared.Rows.{Rows}

abbrev pub cell_size : ℕ
cell_size = 4294967296

-- A number of signed 32 bits as a number from 0 to 2^32 − 1, in the same order.
unfoldable pub excess : ℤ → ℕ
excess (pos n) = 2147483648 + n
excess (negsuc n) = 2147483647 - n

abbrev pub scalar_low : Scalar → ℕ
scalar_low (num n i) = excess i
scalar_low (truth b) = bit b
scalar_low (element g k) = 256 * g + k

-- The code of a value: a cell for itself, then those of its parts or members.
unfoldable mutual
  unfolding excess

  pub code : Value → List ℕ
  code (scalar s) = (scalar_tag s * cell_size + scalar_low s) ∷ []
  code (pair v w) = (4 * cell_size) ∷ (code v ++ code w)
  code (set s) = (5 * cell_size + count s) ∷ codes s

  pub codes : Values → List ℕ
  codes none = []
  codes (v ▸ vs) = code v ++ codes vs

-- The cells xs stand in the arena s from `at` on.
pub record Stands (s : List ℕ) (at : ℕ) (xs : List ℕ) : Type 0 where
  pub inside : at + length xs ≤ length s
  pub cells : (i : ℕ) → i < length xs → get_or s (at + i) 0 ≡ get_or xs i 0

-- A value stands in the arena from `at` on.
abbrev pub ValueAt : List ℕ → ℕ → Value → Type 0
ValueAt s at v = Stands s at (code v)

-- Values stand one after the other.
abbrev pub ValuesAt : List ℕ → ℕ → Values → Type 0
ValuesAt s at vs = Stands s at (codes vs)

-- Two arenas are the same below `top`.
pub record Same (top : ℕ) (s s' : List ℕ) : Type 0 where
  pub same : (i : ℕ) → i < top → get_or s' i 0 ≡ get_or s i 0
  pub kept : length s' ≡ length s

-- The cells of a value fit the arena: numbers of signed 32 bits, payloads below 2^32, elements with k below 256.
abbrev pub ScalarFits : Scalar → Type 0
ScalarFits (num n i) = (excess i < cell_size) × (mag i ≤ 2147483647)
ScalarFits (truth b) = Unit {0}
ScalarFits (element g k) = (k < 256) × (256 * g + k < cell_size)

abbrev mutual
  pub CellsFit : Value → Type 0
  CellsFit (scalar s) = ScalarFits s
  CellsFit (pair v w) = CellsFit v × CellsFit w
  CellsFit (set s) = (count s < cell_size) × AllFit s

  pub AllFit : Values → Type 0
  AllFit none = Unit {0}
  AllFit (v ▸ vs) = CellsFit v × AllFit vs

-- The order of two values as the functions answer it.
abbrev pub ordering_of : Ordering → RustOrdering
ordering_of Ordering.lt = Less
ordering_of Ordering.eq = Equal
ordering_of Ordering.gt = Greater

-- Some value that fits stands at `at`.
pub record SomeAt (s : List ℕ) (at : ℕ) : Type 0 where
  pub value : Value
  pub stands : ValueAt s at value
  pub fits : CellsFit value

-- r is where the value at `at` ends.
abbrev pub EndsAt : List ℕ → ℕ → ℕ → Type 0
EndsAt s at r = (v : Value) → ValueAt s at v → CellsFit v → r ≡ at + weight v

-- r is the order of the values at a and b.
abbrev pub Compared : List ℕ → ℕ → ℕ → RustOrdering → Type 0
Compared s a b r = (v w : Value) → ValueAt s a v → ValueAt s b w → CellsFit v → CellsFit w → r ≡ ordering_of (order v w)

-- r says whether they are the same.
abbrev pub SameAt : List ℕ → ℕ → ℕ → Bool → Type 0
SameAt s a b r = (v w : Value) → ValueAt s a v → ValueAt s b w → CellsFit v → CellsFit w → r ≡ same v w

-- The order o of some values, and p of the next: the first difference decides, or (last) the last one.
abbrev pub then_next : Bool → Ordering → Ordering → Ordering
then_next false o p = o then p
then_next true o p = p then o

-- So as the functions answer orders.
abbrev pub ThenNext : Bool → RustOrdering → RustOrdering → RustOrdering → Type 0
ThenNext last m n r = (o p : Ordering) → m ≡ ordering_of o → n ≡ ordering_of p → r ≡ ordering_of (then_next last o p)

-- The order of two rows of as many values, from left to right: that of the first that differ, or (last) of the last.
unfoldable pub row_order : Bool → Values → Values → Ordering
unfolding order
row_order last none ws = Ordering.eq
row_order last (v ▸ vs) ws = elim ws [ none ↦ Ordering.eq | w ▸ ws' ↦ (let o = row_order last vs ws' in then_next last (order v w) o) ]

-- n values that fit stand one behind the other from `at` on.
pub record RowAt (s : List ℕ) (at n : ℕ) (vs : Values) : Type 0 where
  pub stands : ValuesAt s at vs
  pub fit : AllFit vs
  pub counted : count vs ≡ n

abbrev pub SomeRow : List ℕ → ℕ → ℕ → Type 0
SomeRow s at n = (vs : Values) × RowAt s at n vs

-- Of two rows that are compared from left to right, vs from i on and ws from j on are left, up to e and f; m is the order of those that have
-- been passed, and with the order of those that are left it gives that of the whole.
pub record RowsLeft (s : List ℕ) (i j n : ℕ) (last : Bool) (m : RustOrdering) (whole : Ordering) (e f : ℕ) (vs ws : Values) : Type 0 where
  pub passed : Ordering
  pub known : m ≡ ordering_of passed
  pub first : RowAt s i n vs
  pub second : RowAt s j n ws
  pub first_end : i + weights vs ≡ e
  pub second_end : j + weights ws ≡ f
  pub decides : then_next last passed (row_order last vs ws) ≡ whole

abbrev pub SomeLeft : List ℕ → ℕ → ℕ → ℕ → Bool → RustOrdering → Ordering → ℕ → ℕ → Type 0
SomeLeft s i j n last m whole e f = (vs : Values) × (ws : Values) × RowsLeft s i j n last m whole e f vs ws

-- n values from a on and n from b on have been compared as far as r says.
pub record RowsBegun (s : List ℕ) (a b n : ℕ) (last : Bool) (r : Rows) : Type 0 where
  pub behind : a ≤ r.a
  pub few : r.a ≤ a + n
  pub left : (vs ws : Values) → RowAt s a n vs → RowAt s b n ws →
      SomeLeft s r.a r.b (n - (r.a - a)) last r.order (row_order last vs ws) (a + weights vs) (b + weights ws)

-- r has the order o, and where m cells from a on and n from b on end.
pub record OrderAndEnds (a b : ℕ) (o : Ordering) (m n : ℕ) (r : Rows) : Type 0 where
  pub order : r.order ≡ ordering_of o
  pub first : r.a ≡ a + m
  pub second : r.b ≡ b + n

-- The values at a and b have been compared.
abbrev pub ValuesCompared : List ℕ → ℕ → ℕ → Rows → Type 0
ValuesCompared s a b r =
    (v w : Value) → ValueAt s a v → ValueAt s b w → CellsFit v → CellsFit w → OrderAndEnds a b (order v w) (weight v) (weight w) r

-- So n values from a on and n from b on.
abbrev pub RowsCompared : List ℕ → ℕ → ℕ → ℕ → Bool → Rows → Type 0
RowsCompared s a b n last r =
    (vs ws : Values) → RowAt s a n vs → RowAt s b n ws → OrderAndEnds a b (row_order last vs ws) (weights vs) (weights ws) r

-- n cells from `from` on have been copied to `to`, and nothing else is changed.
pub record Copied (s : List ℕ) (from n to : ℕ) (s' : List ℕ) : Type 0 where
  pub there : (i : ℕ) → i < n → get_or s' (to + i) 0 ≡ get_or s (from + i) 0
  pub before : (i : ℕ) → i < to → get_or s' i 0 ≡ get_or s i 0
  pub after : (i : ℕ) → to + n ≤ i → get_or s' i 0 ≡ get_or s i 0
  pub kept : length s' ≡ length s

-- A run from `from` to `end`, and room for it from `to` on.
pub record CopyIfReady (s : List ℕ) (from end to : ℕ) : Type 0 where
  pub forward : from ≤ end
  pub inside : end ≤ length s
  pub room : to + (end - from) ≤ length s

-- The run from `from` to `end` has been copied to `to`, if it is kept, and ends at r; below `to` nothing is changed.
pub record CopiedIf (s : List ℕ) (from end : ℕ) (keep : Bool) (to : ℕ) (s' : List ℕ) (r : ℕ) : Type 0 where
  pub frame : Same to s s'
  pub kept : keep ≡ true → Copied s from (end - from) to s'
  pub left : keep ≡ false → s' ≡ s
  pub ends : r ≡ to + cond keep (end - from) 0

-- How many values follow a cell as its parts or members, by its tag.
abbrev pub parts_of : ℕ → ℕ
parts_of c = cond (eqb (c / 4294967296) 4) 2 (cond (eqb (c / 4294967296) 5) (c % 4294967296) 0)

-- The members of a set rise.
abbrev pub Rises : Values → Type 0
Rises none = Unit {0}
Rises (v ▸ vs) = T (precedes v vs) × Rises vs

-- A scalar, or a pair of two scalars.
abbrev pub IsScalar : Value → Type 0
IsScalar (scalar x) = Unit {0}
IsScalar (pair v w) = ⊥
IsScalar (set vs) = ⊥

abbrev pub Flat : Value → Type 0
Flat (scalar x) = Unit {0}
Flat (pair v w) = IsScalar v × IsScalar w
Flat (set vs) = ⊥

-- Each of the values weighs n.
abbrev pub AllWeigh : ℕ → Values → Type 0
AllWeigh n none = Unit {0}
AllWeigh n (v ▸ vs) = (weight v ≡ n) × AllWeigh n vs

-- What the members' type tells of their weight: where the first is flat, all weigh the same.
abbrev pub EvenSet : Values → Type 0
EvenSet none = Unit {0}
EvenSet (v ▸ vs) = Flat v → AllWeigh (weight v) vs

-- A set that evaluation may have formed: its cells fit, it weighs at most 256, its members rise and share a type.
pub record FineSet (vs : Values) : Type 0 where
  pub fits : CellsFit (set vs)
  pub light : weight (set vs) ≤ 256
  pub rises : Rises vs
  pub even : EvenSet vs

-- Such a set stands at `at`, below `top`.
pub record SetBelow (s : List ℕ) (top at : ℕ) (vs : Values) : Type 0 where
  pub stands : ValueAt s at (set vs)
  pub below : at + weight (set vs) ≤ top
  pub fine : FineSet vs

abbrev pub SomeSet : List ℕ → ℕ → ℕ → Type 0
SomeSet s top at = (vs : Values) × SetBelow s top at vs

abbrev pub SetAt : List ℕ → ℕ → Type 0
SetAt s at = (top : ℕ) × SomeSet s top at

-- A value that fits and weighs at most 256 stands at `at`, below `top`.
pub record ValueBelow (s : List ℕ) (top at : ℕ) (v : Value) : Type 0 where
  pub stands : ValueAt s at v
  pub below : at + weight v ≤ top
  pub fits : CellsFit v
  pub light : weight v ≤ 256

abbrev pub SomeValue : List ℕ → ℕ → ℕ → Type 0
SomeValue s top at = (v : Value) × ValueBelow s top at v

-- An operation that gives v has built it at `top` and answers where it ends, or None where v weighs over 256;
-- below `top` nothing is changed.
pub record Made (top : ℕ) (s s' : List ℕ) (v : Value) (r : Option ℕ) : Type 0 where
  pub frame : Same top s s'
  pub light : weight v ≤ 256 → (r ≡ Some (top + weight v)) × ValueAt s' top v
  pub heavy : 256 < weight v → r ≡ None

-- n members of a set, rising, those that are left of it, stand from `at` on, below `top`.
pub record Front (s : List ℕ) (top at n : ℕ) (vs : Values) : Type 0 where
  pub stands : ValuesAt s at vs
  pub counted : n ≡ count vs
  pub below : at + weights vs ≤ top
  pub fits : AllFit vs
  pub rises : Rises vs
  pub light : weights vs ≤ 255

-- Relations: all members are pairs.
abbrev pub IsPair : Value → Type 0
IsPair (scalar x) = ⊥
IsPair (pair a b) = Unit {0}
IsPair (set vs) = ⊥

abbrev pub AllPairs : Values → Type 0
AllPairs none = Unit {0}
AllPairs (v ▸ vs) = IsPair v × AllPairs vs

-- A set of pairs stands at `at`, below `top`.
abbrev pub SomeRelation : List ℕ → ℕ → ℕ → Type 0
SomeRelation s top at = (vs : Values) × SetBelow s top at vs × AllPairs vs
