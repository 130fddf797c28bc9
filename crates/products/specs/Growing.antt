-- Values built in the arena cell by cell, and what each function has built.
use Rattle.std.specs.Prelude.{ℕ, zero, suc, ◌+◌, ◌*◌, ◌≤◌, List, [], ◌∷◌, ◌++◌, map, Option, Some, ◌≡◌, ℤ, pos, ◌+ℤ◌, ◌-ℤ◌, length}
use Rattle.rules.specs.Values.{Value, pair, set, Values, int, members, values, count, weight, weights}
use Rattle.rules.specs.Operations.{set_of, up_from, to_count, pairs_of}
use Rattle.arena.specs.Code.{excess, code, codes, Stands, ValueAt, Same, CellsFit, SetBelow, ValueBelow, Made, Front}
use Rattle.products.specs.declared.Size.{Size}

-- The cells cs have been written from `to` to r; below `to` nothing is changed.
pub record Appended (s : List ℕ) (to : ℕ) (s' : List ℕ) (r : ℕ) (cs : List ℕ) : Type 0 where
  pub frame : Same to s s'
  pub stands : Stands s' to cs
  pub ends : r ≡ to + length cs

-- Of the cells `whole`, those before `rest` have been written from `to` to r.
pub record Grown (s : List ℕ) (to : ℕ) (s' : List ℕ) (r : ℕ) (whole rest : List ℕ) : Type 0 where
  pub done : List ℕ
  pub appended : Appended s to s' r done
  pub all : whole ≡ done ++ rest

-- A value of one cell.
abbrev pub PutsCell : List ℕ → ℕ → ℕ → List ℕ → ℕ → Type 0
PutsCell s top cell s' r = (v : Value) → code v ≡ cell ∷ [] → Made top s s' v (Some r)

-- n cells that follow one another as numbers, from c on.
unfoldable pub cells_from : ℕ → ℕ → List ℕ
cells_from c zero = []
cells_from c (suc n) = c ∷ cells_from (suc c) n

pub record RunPre (s : List ℕ) (cell n top : ℕ) : Type 0 where
  pub room : top + 1 + n ≤ length s
  pub few : n ≤ 255
  pub fits : cell ≤ 30000000000

-- The set of n scalars with these cells.
abbrev pub PutsRun : List ℕ → ℕ → ℕ → ℕ → List ℕ → ℕ → Type 0
PutsRun s cell n top s' r = (vs : Values) → count vs ≡ n → codes vs ≡ cells_from cell n → Made top s s' (set vs) (Some r)

abbrev pub Singles : List ℕ → ℕ → ℕ → List ℕ → Option ℕ → Type 0
Singles s a top s' r = (v : Value) → ValueBelow s top a v → Made top s s' (set_of (v ∷ [])) r

abbrev pub PutsPair : List ℕ → ℕ → ℕ → ℕ → List ℕ → Option ℕ → Type 0
PutsPair s a b top s' r = (v w : Value) → ValueBelow s top a v → ValueBelow s top b w → Made top s s' (pair v w) r

-- The pair of a value of n cells at a and one of m cells at b, written at `to`.
pub record PairPre (s : List ℕ) (a n b m to : ℕ) : Type 0 where
  pub left : a + n ≤ to
  pub right : b + m ≤ to
  pub room : to + 1 + n + m ≤ length s

abbrev pub PairPut : List ℕ → ℕ → ℕ → ℕ → ℕ → ℕ → List ℕ → ℕ → Type 0
PairPut s a n b m to s' r = (v w : Value) → ValueAt s a v → ValueAt s b w → n ≡ weight v → m ≡ weight w → Appended s to s' r (code (pair v w))

abbrev pub Intervals : List ℕ → ℕ → ℕ → ℕ → List ℕ → Option ℕ → Type 0
Intervals s x y top s' r =
    (i j : ℤ) → CellsFit (int i) → CellsFit (int j) → excess i ≡ x → excess j ≡ y → Made top s s' (set_of (up_from i (to_count (j -ℤ i +ℤ pos 1)))) r

-- The pairs of the value of k cells at v with each of m members from b on, written at `to`.
abbrev pub pairs_with : Value → Values → Values
pairs_with x ws = values (map (pair x) (members ws))

pub record RowPre (s : List ℕ) (v k b m to : ℕ) : Type 0 where
  pub top : ℕ
  pub first : Value
  pub others : Values
  pub value : ValueBelow s top v first
  pub weighs : k ≡ weight first
  pub front : Front s top b m others
  pub behind : top ≤ to
  pub room : to + weights (pairs_with first others) ≤ length s

abbrev pub Rows : List ℕ → ℕ → ℕ → ℕ → ℕ → ℕ → List ℕ → ℕ → Type 0
Rows s v k b m to s' r = (g : RowPre s v k b m to) → Appended s to s' r (codes (pairs_with g.first g.others))

-- The pairs of n members from a on with m members from b on, written at `to`.
abbrev pub square : Values → Values → Values
square vs ws = values (pairs_of (members vs) (members ws))

pub record SquarePre (s : List ℕ) (a n b m to : ℕ) : Type 0 where
  pub top : ℕ
  pub lefts : Values
  pub rights : Values
  pub front : Front s top a n lefts
  pub others : Front s top b m rights
  pub behind : top ≤ to
  pub room : to + weights (square lefts rights) ≤ length s

abbrev pub Squares : List ℕ → ℕ → ℕ → ℕ → ℕ → ℕ → List ℕ → ℕ → Type 0
Squares s a n b m to s' r = (g : SquarePre s a n b m to) → Appended s to s' r (codes (square g.lefts g.rights))

-- How many members and cells a set has.
pub record FewCells (x : Size) : Type 0 where
  pub members : x.members ≤ 255
  pub cells : x.cells ≤ 255

pub record SizeIs (s : List ℕ) (a : ℕ) (x : Size) : Type 0 where
  pub few : FewCells x
  pub front : (top : ℕ) (vs : Values) → SetBelow s top a vs → Front s top (a + 1) x.members vs
  pub cells : (top : ℕ) (vs : Values) → SetBelow s top a vs → x.cells ≡ weights vs

-- The products of such numbers are small.
pub record SmallProducts (x y : Size) : Type 0 where
  pub pairs : x.members * y.members ≤ 65025
  pub firsts : y.members * x.cells ≤ 65025
  pub seconds : x.members * y.cells ≤ 65025

abbrev pub product_weight : Size → Size → ℕ
product_weight x y = 1 + x.members * y.members + y.members * x.cells + x.members * y.cells

abbrev pub Multiplies : List ℕ → ℕ → ℕ → ℕ → List ℕ → Option ℕ → Type 0
Multiplies s a b top s' r =
    (vs ws : Values) → SetBelow s top a vs → SetBelow s top b ws → Made top s s' (set_of (pairs_of (members vs) (members ws))) r
