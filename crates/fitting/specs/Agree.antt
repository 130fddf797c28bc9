-- Values of the arena that share a type. Every value that is formed or read has a type, so the contracts speak of values
-- that have one.
use Rattle.std.specs.Prelude.{ℕ, ◌+◌, ◌/◌, ◌≤◌, ◌<◌, Bool, cond, List, ◌≢◌, ◌⊎◌, ◌≡◌, T, eqb, get_or}
use Rattle.rules.specs.Values.{Value, scalar, pair, set, Values, none, ◌▸◌, count}
use Rattle.rules.specs.Fits.{TypeSet, ◌⊓◌, types_of, shared_types, inhabited}
use Rattle.arena.specs.Code.{ValueAt, ValuesAt, CellsFit, AllFit}

-- Two sets of types have one in common.
unfoldable pub meets : TypeSet → TypeSet → Bool
meets p q = inhabited (p ⊓ q)

-- Two values share a type.
unfoldable pub agree : Value → Value → Bool
unfolding meets
agree v w = meets (types_of v) (types_of w)

-- A value that fits and has a type stands at `at`.
pub record TypedAt (s : List ℕ) (at : ℕ) (v : Value) : Type 0 where
  pub stands : ValueAt s at v
  pub fits : CellsFit v
  pub typed : T (inhabited (types_of v))

-- n values that fit and share a type stand from `at` on.
pub record RunAt (s : List ℕ) (at n : ℕ) (vs : Values) : Type 0 where
  pub stands : ValuesAt s at vs
  pub fits : AllFit vs
  pub typed : T (inhabited (shared_types vs))
  pub counted : count vs ≡ n

abbrev pub SomeTyped : List ℕ → ℕ → Type 0
SomeTyped s at = (v : Value) × TypedAt s at v

abbrev pub SomeRun : List ℕ → ℕ → ℕ → Type 0
SomeRun s at n = (vs : Values) × RunAt s at n vs

-- r says whether the values at a and b share a type.
abbrev pub Agreed : List ℕ → ℕ → ℕ → Bool → Type 0
Agreed s a b r = (v w : Value) → TypedAt s a v → TypedAt s b w → r ≡ agree v w

-- r says whether the value at a shares a type with the m values from b on.
abbrev pub AgreedWith : List ℕ → ℕ → ℕ → ℕ → Bool → Type 0
AgreedWith s a b m r = (v : Value) (ws : Values) → TypedAt s a v → RunAt s b m ws → r ≡ meets (types_of v) (shared_types ws)

abbrev pub empty_cell : ℕ
empty_cell = 21474836480

-- No cell from `at` to `end` is that of an empty set.
pub record NoEmpty (s : List ℕ) (at end : ℕ) : Type 0 where
  pub none : (i : ℕ) → at ≤ i → i < end → get_or s i 0 ≢ empty_cell

-- The first r of the values vs from `at` on have just the types that all of them have, as far as sharing goes.
pub record StandFor (s : List ℕ) (at r : ℕ) (vs : Values) : Type 0 where
  pub few : Values
  pub run : RunAt s at r few
  pub same : (q : TypeSet) → meets (shared_types few) q ≡ meets (shared_types vs) q

-- So r of the members of the set at `a`.
abbrev pub Members : List ℕ → ℕ → ℕ → Type 0
Members s a r = (vs : Values) → TypedAt s a (set vs) → StandFor s (a + 1) r vs

-- A value is full where it holds no empty set at any depth.
abbrev mutual
  pub Full : Value → Type 0
  Full (scalar x) = Unit {0}
  Full (pair v w) = Full v × Full w
  Full (set s) = FullSet s

  pub FullSet : Values → Type 0
  FullSet none = ⊥
  FullSet (v ▸ vs) = Full v × FullAll vs

  pub FullAll : Values → Type 0
  FullAll none = Unit {0}
  FullAll (v ▸ vs) = Full v × FullAll vs

-- r is n, or 1 where the value at `at` is full.
abbrev pub Few : List ℕ → ℕ → ℕ → ℕ → Type 0
Few s at n r = (r ≡ n) ⊎ ((r ≡ 1) × (0 < n) × ((v : Value) → TypedAt s at v → Full v))

-- Two cells, the first that of a scalar, are of one type: they have one tag, and elements are of one given set.
abbrev pub atoms_alike : ℕ → ℕ → Bool
atoms_alike x y = cond (eqb (x / 4294967296) 3) (eqb (x / 256) (y / 256)) (eqb (x / 4294967296) (y / 4294967296))

-- The value at a is a pair or a set.
abbrev pub PairOrSet : List ℕ → ℕ → Type 0
PairOrSet s a = 17179869184 ≤ get_or s a 0

-- What the tests of one set ask.
pub record SetHere (s : List ℕ) (a : ℕ) : Type 0 where
  pub value : SomeTyped s a
  pub is_set : get_or s a 0 / 4294967296 ≡ 5

-- A value and m values.
pub record OneAndRun (s : List ℕ) (a b m : ℕ) : Type 0 where
  pub first : SomeTyped s a
  pub second : SomeRun s b m

-- n values and m values.
pub record RunAndRun (s : List ℕ) (a n b m : ℕ) : Type 0 where
  pub first : SomeRun s a n
  pub second : SomeRun s b m

-- r says whether they share a type.
abbrev pub AgreedAll : List ℕ → ℕ → ℕ → ℕ → ℕ → Bool → Type 0
AgreedAll s a n b m r = (p : RunAndRun s a n b m) → r ≡ meets (shared_types p.first.0) (shared_types p.second.0)
