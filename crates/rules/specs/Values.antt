-- Document 01, "Values and evaluation", first paragraph: values, their weight and their order.
use Prim.Native.Nat.{ℕ, ◌+◌, ◌*◌, compare, Ordering}
use Rattle.std.specs.Prelude.{List, [], ◌∷◌, ◌++◌, Bool, true, false, ℤ, pos, negsuc}
use Rattle.std.proofs.Math.Dec.{compare_is_eq}
use Rattle.rules.specs.Types.{Number, whole}

-- A value of one cell: a number of a number type, a truth, or element k of the given set g.
pub data Scalar : Type 0 where
  num : Number → ℤ → Scalar
  truth : Bool → Scalar
  element : ℕ → ℕ → Scalar

infixr 40 ◌▸◌
mutual
  pub data Value : Type 0 where
    scalar : Scalar → Value
    pair : Value → Value → Value
    set : Values → Value

  -- The members of a set.
  pub data Values : Type 0 where
    none : Values
    ◌▸◌ : Value → Values → Values

abbrev pub int : ℤ → Value
int i = scalar (num whole i)

abbrev pub truth_value : Bool → Value
truth_value b = scalar (truth b)

abbrev pub members : Values → List Value
members none = []
members (v ▸ vs) = v ∷ members vs

abbrev pub values : List Value → Values
values [] = none
values (v ∷ vs) = v ▸ values vs

abbrev pub count : Values → ℕ
count none = 0
count (v ▸ vs) = 1 + count vs

-- Weight of a value: its number of cells.
abbrev mutual
  pub weight : Value → ℕ
  weight (scalar s) = 1
  weight (pair v w) = 1 + (weight v + weight w)
  weight (set s) = 1 + weights s

  pub weights : Values → ℕ
  weights none = 0
  weights (v ▸ vs) = weight v + weights vs

abbrev pub scalar_tag : Scalar → ℕ
scalar_tag (num whole i) = 1
scalar_tag (truth b) = 2
scalar_tag (element g k) = 3

-- Tag of a value's first cell.
abbrev pub tag : Value → ℕ
tag (scalar s) = scalar_tag s
tag (pair v w) = 4
tag (set s) = 5

abbrev pub bit : Bool → ℕ
bit false = 0
bit true = 1

abbrev pub scalar_payload : Scalar → ℤ
scalar_payload (num n i) = i
scalar_payload (truth b) = pos (bit b)
scalar_payload (element g k) = pos (256 * g + k)

-- Payload of a value's first cell, signed for numbers.
abbrev pub payload : Value → ℤ
payload (scalar s) = scalar_payload s
payload (pair v w) = pos 0
payload (set s) = pos (count s)

abbrev pub compareℤ : ℤ → ℤ → Ordering
compareℤ (pos a) (pos b) = compare a b
compareℤ (pos a) (negsuc b) = Ordering.gt
compareℤ (negsuc a) (pos b) = Ordering.lt
compareℤ (negsuc a) (negsuc b) = compare b a

infixr 35 ◌then◌
-- The first comparison, or the second where the first finds no difference.
abbrev pub ◌then◌ : Ordering → Ordering → Ordering
Ordering.lt then o = Ordering.lt
Ordering.eq then o = o
Ordering.gt then o = Ordering.gt

-- The order of the first difference.
unfoldable pub lex : List ℤ → List ℤ → Ordering
lex [] ys = elim ys [ [] ↦ Ordering.eq | y ∷ ys' ↦ Ordering.lt ]
lex (x ∷ xs) ys = elim ys [ [] ↦ Ordering.gt | y ∷ ys' ↦ (let o = lex xs ys' in compareℤ x y then o) ]

-- What decides between values: the tag, then the payload, then the parts of a pair from left to right and the members of a set
-- from the greatest down (document 02, N6).
abbrev mutual
  pub key : Value → List ℤ
  key (scalar s) = pos (scalar_tag s) ∷ scalar_payload s ∷ []
  key (pair v w) = pos 4 ∷ pos 0 ∷ (key v ++ key w)
  key (set s) = pos 5 ∷ pos (count s) ∷ keys s

  pub keys : Values → List ℤ
  keys none = []
  keys (v ▸ vs) = keys vs ++ key v

-- The order of values.
unfoldable pub order : Value → Value → Ordering
unfolding lex
order v w = lex (key v) (key w)

-- Two values are the same.
unfoldable pub same : Value → Value → Bool
unfolding order
same v w = compare_is_eq (order v w)

abbrev pub is_lt : Ordering → Bool
is_lt Ordering.lt = true
is_lt Ordering.eq = false
is_lt Ordering.gt = false

-- One value precedes another.
unfoldable pub before : Value → Value → Bool
unfolding order
before v w = is_lt (order v w)
