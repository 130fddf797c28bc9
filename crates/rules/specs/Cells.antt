-- Document 01, "Values and evaluation", first paragraph: the byte form of values, and the values buffer (refusal 14).
use Rattle.std.specs.Prelude.{ℕ, zero, suc, ◌+◌, ◌-◌, ◌/◌, ◌%◌, List, [], ◌∷◌, ◌++◌, Bool, true, false, ◌&&◌, ℤ, pos, negsuc, eqb, leb, ltb, get_or, length, drop}
use Rattle.std.proofs.Math.Option.{Option, none as nothing, some}
use Rattle.std.specs.Int.Signed.{mag}
use Rattle.rules.specs.Values.{Scalar, num, truth, element, Value, scalar, pair, set, Values, none, ◌▸◌, int, truth_value, tag, payload, weight, before}
use Rattle.rules.specs.Fits.{typed}
use Rattle.rules.specs.Tables.{word_at, Table}
use Rattle.rules.specs.Ends.{End, done, refused, ◌>>=◌, require}

abbrev pub bytes4 : ℕ → List ℕ
bytes4 n = n % 256 ∷ n / 256 % 256 ∷ n / 65536 % 256 ∷ n / 16777216 % 256 ∷ []

-- A number of 32 bits in two's complement, both ways.
unfoldable pub twos : ℤ → ℕ
twos (pos n) = n
twos (negsuc n) = 4294967295 - n

unfoldable pub signed : ℕ → ℤ
signed n = elim (ltb n 2147483648) [ true ↦ pos n | false ↦ negsuc (4294967295 - n) ]

-- A number of signed 32 bits.
abbrev pub in_range : ℤ → Bool
in_range i = leb (mag i) 2147483647

-- A cell: payload, tag, three zeros.
unfoldable pub cell : Value → List ℕ
unfolding twos
cell v = bytes4 (twos (payload v)) ++ (tag v ∷ 0 ∷ 0 ∷ 0 ∷ [])

-- The cells of a value: its own, then those of its parts or members.
unfoldable mutual
  unfolding cell

  pub cells : Value → List ℕ
  cells (scalar s) = cell (scalar s)
  cells (pair v w) = cell (pair v w) ++ (cells v ++ cells w)
  cells (set s) = cell (set s) ++ cells_of s

  pub cells_of : Values → List ℕ
  cells_of none = []
  cells_of (v ▸ vs) = cells v ++ cells_of vs

-- What a run of bytes begins with, and the bytes behind it.
abbrev pub Read : Type 0 → Type 0
Read A = Option (A × List ℕ)

infixl 10 ◌and_then◌
abbrev pub ◌and_then◌ : {A B : Type 0} → Read A → (A → List ℕ → Read B) → Read B
nothing and_then f = nothing
some x and_then f = f x.0 x.1

abbrev pub only_if : {A : Type 0} → Bool → Read A → Read A
only_if true r = r
only_if false r = nothing

-- n values that follow one another
unfoldable pub read_many : (List ℕ → Read Value) → ℕ → List ℕ → Read Values
read_many r zero bs = some (none, bs)
read_many r (suc n) bs = r bs and_then λ v bs₁. read_many r n bs₁ and_then λ vs bs₂. some (v ▸ vs, bs₂)

-- A value whose first cell has the tag and the payload word p; r reads its parts.
abbrev pub by_tag : (List ℕ → Read Value) → ℕ → ℕ → List ℕ → Read Value
by_tag r zero p bs = nothing
by_tag r (suc zero) p bs = some (int (signed p), bs)
by_tag r (suc (suc zero)) p bs = only_if (ltb p 2) (some (truth_value (eqb p 1), bs))
by_tag r (suc (suc (suc zero))) p bs = some (scalar (element (p / 256) (p % 256)), bs)
by_tag r (suc (suc (suc (suc zero)))) p bs =
    let parts : Read Value = (r bs and_then λ v bs₁. r bs₁ and_then λ w bs₂. some (pair v w, bs₂)) in only_if (eqb p 0) parts
by_tag r (suc (suc (suc (suc (suc zero))))) p bs = read_many r p bs and_then λ vs bs₁. some (set vs, bs₁)
by_tag r (suc (suc (suc (suc (suc (suc n)))))) p bs = nothing

-- A value of at most d levels from the front of a run of bytes.
unfoldable pub value_to : ℕ → List ℕ → Read Value
unfolding signed read_many
value_to zero bs = nothing
value_to (suc d) bs =
    let v = by_tag (λ bs₁. value_to d bs₁) (get_or bs 4 0) (word_at bs 0) (drop 8 bs) in
    only_if (leb 8 (length bs) && eqb (get_or bs 5 0 + get_or bs 6 0 + get_or bs 7 0) 0) v

-- No value weighs over 256, so none has more levels.
abbrev pub weight_limit : ℕ
weight_limit = 256

unfoldable pub value : List ℕ → Read Value
unfolding value_to
value bs = value_to weight_limit bs

-- A member precedes the next.
abbrev pub precedes : Value → Values → Bool
precedes v none = true
precedes v (w ▸ ws) = before v w

abbrev pub scalar_good : List ℕ → Scalar → Bool
scalar_good gs (num n i) = in_range i
scalar_good gs (truth b) = true
scalar_good gs (element g k) = ltb k (get_or gs g 0)

-- Numbers of 32 bits, elements that the given sets gs have, members that rise.
abbrev mutual
  pub well_formed : List ℕ → Value → Bool
  well_formed gs (scalar s) = scalar_good gs s
  well_formed gs (pair v w) = well_formed gs v && well_formed gs w
  well_formed gs (set s) = rising_all gs s

  pub rising_all : List ℕ → Values → Bool
  rising_all gs none = true
  rising_all gs (v ▸ vs) = well_formed gs v && precedes v vs && rising_all gs vs

-- A value without the faults that refusal 14 names.
unfoldable pub good : List ℕ → Value → Bool
unfolding before typed
good gs v = well_formed gs v && leb (weight v) weight_limit && typed v

-- What stands for the value of an identifier that is not free.
abbrev pub no_value : Value
no_value = int (pos 0)

abbrev pub or_fault : ℕ → Read Value → End (Value × List ℕ)
or_fault x nothing = refused 14 x
or_fault x (some r) = done r

-- The value of identifier x with the word w, and the bytes behind it; a bound identifier has none in the buffer.
abbrev pub value_for : List ℕ → ℕ → ℕ → List ℕ → End (Value × List ℕ)
value_for gs zero x bs = do
  r ← or_fault x (value bs)
  _ ← require 14 x (good gs r.0)
  done r
value_for gs (suc w) x bs = done (no_value, bs)

abbrev pub nothing_left : ℕ → List ℕ → End (List Value)
nothing_left x [] = done []
nothing_left x (b ∷ bs) = refused 14 x

-- The values of the identifiers from x on, whose words are ws: one for each free identifier, and nothing behind.
unfoldable pub values_from : List ℕ → List ℕ → ℕ → List ℕ → End (List Value)
unfolding value good
values_from gs [] x bs = nothing_left x bs
values_from gs (w ∷ ws) x bs = do
  r ← value_for gs w x bs
  vs ← values_from gs ws (suc x) r.1
  done (r.0 ∷ vs)

-- Refusal 14, or a value for each identifier.
unfoldable pub values_in : Table → List ℕ → End (List Value)
unfolding values_from
values_in tb bs = values_from tb.sizes tb.binds 0 bs
