-- Bytes of values: the cells of a value read back as that value, and every run of bytes that reads is the cells of what it reads.
use Prim.Native.Nat.{ℕ, zero, suc, ◌+◌, ◌*◌, ◌-◌, ◌/◌, ◌%◌, ◌≤◌, ◌<◌}
use mathlib.Core.Bool.{Bool, true, false, ◌&&◌}
use mathlib.Core.List.{List, [], ◌∷◌, ◌++◌, append_assoc}
use mathlib.Core.Option.{none as nothing, some}
use mathlib.Core.Path.{◌≡◌, refl, ap, sym, subst, ◌∙◌}
use native.Mathlib.Decide.{dec_lt}
use native.Mathlib.Omega.{arith}
use lib.IntN.{ℤ, pos, negsuc}
use lib.Dec.{T, eqb, leb, ltb, leb→le, le→leb, ltb→lt, lt→ltb, eqb→eq}
use lib.ListN.{get_or, length, drop, length-append, get_or-eq_default}
use lib.Seq.{drop-cons}
use Rattle.rules.specs.Types.{whole}
use Rattle.rules.specs.Values.{Scalar, num, truth, element, Value, scalar, pair, set, Values, none, ◌▸◌, int, truth_value, bit}
use Rattle.rules.specs.Values.{scalar_tag, scalar_payload, tag, payload, weight, weights, count}
use Rattle.rules.specs.Tables.{word_at}
use Rattle.rules.specs.Cells.{bytes4, twos, signed, in_range, cell, cells, cells_of, well_formed, rising_all, precedes, weight_limit, good}
use Rattle.rules.specs.Cells.{Read, ◌and_then◌, only_if, read_many, by_tag, value_to, value}
use Rattle.rules.specs.Fits.{typed}
use Rattle.laws.proofs.OrderLaws.{and_left, and_right, Small, small_well_formed}
use Rattle.rules.proofs.Basics.{and_of}

-- A number that a word holds.
abbrev pub Word : ℕ → Type 0
Word n = n < 4294967296

-- Every entry is a byte.
abbrev pub Bytes : List ℕ → Type 0
Bytes [] = Unit {0}
Bytes (b ∷ bs) = (b < 256) × Bytes bs

-- Numbers of 32 bits in two's complement.

-- A number of 32 bits makes a word.
pub twos_word : (i : ℤ) → T (in_range i) → Word (twos i)
unfolding twos
twos_word (pos n) t = omega (arith, leb→le n 2147483647 t)
twos_word (negsuc n) t = omega (arith, leb→le n 2147483647 t)

pub signed_low : (n : ℕ) → n < 2147483648 → signed n ≡ pos n
unfolding signed
signed_low n h = go (ltb n 2147483648) (lt→ltb n 2147483648 h)
  where
    go : (b : Bool) → T b → ◌≡◌ {A = ℤ} (elim b [ true ↦ pos n | false ↦ negsuc (4294967295 - n) ]) (pos n)
    go true t = refl
    go false t = absurd t

pub signed_high : (n : ℕ) → 2147483648 ≤ n → signed n ≡ negsuc (4294967295 - n)
unfolding signed
signed_high n h = go (ltb n 2147483648) (ltb→lt n 2147483648)
  where
    go : (b : Bool) → (T b → n < 2147483648) →
        ◌≡◌ {A = ℤ} (elim b [ true ↦ pos n | false ↦ negsuc (4294967295 - n) ]) (negsuc (4294967295 - n))
    go true f = absurd (omega (arith, f tt))
    go false f = refl

-- A number of 32 bits comes back from its word.
pub signed_twos : (i : ℤ) → T (in_range i) → signed (twos i) ≡ i
unfolding twos
signed_twos (pos n) t = signed_low n (omega (arith, leb→le n 2147483647 t))
signed_twos (negsuc n) t =
    let h : n ≤ 2147483647 = leb→le n 2147483647 t in
    let e : 4294967295 - (4294967295 - n) ≡ n = omega arith in
    signed_high (4294967295 - n) (omega arith) ∙ ap negsuc e

-- A word comes back from its number.
pub twos_signed : (n : ℕ) → Word n → twos (signed n) ≡ n
unfolding twos
twos_signed n h = go (dec_lt n 2147483648)
  where
    go : Dec (n < 2147483648) → twos (signed n) ≡ n
    go (yes l) = ap twos (signed_low n l)
    go (no l) =
        let e : 4294967295 - (4294967295 - n) ≡ n = omega arith in
        ap twos (signed_high n (omega arith)) ∙ e

-- The number of a word is in range.
pub signed_range : (n : ℕ) → Word n → T (in_range (signed n))
signed_range n h = go (dec_lt n 2147483648)
  where
    go : Dec (n < 2147483648) → T (in_range (signed n))
    go (yes l) = rw (signed_low n l) (le→leb n 2147483647 (omega arith))
    go (no l) = rw (signed_high n (omega arith)) (le→leb (4294967295 - n) 2147483647 (omega arith))

-- The bytes of a word.

div_two : (n : ℕ) → n / 65536 ≡ n / 256 / 256
div_two n = omega arith

div_three : (n : ℕ) → n / 16777216 ≡ n / 256 / 256 / 256
div_three n = omega arith

-- A word comes back from its bytes.
pub word_bytes : (n : ℕ) (bs : List ℕ) → Word n → word_at (bytes4 n ++ bs) 0 ≡ n
word_bytes n bs h = rw (div_two n, div_three n) (omega arith)

low_byte : (a m : ℕ) → a < 256 → ((a + 256 * m) % 256 ≡ a) × ((a + 256 * m) / 256 ≡ m)
low_byte a m h = (omega arith, omega arith)

-- Bytes come back from their word.
pub bytes_word : (a b c d : ℕ) → a < 256 → b < 256 → c < 256 → d < 256 →
    bytes4 (a + 256 * b + 65536 * c + 16777216 * d) ≡ a ∷ b ∷ c ∷ d ∷ []
bytes_word a b c d ha hb hc hd =
    let e : a + 256 * b + 65536 * c + 16777216 * d ≡ a + 256 * (b + 256 * (c + 256 * d)) = omega arith in
    let n = a + 256 * (b + 256 * (c + 256 * d)) in
    let e₀ = low_byte a (b + 256 * (c + 256 * d)) ha in
    let e₁ = low_byte b (c + 256 * d) hb in
    let e₂ = low_byte c d hc in
    let e₃ : d % 256 ≡ d = omega arith in
    rw (e, div_two n, div_three n, e₀.0, e₀.1, e₁.0, e₁.1, e₂.0, e₂.1, e₃)

-- Readers.

only_if_true : {A : Type 0} (b : Bool) (r : Read A) → T b → only_if b r ≡ r
only_if_true true r t = refl
only_if_true false r t = absurd t

only_if_some : {A : Type 0} (b : Bool) (r : Read A) (y : A × List ℕ) → only_if b r ≡ some y → T b × (r ≡ some y)
only_if_some true r y e = (tt, e)
only_if_some false r y e = absurd (let z : ◌≡◌ {A = ℕ} 0 1 = cc in omega arith)

pub and_then_some : {A B : Type 0} (r : Read A) (f : A → List ℕ → Read B) (y : B × List ℕ) →
    (r and_then f) ≡ some y → (x : A × List ℕ) × (r ≡ some x) × (f x.0 x.1 ≡ some y)
and_then_some nothing f y e = absurd (let z : ◌≡◌ {A = ℕ} 0 1 = cc in omega arith)
and_then_some (some x) f y e = (x, refl, e)

-- what holds of a reading holds of an equal one
read_at : {A : Type 0} (F : A → List ℕ → Type 0) (x y : A) (bs cs : List ℕ) →
    ◌≡◌ {A = Read A} (some (x, bs)) (some (y, cs)) → F x bs → F y cs
read_at {A} F x y bs cs e h =
    let p : ◌≡◌ {A = A × List ℕ} (x, bs) (y, cs) = cc in
    subst (λ (z : A × List ℕ). F z.0 z.1) p h

-- Values that a run of cells can hold: numbers of 32 bits, elements and counts that a word holds.
abbrev pub EncodableScalar : Scalar → Type 0
EncodableScalar (num n i) = T (in_range i)
EncodableScalar (truth b) = Unit {0}
EncodableScalar (element g k) = (k < 256) × Word (256 * g + k)

abbrev mutual
  pub Encodable : Value → Type 0
  Encodable (scalar s) = EncodableScalar s
  Encodable (pair v w) = Encodable v × Encodable w
  Encodable (set s) = Word (count s) × Encodables s

  pub Encodables : Values → Type 0
  Encodables none = Unit {0}
  Encodables (v ▸ vs) = Encodable v × Encodables vs

-- The payload of an encodable value fits a word.
pub payload_word : (v : Value) → Encodable v → Word (twos (payload v))
unfolding twos
payload_word (scalar (num n i)) h = twos_word i h
payload_word (scalar (truth true)) h = omega arith
payload_word (scalar (truth false)) h = omega arith
payload_word (scalar (element g k)) h = h.1
payload_word (pair v w) h = omega arith
payload_word (set s) h = h.0

-- A first cell is read by its tag and payload.
head_cell : (v : Value) (d : ℕ) (bs : List ℕ) → Word (twos (payload v)) →
    value_to (suc d) (cell v ++ bs) ≡ by_tag (λ bs₁. value_to d bs₁) (tag v) (twos (payload v)) bs
unfolding cell value_to
head_cell v d bs h =
    let p = twos (payload v) in
    let n = length (cell v ++ bs) in
    rw (word_bytes p (tag v ∷ 0 ∷ 0 ∷ 0 ∷ bs) h)
    (only_if_true (leb 8 n && true) (by_tag (λ bs₁. value_to d bs₁) (tag v) p bs) (and_of (leb 8 n) true (le→leb 8 n (omega arith)) tt))

pair_cells_law : (r : List ℕ → Read Value) (v w : Value) (a b : List ℕ) (bs : List ℕ) →
    r (a ++ (b ++ bs)) ≡ some (v, b ++ bs) → r (b ++ bs) ≡ some (w, bs) → by_tag r 4 0 ((a ++ b) ++ bs) ≡ some (pair v w, bs)
pair_cells_law r v w a b bs e f = rw (append_assoc a b bs, e, f)

several_cons : (r : List ℕ → Read Value) (n : ℕ) (v : Value) (vs : Values) (a b : List ℕ) (bs : List ℕ) →
    r (a ++ (b ++ bs)) ≡ some (v, b ++ bs) → read_many r n (b ++ bs) ≡ some (vs, bs) →
    read_many r (1 + n) ((a ++ b) ++ bs) ≡ some (v ▸ vs, bs)
unfolding read_many
several_cons r n v vs a b bs e f = let o : 1 + n ≡ suc n = omega arith in rw (o, append_assoc a b bs, e, f)

set_cells : (r : List ℕ → Read Value) (s : Values) (n : ℕ) (bs rest : List ℕ) →
    read_many r n bs ≡ some (s, rest) → by_tag r 5 n bs ≡ some (set s, rest)
set_cells r s n bs rest e = rw e

-- a value of one cell
scalar_cells : (r : List ℕ → Read Value) (s : Scalar) (rest : List ℕ) → EncodableScalar s →
    by_tag r (scalar_tag s) (twos (scalar_payload s)) rest ≡ some (scalar s, rest)
unfolding twos
scalar_cells r (num whole i) rest h = ap (λ (j : ℤ). some (int j, rest)) (signed_twos i h)
scalar_cells r (truth true) rest h = refl
scalar_cells r (truth false) rest h = refl
scalar_cells r (element g k) rest h =
    let a : (256 * g + k) / 256 ≡ g = omega arith in
    let b : (256 * g + k) % 256 ≡ k = omega arith in
    rw (a, b)

-- The cells of an encodable value are read back as it, at any depth that its weight does not exceed.
mutual
  unfolding cells twos read_many

  pub value_to_cells : (v : Value) (d : ℕ) (rest : List ℕ) → weight v ≤ d → Encodable v → value_to d (cells v ++ rest) ≡ some (v, rest)
  value_to_cells (scalar s) zero rest l h = absurd (omega arith)
  value_to_cells (scalar s) (suc d) rest l h =
      head_cell (scalar s) d rest (payload_word (scalar s) h) ∙ scalar_cells (λ bs. value_to d bs) s rest h
  value_to_cells (pair v w) zero rest l h = absurd (omega arith)
  value_to_cells (pair v w) (suc d) rest l h =
      head_cell (pair v w) d ((cells v ++ cells w) ++ rest) (payload_word (pair v w) h) ∙
      pair_cells_law (λ bs. value_to d bs) v w (cells v) (cells w) rest
      (value_to_cells v d (cells w ++ rest) (omega arith) h.0) (value_to_cells w d rest (omega arith) h.1)
  value_to_cells (set s) zero rest l h = absurd (omega arith)
  value_to_cells (set s) (suc d) rest l h =
      head_cell (set s) d (cells_of s ++ rest) (payload_word (set s) h) ∙
      set_cells (λ bs. value_to d bs) s (count s) (cells_of s ++ rest) rest (several_cells s d rest (omega arith) h.1)

  pub several_cells : (s : Values) (d : ℕ) (rest : List ℕ) → weights s ≤ d → Encodables s →
      read_many (λ bs. value_to d bs) (count s) (cells_of s ++ rest) ≡ some (s, rest)
  several_cells none d rest l h = refl
  several_cells (v ▸ vs) d rest l h =
      several_cons (λ bs. value_to d bs) (count vs) v vs (cells v) (cells_of vs) rest
      (value_to_cells v d (cells_of vs ++ rest) (omega arith) h.0) (several_cells vs d rest (omega arith) h.1)

pub weight_some : (v : Value) → 1 ≤ weight v
weight_some (scalar s) = omega arith
weight_some (pair v w) = omega arith
weight_some (set s) = omega arith

-- No set has more members than weight.
pub count_weights : (s : Values) → count s ≤ weights s
count_weights none = omega arith
count_weights (v ▸ vs) = omega (arith, count_weights vs, weight_some v)

-- A bound on the entries of a list bounds what is read past its end too.
pub size_below : (gs : List ℕ) (n : ℕ) → ((g : ℕ) → g < length gs → get_or gs g 0 ≤ n) → (g : ℕ) → get_or gs g 0 ≤ n
size_below gs n h g = go (dec_lt g (length gs))
  where
    go : Dec (g < length gs) → get_or gs g 0 ≤ n
    go (yes b) = h g b
    go (no b) = omega (arith, get_or-eq_default gs 0 {n = g} (omega arith))

-- Elements of given sets of these sizes are encodable.
abbrev pub Sizes : List ℕ → Type 0
Sizes gs = (g k : ℕ) → k < get_or gs g 0 → (k < 256) × Word (256 * g + k)

-- A list of at most 16 sizes of at most 32.
pub few_sizes : (gs : List ℕ) → length gs ≤ 16 → ((g : ℕ) → g < length gs → get_or gs g 0 ≤ 32) → Sizes gs
few_sizes gs l h g k e = go (dec_lt g (length gs))
  where
    go : Dec (g < length gs) → (k < 256) × Word (256 * g + k)
    go (yes b) = omega (arith, h g b)
    go (no b) = absurd (omega (arith, get_or-eq_default gs 0 {n = g} (omega arith)))

-- Well formed values of a weight that a word holds are encodable.
mutual
  pub encodable_well_formed : (gs : List ℕ) → Sizes gs → (v : Value) → Word (weight v) → T (well_formed gs v) → Encodable v
  encodable_well_formed gs h (scalar (num n i)) l t = t
  encodable_well_formed gs h (scalar (truth b)) l t = tt
  encodable_well_formed gs h (scalar (element g k)) l t = h g k (ltb→lt k (get_or gs g 0) t)
  encodable_well_formed gs h (pair v w) l t =
      let a = well_formed gs v in
      let b = well_formed gs w in
      (encodable_well_formed gs h v (omega arith) (and_left a b t), encodable_well_formed gs h w (omega arith) (and_right a b t))
  encodable_well_formed gs h (set s) l t = (omega (arith, count_weights s), encodable_rising_all gs h s (omega arith) t)

  pub encodable_rising_all : (gs : List ℕ) → Sizes gs → (s : Values) → Word (weights s) → T (rising_all gs s) → Encodables s
  encodable_rising_all gs h none l t = tt
  encodable_rising_all gs h (v ▸ vs) l t =
      let a = well_formed gs v in
      let b = precedes v vs in
      let c = rising_all gs vs in (
        encodable_well_formed gs h v (omega arith) (and_left a b (and_left (a && b) c t)),
        encodable_rising_all gs h vs (omega arith) (and_right (a && b) c t),
      )

-- The three parts of `good`.
pub good_well_formed : (gs : List ℕ) (v : Value) → T (good gs v) → T (well_formed gs v)
unfolding good
good_well_formed gs v t =
    and_left (well_formed gs v) (leb (weight v) weight_limit) (and_left (well_formed gs v && leb (weight v) weight_limit) (typed v) t)

pub good_weight : (gs : List ℕ) (v : Value) → T (good gs v) → weight v ≤ weight_limit
unfolding good
good_weight gs v t =
    leb→le (weight v) weight_limit
    (and_right (well_formed gs v) (leb (weight v) weight_limit) (and_left (well_formed gs v && leb (weight v) weight_limit) (typed v) t))

pub good_typed : (gs : List ℕ) (v : Value) → T (good gs v) → T (typed v)
unfolding good
good_typed gs v t = and_right (well_formed gs v && leb (weight v) weight_limit) (typed v) t

-- Good values have element numbers below 256, so that the order tells them apart.
pub good_small : (gs : List ℕ) (v : Value) → T (good gs v) → ((g : ℕ) → g < length gs → get_or gs g 0 ≤ 256) → Small v
good_small gs v t h = small_well_formed gs (λ g. size_below gs 256 h g) v (good_well_formed gs v t)

-- The cells of an encodable value of at most 256 cells are read back as it.
pub value_encodable : (v : Value) (rest : List ℕ) → weight v ≤ weight_limit → Encodable v → value (cells v ++ rest) ≡ some (v, rest)
unfolding value
value_encodable v rest l h = value_to_cells v weight_limit rest l h

-- The cells of a good value are read back as it.
pub value_cells : (gs : List ℕ) (v : Value) (rest : List ℕ) → T (good gs v) →
    length gs ≤ 16 → ((g : ℕ) → g < length gs → get_or gs g 0 ≤ 32) → value (cells v ++ rest) ≡ some (v, rest)
value_cells gs v rest t l h =
    let w : weight v ≤ weight_limit = good_weight gs v t in
    value_encodable v rest w (encodable_well_formed gs (few_sizes gs l h) v (omega arith) (good_well_formed gs v t))

-- Eight bytes for each cell.
mutual
  unfolding cells

  pub cells_length : (v : Value) → length (cells v) ≡ 8 * weight v
  cells_length (scalar s) = refl
  cells_length (pair v w) = omega (arith, length-append (cells v) (cells w), cells_length v, cells_length w)
  cells_length (set s) = omega (arith, cells_of_length s)

  pub cells_of_length : (s : Values) → length (cells_of s) ≡ 8 * weights s
  cells_of_length none = refl
  cells_of_length (v ▸ vs) = omega (arith, length-append (cells v) (cells_of vs), cells_length v, cells_of_length vs)

-- The other way: bytes that read are cells.

-- Any entry of bytes is below 256, also past the end, where 0 is read.
pub byte_at : (bs : List ℕ) (i : ℕ) → Bytes bs → get_or bs i 0 < 256
byte_at [] i h = omega arith
byte_at (b ∷ bs) zero h = h.0
byte_at (b ∷ bs) (suc i) h = byte_at bs i h.1

-- What is left after some bytes is bytes.
pub bytes_after : (cs bs : List ℕ) → Bytes (cs ++ bs) → Bytes bs
bytes_after [] bs h = h
bytes_after (c ∷ cs) bs h = bytes_after cs bs h.1

-- So is what is left after a number of bytes.
pub bytes_drop : (n : ℕ) (bs : List ℕ) → Bytes bs → Bytes (drop n bs)
bytes_drop zero bs h = h
bytes_drop (suc n) [] h = tt
bytes_drop (suc n) (b ∷ bs) h = bytes_drop n bs h.1

-- Four bytes make a word.
pub word_at_law : (bs : List ℕ) (i : ℕ) → Bytes bs → Word (word_at bs i)
word_at_law bs i h = omega (arith, byte_at bs i h, byte_at bs (1 + i) h, byte_at bs (2 + i) h, byte_at bs (3 + i) h)

pub eight : (bs : List ℕ) → 8 ≤ length bs →
    bs ≡ get_or bs 0 0 ∷ get_or bs 1 0 ∷ get_or bs 2 0 ∷ get_or bs 3 0 ∷ get_or bs 4 0 ∷ get_or bs 5 0 ∷ get_or bs 6 0 ∷ get_or bs 7 0 ∷ drop 8 bs
eight bs h =
    cc (
      drop-cons bs 0 0 (omega arith),
      drop-cons bs 1 0 (omega arith),
      drop-cons bs 2 0 (omega arith),
      drop-cons bs 3 0 (omega arith),
      drop-cons bs 4 0 (omega arith),
      drop-cons bs 5 0 (omega arith),
      drop-cons bs 6 0 (omega arith),
      drop-cons bs 7 0 (omega arith),
    )

-- A reader is right where what it reads is the cells in front.
abbrev pub Right : (List ℕ → Read Value) → Type 0
Right r = (bs : List ℕ) (v : Value) (rest : List ℕ) → Bytes bs → r bs ≡ some (v, rest) → bs ≡ cells v ++ rest

several_right : (r : List ℕ → Read Value) → Right r → (n : ℕ) (bs : List ℕ) (vs : Values) (rest : List ℕ) → Bytes bs →
    read_many r n bs ≡ some (vs, rest) → (count vs ≡ n) × (bs ≡ cells_of vs ++ rest)
unfolding read_many cells
several_right r h zero bs vs rest b e =
    read_at (λ ws rest'. (count ws ≡ 0) × (bs ≡ cells_of ws ++ rest')) none vs bs rest e (refl, refl)
several_right r h (suc n) bs vs rest b e =
    let p = and_then_some (r bs) (λ v bs₁. read_many r n bs₁ and_then λ ws bs₂. some (v ▸ ws, bs₂)) (vs, rest) e in
    let v = p.0.0 in
    let bs₁ = p.0.1 in
    let q = and_then_some (read_many r n bs₁) (λ ws bs₂. some (v ▸ ws, bs₂)) (vs, rest) p.2 in
    let ws = q.0.0 in
    let bs₂ = q.0.1 in
    let a : bs ≡ cells v ++ bs₁ = h bs v bs₁ b p.1 in
    let c = several_right r h n bs₁ ws bs₂ (bytes_after (cells v) bs₁ (subst Bytes a b)) q.1 in
    read_at (λ ws' rest'. (count ws' ≡ suc n) × (bs ≡ cells_of ws' ++ rest')) (v ▸ ws) vs bs₂ rest q.2
    (omega (arith, c.0), a ∙ cc (c.1, append_assoc (cells v) (cells_of ws) bs₂))

-- What the reading by tag owes: the value's tag and payload, and that the bytes behind its first cell are its other cells and the rest.
abbrev Shown : ℕ → ℕ → List ℕ → Value → List ℕ → Type 0
Shown t p bs v rest = (tag v ≡ t) × (twos (payload v) ≡ p) × (cells v ++ rest ≡ cell v ++ bs)

pub bit_eqb : (p : ℕ) → p < 2 → bit (eqb p 1) ≡ p
bit_eqb zero h = refl
bit_eqb (suc zero) h = refl
bit_eqb (suc (suc n)) h = absurd (omega arith)

pair_bytes : (x y : Value) (bs bs₁ bs₂ : List ℕ) → bs ≡ cells x ++ bs₁ → bs₁ ≡ cells y ++ bs₂ →
    cells (pair x y) ++ bs₂ ≡ cell (pair x y) ++ bs
unfolding cells
pair_bytes x y bs bs₁ bs₂ e f =
    let q : (cells x ++ cells y) ++ bs₂ ≡ bs = cc (append_assoc (cells x) (cells y) bs₂) in
    ap (λ (l : List ℕ). cell (pair x y) ++ l) q

module _ (r : List ℕ → Read Value) (h : Right r) (p : ℕ) (bs : List ℕ) (v : Value) (rest : List ℕ) where
  truth_right : by_tag r 2 p bs ≡ some (v, rest) → Shown 2 p bs v rest
  unfolding twos cells
  truth_right e =
      let c = only_if_some (ltb p 2) (some (truth_value (eqb p 1), bs)) (v, rest) e in
      read_at (Shown 2 p bs) (truth_value (eqb p 1)) v bs rest c.1 (refl, bit_eqb p (ltb→lt p 2 c.0), refl)

  pair_right : Bytes bs → by_tag r 4 p bs ≡ some (v, rest) → Shown 4 p bs v rest
  unfolding twos cells
  pair_right b e =
      let c = only_if_some (eqb p 0) (r bs and_then λ x bs₁. r bs₁ and_then λ y bs₂. some (pair x y, bs₂)) (v, rest) e in
      let f = and_then_some (r bs) (λ x bs₁. r bs₁ and_then λ y bs₂. some (pair x y, bs₂)) (v, rest) c.1 in
      let x = f.0.0 in
      let bs₁ = f.0.1 in
      let g = and_then_some (r bs₁) (λ y bs₂. some (pair x y, bs₂)) (v, rest) f.2 in
      let y = g.0.0 in
      let bs₂ = g.0.1 in
      let a : bs ≡ cells x ++ bs₁ = h bs x bs₁ b f.1 in
      let d : bs₁ ≡ cells y ++ bs₂ = h bs₁ y bs₂ (bytes_after (cells x) bs₁ (subst Bytes a b)) g.1 in
      read_at (Shown 4 p bs) (pair x y) v bs₂ rest g.2
      (refl, sym (eqb→eq p 0 c.0), pair_bytes x y bs bs₁ bs₂ a d)

  set_right : Bytes bs → by_tag r 5 p bs ≡ some (v, rest) → Shown 5 p bs v rest
  unfolding twos cells
  set_right b e =
      let f = and_then_some (read_many r p bs) (λ vs bs₁. some (set vs, bs₁)) (v, rest) e in
      let vs = f.0.0 in
      let bs₁ = f.0.1 in
      let q = several_right r h p bs vs bs₁ b f.1 in
      read_at (Shown 5 p bs) (set vs) v bs₁ rest f.2 (refl, q.0, ap (λ (l : List ℕ). cell (set vs) ++ l) (sym q.1))

  by_tag_right : (t : ℕ) → Bytes bs → Word p → by_tag r t p bs ≡ some (v, rest) → Shown t p bs v rest
  unfolding twos cells
  by_tag_right zero b w e = absurd (let z : ◌≡◌ {A = ℕ} 0 1 = cc in omega arith)
  by_tag_right (suc zero) b w e = read_at (Shown 1 p bs) (int (signed p)) v bs rest e (refl, twos_signed p w, refl)
  by_tag_right (suc (suc zero)) b w e = truth_right e
  by_tag_right (suc (suc (suc zero))) b w e =
      read_at (Shown 3 p bs) (scalar (element (p / 256) (p % 256))) v bs rest e (refl, omega arith, refl)
  by_tag_right (suc (suc (suc (suc zero)))) b w e = pair_right b e
  by_tag_right (suc (suc (suc (suc (suc zero))))) b w e = set_right b e
  by_tag_right (suc (suc (suc (suc (suc (suc n)))))) b w e = absurd (let z : ◌≡◌ {A = ℕ} 0 1 = cc in omega arith)

pub cell_parts : (ws : List ℕ) (a b c d t x y z u : ℕ) (bs : List ℕ) → ws ≡ a ∷ b ∷ c ∷ d ∷ [] → u ≡ t → x ≡ 0 → y ≡ 0 → z ≡ 0 →
    a ∷ b ∷ c ∷ d ∷ t ∷ x ∷ y ∷ z ∷ bs ≡ (ws ++ (u ∷ 0 ∷ 0 ∷ 0 ∷ [])) ++ bs
cell_parts ws a b c d t x y z u bs e f g h k = rw (e, f, g, h, k)

-- The first eight bytes of a run that reads are a cell.
pub cell_bytes_law : (bs : List ℕ) (v : Value) → Bytes bs → 8 ≤ length bs → get_or bs 5 0 + get_or bs 6 0 + get_or bs 7 0 ≡ 0 →
    tag v ≡ get_or bs 4 0 → twos (payload v) ≡ word_at bs 0 → bs ≡ cell v ++ drop 8 bs
unfolding cell
cell_bytes_law bs v b l z t w =
    let z₅ : get_or bs 5 0 ≡ 0 = omega arith in
    let z₆ : get_or bs 6 0 ≡ 0 = omega arith in
    let z₇ : get_or bs 7 0 ≡ 0 = omega arith in
    let q = bytes_word (get_or bs 0 0) (get_or bs 1 0) (get_or bs 2 0) (get_or bs 3 0)
    (byte_at bs 0 b) (byte_at bs 1 b) (byte_at bs 2 b) (byte_at bs 3 b) in
    eight bs l ∙ cell_parts (bytes4 (twos (payload v))) _ _ _ _ _ _ _ _ _ _ (rw w q) t z₅ z₆ z₇

-- A run of bytes that reads is the cells of what it reads, and the rest.
pub value_to_right : (d : ℕ) → Right (λ bs. value_to d bs)
unfolding value_to
value_to_right zero bs v rest b e = absurd (let z : ◌≡◌ {A = ℕ} 0 1 = cc in omega arith)
value_to_right (suc d) bs v rest b e =
    let c₁ = leb 8 (length bs) in
    let c₂ = eqb (get_or bs 5 0 + get_or bs 6 0 + get_or bs 7 0) 0 in
    let f = only_if_some (c₁ && c₂) (by_tag (λ bs₁. value_to d bs₁) (get_or bs 4 0) (word_at bs 0) (drop 8 bs)) (v, rest) e in
    let q = by_tag_right (λ bs₁. value_to d bs₁) (value_to_right d) (word_at bs 0) (drop 8 bs) v rest (get_or bs 4 0)
    (bytes_drop 8 bs b) (word_at_law bs 0 b) f.1 in
    cell_bytes_law bs v b (leb→le 8 (length bs) (and_left c₁ c₂ f.0))
    (eqb→eq (get_or bs 5 0 + get_or bs 6 0 + get_or bs 7 0) 0 (and_right c₁ c₂ f.0)) q.0 q.1 ∙ sym q.2

-- Every run of bytes that reads is the cells of what it reads.
pub cells_value : (bs : List ℕ) (v : Value) (rest : List ℕ) → Bytes bs → value bs ≡ some (v, rest) → bs ≡ cells v ++ rest
unfolding value
cells_value bs v rest b e = value_to_right weight_limit bs v rest b e

-- What is left behind a value is bytes.
pub rest_bytes : (bs : List ℕ) (v : Value) (rest : List ℕ) → Bytes bs → value bs ≡ some (v, rest) → Bytes rest
rest_bytes bs v rest b e = bytes_after (cells v) rest (subst Bytes (cells_value bs v rest b e) b)
