-- The cells of a value: how many they are, and that they tell the value.
use Rattle.arena.proofs.Base.{ℕ, suc, ◌+◌, ◌*◌, ◌-◌, ◌≤◌, ◌<◌, cond, true, false, List, [], ◌∷◌, ◌++◌, append_assoc, append-nil, ◌≡◌, refl, sym, ap, ◌∙◌, arith, dec_lt, eqb, ltb, leb→le, le→leb, ℤ, pos, negsuc, mag, length, get_or, drop, length-append, lt-ltb, le-ltb, ◌/◌, ◌%◌}
use Rattle.rules.specs.Types.{whole}
use Rattle.rules.specs.Values.{Scalar, num, truth, element, Value, scalar, pair, set, Values, none, ◌▸◌, scalar_tag, scalar_payload, count, weight, weights}
use Rattle.laws.proofs.OrderLaws.{Small, Smalls, scalar_eq}
use Rattle.laws.proofs.CellsLaws.{Encodable, Encodables}
use Rattle.arena.specs.Code.{cell_size, excess, scalar_low, code, codes, ScalarFits, CellsFit, AllFit}

mutual
  unfolding code

  pub length_code : (v : Value) → length (code v) ≡ weight v
  length_code (scalar s) = refl
  length_code (pair v w) = omega (arith, length-append (code v) (code w), length_code v, length_code w)
  length_code (set s) = omega (arith, length_codes s)

  pub length_codes : (s : Values) → length (codes s) ≡ weights s
  length_codes none = refl
  length_codes (v ▸ vs) = length-append (code v) (codes vs) ∙ omega (arith, length_code v, length_codes vs)

-- The payload that a cell's low part stands for: signed for numbers.
abbrev pub unexcess : ℕ → ℤ
unexcess l = cond (ltb l 2147483648) (negsuc (2147483647 - l)) (pos (l - 2147483648))

abbrev pub payload_of : ℕ → ℕ → ℤ
payload_of t l = cond (eqb t 1) (unexcess l) (pos l)

excess_back : (i : ℤ) → mag i ≤ 2147483647 → unexcess (excess i) ≡ i
unfolding excess
excess_back (pos n) h = rw (le-ltb (2147483648 + n) 2147483648 (omega arith)) (ap pos (omega arith))
excess_back (negsuc n) h = rw (lt-ltb (2147483647 - n) 2147483648 (omega arith)) (ap negsuc (omega arith))

-- The tag and the low part of a cell.
pub cell_parts : (t l : ℕ) → l < cell_size → ((t * cell_size + l) / cell_size ≡ t) × ((t * cell_size + l) % cell_size ≡ l)
cell_parts t l h = (omega arith, omega arith)

pub scalar_small : (s : Scalar) → ScalarFits s → (scalar_tag s < 4) × (scalar_low s < cell_size)
scalar_small (num whole i) h = (omega arith, h.0)
scalar_small (truth true) h = (omega arith, omega arith)
scalar_small (truth false) h = (omega arith, omega arith)
scalar_small (element g k) h = (omega arith, h.1)

-- The payload of a scalar, read off its cell.
pub scalar_payload_law : (s : Scalar) → ScalarFits s → payload_of (scalar_tag s) (scalar_low s) ≡ scalar_payload s
scalar_payload_law (num whole i) h = excess_back i h.1
scalar_payload_law (truth b) h = refl
scalar_payload_law (element g k) h = refl

-- A value that fits is small, so that its key tells it.
mutual
  pub fits_small : (v : Value) → CellsFit v → Small v
  fits_small (scalar (num n i)) h = tt
  fits_small (scalar (truth b)) h = tt
  fits_small (scalar (element g k)) h = h.0
  fits_small (pair v w) h = (fits_small v h.0, fits_small w h.1)
  fits_small (set s) h = fits_smalls s h.1

  pub fits_smalls : (s : Values) → AllFit s → Smalls s
  fits_smalls none h = tt
  fits_smalls (v ▸ vs) h = (fits_small v h.0, fits_smalls vs h.1)

-- Values that can be encoded fit the arena.
mutual
  unfolding excess

  pub encodable_fits : (v : Value) → Encodable v → CellsFit v
  encodable_fits (scalar (num n (pos i))) h = let l = leb→le i 2147483647 h in (omega arith, omega arith)
  encodable_fits (scalar (num n (negsuc i))) h = let l = leb→le i 2147483647 h in (omega arith, omega arith)
  encodable_fits (scalar (truth b)) h = tt
  encodable_fits (scalar (element g k)) h = h
  encodable_fits (pair v w) h = (encodable_fits v h.0, encodable_fits w h.1)
  encodable_fits (set s) h = (h.0, encodables_fit s h.1)

  pub encodables_fit : (vs : Values) → Encodables vs → AllFit vs
  encodables_fit none h = tt
  encodables_fit (v ▸ vs) h = (encodable_fits v h.0, encodables_fit vs h.1)

-- And the other way round.
mutual
  pub fits_encodable : (v : Value) → CellsFit v → Encodable v
  fits_encodable (scalar (num n i)) h = le→leb (mag i) 2147483647 h.1
  fits_encodable (scalar (truth b)) h = tt
  fits_encodable (scalar (element g k)) h = h
  fits_encodable (pair v w) h = (fits_encodable v h.0, fits_encodable w h.1)
  fits_encodable (set s) h = (h.0, fit_encodables s h.1)

  pub fit_encodables : (vs : Values) → AllFit vs → Encodables vs
  fit_encodables none h = tt
  fit_encodables (v ▸ vs) h = (fits_encodable v h.0, fit_encodables vs h.1)

-- Cells tell the value, whatever follows them.
scalar_cells : (s r : Scalar) → ScalarFits s → ScalarFits r → scalar_tag s * cell_size + scalar_low s ≡ scalar_tag r * cell_size + scalar_low r → s ≡ r
scalar_cells s r h k e =
    let a = scalar_small s h in
    let b = scalar_small r k in
    let t : scalar_tag s ≡ scalar_tag r = omega arith in
    let l : scalar_low s ≡ scalar_low r = omega arith in
    scalar_eq s r (fits_small (scalar s) h) (fits_small (scalar r) k) t (sym (scalar_payload_law s h) ∙ (cc) ∙ scalar_payload_law r k)

mutual
  unfolding code

  pub code_eq : (v w : Value) (x y : List ℕ) → CellsFit v → CellsFit w → code v ++ x ≡ code w ++ y → (v ≡ w) × (x ≡ y)
  code_eq (scalar s) (scalar r) x y h k e = (ap scalar (scalar_cells s r h k (cc)), cc)
  code_eq (scalar s) (pair c d) x y h k e = absurd (let q : scalar_tag s * cell_size + scalar_low s ≡ 4 * cell_size = cc in omega (arith, scalar_small s h))
  code_eq (scalar s) (set r) x y h k e = absurd
      (let q : scalar_tag s * cell_size + scalar_low s ≡ 5 * cell_size + count r = cc in omega (arith, scalar_small s h))
  code_eq (pair a b) (scalar r) x y h k e = absurd (let q : 4 * cell_size ≡ scalar_tag r * cell_size + scalar_low r = cc in omega (arith, scalar_small r k))
  code_eq (pair a b) (pair c d) x y h k e =
      let q : code a ++ (code b ++ x) ≡ code c ++ (code d ++ y) = cc (append_assoc (code a) (code b) x, append_assoc (code c) (code d) y) in
      let f = code_eq a c (code b ++ x) (code d ++ y) h.0 k.0 q in
      let g = code_eq b d x y h.1 k.1 f.1 in
      (cc (f.0, g.0), g.1)
  code_eq (pair a b) (set r) x y h k e = absurd (let q : 4 * cell_size ≡ 5 * cell_size + count r = cc in omega arith)
  code_eq (set s) (scalar r) x y h k e = absurd
      (let q : 5 * cell_size + count s ≡ scalar_tag r * cell_size + scalar_low r = cc in omega (arith, scalar_small r k))
  code_eq (set s) (pair c d) x y h k e = absurd (let q : 5 * cell_size + count s ≡ 4 * cell_size = cc in omega arith)
  code_eq (set s) (set r) x y h k e =
      let q : 5 * cell_size + count s ≡ 5 * cell_size + count r = cc in
      let f = codes_eq s r x y (omega arith) h.1 k.1 (cc) in
      (ap set f.0, f.1)

  pub codes_eq : (s r : Values) (x y : List ℕ) → count s ≡ count r → AllFit s → AllFit r → codes s ++ x ≡ codes r ++ y → (s ≡ r) × (x ≡ y)
  codes_eq none none x y c h k e = (refl, e)
  codes_eq none (w ▸ ws) x y c h k e = absurd (omega arith)
  codes_eq (v ▸ vs) none x y c h k e = absurd (omega arith)
  codes_eq (v ▸ vs) (w ▸ ws) x y c h k e =
      let q : code v ++ (codes vs ++ x) ≡ code w ++ (codes ws ++ y) = cc (append_assoc (code v) (codes vs) x, append_assoc (code w) (codes ws) y) in
      let f = code_eq v w (codes vs ++ x) (codes ws ++ y) h.0 k.0 q in
      let g = codes_eq vs ws x y (omega arith) h.1 k.1 f.1 in
      (cc (f.0, g.0), g.1)

-- No value's cells begin another's: where the cells agree as far as both go, the values are equal.
prefix_is : (xs ys : List ℕ) → length ys ≤ length xs → ((j : ℕ) → j < length ys → get_or xs j 0 ≡ get_or ys j 0) → xs ≡ ys ++ drop (length ys) xs
prefix_is xs [] l h = refl
prefix_is [] (y ∷ ys) l h = absurd (omega arith)
prefix_is (x ∷ xs) (y ∷ ys) l h = let e : x ≡ y = h 0 (omega arith) in rw (← e)
    (ap (λ (z : List ℕ). x ∷ z) (prefix_is xs ys (omega arith) (λ j p. h (suc j) (omega arith))))

shorter_agree : (v w : Value) → CellsFit v → CellsFit w → weight w ≤ weight v → ((j : ℕ) → j < weight w → get_or (code v) j 0 ≡ get_or (code w) j 0) → v ≡ w
shorter_agree v w p q l h =
    let e : code v ≡ code w ++ drop (length (code w)) (code v) = prefix_is (code v) (code w) (rw (length_code v, length_code w) l)
    (λ j k. h j (omega (arith, length_code w))) in
    (code_eq v w [] (drop (length (code w)) (code v)) p q (append-nil (code v) ∙ e)).0

pub all_agree : (v w : Value) → CellsFit v → CellsFit w → ((j : ℕ) → j < weight v → j < weight w → get_or (code v) j 0 ≡ get_or (code w) j 0) → v ≡ w
all_agree v w p q h = go (dec_lt (weight v) (weight w))
  where
    go : Dec (weight v < weight w) → v ≡ w
    go (yes y) = sym (shorter_agree w v q p (omega arith) (λ j l. sym (h j l (omega arith))))
    go (no n) = shorter_agree v w p q (omega arith) (λ j l. h j (omega arith) l)
