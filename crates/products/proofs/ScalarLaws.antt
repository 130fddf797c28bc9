-- Sets of scalars whose cells follow one another as numbers: elements of a given set, truths, integers.
use Rattle.products.proofs.Base.{ℕ, zero, suc, ◌+◌, ◌*◌, ◌-◌, ◌≤◌, ◌<◌, Bool, true, false, cond, List, Some, None, ◌≡◌, refl, sym, ap, ◌∙◌, arith, ltb, ltb→lt, nltb→le, ℤ, pos, negsuc, suc_ℤ, sub_ℕ, ◌+ℤ◌, ◌-ℤ◌, +ℤ_one}
use Rattle.products.proofs.Terms.{int, values, count, weights, set_of, up_from, to_count, elements_from, excess, code, codes, CellsFit, Made, cells_from, PutsRun, Intervals}
use Rattle.products.proofs.GrowLaws.{made_heavy}

pub elements_cells : (g k n : ℕ) → codes (values (elements_from g k n)) ≡ cells_from (12884901888 + 256 * g + k) n
unfolding code elements_from cells_from
elements_cells g k zero = refl
elements_cells g k (suc n) =
    let y : 12884901888 + (256 * g + k) ≡ 12884901888 + 256 * g + k = omega arith in
    let z : 12884901888 + 256 * g + suc k ≡ suc (12884901888 + 256 * g + k) = omega arith in
    cc (elements_cells g (suc k) n)

elements_count : (g k n : ℕ) → count (values (elements_from g k n)) ≡ n
unfolding elements_from
elements_count g k zero = refl
elements_count g k (suc n) = omega (arith, elements_count g (suc k) n)

pub elements_made : (s s' : List ℕ) (g n top r : ℕ) → PutsRun s (12884901888 + 256 * g) n top s' r → Made top s s' (set_of (elements_from g 0 n)) (Some r)
elements_made s s' g n top r put =
    let z : 12884901888 + 256 * g + 0 ≡ 12884901888 + 256 * g = omega arith in
    put (values (elements_from g 0 n)) (elements_count g 0 n) (elements_cells g 0 n ∙ rw z)

-- Integers no less than −2^31.
abbrev Low : ℤ → Type 0
Low (pos a) = Unit {0}
Low (negsuc a) = a ≤ 2147483647

fits_low : (i : ℤ) → CellsFit (int i) → Low i
fits_low (pos a) h = tt
fits_low (negsuc a) h = h.1

low_next : (i : ℤ) → Low i → Low (suc_ℤ i) × (excess (suc_ℤ i) ≡ suc (excess i))
unfolding excess
low_next (pos a) h = (tt, omega arith)
low_next (negsuc zero) h = (tt, refl)
low_next (negsuc (suc a)) h = (omega arith, omega arith)

up_cells : (i : ℤ) (n : ℕ) → Low i → codes (values (up_from i n)) ≡ cells_from (4294967296 + excess i) n
unfolding code up_from cells_from
up_cells i zero h = refl
up_cells i (suc n) h =
    let y = +ℤ_one i in
    let l = low_next i h in
    let z : 4294967296 + excess (suc_ℤ i) ≡ suc (4294967296 + excess i) = omega (arith, l.1) in
    cc (up_cells (suc_ℤ i) n l.0)

up_sizes : (i : ℤ) (n : ℕ) → (count (values (up_from i n)) ≡ n) × (weights (values (up_from i n)) ≡ n)
unfolding up_from
up_sizes i zero = (refl, refl)
up_sizes i (suc n) = let h = up_sizes (i +ℤ pos 1) n in omega arith

-- How many integers there are from one to another.
count_below_law : (n : ℕ) → to_count (suc_ℤ (negsuc n)) ≡ 0
count_below_law zero = refl
count_below_law (suc n) = refl

count_sub : (a b : ℕ) → to_count (suc_ℤ (sub_ℕ a b)) ≡ suc a - b
count_sub a b = go (ltb a b) refl
  where
    go : (c : Bool) → ltb a b ≡ c → to_count (suc_ℤ (cond c (negsuc (b - suc a)) (pos (a - b)))) ≡ suc a - b
    go true e = count_below_law (b - suc a) ∙ omega (arith, ltb→lt a b (rw e tt))
    go false e = omega (arith, nltb→le a b (rw e tt))

count_distance : (i j : ℤ) → Low i → Low j → to_count (suc_ℤ (j -ℤ i)) ≡ suc (excess j) - excess i
unfolding excess
count_distance (pos zero) (pos b) h k = omega arith
count_distance (pos zero) (negsuc b) h k = count_sub 0 (suc b) ∙ omega arith
count_distance (pos (suc a)) (pos b) h k = count_sub b (suc a) ∙ omega arith
count_distance (pos (suc a)) (negsuc b) h k = omega arith
count_distance (negsuc a) (pos b) h k = omega arith
count_distance (negsuc a) (negsuc b) h k = count_sub (suc a) (suc b) ∙ omega arith

interval_count : (i j : ℤ) (x y : ℕ) → CellsFit (int i) → CellsFit (int j) → excess i ≡ x → excess j ≡ y → to_count (j -ℤ i +ℤ pos 1) ≡ suc y - x
interval_count i j x y h k p q = ap to_count (+ℤ_one (j -ℤ i)) ∙ count_distance i j (fits_low i h) (fits_low j k) ∙ rw (p, q)

pub interval_made : (s : List ℕ) (x y n top : ℕ) (s' : List ℕ) (r : ℕ) → n ≡ suc y - x → PutsRun s (4294967296 + x) n top s' r → Intervals s x y top s' (Some r)
interval_made s x y n top s' r e put i j h k p q =
    let z : to_count (j -ℤ i +ℤ pos 1) ≡ n = interval_count i j x y h k p q ∙ sym e in
    rw z (put (values (up_from i n)) (up_sizes i n).0 (up_cells i n (fits_low i h) ∙ ap (λ (c : ℕ). cells_from (4294967296 + c) n) p))

pub interval_heavy : (s : List ℕ) (x y top : ℕ) → 254 < y - x → Intervals s x y top s None
interval_heavy s x y top l i j h k p q = let n = to_count (j -ℤ i +ℤ pos 1) in made_heavy (omega (arith, (up_sizes i n).1, interval_count i j x y h k p q))
