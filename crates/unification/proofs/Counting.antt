-- How many numbers below n pass a test: laws of the count, by induction on n with one law of `tally` for the step.
use mathlib.Core.Path.{◌≡◌, refl, sym}
use mathlib.Core.Bool.{Bool, true, false, true≢false}
use Prim.Native.Nat.{ℕ, zero, suc, ◌≤◌, ◌<◌}
use native.Mathlib.Nat.{not-suc-le-zero, le_refl}
use native.Mathlib.Omega.{arith}
use native.Mathlib.Decide.{ℕ_discrete}
use Rattle.unification.specs.Marks.{tally, count_below}

tally_mono : (a b : Bool) (x y : ℕ) → (a ≡ true → b ≡ true) → x ≤ y → tally a x ≤ tally b y
tally_mono true true x y i h = omega arith
tally_mono true false x y i h = absurd (true≢false (sym (i refl)))
tally_mono false true x y i h = omega arith
tally_mono false false x y i h = h

tally_strict : (a b : Bool) (x y : ℕ) → a ≡ false → b ≡ true → x ≤ y → tally a x < tally b y
tally_strict true b x y p q h = absurd (true≢false p)
tally_strict false true x y p q h = omega arith
tally_strict false false x y p q h = absurd (true≢false (sym q))

tally_lt : (a b : Bool) (x y : ℕ) → (a ≡ true → b ≡ true) → x < y → tally a x < tally b y
tally_lt true true x y i h = omega arith
tally_lt true false x y i h = absurd (true≢false (sym (i refl)))
tally_lt false true x y i h = omega arith
tally_lt false false x y i h = h

pub count_le : (f : ℕ → Bool) (n : ℕ) → count_below f n ≤ n
count_le f zero = le_refl 0
count_le f (suc n) = go (f n) (count_le f n)
  where
    go : (b : Bool) → count_below f n ≤ n → tally b (count_below f n) ≤ suc n
    go true ih = omega arith
    go false ih = omega arith

pub count_mono : (f h : ℕ → Bool) (n : ℕ) → ((i : ℕ) → i < n → f i ≡ true → h i ≡ true) → count_below f n ≤ count_below h n
count_mono f h zero m = le_refl 0
count_mono f h (suc n) m = tally_mono (f n) (h n) (count_below f n) (count_below h n) (m n (omega arith)) (count_mono f h n (λ i l. m i (omega arith)))

pub count_strict : (f h : ℕ → Bool) (n : ℕ) → ((i : ℕ) → i < n → f i ≡ true → h i ≡ true) →
    (j : ℕ) → j < n → f j ≡ false → h j ≡ true → count_below f n < count_below h n
count_strict f h zero m j l p q = absurd (not-suc-le-zero l)
count_strict f h (suc n) m j l p q = go (ℕ_discrete j n) (λ l'. count_strict f h n (λ i k. m i (omega arith)) j l' p q)
  where
    go : Dec (j ≡ n) → (j < n → count_below f n < count_below h n) → count_below f (suc n) < count_below h (suc n)
    go (yes e) ih = tally_strict (f n) (h n) (count_below f n) (count_below h n) (cc) (cc) (count_mono f h n (λ i k. m i (omega arith)))
    go (no e) ih = tally_lt (f n) (h n) (count_below f n) (count_below h n) (m n (omega arith)) (ih (omega arith))

-- all pass, or one does not
pub count_all : (f : ℕ → Bool) (n : ℕ) → n ≤ count_below f n → (v : ℕ) → v < n → f v ≡ true
count_all f zero h v l = absurd (not-suc-le-zero l)
count_all f (suc n) h v l = go (f n) refl h (ℕ_discrete v n) (λ k l'. count_all f n k v l')
  where
    go : (b : Bool) → f n ≡ b → suc n ≤ tally b (count_below f n) → Dec (v ≡ n) → (n ≤ count_below f n → v < n → f v ≡ true) → f v ≡ true
    go true e k (yes y) ih = rw y e
    go true e k (no ne) ih = ih (omega arith) (omega arith)
    go false e k d ih = absurd (omega (arith, count_le f n))

pub count_some : (f : ℕ → Bool) (n : ℕ) → count_below f n < n → (v : ℕ) × (v < n) × (f v ≡ false)
count_some f zero h = absurd (not-suc-le-zero h)
count_some f (suc n) h = go (f n) refl h (count_some f n)
  where
    go : (b : Bool) → f n ≡ b → tally b (count_below f n) < suc n → (count_below f n < n → (v : ℕ) × (v < n) × (f v ≡ false)) →
        (v : ℕ) × (v < suc n) × (f v ≡ false)
    go true e k ih = let r = ih (omega arith) in (r.0, omega (arith, r.1), r.2)
    go false e k ih = (n, omega arith, e)
