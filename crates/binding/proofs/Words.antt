-- The bits of a word: of a word with another, of what both have, of one without the other (a meet with the complement), and of a power of 2.
-- A shift passes through the operations, and the last bit of each is decided by those of its operands.
use Prim.Native.Nat.{ℕ, zero, suc, ◌*◌, ◌/◌, ◌%◌, ◌^◌, ◌<◌, min, max}
use mathlib.Core.Bool.{Bool, false, not, ◌&&◌, ◌||◌}
use mathlib.Core.Path.{◌≡◌, refl, sym, ap, ◌∙◌}
use native.Mathlib.Omega.{arith}
use native.Mathlib.Nat.{div-eq_of_lt, div-div-eq-div-mul, zero-div, zero-lt-suc, pow-suc, pow-succ'}
use lib.Bits.{bit_and, bit_or, and_step, or_step, and_shr, or_shr}
use mathlib.Core.Logic.{⊎_elim}
use native.Mathlib.Nat.{lt_of_lt_of_le}
use Prim.Native.Nat.{◌-◌}
use Rattle.std.specs.Int.{w32}
use Rattle.std.proofs.Math.Nat.{pow-le-pow_right}
use Rattle.std.proofs.lemmas.Bool.{cases_lt}
use Rattle.std.proofs.lemmas.Nat.Bits.{bit_at_not}
use lib.Dec.{eqb, eqb-zero-suc, eqb-suc-zero, eqb-suc-suc}
use lib.Pow.{pow-lt, shl_exact}
use Rattle.binding.specs.Words.{has_bit, WordIs}

-- Two digits are 0 or 1.
by_digits : (P : ℕ → ℕ → Type 0) → P 0 0 → P 0 1 → P 1 0 → P 1 1 → (a b : ℕ) → a < 2 → b < 2 → P a b
by_digits P p q r s zero zero h k = p
by_digits P p q r s zero (suc zero) h k = q
by_digits P p q r s zero (suc (suc b)) h k = absurd (omega arith)
by_digits P p q r s (suc zero) zero h k = r
by_digits P p q r s (suc zero) (suc zero) h k = s
by_digits P p q r s (suc zero) (suc (suc b)) h k = absurd (omega arith)
by_digits P p q r s (suc (suc a)) b h k = absurd (omega arith)

abbrev one : ℕ → Bool
one d = eqb d 1

-- The last bits.
last_or : (a b : ℕ) → one (bit_or a b % 2) ≡ (one (a % 2) || one (b % 2))
last_or a b =
    let e : bit_or a b % 2 ≡ max (a % 2) (b % 2) = omega (arith, or_step a b) in
    ap one e ∙ by_digits (λ c d. one (max c d) ≡ (one c || one d)) refl refl refl refl (a % 2) (b % 2) (omega arith) (omega arith)

last_and : (a b : ℕ) → one (bit_and a b % 2) ≡ (one (a % 2) && one (b % 2))
last_and a b =
    let e : bit_and a b % 2 ≡ min (a % 2) (b % 2) = omega (arith, and_step a b) in
    ap one e ∙ by_digits (λ c d. one (min c d) ≡ (one c && one d)) refl refl refl refl (a % 2) (b % 2) (omega arith) (omega arith)

last_without : (a b c : ℕ) → c % 2 ≡ 1 - b % 2 → one (bit_and a c % 2) ≡ (not (one (b % 2)) && one (a % 2))
last_without a b c h =
    let e : bit_and a c % 2 ≡ min (a % 2) (1 - b % 2) = omega (arith, h, and_step a c) in
    ap one e ∙ by_digits (λ d k. one (min d (1 - k)) ≡ (not (one k) && one d)) refl refl refl refl (a % 2) (b % 2) (omega arith) (omega arith)

-- Above the bits of a word there are none.
last_none : (a b c : ℕ) → a ≡ 0 → one (bit_and a c % 2) ≡ (not (one (b % 2)) && one (a % 2))
last_none a b c h =
    let e : bit_and a c % 2 ≡ 0 = omega (arith, h, and_step a c) in
    ap one e
    ∙ by_digits (λ d k. d ≡ 0 → false ≡ (not (one k) && one d)) (λ q. refl) (λ q. refl)
    (λ q. absurd (omega (arith, q))) (λ q. absurd (omega (arith, q))) (a % 2) (b % 2) (omega arith) (omega arith) (omega (arith, h))

module _ (a b x : ℕ) where
  pub bit_or_law : has_bit (bit_or a b) x ≡ (has_bit a x || has_bit b x)
  unfolding has_bit
  bit_or_law = rw (or_shr a b x) (last_or (a / 2 ^ x) (b / 2 ^ x))

  pub bit_and_law : has_bit (bit_and a b) x ≡ (has_bit a x && has_bit b x)
  unfolding has_bit
  bit_and_law = rw (and_shr a b x) (last_and (a / 2 ^ x) (b / 2 ^ x))

-- Of one word without another, by the complement.
pub bit_without : (a b : ℕ) → a < 2 ^ 32 → b < 2 ^ 32 → (x : ℕ) → has_bit (bit_and a (4294967295 - b)) x ≡ (not (has_bit b x) && has_bit a x)
unfolding has_bit
bit_without a b h k x =
    rw (and_shr a (4294967295 - b) x) (
    ⊎_elim (λ l. last_without (a / 2 ^ x) (b / 2 ^ x) ((4294967295 - b) / 2 ^ x) (bit_at_not w32 b x k l))
    (λ l. last_none (a / 2 ^ x) (b / 2 ^ x) ((4294967295 - b) / 2 ^ x) (div-eq_of_lt (lt_of_lt_of_le h (pow-le-pow_right (omega arith) l))))
    (cases_lt x 32)
    )

pub bit_none : (x : ℕ) → has_bit 0 x ≡ false
unfolding has_bit
bit_none x = rw (zero-div (2 ^ x))

-- 2 ^ y has the bit y alone: one halving takes both down by one.
halved : (x y : ℕ) → 2 ^ suc y / 2 ^ suc x ≡ 2 ^ y / 2 ^ x
halved x y =
    ap (λ (k : ℕ). 2 ^ suc y / k) (pow-succ' 2 x) ∙ sym (div-div-eq-div-mul (2 ^ suc y) 2 (2 ^ x))
    ∙ ap (λ (k : ℕ). k / 2 ^ x) (omega (arith, pow-suc 2 y))

pub bit_power : (x y : ℕ) → has_bit (2 ^ y) x ≡ eqb x y
unfolding has_bit
bit_power zero zero = refl
bit_power zero (suc y) = let e : 2 ^ suc y / 1 % 2 ≡ 0 = omega (arith, pow-suc 2 y) in ap one e ∙ sym (eqb-zero-suc y)
bit_power (suc x) zero =
    ap (λ (d : ℕ). one (d % 2)) (div-eq_of_lt (pow-lt {i = 0} {j = suc x} (zero-lt-suc x))) ∙ sym (eqb-suc-zero x)
bit_power (suc x) (suc y) = ap (λ (d : ℕ). one (d % 2)) (halved x y) ∙ bit_power x y ∙ sym (eqb-suc-suc x y)

-- So a shift of 1 by y bits.
pub bit_shifted : (y : ℕ) → y < 32 → WordIs (λ x. eqb x y) (1 * 2 ^ y % 4294967296)
bit_shifted y h x =
    let e : 1 * 2 ^ y ≡ 2 ^ y = omega arith in
    ap (λ (w : ℕ). has_bit w x) (shl_exact {a = 1} 1 y 32 (omega arith) (omega arith) ∙ e) ∙ bit_power x y
