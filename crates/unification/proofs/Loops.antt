-- A loop that fills an array: what stands in it after i turns. The last turn is outermost, so start and turn hold by definition; the end compares
-- the two lists entry by entry.
use mathlib.Core.Path.{◌≡◌, refl, sym, ◌∙◌}
use mathlib.Core.List.{List}
use Prim.Native.Nat.{ℕ, zero, suc, ◌+◌, ◌≤◌, ◌<◌}
use native.Mathlib.Nat.{not-suc-le-zero}
use native.Mathlib.Omega.{arith}
use native.Mathlib.Numerals.{add-one}
use native.Mathlib.Decide.{ℕ_discrete}
use lib.ListN.{length, get_or, set, length-set}
use lib.Seq.{get_or-set_same, get_or-set_other, ext_get_or}

-- f i at each of the first i places
unfoldable pub fill_to : (ℕ → ℕ) → ℕ → List ℕ → List ℕ
fill_to f zero l = l
fill_to f (suc i) l = set (fill_to f i l) i (f i)

length_fill_to : (f : ℕ → ℕ) (i : ℕ) (l : List ℕ) → length (fill_to f i l) ≡ length l
unfolding fill_to
length_fill_to f zero l = refl
length_fill_to f (suc i) l = length-set (fill_to f i l) i _ ∙ length_fill_to f i l

fill_to_at : (f : ℕ → ℕ) (i : ℕ) (l : List ℕ) (k : ℕ) → i ≤ length l → k < i → get_or (fill_to f i l) k 0 ≡ f k
unfolding fill_to
fill_to_at f zero l k h ki = absurd (not-suc-le-zero ki)
fill_to_at f (suc i) l k h ki = go (ℕ_discrete k i) (λ ki'. fill_to_at f i l k (omega arith) ki')
  where
    go : Dec (k ≡ i) → (k < i → get_or (fill_to f i l) k 0 ≡ f k) → get_or (set (fill_to f i l) i (f i)) k 0 ≡ f k
    go (yes e) ih = rw e (get_or-set_same (fill_to f i l) i _ 0 (rw (length_fill_to f i l) h))
    go (no ne) ih = get_or-set_other (fill_to f i l) i k _ 0 ne ∙ ih (omega arith)

pub fill_start : (f : ℕ → ℕ) (l : List ℕ) → l ≡ fill_to f 0 l
unfolding fill_to
fill_start f l = refl

pub fill_turn : (f : ℕ → ℕ) (i r : ℕ) (l l' : List ℕ) → l' ≡ fill_to f i l → r ≡ f i → set l' i r ≡ fill_to f (i + 1) l
unfolding fill_to
fill_turn f i r l l' e h = rw (add-one i, h, e)

pub fill_end : (f : ℕ → ℕ) (i : ℕ) (l l' t : List ℕ) → l' ≡ fill_to f i l → i ≤ length l → length l ≤ i → length t ≡ length l →
    ((k : ℕ) → k < length l → get_or t k 0 ≡ f k) → l' ≡ t
fill_end f i l l' t e h k lt at = e ∙ ext_get_or 0 (fill_to f i l) t (length_fill_to f i l ∙ sym lt)
    (λ v hv. let hl : v < length l = omega (arith, length_fill_to f i l) in fill_to_at f i l v h (omega arith) ∙ sym (at v hl))
