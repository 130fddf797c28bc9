-- How a value is written: the loop keeps `cells_put`, the bytes of the cells so far and behind them what stood there before; a turn stores eight
-- bytes more; at the end the cells are those of the value (`ValueBytes`).
use Prim.Native.Nat.{ℕ, ◌+◌, ◌*◌, ◌-◌, ◌/◌, ◌%◌, ◌≤◌, ◌<◌}
use mathlib.Core.List.{List, [], ◌∷◌, ◌++◌, append_assoc}
use mathlib.Core.Path.{◌≡◌, refl, sym, ap, ap₂, ◌∙◌}
use native.Mathlib.Numerals.{add-one}
use native.Mathlib.Omega.{arith}
use lib.ListN.{length, get_or, take, drop, length-drop}
use lib.Seq.{take_at, drop-append-add, drop-drop, take-suc, length-take-le, get_or-drop, get_or-take, ext_get_or}
use borrow.Author.Tests.{le-leb, lt-leb}
use Rattle.std.specs.Int.{w64, to_le_bytes}
use Rattle.rules.specs.Cells.{bytes4, cells}
use Rattle.laws.proofs.CellsLaws.{cells_length}
use Rattle.arena.specs.Code.{code, Stands}
use Rattle.arena.proofs.CodeLaws.{length_code}
use Rattle.writing.specs.Written.{cell_bytes, bytes_of, cells_put, Writes}
use Rattle.writing.proofs.ValueBytes.{bytes_append, bytes_length, value_bytes}

-- The eight bytes of a cell, the least first, are the word of its payload and that of its tag.
pub cell_word : (x : ℕ) → to_le_bytes w64 x ≡ bytes4 (x % 4294967296) ++ bytes4 (x / 4294967296)
cell_word x =
    let a : x % 256 ≡ x % 4294967296 % 256 = omega arith in
    let b : x / 256 % 256 ≡ x % 4294967296 / 256 % 256 = omega arith in
    let c : x / 65536 % 256 ≡ x % 4294967296 / 65536 % 256 = omega arith in
    let d : x / 16777216 % 256 ≡ x % 4294967296 / 16777216 % 256 = omega arith in
    let f : x / 1099511627776 % 256 ≡ x / 4294967296 / 256 % 256 = omega arith in
    let g : x / 281474976710656 % 256 ≡ x / 4294967296 / 65536 % 256 = omega arith in
    let h : x / 72057594037927936 % 256 ≡ x / 4294967296 / 16777216 % 256 = omega arith in
    rw (a, b, c, d, f, g, h)

-- Nothing is written yet.
pub put_start : (xs out : List ℕ) → out ≡ cells_put (take 0 xs) out
unfolding bytes_of
put_start xs out = refl

module _ (xs out : List ℕ) (i : ℕ) (inside : i < length xs) (room : 8 * i + 8 ≤ length out) where
  front : List ℕ
  front = bytes_of (take i xs)

  front_length : length front ≡ 8 * i
  unfolding front
  front_length = bytes_length (take i xs) ∙ ap (λ (n : ℕ). 8 * n) (length-take-le i xs (omega arith))

  next : List ℕ
  next = cell_bytes (get_or xs i 0)

  front_next : bytes_of (take (i + 1) xs) ≡ front ++ next
  unfolding front next bytes_of
  front_next = rw (add-one i, take-suc xs i 0 inside) (bytes_append (take i xs) (get_or xs i 0 ∷ []))

  -- A turn of the loop: eight bytes are written over the part behind the front.
  pub put_turn : (l bytes : List ℕ) → l ≡ cells_put (take i xs) out → bytes ≡ cell_bytes (get_or xs i 0) →
      take (8 * i) l ++ (bytes ++ drop (8 * i + 8 - 8 * i) (drop (8 * i) l)) ≡ cells_put (take (i + 1) xs) out
  unfolding front next
  put_turn l bytes e f =
      let b = drop (8 * i) out in
      let rest = drop (8 * length (take (i + 1) xs)) out in
      let before : 8 * length (take i xs) ≡ 8 * i = omega (arith, length-take-le i xs (omega arith)) in
      let after : 8 * i + 8 ≡ 8 * length (take (i + 1) xs) = omega (arith, length-take-le (i + 1) xs (omega arith)) in
      let whole : l ≡ front ++ b = e ∙ ap (λ (n : ℕ). front ++ drop n out) before in
      let taken : take (8 * i) l ≡ front = ap (take (8 * i)) whole ∙ take_at front b (8 * i) front_length in
      let eight : 8 * i + 8 - 8 * i ≡ 8 = omega arith in
      let long : 8 * i + 8 ≡ length front + 8 = omega (arith, front_length) in
      let left : drop (8 * i + 8 - 8 * i) (drop (8 * i) l) ≡ rest =
      ap (λ (n : ℕ). drop n (drop (8 * i) l)) eight ∙ drop-drop 8 (8 * i) l ∙ ap₂ drop long whole ∙ drop-append-add front b 8
      ∙ drop-drop 8 (8 * i) out ∙ ap (λ (n : ℕ). drop n out) after in
      ap₂ (λ (x y : List ℕ). x ++ (bytes ++ y)) taken left ∙ ap (λ (x : List ℕ). front ++ (x ++ rest)) f
      ∙ sym (append_assoc front next rest) ∙ ap (λ (x : List ℕ). x ++ rest) (sym front_next)

-- A run of cells that stands at `at` is what is found there.
stands_run : (s : List ℕ) (at : ℕ) (xs : List ℕ) → Stands s at xs → take (length xs) (drop at s) ≡ xs
stands_run s at xs h =
    let n = length xs in
    let l : length (take n (drop at s)) ≡ n = length-take-le n (drop at s) (omega (arith, h.inside, length-drop at s)) in
    ext_get_or 0 (take n (drop at s)) xs l
    (λ i k. let b : i < n = omega arith in get_or-take n (drop at s) i 0 b ∙ get_or-drop at s i 0 ∙ h.cells i b)

-- The bytes of the value are written, or do not fit.
module _ (s out : List ℕ) (at end : ℕ) where
  pub writes_all : (m xs : List ℕ) → xs ≡ take (end - at) (drop at s) → length xs ≡ end - at → 8 * length xs ≤ length out → m ≡ cells_put xs out →
      Writes s at end out m (8 * length xs)
  writes_all m xs r n h e v stands fits ends =
      let l : 8 * length xs ≡ length (cells v) = omega (arith, cells_length v) in
      let k : end - at ≡ length (code v) = omega (arith, length_code v) in
      let b : bytes_of xs ≡ cells v = rw (r, k, stands_run s at (code v) stands) (value_bytes v fits) in
      (l ∙ cells_length v, e ∙ rw (b, l, le-leb (length (cells v)) (length out) (omega (arith, l))))

  pub writes_none : (n : ℕ) → n ≡ end - at → length out < 8 * n → Writes s at end out out (8 * n)
  writes_none n e h v stands fits ends =
      (omega arith, rw (lt-leb (length (cells v)) (length out) (omega (arith, cells_length v))))
