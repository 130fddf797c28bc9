-- The bytes of a value's cells in the arena are its cells in the buffer: of its own cell, since that is `arena_cell` of its first cell in the
-- buffer (`Ahead`), and `arena_cell` is its own inverse (`CellAt`); of all its cells by induction on the value.
use Prim.Native.Nat.{ℕ, ◌*◌, ◌/◌, ◌%◌, ◌<◌}
use mathlib.Core.List.{List, [], ◌∷◌, ◌++◌, append_assoc, append-nil}
use mathlib.Core.Path.{◌≡◌, refl, sym, ap, ap₂, ◌∙◌}
use native.Mathlib.Omega.{arith}
use lib.ListN.{length, length-append}
use Rattle.rules.specs.Values.{Value, scalar, pair, set, Values, none, ◌▸◌, tag, payload}
use Rattle.rules.specs.Cells.{bytes4, twos, cell, cells, cells_of}
use Rattle.laws.proofs.CellsLaws.{payload_word}
use Rattle.arena.specs.Code.{code, codes, CellsFit, AllFit}
use Rattle.arena.proofs.CodeLaws.{cell_parts, fits_encodable}
use Rattle.arena.proofs.Standing.{own_cell}
use Rattle.fitting.proofs.Cells.{tag_most}
use Rattle.buffer.specs.Buffer.{arena_cell}
use Rattle.buffer.proofs.CellAt.{arena_cell_twice}
use Rattle.buffer.proofs.Ahead.{first_of, head_coded}
use Rattle.writing.specs.Written.{cell_bytes, bytes_of}

-- A tag is one byte, and three zeros follow.
tag_bytes : (t : ℕ) → t < 256 → bytes4 t ≡ t ∷ 0 ∷ 0 ∷ 0 ∷ []
tag_bytes t h =
    let a : t % 256 ≡ t = omega arith in
    let b : t / 256 % 256 ≡ 0 = omega arith in
    let c : t / 65536 % 256 ≡ 0 = omega arith in
    let d : t / 16777216 % 256 ≡ 0 = omega arith in
    rw (a, b, c, d)

-- A value's own cell in the arena has the bytes of its first cell in the buffer.
own_bytes : (v : Value) → CellsFit v → cell_bytes (own_cell v) ≡ cell v
unfolding cell
own_bytes v h =
    let f = fits_encodable v h in
    let e : arena_cell (own_cell v) ≡ first_of v = ap arena_cell (head_coded v f) ∙ arena_cell_twice (first_of v) in
    let q = cell_parts (tag v) (twos (payload v)) (payload_word v f) in
    rw (e, q.0, q.1, tag_bytes (tag v) (omega (arith, tag_most v)))

pub bytes_append : (xs ys : List ℕ) → bytes_of (xs ++ ys) ≡ bytes_of xs ++ bytes_of ys
unfolding bytes_of
bytes_append [] ys = refl
bytes_append (x ∷ xs) ys =
    let b = cell_bytes x in ap (λ (l : List ℕ). b ++ l) (bytes_append xs ys) ∙ sym (append_assoc b (bytes_of xs) (bytes_of ys))

pub bytes_length : (xs : List ℕ) → length (bytes_of xs) ≡ 8 * length xs
unfolding bytes_of
bytes_length [] = refl
bytes_length (x ∷ xs) = omega (arith, length-append (cell_bytes x) (bytes_of xs), bytes_length xs)

mutual
  unfolding bytes_of code cells

  pub value_bytes : (v : Value) → CellsFit v → bytes_of (code v) ≡ cells v
  value_bytes (scalar s) h = append-nil (cell_bytes (own_cell (scalar s))) ∙ own_bytes (scalar s) h
  value_bytes (pair v w) h =
      ap₂ ◌++◌ (own_bytes (pair v w) h)
      (bytes_append (code v) (code w) ∙ ap₂ ◌++◌ (value_bytes v h.0) (value_bytes w h.1))
  value_bytes (set s) h = ap₂ ◌++◌ (own_bytes (set s) h) (values_bytes s h.1)

  values_bytes : (vs : Values) → AllFit vs → bytes_of (codes vs) ≡ cells_of vs
  values_bytes none h = refl
  values_bytes (v ▸ vs) h =
      bytes_append (code v) (codes vs) ∙ ap₂ ◌++◌ (value_bytes v h.0) (values_bytes vs h.1)
