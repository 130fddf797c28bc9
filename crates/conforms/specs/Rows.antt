-- What the functions ask and answer: the row of a type in a sheet, and values against rows.
use Rattle.std.specs.Prelude.{ℕ, zero, suc, ◌+◌, ◌*◌, ◌≤◌, ◌<◌, Bool, true, false, cond, List, ◌≡◌, eqb, leb, length, get_or}
use Rattle.std.proofs.Math.Option.{some}
use Rattle.rules.specs.Types.{Ty, type_of_row}
use Rattle.rules.specs.Values.{Value}
use Rattle.rules.specs.Tables.{table_of, identifier_count}
use Rattle.rules.specs.Readable.{Header, Readable}
use Rattle.rules.specs.Verdict.{sheet_length}
use Rattle.arena.specs.Code.{ValueAt, CellsFit, SomeAt}
use Rattle.fitting.specs.Types.{type_parts}
use Rattle.buffer.specs.Loaded.{Bound}
use Rattle.conforms.specs.Conforming.{row_at, has_written, if_free, conforming}

-- The codes that a type may begin with: 1 to 4, and those of the given sets.
abbrev pub is_code : ℕ → Bool
is_code c = cond (leb 16 c) true (cond (eqb c 0) false (leb c 4))

-- The byte c may stand where `left` types are still to be read, and how many are then to be read behind it.
abbrev pub goes_on : ℕ → ℕ → Bool
goes_on c zero = eqb c 0
goes_on c (suc n) = is_code c

abbrev pub left_behind : ℕ → ℕ → ℕ
left_behind c zero = 0
left_behind c (suc n) = n + type_parts c

-- The row of the place p is that of a type.
pub record TypeRow (sheet : List ℕ) (p : ℕ) : Type 0 where
  pub type : Ty
  pub read : type_of_row (row_at sheet p) ≡ some type

-- The value at `at` is for the identifier x, whose row is in the sheet.
pub record NameReady (bs s : List ℕ) (at : ℕ) (sheet : List ℕ) (x : ℕ) : Type 0 where
  pub header : Header bs
  pub below : x < identifier_count bs
  pub value : SomeAt s at
  pub inside : 64 * x + 64 ≤ length sheet

-- r says whether the value at `at` has the type of x, if x is free.
abbrev pub NameHas : List ℕ → List ℕ → ℕ → List ℕ → ℕ → Bool → Type 0
NameHas bs s at sheet x r = (v : Value) → ValueAt s at v → CellsFit v → r ≡ if_free (get_or (table_of bs).binds x 1) (has_written sheet x v)

-- The sheet has a row for each place of the table.
pub record SheetFits (bs sheet : List ℕ) : Type 0 where
  pub rows : length sheet ≡ sheet_length (table_of bs)

-- The values of a buffer have been read into the arena s from `top` to `end`, and refusal 14 has passed them.
abbrev pub LoadedFrom : List ℕ → List ℕ → List ℕ → List ℕ → ℕ → ℕ → Type 0
LoadedFrom bs buffer s env top end = Bound (table_of bs).sizes (table_of bs).binds buffer s env top end

-- So those of some buffer, from some place on.
pub record ValuesLoaded (bs s env : List ℕ) : Type 0 where
  pub readable : Readable bs
  pub buffer : List ℕ
  pub top : ℕ
  pub end : ℕ
  pub bound : LoadedFrom bs buffer s env top end

-- r says of each buffer whose values these are whether it conforms.
abbrev pub LoadedConform : List ℕ → List ℕ → List ℕ → List ℕ → Bool → Type 0
LoadedConform bs s env sheet r = (buffer : List ℕ) (top end : ℕ) → LoadedFrom bs buffer s env top end → r ≡ conforming bs sheet buffer
