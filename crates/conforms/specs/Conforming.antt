-- Whether a values buffer gives each free identifier a value of the type in its row of a sheet: where Check has written the
-- sheet, the guarantee of demand 3 applies.
use Rattle.std.specs.Prelude.{ℕ, zero, suc, ◌*◌, Bool, true, false, ◌&&◌, List, ◌≡◌, eqb, length, get_or, take, drop}
use Rattle.std.proofs.Math.Option.{Option, none as nothing, some}
use Rattle.rules.specs.Types.{Ty, row, type_of_row}
use Rattle.rules.specs.Values.{Value}
use Rattle.rules.specs.Fits.{HasType, has_type}
use Rattle.rules.specs.Cells.{no_value, values_in}
use Rattle.rules.specs.Tables.{Table}
use Rattle.rules.specs.Reading.{reading}
use Rattle.rules.specs.Ends.{done, all_below, done_with}
use Rattle.rules.specs.Verdict.{sheet_length}
use Rattle.rules.specs.Safety.{Free}

-- The row of a place of a sheet.
abbrev pub row_at : List ℕ → ℕ → List ℕ
row_at sheet p = take 64 (drop (64 * p) sheet)

-- The value has the type that is written at the place.
abbrev pub HasWritten : List ℕ → ℕ → Value → Type 0
HasWritten sheet p v = (t : Ty) × (row_at sheet p ≡ row t) × HasType v t

-- The values buffer gives each free identifier a value of the type in its row.
pub record Conforming (bs sheet buffer : List ℕ) : Type 0 where
  pub table : Table
  pub reads : reading bs ≡ done table
  pub values : List Value
  pub loads : values_in table buffer ≡ done values
  pub types : (x : ℕ) → Free table x → HasWritten sheet x (get_or values x no_value)

-- What follows computes `Conforming` for a sheet of the table's length; `conforming_right` in proofs/ConformingLaws.antt says that
-- it does.

-- A row is that of a type, and the value has it.
abbrev pub has_type_read : Option Ty → Value → Bool
has_type_read nothing v = false
has_type_read (some t) v = has_type v t

abbrev pub has_written : List ℕ → ℕ → Value → Bool
has_written sheet p v = has_type_read (type_of_row (row_at sheet p)) v

-- A test of free identifiers only, by an identifier's word.
abbrev pub if_free : ℕ → Bool → Bool
if_free zero b = b
if_free (suc w) b = true

abbrev pub free_has : Table → List ℕ → List Value → ℕ → Bool
free_has tb sheet vs x = if_free (get_or tb.binds x 1) (has_written sheet x (get_or vs x no_value))

-- The table is readable, the sheet has its length, refusal 14 passes the values, and each has the type in its row.
unfoldable pub conforming : List ℕ → List ℕ → List ℕ → Bool
unfolding reading values_in type_of_row has_type
conforming bs sheet buffer =
    done_with (reading bs) λ tb.
    eqb (length sheet) (sheet_length tb) &&
    done_with (values_in tb buffer) λ vs. all_below (free_has tb sheet vs) (length tb.binds)
