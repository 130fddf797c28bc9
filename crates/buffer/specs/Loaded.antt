-- Refusal 14: the values of a table's identifiers, read from the buffer into the arena.
use Rattle.std.specs.Prelude.{Option, Some, None, Result, Ok, Err, ℕ, ◌+◌, ◌*◌, ◌-◌, ◌≤◌, ◌<◌, List, ◌≡◌, length, get_or, drop}
use Rattle.rules.specs.Values.{Value}
use Rattle.rules.specs.Ends.{done, refused}
use Rattle.rules.specs.Cells.{no_value, value_for, values_from}
use Rattle.rules.specs.Tables.{table_of, identifier_count}
use Rattle.rules.specs.Readable.{Readable}
use Rattle.arena.specs.Code.{ValueBelow}
use Rattle.buffer.specs.Buffer.{cells_at_most, CopyReady}
use Rattle.buffer.specs.declared.Entry.{Entry}
use Rattle.buffer.specs.declared.Environment.{Environment}
use Rattle.buffer.specs.declared.ValueFault.{ValueFault}

-- The value of an identifier with the word w stands at `place`; it is the value without a value at `none` where it is bound.
pub record Entered (gs : List ℕ) (w : ℕ) (bs : List ℕ) (at : ℕ) (s s' : List ℕ) (none top place next end : ℕ) : Type 0 where
  pub first : Value
  pub reads : (x : ℕ) → value_for gs w x (drop at bs) ≡ done (first, drop next bs)
  pub below : ValueBelow s top none no_value → ValueBelow s' end place first
  pub grows : top ≤ end
  pub near : end ≤ top + cells_at_most 1 (length bs - at)
  pub spent : next ≡ at + 8 * (end - top)

-- So the value of the identifier x of a table, or refusal 14.
abbrev pub Enters : List ℕ → ℕ → List ℕ → ℕ → List ℕ → List ℕ → ℕ → ℕ → Option Entry → Type 0
Enters table x bs at s s' none top (Some entry) =
    Entered (table_of table).sizes (get_or (table_of table).binds x 0) bs at s s' none top entry.place entry.next.at entry.end
Enters table x bs at s s' none top None = value_for (table_of table).sizes (get_or (table_of table).binds x 0) x (drop at bs) ≡ refused 14 x

-- What reading it asks.
pub record EntryReady (table : List ℕ) (x : ℕ) (bs : List ℕ) (at : ℕ) (s : List ℕ) (top : ℕ) : Type 0 where
  pub named : x < identifier_count table
  pub copy : CopyReady table bs at s top

-- Each identifier's value stands below `end` where the environment says; those without one have the cell of `no_value`. What
-- has been read lies from `top` on, within the room that was asked for.
pub record Bound (gs ws bs s env : List ℕ) (top end : ℕ) : Type 0 where
  pub values : List Value
  pub reads : values_from gs ws 0 bs ≡ done values
  pub at : (x : ℕ) → x < 32 → ValueBelow s end (get_or env x 0) (get_or values x no_value)
  pub above : top < end
  pub room : end ≤ top + 1 + cells_at_most (length ws) (length bs)

-- The answer is that of refusal 14.
abbrev pub Loads : List ℕ → List ℕ → List ℕ → List ℕ → ℕ → Result Environment ValueFault → Type 0
Loads gs ws bs s top (Ok env) = Bound gs ws bs s env.at top env.end
Loads gs ws bs s top (Err fault) = values_from gs ws 0 bs ≡ refused 14 fault.identifier

-- What reading the values asks: room from `top` on for the cells that they may take, and the cell of an identifier without a value.
pub record LoadReady (bs values s : List ℕ) (top : ℕ) : Type 0 where
  pub readable : Readable bs
  pub room : top + 1 + cells_at_most (identifier_count bs) (length values) ≤ length s
  pub small : length s < 4294967296
