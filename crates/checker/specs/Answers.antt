-- The number and the place, in the terms of document 01, of what `check` answers, and what its internal functions say.
use Rattle.std.specs.Prelude.{ℕ, List, ◌≡◌, length, Result, Ok, Err}
use Rattle.rules.specs.Ends.{End, done, refused}
use Rattle.rules.specs.Tables.{table_of}
use Rattle.rules.specs.Reading.{reading}
use Rattle.rules.specs.Verdict.{Verdict, sheet_after, sheet_length}
use Rattle.reading.specs.declared.Refusal.{Refusal}
use Rattle.sheets.specs.Rows.{PlacesIn}
use Rattle.checker.specs.Solving.{SolvedBelow}

abbrev pub answer_of : Result (Unit {0}) Refusal → End (Unit {0})
answer_of (Ok _) = done tt
answer_of (Err r) = refused r.number r.place

-- An answer without the rows.
abbrev pub answered : End (List ℕ) → End (Unit {0})
answered (done rows) = done tt
answered (refused r p) = refused r p

-- The answer and the sheet at exit are those of a verdict that document 01 describes.
pub record Told (bs sheet : List ℕ) (r : Result (Unit {0}) Refusal) (after : List ℕ) : Type 0 where
  pub verdict : End (List ℕ)
  pub described : Verdict bs (length sheet) verdict
  pub answer : answer_of r ≡ answered verdict
  pub exit : after ≡ sheet_after verdict sheet

-- A readable table and a sheet of the right length.
pub record Checkable (bs sheet : List ℕ) : Type 0 where
  pub reads : reading bs ≡ done (table_of bs)
  pub fits : length sheet ≡ sheet_length (table_of bs)

-- What answering rests on: the whole table, solved, its places, and a sheet that fits; `firsts` is room for the rows' classes.
pub record Answerable (bs : List ℕ) (at : ℕ) (ts starts marks firsts sheet : List ℕ) : Type 0 where
  pub checkable : Checkable bs sheet
  pub places : PlacesIn bs at ts starts marks
  pub solved : SolvedBelow (table_of bs) (length (table_of bs).nodes) ts marks
  pub room : length firsts ≡ length ts
