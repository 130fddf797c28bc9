-- What the functions over the places of a table take for granted and ensure.
use Rattle.std.specs.Prelude.{ℕ, ◌%◌, ◌<◌, ◌≤◌, List, ◌≡◌, get_or, length, Option, Some, None}
use Rattle.rules.specs.Types.{Ty}
use Rattle.rules.specs.Tables.{Table, table_of}
use Rattle.rules.specs.Verdict.{Place, sheet_of, sheet_length}
use Rattle.table.specs.Layout.{Laid}
use Rattle.terms.specs.Terms.{Terms, Satisfies}
use Rattle.terms.specs.Decided.{class_mark, Decided}
use Rattle.typing.specs.Equations.{base}
use Rattle.typing.specs.Places.{place_var, place_count, LeastPlace}

-- The table is laid out, starts has its nodes' variables, all of its variables have terms, and marks stand beside them.
pub record PlacesIn (bs : List ℕ) (at : ℕ) (ts starts marks : List ℕ) : Type 0 where
  pub laid : Laid bs at
  pub terms : Terms (length ts) ts
  pub long : length (table_of bs).nodes < length starts
  pub starts_are : (m : ℕ) → m ≤ length (table_of bs).nodes → get_or starts m 0 % 4096 ≡ base (table_of bs) m
  pub covers : base (table_of bs) (length (table_of bs).nodes) ≤ length ts
  pub marked : length marks ≡ length ts

-- The mark of a place is below a limit.
abbrev pub MarkBelow : (tb : Table) (ts marks : List ℕ) (limit p : ℕ) → Type 0
MarkBelow tb ts marks limit p = class_mark ts marks (place_var tb p) < limit

-- The least place where P fails, or none where it fails nowhere.
abbrev pub FirstPlace : Table → (ℕ → Type 0) → Option ℕ → Type 0
FirstPlace tb P (Some p) = (p < place_count tb) × LeastPlace tb P p
FirstPlace tb P None = LeastPlace tb P (place_count tb)

-- The sheet and a list of first rows have room, and no place is open or too heavy.
pub record RowsFit (bs ts marks firsts sheet : List ℕ) : Type 0 where
  pub room : length firsts ≡ length ts
  pub fits : length sheet ≡ sheet_length (table_of bs)
  pub light : (p : ℕ) → Place (table_of bs) p → MarkBelow (table_of bs) ts marks 65 p

-- The sheet has the types of the places, whatever types satisfy the terms.
abbrev pub RowsWritten : (tb : Table) (ts marks sheet : List ℕ) → Type 0
RowsWritten tb ts marks sheet = (σ : ℕ → Ty) → Satisfies σ (length ts) ts → Decided (length ts) ts marks → sheet ≡ sheet_of tb (λ p. σ (place_var tb p))
