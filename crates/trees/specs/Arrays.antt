-- What the arrays of counts and heights hold.
use Rattle.std.specs.Prelude.{ℕ, ◌+◌, ◌<◌, Bool, true, cond, List, ◌≡◌, eqb, length, get_or, take}
use Rattle.rules.specs.Kinds.{is_child, use_of, binder_of}
use Rattle.rules.specs.Tables.{Table, table_of, held_in, of_root}
use Rattle.rules.specs.Reading.{occurrences, height}
use Rattle.table.specs.declared.NodeField.{NodeField}
use Rattle.table.specs.Codes.{field_of}
use Rattle.table.specs.Layout.{holds_at}

-- A child's number is one of an array of length 512, and an identifier's is a bit of a word.
pub record Usable (f : NodeField) : Type 0 where
  pub child : is_child (field_of f.holds) ≡ true → f.word < 512
  pub used : field_of f.holds ≡ use_of → f.word < 32
  pub bound : field_of f.holds ≡ binder_of → f.word < 32

-- Whether field i of node n holds a child.
abbrev pub child_at : List ℕ → ℕ → ℕ → Bool
child_at bs n i = is_child (holds_at bs n i)

-- One more at x, if the field holds a child.
abbrev pub more : Bool → ℕ → ℕ → ℕ
more hit x m = cond hit (cond (eqb m x) 1 0) 0

-- No count is the greatest that there can be.
abbrev pub Room : List ℕ → Type 0
Room c = (m : ℕ) → m < length c → get_or c m 0 < 65535

abbrev pub Bumped : List ℕ → Bool → ℕ → List ℕ → Type 0
Bumped c hit x c' = (m : ℕ) → m < length c → get_or c' m 0 ≡ get_or c m 0 + more hit x m

-- Each number below the length of c has been counted: c holds how often it is a child of the first i nodes.
abbrev pub Counted : List ℕ → ℕ → List ℕ → Type 0
Counted bs i c = (m : ℕ) → m < length c → get_or c m 0 ≡ occurrences m (held_in is_child (take i (table_of bs).nodes))

-- The heights of the first i nodes.
abbrev pub Heights : List ℕ → ℕ → List ℕ → Type 0
Heights bs i h = (m : ℕ) → m < i → get_or h m 0 ≡ height (table_of bs).nodes m

-- The height of the root; 0 where there is none.
abbrev pub root_height : Table → ℕ
root_height t = of_root t.nodes 0 (height t.nodes)
