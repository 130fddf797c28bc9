-- What this crate's functions answer, in the terms of the rules.
use Rattle.std.specs.Prelude.{ℕ, Bool, List, ◌∷◌, ◌++◌, ◌≡◌, codes, decimal, Option, Result, Ok, Err}
use Rattle.rules.specs.Ends.{End, done, refused, ◌>>=◌, least_failing, require_all}
use Rattle.rules.specs.Tables.{Table, table_of, given_count, identifier_count, node_count}
use Rattle.rules.specs.Reading.{size_good, bind_good, node_good, parent_good, height_good, binding, reading}
use Rattle.table.specs.Places.{found_place}
pub use Rattle.trees.specs.Arrays.{root_height}
use Rattle.reading.specs.declared.Refusal.{Refusal}

-- What is printed of a refusal.
abbrev pub refusal_text : Refusal → List ℕ
refusal_text r = codes "refused " ++ decimal r.number ++ 32 ∷ decimal r.place

-- A test that is passed, or its refusal.
abbrev pub passed : Result (Unit {0}) Refusal → End (Unit {0})
passed (Ok u) = done tt
passed (Err r) = refused r.number r.place

-- The answer to a search for the least number that fails a test: of each test of which the search has told, it is what the rules say.
abbrev pub RequiresAll : ℕ → Option ℕ → Result (Unit {0}) Refusal → Type 0
RequiresAll k found r = (ok : ℕ → Bool) (n : ℕ) → found_place found ≡ least_failing ok 0 n → passed r ≡ require_all k ok n

-- A passed reading is the table of its bytes.
abbrev pub reading_of : List ℕ → Result (Unit {0}) Refusal → End Table
reading_of bs (Ok u) = done (table_of bs)
reading_of bs (Err r) = refused r.number r.place

-- Refusals 7 to 9, the last stage of `reading`.
unfoldable pub reading_tree : List ℕ → End Table
reading_tree bs = do
  _ ← require_all 7 (parent_good (table_of bs)) (node_count bs)
  _ ← require_all 8 (height_good (table_of bs)) (node_count bs)
  _ ← require_all 9 (binding (table_of bs)) (identifier_count bs)
  done (table_of bs)

-- Refusals 4 to 9.
unfoldable pub reading_records : List ℕ → End Table
unfolding reading_tree
reading_records bs = do
  _ ← require_all 4 (size_good (table_of bs)) (given_count bs)
  _ ← require_all 5 (bind_good (table_of bs)) (identifier_count bs)
  _ ← require_all 6 (node_good (table_of bs)) (node_count bs)
  reading_tree bs

-- A height, or the refusal of a table.
abbrev pub height_of : Result ℕ Refusal → End ℕ
height_of (Ok h) = done h
height_of (Err r) = refused r.number r.place

-- The root's height of a table that passes.
abbrev pub measured : End Table → End ℕ
measured e = do
  t ← e
  done (root_height t)

-- Refusals 1 to 9, and then the root's height.
unfoldable pub reading_height : List ℕ → End ℕ
unfolding reading
reading_height bs = do
  t ← reading bs
  done (root_height t)
