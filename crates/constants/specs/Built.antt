-- The nodes whose value is built in the arena at each visit: the expressions but for identifiers and the constants of one cell. Where a table has
-- none, its evaluation takes no cells.
use Rattle.std.specs.Prelude.{ℕ, ◌<◌, Bool, true, false, List, ◌≡◌}
use Rattle.std.proofs.Math.Option.{Option, none as nothing, some}
use Rattle.rules.specs.Kinds.{Kind, join, negation, test, quant, leaf, bool_of, one, two, comprehension}
use Rattle.rules.specs.Kinds.{Leaf, identifier, given_set, element_of, literal, truth_const, empty_set, bool_set}
use Rattle.rules.specs.Tables.{table_of, kind_at, node_count}

abbrev pub built_leaf : Leaf → Bool
built_leaf identifier = false
built_leaf given_set = true
built_leaf element_of = false
built_leaf (literal n) = false
built_leaf truth_const = false
built_leaf empty_set = false
built_leaf bool_set = true

abbrev pub built : Option Kind → Bool
built nothing = false
built (some (join j)) = false
built (some negation) = false
built (some (test j)) = false
built (some (quant j)) = false
built (some (leaf j)) = built_leaf j
built (some bool_of) = true
built (some (one j)) = true
built (some (two j)) = true
built (some comprehension) = true

-- Some node of a table is one.
pub record Builds (bs : List ℕ) : Type 0 where
  pub node : ℕ
  pub below : node < node_count bs
  pub is : built (kind_at (table_of bs).nodes node) ≡ true

pub record DecidesBuilds (bs : List ℕ) (r : Bool) : Type 0 where
  pub some : r ≡ true → Builds bs
  pub none : r ≡ false → Builds bs → ⊥
