-- The constants of one cell, each in the cell of the arena that has its node's number, so that evaluation only looks at them.
use Rattle.std.specs.Prelude.{ℕ, ◌≤◌, ◌<◌, List, [], ◌∷◌, ◌≡◌, length, get_or}
use Rattle.std.proofs.Math.Option.{some}
use Rattle.rules.specs.Kinds.{Leaf, identifier, given_set, element_of, literal, truth_const, empty_set, bool_set, leaf}
use Rattle.rules.specs.Tables.{table_of, node_at, kind_at}
use Rattle.rules.specs.Operations.{Env, leaf_value}
use Rattle.rules.specs.Values.{Value}
use Rattle.arena.specs.Code.{code, ValueAt}

-- The leaves that are such constants.
abbrev pub OneCell : Leaf → Type 0
OneCell identifier = ⊥
OneCell given_set = ⊥
OneCell element_of = Unit {0}
OneCell (literal n) = Unit {0}
OneCell truth_const = Unit {0}
OneCell empty_set = Unit {0}
OneCell bool_set = ⊥

-- The value of the leaf j at node n.
abbrev pub leaf_at : List ℕ → ℕ → Leaf → Env → Value
leaf_at bs n j ρ = leaf_value (table_of bs).sizes j (node_at (table_of bs).nodes n).a (node_at (table_of bs).nodes n).b ρ

-- r is the cell of the constant at node n, if it is one.
abbrev pub CellOf : List ℕ → ℕ → ℕ → Type 0
CellOf bs n r = (j : Leaf) (ρ : Env) → kind_at (table_of bs).nodes n ≡ some (leaf j) → OneCell j → code (leaf_at bs n j ρ) ≡ r ∷ []

-- The constants below node i stand in the cells of their nodes.
abbrev pub Constants : List ℕ → ℕ → List ℕ → Type 0
Constants bs i s = (n : ℕ) (j : Leaf) (ρ : Env) → n < i → kind_at (table_of bs).nodes n ≡ some (leaf j) → OneCell j → ValueAt s n (leaf_at bs n j ρ)

-- Only the cells of the nodes have been changed.
pub record OnlyBelow (i : ℕ) (s s' : List ℕ) : Type 0 where
  pub same : (k : ℕ) → i ≤ k → get_or s' k 0 ≡ get_or s k 0
  pub kept : length s' ≡ length s
