-- The arrays hold the shapes and the equations of a table's nodes.
use Rattle.std.specs.Prelude.{ℕ, ◌+◌, ◌*◌, ◌<◌, ◌≤◌, List, ◌≡◌, get_or, length}
use Rattle.rules.specs.Tables.{Table}
use Rattle.unification.specs.Problem.{eqn}
use Rattle.typing.specs.Equations.{base, shape_at, equations}
use Rattle.terms.specs.Words.{ShapeWord, word_eqn}

-- There is room for n nodes: 32 identifiers, and 6 variables and 2 equations for each node.
pub record NodeRoom (n : ℕ) (shapes eqns starts : List ℕ) : Type 0 where
  pub shapes_room : 32 + 6 * n ≤ length shapes
  pub equations_room : 2 * n ≤ length eqns
  pub starts_room : n < length starts

-- The variable of a node below k, and of k, with the number of equations before its own; shapes by variable; equations in node order.
pub record Constrained (tb : Table) (k : ℕ) (shapes eqns starts : List ℕ) : Type 0 where
  pub starts_are : (n : ℕ) → n ≤ k → get_or starts n 0 ≡ base tb n + 4096 * length (equations tb n)
  pub shapes_are : (v : ℕ) → v < base tb k → ShapeWord (get_or shapes v 0) (shape_at tb v)
  pub equations_are : (i : ℕ) → i < length (equations tb k) → word_eqn (get_or eqns i 0) ≡ get_or (equations tb k) i (eqn 0 0)
