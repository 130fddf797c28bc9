-- The sizes of a table's constraints, an entry of `starts` taken apart, and the constraints of the first nodes: they stand in the first parts
-- of the arrays that hold those of more nodes.
use Prim.Native.Nat.{ℕ, ◌+◌, ◌*◌, ◌/◌, ◌%◌, ◌≤◌, ◌<◌}
use mathlib.Core.List.{List}
use mathlib.Core.Path.{◌≡◌, ◌∙◌}
use native.Mathlib.Omega.{arith}
use lib.ListN.{get_or, length}
use Rattle.rules.specs.Readable.{Header}
use Rattle.rules.specs.Tables.{Table, table_of, node_count}
use Rattle.laws.proofs.TableLaws.{binds_length}
use Rattle.typing.specs.Equations.{base, equations}
use Rattle.typing.proofs.EquationCounts.{equations_bound, equations_mono, equations_grow}
use Rattle.typing.proofs.VariableLaws.{base_mono, base_bound}
use Rattle.constraints.specs.Constrained.{Constrained}
use Rattle.constraints.specs.Rules.{StartsTo}

-- The sizes for a table of 32 identifiers and 512 nodes.
pub variables_fit : {bs : List ℕ} → Header bs → (k : ℕ) → base (table_of bs) k ≤ 32 + 6 * k
variables_fit {bs} h k = omega (arith, base_bound (table_of bs) k, binds_length bs, h.identifiers)

module _ {bs : List ℕ} (h : Header bs) {k : ℕ} (l : k ≤ node_count bs) where
  pub few_variables : base (table_of bs) k ≤ 3104
  few_variables = omega (arith, variables_fit h k, h.few_nodes)

  pub start_small : base (table_of bs) k + 4096 * length (equations (table_of bs) k) < 4294967296
  start_small = omega (arith, few_variables, equations_bound (table_of bs) k, h.few_nodes)

-- What the code reads in an entry of `starts`: a node's variable, and the number of equations before its own.
module _ {bs : List ℕ} (h : Header bs) {n : ℕ} (l : n ≤ node_count bs) (starts : List ℕ) (q : StartsTo (table_of bs) n starts) where
  pub variable_is : {k v : ℕ} → k ≤ n → v ≡ get_or starts k 0 % 4096 → v ≡ base (table_of bs) k
  variable_is {k} g e = omega (arith, q k g, few_variables h {k = k} (omega arith))

  pub count_is_law : {k m : ℕ} → k ≤ n → m ≡ get_or starts k 0 / 4096 → m ≡ length (equations (table_of bs) k)
  count_is_law {k} g e = omega (arith, q k g, few_variables h {k = k} (omega arith))

-- The constraints of the nodes below k.
pub constrained_part : {tb : Table} {n k : ℕ} {shapes eqns starts : List ℕ} → k ≤ n → Constrained tb n shapes eqns starts →
    Constrained tb k shapes eqns starts
constrained_part {tb} {n} {k} h q = record {
  starts_are = λ m l. q.starts_are m (omega arith);
  shapes_are = λ v l. q.shapes_are v (omega (arith, base_mono tb {n = k} n h));
  equations_are = λ i l. q.equations_are i (omega (arith, equations_mono tb {k = k} n h)) ∙ equations_grow tb {k = k} n i h l;
}
