-- The problem of unification of a table: its variables are the identifiers, then for each node in order the node itself
-- and the slots of its plan. `typing→solves` and `solves→typing` in proofs/EquationsLaws.antt say that its solutions are
-- the table's typings.
use Rattle.std.specs.Prelude.{ℕ, zero, suc, ◌+◌, ◌-◌, ◌<◌, cond, List, [], ◌∷◌, ◌++◌, map, ltb, get_or, length, replicate}
use Rattle.std.proofs.Math.Option.{Option, none as nothing, some}
use Rattle.rules.specs.Types.{Ty, INTEGER}
use Rattle.rules.specs.Kinds.{Kind, kind_of}
use Rattle.rules.specs.Tables.{Table, node_at, kind_at}
use Rattle.rules.specs.Readable.{NodeRight}
use Rattle.unification.specs.Problem.{Shape, unknown, leaf, power, product, Eqn, eqn, PartsBelow, AllBelow}
use Rattle.unification.specs.Solved.{LeafDeclared}
use Rattle.typing.specs.Plan.{Ref, self, first, second, name, slot, Form, openᶠ, atomᶠ, powᶠ, prodᶠ, Plan, only, plan}

-- The plan of a node; nothing is known of a node whose kind is unknown.
abbrev pub plan_of : Option Kind → ℕ → Plan
plan_of nothing a = only openᶠ
plan_of (some k) a = plan k a

abbrev pub plan_at : Table → ℕ → Plan
plan_at tb n = plan_of (kind_at tb.nodes n) (node_at tb.nodes n).a

abbrev pub slot_count : Table → ℕ → ℕ
slot_count tb n = length (plan_at tb n).slots

-- The variable of node n, which is also the number of variables of the identifiers and of the nodes below n.
unfoldable pub base : Table → ℕ → ℕ
unfolding kind_of
base tb zero = length tb.binds
base tb (suc n) = base tb n + 1 + slot_count tb n

-- The variable of a reference of node n.
unfoldable pub var_of : Table → ℕ → Ref → ℕ
unfolding base
var_of tb n self = base tb n
var_of tb n first = base tb (node_at tb.nodes n).a
var_of tb n second = base tb (node_at tb.nodes n).b
var_of tb n name = (node_at tb.nodes n).a
var_of tb n (slot i) = base tb n + 1 + i

abbrev pub shape_from : (Ref → ℕ) → Form → Shape
shape_from v openᶠ = unknown
shape_from v (atomᶠ a) = leaf a
shape_from v (powᶠ r) = power (v r)
shape_from v (prodᶠ r s) = product (v r) (v s)

abbrev pub eqn_from : (Ref → ℕ) → Ref × Ref → Eqn
eqn_from v e = eqn (v e.0) (v e.1)

-- The shapes of the variables of node n, and its equations.
abbrev pub node_shapes : Table → ℕ → List Shape
node_shapes tb n = map (shape_from (var_of tb n)) ((plan_at tb n).self_form ∷ (plan_at tb n).slots)

abbrev pub node_equations : Table → ℕ → List Eqn
node_equations tb n = map (eqn_from (var_of tb n)) (plan_at tb n).equations

-- The shapes of the variables of the identifiers and of the nodes below k.
unfoldable pub shapes : Table → ℕ → List Shape
unfolding kind_of var_of
shapes tb zero = replicate (length tb.binds) unknown
shapes tb (suc k) = shapes tb k ++ node_shapes tb k

-- The shape of a variable of the whole table.
unfoldable pub shape_at : Table → ℕ → Shape
unfolding shapes
shape_at tb v = get_or (shapes tb (length tb.nodes)) v unknown

-- The equations of the nodes below k.
unfoldable pub equations : Table → ℕ → List Eqn
unfolding kind_of var_of
equations tb zero = []
equations tb (suc k) = equations tb k ++ node_equations tb k

-- The problem of the nodes below k is well formed.
pub record WellFormed (tb : Table) (k : ℕ) : Type 0 where
  pub parts : (v : ℕ) → v < base tb k → PartsBelow (base tb k) (shape_at tb v)
  pub leaves : (v : ℕ) → v < base tb k → LeafDeclared (length tb.sizes) (shape_at tb v)
  pub below : AllBelow (base tb k) (equations tb k)

-- A table whose nodes passed refusal 6.
abbrev pub RightNodes : Table → Type 0
RightNodes tb = (n : ℕ) → n < length tb.nodes → NodeRight tb n

-- The types of the places from those of the variables: the identifiers and the nodes below k have their own, and other
-- places any type of the table.
unfoldable pub back : Table → ℕ → (ℕ → Ty) → ℕ → Ty
unfolding base
back tb k σ p =
    let n = p - length tb.binds in
    let t = cond (ltb n k) (σ (base tb n)) INTEGER in
    cond (ltb p (length tb.binds)) (σ p) t
