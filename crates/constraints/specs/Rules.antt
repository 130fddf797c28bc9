-- The words of a node's rule, and what the steps of `build` leave in the arrays.
use Rattle.std.specs.Prelude.{ℕ, zero, suc, ◌+◌, ◌*◌, ◌%◌, ◌<◌, ◌≤◌, List, [], ◌∷◌, ◌++◌, ◌≡◌, get_or, length, drop, replicate}
use Rattle.rules.specs.Kinds.{kind_of}
use Rattle.rules.specs.Tables.{Table, table_of, node_count}
use Rattle.table.specs.Layout.{Fielded}
use Rattle.typing.specs.Plan.{Ref, self, first, second, name, slot, Form, Plan}
use Rattle.typing.specs.Equations.{plan_of, plan_at, base, var_of, shape_from, equations}
use Rattle.terms.specs.Words.{ShapeWord}
use Rattle.constraints.specs.Constrained.{NodeRoom, Constrained}
use Rattle.constraints.specs.declared.NodeWords.{NodeWords}

-- The variable of a slot, where those of the slots begin at s.
abbrev pub slot_var : ℕ → ℕ → ℕ
slot_var s zero = s
slot_var s (suc i) = s + suc i

-- The variable of a reference.
abbrev pub ref_var : (own a b x : ℕ) → Ref → ℕ
ref_var own a b x self = own
ref_var own a b x first = a
ref_var own a b x second = b
ref_var own a b x name = x
ref_var own a b x (slot i) = slot_var (own + 1) i

-- The words of r from i on hold the shapes, and the equations.
abbrev pub ShapesFrom : (Ref → ℕ) → List Form → ℕ → List ℕ → Type 0
ShapesFrom ρ [] i r = Unit {0}
ShapesFrom ρ (f ∷ fs) i r = ShapeWord (get_or r i 0) (shape_from ρ f) × ShapesFrom ρ fs (suc i) r

abbrev pub PairsFrom : (Ref → ℕ) → List (Ref × Ref) → ℕ → List ℕ → Type 0
PairsFrom ρ [] i r = Unit {0}
PairsFrom ρ (e ∷ es) i r = (get_or r i 0 ≡ ρ e.0 * 4096 + ρ e.1) × PairsFrom ρ es (suc i) r

-- The words of a plan.
pub record RuleOf (p : Plan) (ρ : Ref → ℕ) (r : NodeWords) : Type 0 where
  pub shapes_held : ShapesFrom ρ (p.self_form ∷ p.slots) 0 r.shapes
  pub pairs_held : PairsFrom ρ p.equations 0 r.equations
  pub sizes_held : r.count ≡ 1 + length p.slots + 4096 * length p.equations

-- The words of a node with these shapes and equations: where there are less than six or two, zeros follow.
pub record WordsOf (shapes eqns : List ℕ) (r : NodeWords) : Type 0 where
  pub shapes_are : r.shapes ≡ shapes ++ drop (length shapes) (replicate 6 0)
  pub equations_are : r.equations ≡ eqns ++ drop (length eqns) (replicate 2 0)
  pub count_is : r.count ≡ length shapes + 4096 * length eqns

-- Those of a kind's plan, and of node n's.
pub record RuleHeld (kind own a b x : ℕ) (r : NodeWords) : Type 0 where
  pub rule_held : RuleOf (plan_of (kind_of kind) x) (ref_var own a b x) r

abbrev pub NodeRule : Table → ℕ → NodeWords → Type 0
NodeRule tb n r = RuleOf (plan_at tb n) (var_of tb n) r

-- The variables have room in half a word.
pub record RuleRoom (own a b x : ℕ) : Type 0 where
  pub own_small : own + 5 < 4096
  pub first_small : a < 4096
  pub second_small : b < 4096
  pub name_small : x < 32

-- An operand's variable, where a is one of a node below n.
abbrev pub OperandVar : (starts : List ℕ) (n a v : ℕ) → Type 0
OperandVar starts n a v = (v < 4096) × (a < n → v ≡ get_or starts a 0 % 4096)

-- m words of ws stand in out' from v on, and below v what stood in out.
pub record WordsCopied (m : ℕ) (ws out out' : List ℕ) (v : ℕ) : Type 0 where
  pub out_length : length out' ≡ length out
  pub kept_below : (u : ℕ) → u < v → get_or out' u 0 ≡ get_or out u 0
  pub copied : (i : ℕ) → i < m → get_or out' (v + i) 0 ≡ get_or ws i 0

abbrev pub StartsTo : Table → ℕ → List ℕ → Type 0
StartsTo tb k starts = (n : ℕ) → n ≤ k → get_or starts n 0 ≡ base tb n + 4096 * length (equations tb n)

-- Node n is the next: its rule can be read, and it can be added.
pub record ReadyNode (bs : List ℕ) (at n : ℕ) (starts : List ℕ) : Type 0 where
  pub fielded : Fielded bs at
  pub below : n < node_count bs
  pub long : n < length starts
  pub starts_to : StartsTo (table_of bs) n starts

pub record NextNode (bs : List ℕ) (at n : ℕ) (shapes eqns starts : List ℕ) : Type 0 where
  pub fielded : Fielded bs at
  pub below : n < node_count bs
  pub room : NodeRoom (node_count bs) shapes eqns starts
  pub so_far : Constrained (table_of bs) n shapes eqns starts
