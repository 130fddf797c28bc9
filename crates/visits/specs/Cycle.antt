-- The contracts of the evaluators that call each other, for every depth above the node, every environment that the offsets of the arena
-- bind, and every budget and number of visits made that leave the visits that the evaluator is given.
use Rattle.std.specs.Prelude.{ℕ, ◌+◌, ◌-◌, ◌*◌, ◌≤◌, ◌<◌, Bool, true, List, ◌≡◌, T, length, get_or, Result}
use Rattle.std.proofs.Math.Option.{Option, none as nothing, some}
use Rattle.rules.specs.Values.{Value, Values, members}
use Rattle.rules.specs.Kinds.{Kind, Quant, kind_of, category_of, predicate, expression}
use Rattle.rules.specs.Cells.{good}
use Rattle.rules.specs.Tables.{table_of, node_at, kind_at, pred_at, expr_at, node_count}
use Rattle.rules.specs.Reading.{height}
use Rattle.rules.specs.Readable.{Readable}
use Rattle.rules.specs.Runs.{M, Given}
use Rattle.rules.specs.Operations.{Env, ◌with◌≔◌}
use Rattle.rules.specs.Evaluation.{quantify, select, holdsᵖ, valueᵉ}
use Rattle.arena.specs.Code.{Same}
use Rattle.constants.specs.Built.{Builds}
use Rattle.constants.specs.Constants.{Constants}
use Rattle.operations.specs.Good.{GoodAt, NewFirsts}
use Rattle.operations.specs.Outcomes.{IsLight}
use Rattle.operations.specs.declared.Outcome.{Outcome}
use Rattle.visits.specs.declared.Held.{Held}
use Rattle.visits.specs.declared.Formed.{Formed}
use Rattle.visits.specs.declared.Bare.{Bare}
use Rattle.visits.specs.declared.Places.{Places}
use Rattle.visits.specs.Nodes.{IsPred, NoNegation, field_a, field_b, field_c, entry_place, FunctionEntry, PlacedLeaf, FunctionLeaf}
use Rattle.visits.specs.Answers.{HeldAs, turned_by, FormedAs, FormedBounds, Listed, ChosenAs, ChosenBounds, GivesNumbered, SettledAs}

-- The values of the identifiers are good and stand where the environment says, and those that it marks are functions; the constants stand in the
-- cells of their nodes.
pub record Binds (bs s : List ℕ) (top : ℕ) (env : List ℕ) (ρ : Env) : Type 0 where
  pub at : (x : ℕ) → x < 32 → GoodAt (table_of bs).sizes s top (entry_place (get_or env x 0)) (ρ x)
  pub good : (x : ℕ) → T (good (table_of bs).sizes (ρ x))
  pub functions : (x : ℕ) → x < 32 → FunctionEntry (get_or env x 0) → NewFirsts (ρ x)
  pub constants : Constants bs (node_count bs) s
  pub low : node_count bs ≤ top

-- The cells that the evaluation of a node takes above its top, where any node of the table builds a value. While a child is evaluated a node
-- holds one value, of at most 256 cells, and a comprehension holds two; but the child of a comprehension that they stand below is a condition. So a
-- level takes 384, and an expression 128 more. An operation asks for 514 cells above its operands, which take 512, or 66 where they are leaves: so the
-- lowest level takes 130.
abbrev pub condition_cells : ℕ → ℕ
condition_cells h = 130 + 384 * (h - 1)

abbrev pub expression_cells : Option Kind → ℕ
expression_cells nothing = 0
expression_cells (some k) = elim (category_of k) [ predicate ↦ 0 | expression ↦ 128 ]

abbrev pub cells_for : List ℕ → ℕ → ℕ
cells_for bs n = condition_cells (height (table_of bs).nodes n) + expression_cells (kind_at (table_of bs).nodes n)

pub record NodeReady (bs env s : List ℕ) (top n : ℕ) : Type 0 where
  pub readable : Readable bs
  pub node : n < node_count bs
  pub room : Builds bs → top + cells_for bs n ≤ length s
  pub tall : 1 ≤ height (table_of bs).nodes n
  pub small : length s < 65536
  pub entries : length env ≡ 32
  pub values : Env
  pub binds : Binds bs s top env values

-- So too, at a node of the kind k that may still be visited.
pub record Visited (bs env s : List ℕ) (top k n left : ℕ) : Type 0 where
  pub ready : NodeReady bs env s top n
  pub unspent : 0 < left
  pub kind : k ≡ (node_at (table_of bs).nodes n).kind

-- The kind of a node is one of a sort.
abbrev pub Sort : {J : Type 0} → (J → Kind) → ℕ → Type 0
Sort {J} f k = (j : J) × (kind_of k ≡ some (f j))

-- The runs at a node.
abbrev pub truth_at : List ℕ → ℕ → ℕ → ℕ → Env → M Bool
truth_at bs budget f n ρ = holdsᵖ budget (table_of bs).sizes (pred_at f (table_of bs).nodes n) ρ

abbrev pub value_at : List ℕ → ℕ → ℕ → ℕ → Env → M Value
value_at bs budget f n ρ = valueᵉ budget (table_of bs).sizes (expr_at f (table_of bs).nodes n) ρ

-- The answer for the condition at a node.
pub record EvaluatesP (bs env s : List ℕ) (top n left : ℕ) (s' : List ℕ) (r : Held) : Type 0 where
  pub frame : Same top s s'
  pub answer : (f : ℕ) (ρ : Env) (budget steps : ℕ) → n < f → steps + left ≡ budget → Binds bs s top env ρ →
      HeldAs (truth_at bs budget f n ρ steps) budget r

-- From node n down negations, a visit for each, to node m, a condition no higher: its answer for the l visits left tells that for node n.
pub record Passes (bs : List ℕ) (n left m l : ℕ) (t : Bool) : Type 0 where
  pub below : m ≤ n
  pub is : IsPred bs m
  pub lower : height (table_of bs).nodes m ≤ height (table_of bs).nodes n
  pub answer : (f : ℕ) (ρ : Env) (budget steps : ℕ) (h : Held) → n < f → steps + left ≡ budget →
      ((g u : ℕ) → m < g → u + l ≡ budget → HeldAs (truth_at bs budget g m ρ u) budget h) →
      HeldAs (truth_at bs budget f n ρ steps) budget (turned_by t h)

pub record Bares (bs : List ℕ) (n left : ℕ) (r : Bare) : Type 0 where
  pub passes : Passes bs n left r.node r.left r.turned
  pub last : 0 < r.left → NoNegation bs r.node

-- The answer for the expression at a node.
pub record EvaluatesE (bs env s : List ℕ) (top n left : ℕ) (s' : List ℕ) (r : Formed) : Type 0 where
  pub frame : Same top s s'
  pub bounds : FormedBounds (height (table_of bs).nodes n) top r
  pub answer : (f : ℕ) (ρ : Env) (budget steps : ℕ) → n < f → steps + left ≡ budget → Binds bs s top env ρ →
      FormedAs (value_at bs budget f n ρ steps) budget (table_of bs).sizes s' r

-- The body of a binder at each member of its range.
abbrev pub body_at : List ℕ → ℕ → ℕ → ℕ → Env → Value → M Bool
body_at bs budget n f ρ w = truth_at bs budget f (field_c bs n) (ρ with field_a bs n ≔ w)

-- What an answer at a node is asked for: a depth of the trees below it, values of the identifiers, and a budget with the visits made.
pub record Asks (bs env s : List ℕ) (top n left : ℕ) : Type 0 where
  pub depth : ℕ
  pub values : Env
  pub budget : ℕ
  pub steps : ℕ
  pub deep : n ≤ depth
  pub counts : steps + left ≡ budget
  pub binds : Binds bs s top env values

-- What the answer of a loop over a range is asked for: the members too; and the body at them.
pub record AsksEach (bs env s : List ℕ) (top n from count left : ℕ) : Type 0 where
  pub asks : Asks bs env s top n left
  pub range : Values
  pub listed : Listed (table_of bs).sizes s top from count range

abbrev pub body_of : {bs env s : List ℕ} {top n from count left : ℕ} → AsksEach bs env s top n from count left → Value → M Bool
body_of {bs} {n = n} k = body_at bs k.asks.budget n k.asks.depth k.asks.values

-- The loop over a range may itself build a set of `spare` cells, if that is not 0.
pub record EachReady (bs env s : List ℕ) (top n from count spare : ℕ) : Type 0 where
  pub ready : NodeReady bs env s top (field_c bs n)
  pub binder : n < node_count bs
  pub deeper : field_c bs n < n
  pub is : IsPred bs (field_c bs n)
  pub name : field_a bs n < 32
  pub space : 0 < spare → top + spare + cells_for bs (field_c bs n) ≤ length s
  pub range : Values
  pub listed : Listed (table_of bs).sizes s top from count range

pub record EvaluatesEach (bs env s : List ℕ) (top n from count left : ℕ) (j : Quant) (s' : List ℕ) (r : Held) : Type 0 where
  pub frame : Same top s s'
  pub answer : (k : AsksEach bs env s top n from count left) →
      HeldAs (quantify j (body_of k) (members k.range) k.asks.steps) k.asks.budget r

pub record EvaluatesChosen (bs env s : List ℕ) (top n from count left : ℕ) (s' : List ℕ) (r : Formed) : Type 0 where
  pub frame : Same top s s'
  pub bounds : ChosenBounds top r
  pub answer : (k : AsksEach bs env s top n from count left) →
      ChosenAs (select (body_of k) (members k.range) k.asks.steps) k.asks.budget s' top r

-- The operands of an operation that builds nothing stand already, and there are visits for the three nodes.
pub record StandingTwo (bs env : List ℕ) (k n left : ℕ) (r : Places) : Type 0 where
  pub first : PlacedLeaf bs env (field_a bs n) r.first
  pub second : PlacedLeaf bs env (field_b bs n) r.second
  pub visits : 3 ≤ left
  pub light : IsLight k
  pub known : r.known ≡ true → FunctionLeaf bs env (field_a bs n)

-- What a node gives has been settled at `top`. The node has operands, so that its height is 2 or more.
pub record Settles (s : List ℕ) (o : Result Outcome ℕ) (mid next top node left : ℕ) (s' : List ℕ) (r : Formed) : Type 0 where
  pub frame : Same top s s'
  pub bounds : (h : ℕ) → 2 ≤ h → FormedBounds h top r
  pub answer : (g : Given) → GivesNumbered s mid next g o → SettledAs g s' node left r
