-- The constraints of the nodes below k: what solving them takes, and what the answers say of the table.
use Rattle.std.specs.Prelude.{ℕ, suc, ◌+◌, ◌*◌, ◌/◌, ◌<◌, ◌≤◌, Bool, true, false, List, ◌↔◌, ◌⊎◌, ◌≡◌, get_or, length, take, Result, Ok, Err}
use Rattle.rules.specs.Types.{Ty}
use Rattle.rules.specs.Tables.{Table, table_of, node_count}
use Rattle.rules.specs.Readable.{Readable}
use Rattle.rules.specs.Verdict.{Typing}
use Rattle.unification.specs.Problem.{Solves}
use Rattle.unification.specs.Solved.{LeafDeclared}
use Rattle.terms.specs.Words.{term_of}
use Rattle.terms.specs.Terms.{Terms, Satisfies, HoldsTo, SidesBelow, SaysAlso}
use Rattle.terms.specs.Decided.{TermDeclared, Decided}
use Rattle.typing.specs.Equations.{base, shape_at, equations}
use Rattle.constraints.specs.Constrained.{NodeRoom, Constrained}

-- The arrays hold the constraints of the readable table bs.
pub record Ready (bs shapes eqns starts : List ℕ) : Type 0 where
  pub readable : Readable bs
  pub room : NodeRoom (node_count bs) shapes eqns starts
  pub held : Constrained (table_of bs) (node_count bs) shapes eqns starts

-- The work arrays have room for the variables of the table, and the stack for two entries more.
pub record WorkRoom (bs terms stack marks : List ℕ) : Type 0 where
  pub terms_room : 32 + 6 * node_count bs ≤ length terms
  pub stack_room : 34 + 6 * node_count bs ≤ length stack
  pub marks_room : 32 + 6 * node_count bs ≤ length marks

-- Work arrays of these sizes have room for n nodes, and are no larger than those for 512.
pub record SizesFit (n variables equations starts stack : ℕ) : Type 0 where
  pub variables_fit : 32 + 6 * n ≤ variables
  pub equations_fit : 2 * n ≤ equations
  pub starts_fit : n < starts
  pub stack_fit : 34 + 6 * n ≤ stack
  pub few_variables : variables ≤ 3104
  pub few_equations : equations ≤ 1024
  pub few_starts : starts ≤ 513
  pub few_stacked : stack ≤ 3106

-- What merging the first n shapes with equations takes: they are terms, the equations are between them, and the stack has room.
pub record PartRoom (n : ℕ) (shapes eqns stack : List ℕ) : Type 0 where
  pub long : n ≤ length shapes
  pub terms : Terms n (take n shapes)
  pub sides : SidesBelow n eqns
  pub room : n + 2 ≤ length stack

-- Whether types satisfy terms and equations: then some that name no other types without parts.
abbrev pub Satisfiable : (n : ℕ) (ts eqns : List ℕ) → Bool → Type 0
Satisfiable n ts eqns true = (ts' : List ℕ) × (marks : List ℕ) × SaysAlso n ts (λ θ. HoldsTo θ eqns (length eqns)) ts' × Decided n ts' marks
Satisfiable n ts eqns false = (θ : ℕ → Ty) → Satisfies θ n ts → HoldsTo θ eqns (length eqns) → ⊥

abbrev pub Typable : Table → ℕ → Type 0
Typable tb k = (θ : ℕ → Ty) × Typing tb k θ

abbrev pub Untypable : Table → ℕ → Type 0
Untypable tb k = (κ : ℕ → Ty) → Typing tb k κ → ⊥

-- Whether the rules of the nodes below k have a typing.
abbrev pub TypableIs : Table → ℕ → Bool → Type 0
TypableIs tb k true = Typable tb k
TypableIs tb k false = Untypable tb k

-- The bisection: the nodes below lo have a typing, those below hi have none.
pub record Between (tb : Table) (n lo hi : ℕ) : Type 0 where
  pub less : lo < hi
  pub upper : hi ≤ n
  pub typing : Typable tb lo
  pub none : Untypable tb hi

-- Refusal 11: the rules of the nodes below r have a typing, those with r have none.
pub record FirstClash (tb : Table) (n r : ℕ) : Type 0 where
  pub below : r < n
  pub typing : Typable tb r
  pub none : Untypable tb (suc r)

-- How many equations come before those of node n.
abbrev pub count_at : List ℕ → ℕ → ℕ
count_at starts n = get_or starts n 0 / 4096

-- Equation e is one of the nodes below n.
pub record EquationBelow (starts : List ℕ) (e n : ℕ) : Type 0 where
  pub inside : n < length starts
  pub begins : count_at starts 0 ≤ e
  pub ends : e < count_at starts n

-- Equation e is one of node k, which is below n.
pub record EquationAt (starts : List ℕ) (e n k : ℕ) : Type 0 where
  pub below : k < n
  pub from : count_at starts k ≤ e
  pub to : e < count_at starts (suc k)

-- k nodes have equation e, or k is n and they have not; fewer nodes have it not.
pub record NodesTo (starts : List ℕ) (e n k : ℕ) : Type 0 where
  pub inside : k ≤ n
  pub reach : (k ≡ n) ⊎ ((0 < k) × (e < count_at starts k))
  pub fewer : (j : ℕ) → suc j < k → count_at starts (suc j) ≤ e

-- The constraints of the nodes below k are decided: the types that satisfy the terms are their solutions.
pub record SolvedBelow (tb : Table) (k : ℕ) (ts marks : List ℕ) : Type 0 where
  pub terms : Terms (base tb k) ts
  pub decided : Decided (base tb k) ts marks
  pub iff : (θ : ℕ → Ty) → Solves (shape_at tb) (base tb k) (equations tb k) θ ↔ Satisfies θ (base tb k) ts
  pub leaves : (G : ℕ) → ((v : ℕ) → v < base tb k → LeafDeclared G (shape_at tb v)) → (v : ℕ) → v < base tb k →
      TermDeclared G (term_of (get_or ts v 0))

-- The table solved, or the first node whose rule leaves no typing.
abbrev pub SolvedTo : (tb : Table) (n : ℕ) (terms marks : List ℕ) → Result (Unit {0}) ℕ → Type 0
SolvedTo tb n terms marks (Ok u) = SolvedBelow tb n (take (base tb n) terms) (take (base tb n) marks)
SolvedTo tb n terms marks (Err k) = FirstClash tb n k
