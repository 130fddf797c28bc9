-- What the evaluators take for granted of single nodes, and the contracts of the functions that they use.
use Rattle.std.specs.Prelude.{ℕ, ◌%◌, ◌≤◌, ◌<◌, Bool, true, false, List, ◌≢◌, ◌≡◌, length, get_or, Option, Some, None, IfSome}
use Rattle.std.proofs.Math.Option.{Option as Maybe, none as nothing, some}
use Rattle.rules.specs.Values.{Value}
use Rattle.rules.specs.Kinds.{Join, join, Quant, for_all, for_some, predicate, expression, kind_of, leaf}
use Rattle.rules.specs.Kinds.{Leaf, identifier, given_set, element_of, literal, truth_const, empty_set, bool_set}
use Rattle.rules.specs.Tables.{table_of, node_at, kind_at, node_count}
use Rattle.rules.specs.Readable.{Readable, CategoryIs}
use Rattle.rules.specs.Operations as rules
use Rattle.constants.specs.Built.{built_leaf}
use Rattle.operations.specs.Good.{Sizes, GoodAt}
pub use Rattle.operations.specs.Good.{SomeGood}
use Rattle.operations.specs.Outcomes.{LeafReady, LeafDone}
use Rattle.visits.specs.declared.Formed.{Formed}
use Rattle.visits.specs.declared.Formed.TheVariants.{Value as Placed}
use Rattle.visits.specs.Answers.{RangeAs}

-- The category of a node.
abbrev pub IsPred : List ℕ → ℕ → Type 0
IsPred bs n = CategoryIs predicate (kind_at (table_of bs).nodes n)

abbrev pub IsExpr : List ℕ → ℕ → Type 0
IsExpr bs n = CategoryIs expression (kind_at (table_of bs).nodes n)

-- The node is no negation.
abbrev pub NoNegation : List ℕ → ℕ → Type 0
NoNegation bs n = (node_at (table_of bs).nodes n).kind ≢ 4

-- The words in the fields of a node.
abbrev pub field_a : List ℕ → ℕ → ℕ
field_a bs n = (node_at (table_of bs).nodes n).a

abbrev pub field_b : List ℕ → ℕ → ℕ
field_b bs n = (node_at (table_of bs).nodes n).b

abbrev pub field_c : List ℕ → ℕ → ℕ
field_c bs n = (node_at (table_of bs).nodes n).c

-- The truth that the first operand of a join decides alone, if it does.
abbrev pub decided : Option Bool → Maybe Bool
decided (Some b) = some b
decided None = nothing

abbrev pub DecidesBy : ℕ → Bool → Option Bool → Type 0
DecidesBy k p r = (j : Join) → kind_of k ≡ some (join j) → rules.decides j p ≡ decided r

abbrev pub JoinedBy : ℕ → Bool → Bool → Bool → Type 0
JoinedBy k p q r = (j : Join) → kind_of k ≡ some (join j) → r ≡ rules.joined j p q

abbrev pub quant_of : Bool → Quant
quant_of true = for_all
quant_of false = for_some

-- The range of a binder: a good value, a set or not.
abbrev pub RangeAt : List ℕ → ℕ → Option ℕ → Type 0
RangeAt s at r = (gs : List ℕ) (top : ℕ) (v : Value) → Sizes gs → GoodAt gs s top at v → RangeAs v r

-- A node that may be read, in an environment of 32 entries.
pub record PlaceReady (bs env : List ℕ) (n : ℕ) : Type 0 where
  pub readable : Readable bs
  pub node : n < node_count bs
  pub entries : length env ≡ 32

-- An entry of the environment is a place, and 65536 more where the value there is known to be a function.
abbrev pub entry_place : ℕ → ℕ
entry_place e = e % 65536

abbrev pub FunctionEntry : ℕ → Type 0
FunctionEntry e = 65536 ≤ e

-- A leaf whose value is not built, and the place where it stands already.
abbrev pub leaf_place : Leaf → List ℕ → ℕ → ℕ → ℕ
leaf_place identifier env n a = entry_place (get_or env a 0)
leaf_place given_set env n a = n
leaf_place element_of env n a = n
leaf_place (literal m) env n a = n
leaf_place truth_const env n a = n
leaf_place empty_set env n a = n
leaf_place bool_set env n a = n

pub record PlacedLeaf (bs env : List ℕ) (n at : ℕ) : Type 0 where
  pub kind : Leaf
  pub is : kind_at (table_of bs).nodes n ≡ some (leaf kind)
  pub unbuilt : built_leaf kind ≡ false
  pub place : at ≡ leaf_place kind env n (field_a bs n)

pub record StandingReady (bs env : List ℕ) (k n : ℕ) : Type 0 where
  pub node : PlaceReady bs env n
  pub same : k ≡ (node_at (table_of bs).nodes n).kind
  pub kind : Leaf
  pub is : kind_of k ≡ some (leaf kind)
  pub unbuilt : built_leaf kind ≡ false

abbrev pub PlaceAt : List ℕ → List ℕ → ℕ → Option ℕ → Type 0
PlaceAt bs env n r = IfSome r (λ at. PlacedLeaf bs env n at)

-- The node is an identifier whose value is known to be a function.
pub record FunctionLeaf (bs env : List ℕ) (n : ℕ) : Type 0 where
  pub is : kind_at (table_of bs).nodes n ≡ some (leaf identifier)
  pub marked : FunctionEntry (get_or env (field_a bs n) 0)

-- The node of a leaf that is built.
pub record LeafNode (bs s : List ℕ) (top k n : ℕ) : Type 0 where
  pub readable : Readable bs
  pub node : n < node_count bs
  pub ready : LeafReady k (field_a bs n) (get_or (table_of bs).sizes (field_a bs n) 0) s top

pub record LeafFormed (bs s : List ℕ) (top k n left : ℕ) (s' : List ℕ) (r : Formed) : Type 0 where
  pub end : ℕ
  pub is : r ≡ Placed top end left
  pub done : LeafDone k (field_a bs n) (get_or (table_of bs).sizes (field_a bs n) 0) s top s' end
