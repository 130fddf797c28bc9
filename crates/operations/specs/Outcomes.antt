-- What a node gives for its operands' values, and what the operations answer for it.
use Rattle.std.specs.Prelude.{ℕ, ◌+◌, ◌≤◌, ◌<◌, cond, List, [], ◌∷◌, Option, Some, None, Result, Ok, Err, Bool, ◌≢◌, ◌≡◌, leb, ℤ, length, get_or}
use Rattle.std.proofs.Math.Option.{some}
use Rattle.rules.specs.Values.{Value, int, weight}
use Rattle.rules.specs.Kinds.{Test, One, Two, test, leaf, one, two, kind_of}
use Rattle.rules.specs.Kinds.{Leaf, identifier, given_set, element_of, literal, truth_const, empty_set, bool_set}
use Rattle.rules.specs.Rules.{Pattern, test_rule, one_rule, two_rule}
use Rattle.rules.specs.Fits.{fits}
use Rattle.rules.specs.Cells.{weight_limit}
use Rattle.rules.specs.Runs.{Given, gives, lacks}
use Rattle.rules.specs.Operations.{Env, holds, leaf_value, one_value, two_value}
use Rattle.arena.specs.Code.{cell_size, excess, code, ValueAt, Same, CellsFit}
use Rattle.operations.specs.Good.{Sizes, GoodAt}
use Rattle.operations.specs.declared.Outcome.{Outcome}
use Rattle.operations.specs.declared.Outcome.TheVariants.{Built, Within, Cell}
use Rattle.operations.specs.declared.Lack.{Lack}
use Rattle.operations.specs.declared.Lack.TheVariants.{Unlike, NoValue, Wide, Heavy}

-- What an operation answers.
abbrev pub NodeAnswer : Type 0
NodeAnswer = Result Outcome Lack

-- The number of a refusal.
abbrev pub lack_number : Lack → ℕ
lack_number Unlike = 15
lack_number NoValue = 16
lack_number Wide = 17
lack_number Heavy = 18

-- 18: what is given weighs at most 256.
abbrev pub weighed : Given → Given
weighed (gives v) = cond (leb (weight v) weight_limit) (gives v) (lacks 18)
weighed (lacks k) = lacks k

-- 15, and then what is given.
abbrev pub fitted : List Pattern → List Value → Given → Given
fitted ps vs g = cond (fits ps vs) (weighed g) (lacks 15)

unfoldable pub one_given : One → Value → Given
unfolding fits one_value
one_given j v = fitted (one_rule j).takes (v ∷ []) (one_value j v)

unfoldable pub two_given : Two → Value → Value → Given
unfolding fits two_value
two_given j v w = fitted (two_rule j).takes (v ∷ w ∷ []) (two_value j v w)

-- The truth of a test, or none (15).
unfoldable pub tested : Test → Value → Value → Option Bool
unfolding fits holds
tested j v w = cond (fits (test_rule j).takes (v ∷ w ∷ [])) (Some (holds j v w)) None

-- The answer of a function that builds and answers where the value ends, or None where it would weigh over 256.
abbrev pub ended : Option ℕ → NodeAnswer
ended (Some end) = Ok (Built end)
ended None = Err Heavy

-- A value that is given has been built at `top` and ends at `end`.
pub record BuiltAt (s : List ℕ) (top : ℕ) (g : Given) (end : ℕ) : Type 0 where
  pub value : Value
  pub is : g ≡ gives value
  pub stands : ValueAt s top value
  pub ends : end ≡ top + weight value
  pub light : weight value ≤ 256

-- A value that is given stands at `at`, below `mid`.
pub record WithinAt (s : List ℕ) (mid : ℕ) (g : Given) (at : ℕ) : Type 0 where
  pub value : Value
  pub is : g ≡ gives value
  pub stands : ValueAt s at value
  pub below : at + weight value ≤ mid

-- A value that is given has the one cell x.
pub record GivenCell (g : Given) (x : ℕ) : Type 0 where
  pub value : Value
  pub is : g ≡ gives value
  pub cell : code value ≡ x ∷ []

-- The answer tells what is given: built at `top`, or a part of the first operand, which ends by `mid`, or its only cell, or why there is none.
abbrev pub Gives : List ℕ → ℕ → ℕ → Given → NodeAnswer → Type 0
Gives s mid top g (Ok (Built end)) = BuiltAt s top g end
Gives s mid top g (Ok (Within at)) = WithinAt s mid g at
Gives s mid top g (Ok (Cell x)) = GivenCell g x
Gives s mid top g (Err lack) = g ≡ lacks (lack_number lack)

-- A good operand stands at a, below `top`, where there is room to build.
pub record OneReady (s : List ℕ) (a top : ℕ) : Type 0 where
  pub sizes : List ℕ
  pub small : Sizes sizes
  pub value : Value
  pub operand : GoodAt sizes s top a value
  pub room : top + 514 ≤ length s

-- Good operands stand at a and at b, below `top`.
pub record Operands (s : List ℕ) (a b top : ℕ) : Type 0 where
  pub sizes : List ℕ
  pub small : Sizes sizes
  pub first : Value
  pub second : Value
  pub left : GoodAt sizes s top a first
  pub right : GoodAt sizes s top b second

-- Wherever they end.
abbrev pub SomeOperands : List ℕ → ℕ → ℕ → Type 0
SomeOperands s a b = (top : ℕ) × Operands s a b top

-- And there is room to build.
pub record TwoReady (s : List ℕ) (a b top : ℕ) : Type 0 where
  pub operands : Operands s a b top
  pub room : top + 514 ≤ length s

-- What an operation of one operand answers; below `top` nothing is changed.
pub record OneDone (j : One) (s : List ℕ) (a top : ℕ) (s' : List ℕ) (r : NodeAnswer) : Type 0 where
  pub frame : Same top s s'
  pub answer : (gs : List ℕ) (v : Value) → Sizes gs → GoodAt gs s top a v → Gives s' top top (one_given j v) r

-- And of two, the first of which ends by any `mid`.
pub record TwoDone (j : Two) (s : List ℕ) (a b top : ℕ) (s' : List ℕ) (r : NodeAnswer) : Type 0 where
  pub frame : Same top s s'
  pub answer : (gs : List ℕ) (mid : ℕ) (v w : Value) → Sizes gs → mid ≤ top → GoodAt gs s mid a v → GoodAt gs s top b w →
      Gives s' mid top (two_given j v w) r

-- What a test answers.
abbrev pub TestDone : Test → List ℕ → ℕ → ℕ → Option Bool → Type 0
TestDone j s a b r = (gs : List ℕ) (mid top : ℕ) (v w : Value) → Sizes gs → GoodAt gs s mid a v → GoodAt gs s top b w → r ≡ tested j v w

-- x is the cell of the number m.
pub record NumberCell (m : ℤ) (x : ℕ) : Type 0 where
  pub fits : CellsFit (int m)
  pub is : x ≡ cell_size + excess m

-- What a test of two numbers answers, by their cells.
abbrev pub NumbersTold : ℕ → ℕ → ℕ → Option Bool → Type 0
NumbersTold k x y r =
    (j : Test) → kind_of k ≡ some (test j) → (m n : ℤ) → NumberCell m x → NumberCell n y → r ≡ tested j (int m) (int n)

-- The same by kind codes.
abbrev pub OneOf : ℕ → List ℕ → ℕ → ℕ → List ℕ → NodeAnswer → Type 0
OneOf k s a top s' r = (j : One) → kind_of k ≡ some (one j) → OneDone j s a top s' r

abbrev pub TwoOf : ℕ → List ℕ → ℕ → ℕ → ℕ → List ℕ → NodeAnswer → Type 0
TwoOf k s a b top s' r = (j : Two) → kind_of k ≡ some (two j) → TwoDone j s a b top s' r

-- Application, sum and difference build nothing.
pub record IsLight (k : ℕ) : Type 0 where
  pub low : 37 ≤ k
  pub high : k ≤ 40
  pub other : k ≢ 38

abbrev pub LightOf : ℕ → List ℕ → ℕ → ℕ → NodeAnswer → Type 0
LightOf k s a b r = (top : ℕ) → TwoOf k s a b top s r

abbrev pub TestOf : ℕ → List ℕ → ℕ → ℕ → Option Bool → Type 0
TestOf k s a b r = (j : Test) → kind_of k ≡ some (test j) → TestDone j s a b r

-- A leaf that is built, a given set a with its size or BOOL, may be. The constants of one cell are never built, nor is an identifier's value.
abbrev pub LeafFits : Leaf → ℕ → ℕ → Type 0
LeafFits identifier a size = ⊥
LeafFits given_set a size = (a < 16) × (size ≤ 32)
LeafFits element_of a size = ⊥
LeafFits (literal n) a size = ⊥
LeafFits truth_const a size = ⊥
LeafFits empty_set a size = ⊥
LeafFits bool_set a size = Unit {0}

pub record LeafReady (k a size : ℕ) (s : List ℕ) (top : ℕ) : Type 0 where
  pub kind : Leaf
  pub is : kind_of k ≡ some (leaf kind)
  pub fits : LeafFits kind a size
  pub room : top + 33 ≤ length s

-- It has been built at `top` and ends at r, 33 cells further at most. Its second word does not count.
pub record LeafDone (k a size : ℕ) (s : List ℕ) (top : ℕ) (s' : List ℕ) (r : ℕ) : Type 0 where
  pub frame : Same top s s'
  pub near : r ≤ top + 33
  pub answer : (j : Leaf) (gs : List ℕ) (b : ℕ) (ρ : Env) → kind_of k ≡ some (leaf j) → LeafFits j a size → get_or gs a 0 ≡ size →
      BuiltAt s' top (gives (leaf_value gs j a b ρ)) r
