-- Document 01, "Kinds and typing rules": the kinds 1 to 11 and 20 to 43, and what each of a node's three fields holds.
use Rattle.std.specs.Prelude.{ℕ, Bool, true, false, List, [], ◌∷◌, get_or}
use Rattle.std.proofs.Math.Option.{Option, none as nothing, some}
use Rattle.rules.specs.Types.{Number, whole}

-- 1 ∧, 2 ∨, 3 ⇒, 5 ⇔
pub data Join : Type 0 where
  and or implies iff : Join

-- 6 =, 7 ∈, 8 ⊆, 9 ≤
pub data Test : Type 0 where
  equal member subset : Test
  at_most : Number → Test

-- 10 ∀, 11 ∃
pub data Quant : Type 0 where
  for_all for_some : Quant

-- 20 identifier, 21 given set, 22 element, 23 integer, 24 truth constant, 26 ∅, 42 the set BOOL
pub data Leaf : Type 0 where
  identifier given_set element_of : Leaf
  literal : Number → Leaf
  truth_const empty_set bool_set : Leaf

-- 27 {e}, 33 power, 35 dom, 36 ran, 38 card, 43 choice
pub data One : Type 0 where
  singleton power dom ran card choice : One

-- 28 pair, 29 ∪, 30 ∩, 31 difference, 32 product, 37 application, 39 sum, 40 difference, 41 interval
pub data Two : Type 0 where
  pairing union inter diff product apply : Two
  plus minus : Number → Two
  interval : Two

-- 4 is negation, 25 bool(p), 34 comprehension.
pub data Kind : Type 0 where
  join : Join → Kind
  negation : Kind
  test : Test → Kind
  quant : Quant → Kind
  leaf : Leaf → Kind
  bool_of : Kind
  one : One → Kind
  two : Two → Kind
  comprehension : Kind

-- The kinds in the order of their codes, from 0 on.
abbrev pub kinds : List (Option Kind)
kinds =
    nothing ∷ some (join and) ∷ some (join or) ∷ some (join implies) ∷ some negation ∷ some (join iff) ∷
    some (test equal) ∷ some (test member) ∷ some (test subset) ∷ some (test (at_most whole)) ∷
    some (quant for_all) ∷ some (quant for_some) ∷
    nothing ∷ nothing ∷ nothing ∷ nothing ∷ nothing ∷ nothing ∷ nothing ∷ nothing ∷
    some (leaf identifier) ∷ some (leaf given_set) ∷ some (leaf element_of) ∷ some (leaf (literal whole)) ∷
    some (leaf truth_const) ∷ some bool_of ∷ some (leaf empty_set) ∷ some (one singleton) ∷
    some (two pairing) ∷ some (two union) ∷ some (two inter) ∷ some (two diff) ∷ some (two product) ∷
    some (one power) ∷ some comprehension ∷ some (one dom) ∷ some (one ran) ∷ some (two apply) ∷
    some (one card) ∷ some (two (plus whole)) ∷ some (two (minus whole)) ∷ some (two interval) ∷ some (leaf bool_set) ∷
    some (one choice) ∷ []

unfoldable pub kind_of : ℕ → Option Kind
kind_of k = get_or kinds k nothing

pub data Category : Type 0 where
  predicate expression : Category

-- 1 to 11 are predicates, 20 to 43 expressions.
abbrev pub category_of : Kind → Category
category_of (join j) = predicate
category_of negation = predicate
category_of (test j) = predicate
category_of (quant j) = predicate
category_of (leaf j) = expression
category_of bool_of = expression
category_of (one j) = expression
category_of (two j) = expression
category_of comprehension = expression

abbrev pub is_predicate : Category → Bool
is_predicate predicate = true
is_predicate expression = false

abbrev pub is_expression : Category → Bool
is_expression predicate = false
is_expression expression = true

-- What a field holds: nothing, a child of a category, an identifier that the node uses or binds, a given set,
-- an element of the given set in field a, any word, or a truth.
pub data Field : Type 0 where
  unused : Field
  child : Category → Field
  use_of binder_of : Field
  set_number element_number any_word truth_bit : Field

abbrev pub leaf_fields : Leaf → List Field
leaf_fields identifier = use_of ∷ unused ∷ unused ∷ []
leaf_fields given_set = set_number ∷ unused ∷ unused ∷ []
leaf_fields element_of = set_number ∷ element_number ∷ unused ∷ []
leaf_fields (literal n) = any_word ∷ unused ∷ unused ∷ []
leaf_fields truth_const = truth_bit ∷ unused ∷ unused ∷ []
leaf_fields empty_set = unused ∷ unused ∷ unused ∷ []
leaf_fields bool_set = unused ∷ unused ∷ unused ∷ []

-- The fields a, b and c of each kind: operands stand in a, then b; a binder has its identifier, its range and its body.
abbrev pub fields_of : Kind → List Field
fields_of (join j) = child predicate ∷ child predicate ∷ unused ∷ []
fields_of negation = child predicate ∷ unused ∷ unused ∷ []
fields_of (test j) = child expression ∷ child expression ∷ unused ∷ []
fields_of (quant j) = binder_of ∷ child expression ∷ child predicate ∷ []
fields_of (leaf j) = leaf_fields j
fields_of bool_of = child predicate ∷ unused ∷ unused ∷ []
fields_of (one j) = child expression ∷ unused ∷ unused ∷ []
fields_of (two j) = child expression ∷ child expression ∷ unused ∷ []
fields_of comprehension = binder_of ∷ child expression ∷ child predicate ∷ []

abbrev pub is_child : Field → Bool
is_child unused = false
is_child (child c) = true
is_child use_of = false
is_child binder_of = false
is_child set_number = false
is_child element_number = false
is_child any_word = false
is_child truth_bit = false

-- a field that holds an expression
abbrev pub is_operand : Field → Bool
is_operand unused = false
is_operand (child c) = is_expression c
is_operand use_of = false
is_operand binder_of = false
is_operand set_number = false
is_operand element_number = false
is_operand any_word = false
is_operand truth_bit = false

abbrev pub is_binder : Field → Bool
is_binder unused = false
is_binder (child c) = false
is_binder use_of = false
is_binder binder_of = true
is_binder set_number = false
is_binder element_number = false
is_binder any_word = false
is_binder truth_bit = false
