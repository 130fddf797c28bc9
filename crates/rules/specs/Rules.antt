-- Document 01, "Kinds and typing rules": one table of rules. Check reads it at types (`Obeys`), refusal 15 at values (`Fits`).
use Rattle.std.specs.Prelude.{ℕ, List, [], ◌∷◌, ◌≡◌}
use Rattle.std.proofs.Math.Option.{Option, none as nothing, some}
use Rattle.rules.specs.Types.{Number, whole, Atom, number, bool, given, Ty, atom, POW, ◌⊗◌}
use Rattle.rules.specs.Kinds.{Test, equal, member, subset, at_most}
use Rattle.rules.specs.Kinds.{Leaf, identifier, given_set, element_of, literal, truth_const, empty_set, bool_set}
use Rattle.rules.specs.Kinds.{One, singleton, power, dom, ran, card, choice}
use Rattle.rules.specs.Kinds.{Two, pairing, union, inter, diff, product, apply, plus, minus, interval}
use Rattle.rules.specs.Kinds.{Kind, join, negation, test, quant, leaf, bool_of, one, two, comprehension}

infixr 60 ◌×̂◌
-- A type as a rule writes it, over t and u, which are free at each node.
pub data Pattern : Type 0 where
  t̂ û : Pattern
  atom̂ : Atom → Pattern
  P̂ : Pattern → Pattern
  ◌×̂◌ : Pattern → Pattern → Pattern

abbrev pub inst : Pattern → Ty → Ty → Ty
inst t̂ t u = t
inst û t u = u
inst (atom̂ a) t u = atom a
inst (P̂ p) t u = POW (inst p t u)
inst (p ×̂ q) t u = inst p t u ⊗ inst q t u

abbrev pub numᵖ : Number → Pattern
numᵖ n = atom̂ (number n)

abbrev pub boolᵖ : Pattern
boolᵖ = atom̂ bool

-- What a rule says of the identifier in field a, of the operands, and of the node itself.
pub record Rule : Type 0 where
  pub name : Option Pattern
  pub takes : List Pattern
  pub result : Option Pattern

infix 20 ◌gives◌
abbrev pub ◌gives◌ : List Pattern → Pattern → Rule
ps gives r = record { name = nothing; takes = ps; result = some r }

abbrev pub test_of : List Pattern → Rule
test_of ps = record { name = nothing; takes = ps; result = nothing }

-- kinds 6 to 9
abbrev pub test_rule : Test → Rule
test_rule equal = test_of (t̂ ∷ t̂ ∷ [])
test_rule member = test_of (t̂ ∷ P̂ t̂ ∷ [])
test_rule subset = test_of (P̂ t̂ ∷ P̂ t̂ ∷ [])
test_rule (at_most n) = test_of (numᵖ n ∷ numᵖ n ∷ [])

-- kinds 20 to 24, 26 and 42; a is the node's field a
abbrev pub leaf_rule : Leaf → ℕ → Rule
leaf_rule identifier a = record { name = some t̂; takes = []; result = some t̂ }
leaf_rule given_set a = [] gives P̂ (atom̂ (given a))
leaf_rule element_of a = [] gives atom̂ (given a)
leaf_rule (literal n) a = [] gives numᵖ n
leaf_rule truth_const a = [] gives boolᵖ
leaf_rule empty_set a = [] gives P̂ t̂
leaf_rule bool_set a = [] gives P̂ boolᵖ

-- kinds 27, 33, 35, 36, 38 and 43
abbrev pub one_rule : One → Rule
one_rule singleton = (t̂ ∷ []) gives P̂ t̂
one_rule power = (P̂ t̂ ∷ []) gives P̂ (P̂ t̂)
one_rule dom = (P̂ (t̂ ×̂ û) ∷ []) gives P̂ t̂
one_rule ran = (P̂ (t̂ ×̂ û) ∷ []) gives P̂ û
one_rule card = (P̂ t̂ ∷ []) gives numᵖ whole
one_rule choice = (P̂ t̂ ∷ []) gives t̂

-- kinds 28 to 32, 37 and 39 to 41
abbrev pub two_rule : Two → Rule
two_rule pairing = (t̂ ∷ û ∷ []) gives t̂ ×̂ û
two_rule union = (P̂ t̂ ∷ P̂ t̂ ∷ []) gives P̂ t̂
two_rule inter = (P̂ t̂ ∷ P̂ t̂ ∷ []) gives P̂ t̂
two_rule diff = (P̂ t̂ ∷ P̂ t̂ ∷ []) gives P̂ t̂
two_rule product = (P̂ t̂ ∷ P̂ û ∷ []) gives P̂ (t̂ ×̂ û)
two_rule apply = (P̂ (t̂ ×̂ û) ∷ t̂ ∷ []) gives û
two_rule (plus n) = (numᵖ n ∷ numᵖ n ∷ []) gives numᵖ n
two_rule (minus n) = (numᵖ n ∷ numᵖ n ∷ []) gives numᵖ n
two_rule interval = (numᵖ whole ∷ numᵖ whole ∷ []) gives P̂ (numᵖ whole)

-- kinds 10 and 11: the range is a set of the identifier's type
abbrev pub quant_rule : Rule
quant_rule = record { name = some t̂; takes = P̂ t̂ ∷ []; result = nothing }

-- kind 34: so too, and the result has the range's type
abbrev pub comprehension_rule : Rule
comprehension_rule = record { name = some t̂; takes = P̂ t̂ ∷ []; result = some (P̂ t̂) }

abbrev pub rule : Kind → ℕ → Rule
rule (join j) a = test_of []
rule negation a = test_of []
rule (test j) a = test_rule j
rule (quant j) a = quant_rule
rule (leaf j) a = leaf_rule j a
rule bool_of a = [] gives boolᵖ
rule (one j) a = one_rule j
rule (two j) a = two_rule j
rule comprehension a = comprehension_rule

-- A type against what a rule writes for it, if it writes anything.
abbrev pub Says : Option Pattern → Ty → Ty → Ty → Type 0
Says nothing x t u = Unit {0}
Says (some p) x t u = x ≡ inst p t u

abbrev pub Takes : List Pattern → List Ty → Ty → Ty → Type 0
Takes [] [] t u = Unit {0}
Takes [] (x ∷ xs) t u = ⊥
Takes (p ∷ ps) [] t u = ⊥
Takes (p ∷ ps) (x ∷ xs) t u = (x ≡ inst p t u) × Takes ps xs t u

-- The types of a node's identifier, of its operands and of itself obey its rule, for some t and u.
abbrev pub Obeys : Rule → Ty → List Ty → Ty → Type 0
Obeys r x es z = (t : Ty) × (u : Ty) × Says r.name x t u × Takes r.takes es t u × Says r.result z t u
