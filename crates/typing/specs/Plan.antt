-- The typing rule of each kind as a part of a problem of unification: shapes for the node and for a few variables of its
-- own, and equations. `plan_right` in proofs/PlanLaws.antt says that it has the same meaning as the rule.
use Rattle.std.specs.Prelude.{ℕ, suc, List, [], ◌∷◌, ◌≡◌}
use Rattle.rules.specs.Types.{whole, Atom, number, bool, given, Ty, atom, POW, ◌⊗◌}
use Rattle.rules.specs.Kinds.{Test, equal, member, subset, at_most}
use Rattle.rules.specs.Kinds.{Leaf, identifier, given_set, element_of, literal, truth_const, empty_set, bool_set}
use Rattle.rules.specs.Kinds.{One, singleton, power, dom, ran, card, choice}
use Rattle.rules.specs.Kinds.{Two, pairing, union, inter, diff, product, apply, plus, minus, interval}
use Rattle.rules.specs.Kinds.{Kind, join, negation, test, quant, leaf, bool_of, one, two, comprehension}

-- What a plan speaks of: the node, the operands in fields a and b, the identifier in field a, the node's own variables.
pub data Ref : Type 0 where
  self first second name : Ref
  slot : ℕ → Ref

-- A shape over references.
pub data Form : Type 0 where
  openᶠ : Form
  atomᶠ : Atom → Form
  powᶠ : Ref → Form
  prodᶠ : Ref → Ref → Form

pub record Plan : Type 0 where
  pub self_form : Form
  pub slots : List Form
  pub equations : List (Ref × Ref)

abbrev pub only : Form → Plan
only f = record { self_form = f; slots = []; equations = [] }

-- kinds 6 to 9
abbrev pub test_plan : Test → Plan
test_plan equal = record { self_form = openᶠ; slots = []; equations = (first, second) ∷ [] }
test_plan member = record { self_form = openᶠ; slots = powᶠ first ∷ []; equations = (second, slot 0) ∷ [] }
test_plan subset =
    record { self_form = openᶠ; slots = openᶠ ∷ powᶠ (slot 0) ∷ []; equations = (first, slot 1) ∷ (second, slot 1) ∷ [] }
test_plan (at_most n) =
    record { self_form = openᶠ; slots = atomᶠ (number n) ∷ []; equations = (first, slot 0) ∷ (second, slot 0) ∷ [] }

-- kinds 20 to 24, 26 and 42; a is the node's field a
abbrev pub leaf_plan : Leaf → ℕ → Plan
leaf_plan identifier a = record { self_form = openᶠ; slots = []; equations = (self, name) ∷ [] }
leaf_plan given_set a = record { self_form = powᶠ (slot 0); slots = atomᶠ (given a) ∷ []; equations = [] }
leaf_plan element_of a = only (atomᶠ (given a))
leaf_plan (literal n) a = only (atomᶠ (number n))
leaf_plan truth_const a = only (atomᶠ bool)
leaf_plan empty_set a = record { self_form = powᶠ (slot 0); slots = openᶠ ∷ []; equations = [] }
leaf_plan bool_set a = record { self_form = powᶠ (slot 0); slots = atomᶠ bool ∷ []; equations = [] }

-- slots 0 to 3: the domain's and the range's elements, a pair, the relation
abbrev pub relation_slots : List Form
relation_slots = openᶠ ∷ openᶠ ∷ prodᶠ (slot 0) (slot 1) ∷ powᶠ (slot 2) ∷ []

-- kinds 27, 33, 35, 36, 38 and 43
abbrev pub one_plan : One → Plan
one_plan singleton = only (powᶠ first)
one_plan power = record { self_form = powᶠ first; slots = openᶠ ∷ powᶠ (slot 0) ∷ []; equations = (first, slot 1) ∷ [] }
one_plan dom = record { self_form = powᶠ (slot 0); slots = relation_slots; equations = (first, slot 3) ∷ [] }
one_plan ran = record { self_form = powᶠ (slot 1); slots = relation_slots; equations = (first, slot 3) ∷ [] }
one_plan card =
    record { self_form = atomᶠ (number whole); slots = openᶠ ∷ powᶠ (slot 0) ∷ []; equations = (first, slot 1) ∷ [] }
one_plan choice = record { self_form = openᶠ; slots = powᶠ self ∷ []; equations = (first, slot 0) ∷ [] }

-- operands of the node's own type
abbrev pub alike_plan : Form → List Form → Plan
alike_plan f fs = record { self_form = f; slots = fs; equations = (first, self) ∷ (second, self) ∷ [] }

-- kinds 28 to 32, 37 and 39 to 41
abbrev pub two_plan : Two → Plan
two_plan pairing = only (prodᶠ first second)
two_plan union = alike_plan (powᶠ (slot 0)) (openᶠ ∷ [])
two_plan inter = alike_plan (powᶠ (slot 0)) (openᶠ ∷ [])
two_plan diff = alike_plan (powᶠ (slot 0)) (openᶠ ∷ [])
two_plan product = record {
  self_form = powᶠ (slot 2);
  slots = openᶠ ∷ openᶠ ∷ prodᶠ (slot 0) (slot 1) ∷ powᶠ (slot 0) ∷ powᶠ (slot 1) ∷ [];
  equations = (first, slot 3) ∷ (second, slot 4) ∷ [];
}
two_plan apply = record { self_form = openᶠ; slots = prodᶠ second self ∷ powᶠ (slot 0) ∷ []; equations = (first, slot 1) ∷ [] }
two_plan (plus n) = alike_plan (atomᶠ (number n)) []
two_plan (minus n) = alike_plan (atomᶠ (number n)) []
two_plan interval = record {
  self_form = powᶠ (slot 0);
  slots = atomᶠ (number whole) ∷ [];
  equations = (first, slot 0) ∷ (second, slot 0) ∷ [];
}

-- The plan of a kind, where a is the node's field a. The operand of a binder (10, 11 and 34) stands in field b.
abbrev pub plan : Kind → ℕ → Plan
plan (join j) a = only openᶠ
plan negation a = only openᶠ
plan (test j) a = test_plan j
plan (quant j) a = record { self_form = openᶠ; slots = powᶠ name ∷ []; equations = (second, slot 0) ∷ [] }
plan (leaf j) a = leaf_plan j a
plan bool_of a = only (atomᶠ bool)
plan (one j) a = one_plan j
plan (two j) a = two_plan j
plan comprehension a = record { self_form = powᶠ name; slots = []; equations = (second, self) ∷ [] }

abbrev pub MatchesForm : (Ref → Ty) → Form → Ty → Type 0
MatchesForm ρ openᶠ t = Unit {0}
MatchesForm ρ (atomᶠ a) t = t ≡ atom a
MatchesForm ρ (powᶠ r) t = t ≡ POW (ρ r)
MatchesForm ρ (prodᶠ r s) t = t ≡ ρ r ⊗ ρ s

-- The types of the slots, given as t, have these forms.
abbrev pub MatchesSlots : (Ref → Ty) → (ℕ → Ty) → List Form → Type 0
MatchesSlots ρ t [] = Unit {0}
MatchesSlots ρ t (f ∷ fs) = MatchesForm ρ f (t 0) × MatchesSlots ρ (λ i. t (suc i)) fs

abbrev pub HoldsRefs : (Ref → Ty) → List (Ref × Ref) → Type 0
HoldsRefs ρ [] = Unit {0}
HoldsRefs ρ (e ∷ es) = (ρ e.0 ≡ ρ e.1) × HoldsRefs ρ es

-- Types of the references meet a plan.
abbrev pub Meets : Plan → (Ref → Ty) → Type 0
Meets p ρ = MatchesForm ρ p.self_form (ρ self) × MatchesSlots ρ (λ i. ρ (slot i)) p.slots × HoldsRefs ρ p.equations

-- The types of the identifier, of the operands in fields a and b, of the node, and of the slots.
abbrev pub refs : Ty → Ty → Ty → Ty → (ℕ → Ty) → Ref → Ty
refs x e₁ e₂ z s self = z
refs x e₁ e₂ z s first = e₁
refs x e₁ e₂ z s second = e₂
refs x e₁ e₂ z s name = x
refs x e₁ e₂ z s (slot i) = s i
