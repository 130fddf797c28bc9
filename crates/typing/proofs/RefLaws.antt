-- What a plan speaks of: in a readable table every reference of a node's plan is a variable below the next node's, and a
-- plan's meaning depends on its references' types only.
use Prim.Native.Nat.{ℕ, suc, ◌≤◌, ◌<◌}
use mathlib.Core.Bool.{true}
use mathlib.Core.List.{List, [], ◌∷◌, map}
use mathlib.Core.Option.{Option, none as nothing, some}
use mathlib.Core.Path.{◌≡◌, refl, sym, ap, ◌∙◌}
use native.Mathlib.Omega.{arith}
use lib.Dec.{leb, leb→le}
use lib.ListN.{length, get_or, get_or-map}
use Rattle.rules.specs.Types.{Ty, DeclaredAtom}
use Rattle.rules.specs.Kinds.{Test, equal, member, subset, at_most}
use Rattle.rules.specs.Kinds.{Leaf, identifier, given_set, element_of, literal, truth_const, empty_set, bool_set}
use Rattle.rules.specs.Kinds.{One, singleton, power, dom, ran, card, choice}
use Rattle.rules.specs.Kinds.{Two, pairing, union, inter, diff, product, apply, plus, minus, interval}
use Rattle.rules.specs.Kinds.{Kind, join, negation, test, quant, leaf, bool_of, one, two, comprehension, kinds, kind_of, fields_of}
use Rattle.rules.specs.Tables.{Node, Table, field_words}
use Rattle.rules.specs.Readable.{FieldsRight, KindRight}
use Rattle.typing.specs.Plan.{Ref, self, first, second, name, slot, Form, openᶠ, atomᶠ, powᶠ, prodᶠ, Plan, plan}
use Rattle.typing.specs.Plan.{MatchesForm, MatchesSlots, HoldsRefs, Meets}
use Rattle.typing.specs.Equations.{plan_of}

-- What holds of every kind's plan, by computation over the list of kinds.
pub by_kinds : {A : Type 0} (f g : Option Kind → A) → f nothing ≡ g nothing → map f kinds ≡ map g kinds → (k : ℕ) → f (kind_of k) ≡ g (kind_of k)
unfolding kind_of
by_kinds f g e h k =
    sym (get_or-map f kinds k nothing) ∙ ap (λ l. get_or l k (f nothing)) h ∙ rw e (get_or-map g kinds k nothing)

-- A plan has at most 5 slots and 2 equations.
module _ (k a : ℕ) where
  pub few_slots : length (plan_of (kind_of k) a).slots ≤ 5
  few_slots = leb→le _ 5 (rw (by_kinds (λ o. leb (length (plan_of o a).slots) 5) (λ o. true) refl refl k) tt)

  pub few_equations : length (plan_of (kind_of k) a).equations ≤ 2
  few_equations = leb→le _ 2 (rw (by_kinds (λ o. leb (length (plan_of o a).equations) 2) (λ o. true) refl refl k) tt)

-- What a plan of node n, whose record is d, may speak of: children below n, the table's identifiers and given sets, and m slots.
module _ (tb : Table) (n : ℕ) (d : Node) (m : ℕ) where
  abbrev pub RefRight : Ref → Type 0
  RefRight self = Unit {0}
  RefRight first = d.a < n
  RefRight second = d.b < n
  RefRight name = d.a < length tb.binds
  RefRight (slot i) = i < m

  abbrev pub FormRight : Form → Type 0
  FormRight openᶠ = Unit {0}
  FormRight (atomᶠ a) = DeclaredAtom (length tb.sizes) a
  FormRight (powᶠ r) = RefRight r
  FormRight (prodᶠ r s) = RefRight r × RefRight s

  abbrev pub FormsRight : List Form → Type 0
  FormsRight [] = Unit {0}
  FormsRight (f ∷ fs) = FormRight f × FormsRight fs

  abbrev pub PairsRight : List (Ref × Ref) → Type 0
  PairsRight [] = Unit {0}
  PairsRight (e ∷ es) = RefRight e.0 × RefRight e.1 × PairsRight es

-- The plan p of node n, whose record is d.
pub record PlanRight (tb : Table) (n : ℕ) (d : Node) (p : Plan) : Type 0 where
  pub self_right : FormRight tb n d (length p.slots) p.self_form
  pub slots_right : FormsRight tb n d (length p.slots) p.slots
  pub equations_right : PairsRight tb n d (length p.slots) p.equations

module _ (tb : Table) (n : ℕ) (d : Node) where
  tests_right : (j : Test) → FieldsRight tb n (fields_of (test j)) (field_words d) → PlanRight tb n d (plan (test j) d.a)
  tests_right equal h = omega arith
  tests_right member h = omega arith
  tests_right subset h = omega arith
  tests_right (at_most m) h = omega arith

  leaves_right : (j : Leaf) → FieldsRight tb n (fields_of (leaf j)) (field_words d) → PlanRight tb n d (plan (leaf j) d.a)
  leaves_right identifier h = omega arith
  leaves_right given_set h = omega arith
  leaves_right element_of h = omega arith
  leaves_right (literal m) h = omega arith
  leaves_right truth_const h = omega arith
  leaves_right empty_set h = omega arith
  leaves_right bool_set h = omega arith

  ones_right : (j : One) → FieldsRight tb n (fields_of (one j)) (field_words d) → PlanRight tb n d (plan (one j) d.a)
  ones_right singleton h = omega arith
  ones_right power h = omega arith
  ones_right dom h = omega arith
  ones_right ran h = omega arith
  ones_right card h = omega arith
  ones_right choice h = omega arith

  twos_right : (j : Two) → FieldsRight tb n (fields_of (two j)) (field_words d) → PlanRight tb n d (plan (two j) d.a)
  twos_right pairing h = omega arith
  twos_right union h = omega arith
  twos_right inter h = omega arith
  twos_right diff h = omega arith
  twos_right product h = omega arith
  twos_right apply h = omega arith
  twos_right (plus m) h = omega arith
  twos_right (minus m) h = omega arith
  twos_right interval h = omega arith

  kinds_right : (k : Kind) → FieldsRight tb n (fields_of k) (field_words d) → PlanRight tb n d (plan k d.a)
  kinds_right (join j) h = omega arith
  kinds_right negation h = omega arith
  kinds_right (test j) h = tests_right j h
  kinds_right (quant j) h = omega arith
  kinds_right (leaf j) h = leaves_right j h
  kinds_right bool_of h = omega arith
  kinds_right (one j) h = ones_right j h
  kinds_right (two j) h = twos_right j h
  kinds_right comprehension h = omega arith

  -- The references of a readable node's plan are right.
  pub plan_refs : (o : Option Kind) → KindRight tb n o (field_words d) → PlanRight tb n d (plan_of o d.a)
  plan_refs nothing h = absurd h
  plan_refs (some k) h = kinds_right k h

-- Types that are the same at the references of a plan meet it alike.
module _ {tb : Table} {n : ℕ} {d : Node} {p : Plan} (w : PlanRight tb n d p) (ρ ρ' : Ref → Ty)
    (same : (r : Ref) → RefRight tb n d (length p.slots) r → ρ r ≡ ρ' r) where
  form_same : (f : Form) (t t' : Ty) → FormRight tb n d (length p.slots) f → t ≡ t' → MatchesForm ρ f t → MatchesForm ρ' f t'
  form_same openᶠ t t' h e q = tt
  form_same (atomᶠ a) t t' h e q = cc
  form_same (powᶠ r) t t' h e q = cc (same r h)
  form_same (prodᶠ r s) t t' h e q = cc (same r h.0, same s h.1)

  slots_same : (t t' : ℕ → Ty) (fs : List Form) → ((i : ℕ) → i < length fs → t i ≡ t' i) →
      FormsRight tb n d (length p.slots) fs → MatchesSlots ρ t fs → MatchesSlots ρ' t' fs
  slots_same t t' [] e h q = tt
  slots_same t t' (f ∷ fs) e h q =
      (form_same f _ _ h.0 (e 0 (omega arith)) q.0, slots_same _ _ fs (λ i l. e (suc i) (omega arith)) h.1 q.1)

  pairs_same : (es : List (Ref × Ref)) → PairsRight tb n d (length p.slots) es → HoldsRefs ρ es → HoldsRefs ρ' es
  pairs_same [] h q = tt
  pairs_same (e ∷ es) h q = (cc (same e.0 h.0, same e.1 h.1, q.0), pairs_same es h.2 q.1)

  pub meets_same : Meets p ρ → Meets p ρ'
  meets_same q = (
    form_same p.self_form _ _ w.self_right (same self tt) q.0,
    slots_same _ _ p.slots (λ i l. same (slot i) l) w.slots_right q.1,
    pairs_same p.equations w.equations_right q.2,
  )
