-- A plan has the meaning of its kind's typing rule: types obey the rule exactly if they meet the plan with some types of
-- the slots.
use Prim.Native.Nat.{ℕ}
use mathlib.Core.List.{List, [], ◌∷◌, map}
use mathlib.Core.Logic.{◌↔◌}
use lib.ListN.{get_or}
use Rattle.rules.specs.Types.{number, bool, given, Ty, atom, POW, ◌⊗◌, INTEGER}
use Rattle.rules.specs.Kinds.{Test, equal, member, subset, at_most}
use Rattle.rules.specs.Kinds.{Leaf, identifier, given_set, element_of, literal, truth_const, empty_set, bool_set}
use Rattle.rules.specs.Kinds.{One, singleton, power, dom, ran, card, choice}
use Rattle.rules.specs.Kinds.{Two, pairing, union, inter, diff, product, apply, plus, minus, interval}
use Rattle.rules.specs.Kinds.{Kind, join, negation, test, quant, leaf, bool_of, one, two, comprehension}
use Rattle.rules.specs.Rules.{rule, Obeys}
use Rattle.rules.specs.Tables.{Node, operands}
use Rattle.typing.specs.Plan.{plan, Meets, refs}

-- The slots' types as a list.
abbrev pub slots_from : List Ty → ℕ → Ty
slots_from ts i = get_or ts i INTEGER

-- Types obey the rule of the kind k, at a node d where operands have the types η.
abbrev pub ObeysAt : Kind → Node → Ty → (ℕ → Ty) → Ty → Type 0
ObeysAt k d x η z = Obeys (rule k d.a) x (map η (operands k d)) z

-- They meet its plan.
abbrev pub MeetsAt : Kind → Node → Ty → (ℕ → Ty) → Ty → Type 0
MeetsAt k d x η z = (s : ℕ → Ty) × Meets (plan k d.a) (refs x (η d.a) (η d.b) z s)

module _ (d : Node) (x : Ty) (η : ℕ → Ty) (z : Ty) where
  test_to : (j : Test) → ObeysAt (test j) d x η z → MeetsAt (test j) d x η z
  test_to equal o = (slots_from [], (tt, tt, (cc, tt)))
  test_to member o = (slots_from (POW o.0 ∷ []), (tt, (cc, tt), (cc, tt)))
  test_to subset o = (slots_from (o.0 ∷ POW o.0 ∷ []), (tt, (tt, (cc, tt)), (cc, (cc, tt))))
  test_to (at_most n) o = (slots_from (atom (number n) ∷ []), (tt, (cc, tt), (cc, (cc, tt))))

  leaf_to : (j : Leaf) → ObeysAt (leaf j) d x η z → MeetsAt (leaf j) d x η z
  leaf_to identifier o = (slots_from [], (tt, tt, (cc, tt)))
  leaf_to given_set o = (slots_from (atom (given d.a) ∷ []), (cc, (cc, tt), tt))
  leaf_to element_of o = (slots_from [], (cc, tt, tt))
  leaf_to (literal n) o = (slots_from [], (cc, tt, tt))
  leaf_to truth_const o = (slots_from [], (cc, tt, tt))
  leaf_to empty_set o = (slots_from (o.0 ∷ []), (cc, (tt, tt), tt))
  leaf_to bool_set o = (slots_from (atom bool ∷ []), (cc, (cc, tt), tt))

  one_to : (j : One) → ObeysAt (one j) d x η z → MeetsAt (one j) d x η z
  one_to singleton o = (slots_from [], (cc, tt, tt))
  one_to power o = (slots_from (o.0 ∷ POW o.0 ∷ []), (cc, (tt, (cc, tt)), (cc, tt)))
  one_to dom o = (slots_from (o.0 ∷ o.1 ∷ (o.0 ⊗ o.1) ∷ POW (o.0 ⊗ o.1) ∷ []), (cc, (tt, (tt, (cc, (cc, tt)))), (cc, tt)))
  one_to ran o = (slots_from (o.0 ∷ o.1 ∷ (o.0 ⊗ o.1) ∷ POW (o.0 ⊗ o.1) ∷ []), (cc, (tt, (tt, (cc, (cc, tt)))), (cc, tt)))
  one_to card o = (slots_from (o.0 ∷ POW o.0 ∷ []), (cc, (tt, (cc, tt)), (cc, tt)))
  one_to choice o = (slots_from (POW o.0 ∷ []), (tt, (cc, tt), (cc, tt)))

  two_to : (j : Two) → ObeysAt (two j) d x η z → MeetsAt (two j) d x η z
  two_to pairing o = (slots_from [], (cc, tt, tt))
  two_to union o = (slots_from (o.0 ∷ []), (cc, (tt, tt), (cc, (cc, tt))))
  two_to inter o = (slots_from (o.0 ∷ []), (cc, (tt, tt), (cc, (cc, tt))))
  two_to diff o = (slots_from (o.0 ∷ []), (cc, (tt, tt), (cc, (cc, tt))))
  two_to product o = (
    slots_from (o.0 ∷ o.1 ∷ (o.0 ⊗ o.1) ∷ POW o.0 ∷ POW o.1 ∷ []),
    (cc, (tt, (tt, (cc, (cc, (cc, tt))))), (cc, (cc, tt))),
  )
  two_to apply o = (slots_from ((o.0 ⊗ o.1) ∷ POW (o.0 ⊗ o.1) ∷ []), (tt, (cc, (cc, tt)), (cc, tt)))
  two_to (plus n) o = (slots_from [], (cc, tt, (cc, (cc, tt))))
  two_to (minus n) o = (slots_from [], (cc, tt, (cc, (cc, tt))))
  two_to interval o = (slots_from (INTEGER ∷ []), (cc, (cc, tt), (cc, (cc, tt))))

  -- Types that obey a rule meet its plan.
  pub obeys→meets : (k : Kind) → ObeysAt k d x η z → MeetsAt k d x η z
  obeys→meets (join j) o = (slots_from [], (tt, tt, tt))
  obeys→meets negation o = (slots_from [], (tt, tt, tt))
  obeys→meets (test j) o = test_to j o
  obeys→meets (quant j) o = (slots_from (POW x ∷ []), (tt, (cc, tt), (cc, tt)))
  obeys→meets (leaf j) o = leaf_to j o
  obeys→meets bool_of o = (slots_from [], (cc, tt, tt))
  obeys→meets (one j) o = one_to j o
  obeys→meets (two j) o = two_to j o
  obeys→meets comprehension o = (slots_from [], (cc, tt, (cc, tt)))

  test_from : (j : Test) → MeetsAt (test j) d x η z → ObeysAt (test j) d x η z
  test_from equal m = (η d.a, z, tt, (cc, (cc, tt)), tt)
  test_from member m = (η d.a, z, tt, (cc, (cc, tt)), tt)
  test_from subset m = (m.0 0, z, tt, (cc, (cc, tt)), tt)
  test_from (at_most n) m = (z, z, tt, (cc, (cc, tt)), tt)

  leaf_from : (j : Leaf) → MeetsAt (leaf j) d x η z → ObeysAt (leaf j) d x η z
  leaf_from identifier m = (z, z, cc, tt, cc)
  leaf_from given_set m = (z, z, tt, tt, cc)
  leaf_from element_of m = (z, z, tt, tt, cc)
  leaf_from (literal n) m = (z, z, tt, tt, cc)
  leaf_from truth_const m = (z, z, tt, tt, cc)
  leaf_from empty_set m = (m.0 0, z, tt, tt, cc)
  leaf_from bool_set m = (z, z, tt, tt, cc)

  one_from : (j : One) → MeetsAt (one j) d x η z → ObeysAt (one j) d x η z
  one_from singleton m = (η d.a, z, tt, (cc, tt), cc)
  one_from power m = (m.0 0, z, tt, (cc, tt), cc)
  one_from dom m = (m.0 0, m.0 1, tt, (cc, tt), cc)
  one_from ran m = (m.0 0, m.0 1, tt, (cc, tt), cc)
  one_from card m = (m.0 0, z, tt, (cc, tt), cc)
  one_from choice m = (z, z, tt, (cc, tt), cc)

  two_from : (j : Two) → MeetsAt (two j) d x η z → ObeysAt (two j) d x η z
  two_from pairing m = (η d.a, η d.b, tt, (cc, (cc, tt)), cc)
  two_from union m = (m.0 0, z, tt, (cc, (cc, tt)), cc)
  two_from inter m = (m.0 0, z, tt, (cc, (cc, tt)), cc)
  two_from diff m = (m.0 0, z, tt, (cc, (cc, tt)), cc)
  two_from product m = (m.0 0, m.0 1, tt, (cc, (cc, tt)), cc)
  two_from apply m = (η d.b, z, tt, (cc, (cc, tt)), cc)
  two_from (plus n) m = (z, z, tt, (cc, (cc, tt)), cc)
  two_from (minus n) m = (z, z, tt, (cc, (cc, tt)), cc)
  two_from interval m = (z, z, tt, (cc, (cc, tt)), cc)

  -- Types that meet a plan obey its rule.
  pub meets→obeys : (k : Kind) → MeetsAt k d x η z → ObeysAt k d x η z
  meets→obeys (join j) m = (z, z, tt, tt, tt)
  meets→obeys negation m = (z, z, tt, tt, tt)
  meets→obeys (test j) m = test_from j m
  meets→obeys (quant j) m = (x, z, cc, (cc, tt), tt)
  meets→obeys (leaf j) m = leaf_from j m
  meets→obeys bool_of m = (z, z, tt, tt, cc)
  meets→obeys (one j) m = one_from j m
  meets→obeys (two j) m = two_from j m
  meets→obeys comprehension m = (x, z, cc, (cc, tt), cc)

  pub plan_right : (k : Kind) → ObeysAt k d x η z ↔ MeetsAt k d x η z
  plan_right k = (obeys→meets k, meets→obeys k)
