-- The shapes of later nodes ask nothing of earlier ones: a plan's forms without its equations are met by some types of the node and its slots,
-- whatever the types of the operands. So types of the variables of the nodes below k extend to those of all nodes, with every shape.
use Prim.Native.Nat.{ℕ, zero, suc, ◌≤◌, ◌<◌}
use mathlib.Core.List.{[], ◌∷◌}
use mathlib.Core.Option.{Option, none as nothing, some}
use mathlib.Core.Path.{◌≡◌, refl, sym, ◌∙◌, subst}
use native.Mathlib.Decide.{ℕ_discrete}
use native.Mathlib.Omega.{arith}
use lib.ListN.{length}
use Rattle.rules.specs.Types.{number, bool, given, Ty, atom, POW, ◌⊗◌, INTEGER}
use Rattle.rules.specs.Kinds.{Test, equal, member, subset, at_most}
use Rattle.rules.specs.Kinds.{Leaf, identifier, given_set, element_of, literal, truth_const, empty_set, bool_set}
use Rattle.rules.specs.Kinds.{One, singleton, power, dom, ran, card, choice}
use Rattle.rules.specs.Kinds.{Two, pairing, union, inter, diff, product, apply, plus, minus, interval}
use Rattle.rules.specs.Kinds.{Kind, join, negation, test, quant, leaf, bool_of, one, two, comprehension}
use Rattle.rules.specs.Tables.{Node, Table, node_at, kind_at}
use Rattle.unification.specs.Problem.{Matches}
use Rattle.typing.specs.Plan.{Ref, self, first, second, name, slot, Plan, plan, Meets, refs}
use Rattle.typing.specs.Equations.{plan_of, plan_at, slot_count, base, var_of, shape_at, RightNodes}
use Rattle.typing.proofs.PlanLaws.{slots_from}
use Rattle.typing.proofs.RefLaws.{RefRight, PlanRight, meets_same}
use Rattle.typing.proofs.VariableLaws.{base_mono, base_below, ref_below}
use Rattle.typing.proofs.ProblemLaws.{MeetsBelow, node_plan, forms→shapes}
use Rattle.typing.proofs.EquationsLaws.{extend, extend_old, extend_self, extend_slot}

-- A plan without its equations.
abbrev bare : Plan → Plan
bare p = record { self_form = p.self_form; slots = p.slots; equations = [] }

-- x is the identifier's type, e₁ and e₂ are the operands'.
module _ (x e₁ e₂ : Ty) where
  abbrev Fills : Plan → Type 0
  Fills p = (z : Ty) × (s : ℕ → Ty) × Meets (bare p) (refs x e₁ e₂ z s)

  test_fills : (j : Test) (a : ℕ) → Fills (plan (test j) a)
  test_fills equal a = (INTEGER, slots_from [], (tt, tt, tt))
  test_fills member a = (INTEGER, slots_from (POW e₁ ∷ []), (tt, (refl, tt), tt))
  test_fills subset a = (INTEGER, slots_from (INTEGER ∷ POW INTEGER ∷ []), (tt, (tt, (refl, tt)), tt))
  test_fills (at_most n) a = (INTEGER, slots_from (atom (number n) ∷ []), (tt, (refl, tt), tt))

  leaf_fills : (j : Leaf) (a : ℕ) → Fills (plan (leaf j) a)
  leaf_fills identifier a = (INTEGER, slots_from [], (tt, tt, tt))
  leaf_fills given_set a = (POW (atom (given a)), slots_from (atom (given a) ∷ []), (refl, (refl, tt), tt))
  leaf_fills element_of a = (atom (given a), slots_from [], (refl, tt, tt))
  leaf_fills (literal n) a = (atom (number n), slots_from [], (refl, tt, tt))
  leaf_fills truth_const a = (atom bool, slots_from [], (refl, tt, tt))
  leaf_fills empty_set a = (POW INTEGER, slots_from (INTEGER ∷ []), (refl, (tt, tt), tt))
  leaf_fills bool_set a = (POW (atom bool), slots_from (atom bool ∷ []), (refl, (refl, tt), tt))

  abbrev relation : ℕ → Ty
  relation = slots_from (INTEGER ∷ INTEGER ∷ (INTEGER ⊗ INTEGER) ∷ POW (INTEGER ⊗ INTEGER) ∷ [])

  one_fills : (j : One) (a : ℕ) → Fills (plan (one j) a)
  one_fills singleton a = (POW e₁, slots_from [], (refl, tt, tt))
  one_fills power a = (POW e₁, slots_from (INTEGER ∷ POW INTEGER ∷ []), (refl, (tt, (refl, tt)), tt))
  one_fills dom a = (POW INTEGER, relation, (refl, (tt, (tt, (refl, (refl, tt)))), tt))
  one_fills ran a = (POW INTEGER, relation, (refl, (tt, (tt, (refl, (refl, tt)))), tt))
  one_fills card a = (INTEGER, slots_from (INTEGER ∷ POW INTEGER ∷ []), (refl, (tt, (refl, tt)), tt))
  one_fills choice a = (INTEGER, slots_from (POW INTEGER ∷ []), (tt, (refl, tt), tt))

  two_fills : (j : Two) (a : ℕ) → Fills (plan (two j) a)
  two_fills pairing a = (e₁ ⊗ e₂, slots_from [], (refl, tt, tt))
  two_fills union a = (POW INTEGER, slots_from (INTEGER ∷ []), (refl, (tt, tt), tt))
  two_fills inter a = (POW INTEGER, slots_from (INTEGER ∷ []), (refl, (tt, tt), tt))
  two_fills diff a = (POW INTEGER, slots_from (INTEGER ∷ []), (refl, (tt, tt), tt))
  two_fills product a = (
    POW (INTEGER ⊗ INTEGER),
    slots_from (INTEGER ∷ INTEGER ∷ (INTEGER ⊗ INTEGER) ∷ POW INTEGER ∷ POW INTEGER ∷ []),
    (refl, (tt, (tt, (refl, (refl, (refl, tt))))), tt),
  )
  two_fills apply a = (INTEGER, slots_from ((e₂ ⊗ INTEGER) ∷ POW (e₂ ⊗ INTEGER) ∷ []), (tt, (refl, (refl, tt)), tt))
  two_fills (plus n) a = (atom (number n), slots_from [], (refl, tt, tt))
  two_fills (minus n) a = (atom (number n), slots_from [], (refl, tt, tt))
  two_fills interval a = (POW INTEGER, slots_from (INTEGER ∷ []), (refl, (refl, tt), tt))

  kind_fills : (k : Kind) (a : ℕ) → Fills (plan k a)
  kind_fills (join j) a = (INTEGER, slots_from [], (tt, tt, tt))
  kind_fills negation a = (INTEGER, slots_from [], (tt, tt, tt))
  kind_fills (test j) a = test_fills j a
  kind_fills (quant j) a = (INTEGER, slots_from (POW x ∷ []), (tt, (refl, tt), tt))
  kind_fills (leaf j) a = leaf_fills j a
  kind_fills bool_of a = (atom bool, slots_from [], (refl, tt, tt))
  kind_fills (one j) a = one_fills j a
  kind_fills (two j) a = two_fills j a
  kind_fills comprehension a = (POW x, slots_from [], (refl, tt, tt))

  plan_fills : (o : Option Kind) (a : ℕ) → Fills (plan_of o a)
  plan_fills nothing a = (INTEGER, slots_from [], (tt, tt, tt))
  plan_fills (some k) a = kind_fills k a

bare_right : {tb : Table} {n : ℕ} {d : Node} {p : Plan} → PlanRight tb n d p → PlanRight tb n d (bare p)
bare_right w = record { self_right = w.self_right; slots_right = w.slots_right; equations_right = tt }

-- The forms of the nodes below k are met.
abbrev pub FormsBelow : Table → ℕ → (ℕ → Ty) → Type 0
FormsBelow tb k σ = (n : ℕ) → n < k → Meets (bare (plan_at tb n)) (λ r. σ (var_of tb n r))

names_below : (tb : Table) (k : ℕ) → length tb.binds ≤ base tb k
unfolding base
names_below tb k = base_mono tb {n = 0} k (omega arith)

module _ (tb : Table) (right : RightNodes tb) where
  -- One node more.
  module _ (k : ℕ) (h : k < length tb.nodes) (σ : ℕ → Ty) (f : FormsBelow tb k σ) where
    abbrev d : Node
    d = node_at tb.nodes k

    filled : Fills (σ d.a) (σ (base tb d.a)) (σ (base tb d.b)) (plan_at tb k)
    filled = plan_fills (σ d.a) (σ (base tb d.a)) (σ (base tb d.b)) (kind_at tb.nodes k) d.a

    abbrev next : ℕ → Ty
    next = extend (base tb k) σ filled.0 filled.1

    next_old : (v : ℕ) → v < base tb k → next v ≡ σ v
    next_old v l = extend_old (base tb k) σ filled.0 filled.1 v l

    here : (r : Ref) → RefRight tb k d (slot_count tb k) r →
        refs (σ d.a) (σ (base tb d.a)) (σ (base tb d.b)) filled.0 filled.1 r ≡ next (var_of tb k r)
    unfolding var_of
    here self w = sym (extend_self (base tb k) σ filled.0 filled.1)
    here first w = sym (next_old (base tb d.a) (omega (arith, base_below tb {n = d.a} {m = k} w)))
    here second w = sym (next_old (base tb d.b) (omega (arith, base_below tb {n = d.b} {m = k} w)))
    here name w = sym (next_old d.a (omega (arith, names_below tb k)))
    here (slot i) w = sym (extend_slot (base tb k) σ filled.0 filled.1 i)

    next_forms : FormsBelow tb (suc k) next
    next_forms n l = go (ℕ_discrete n k)
      where
        go : Dec (n ≡ k) → Meets (bare (plan_at tb n)) (λ r. next (var_of tb n r))
        go (yes e) = subst (λ j. Meets (bare (plan_at tb j)) (λ r. next (var_of tb j r))) (sym e)
            (meets_same (bare_right (node_plan tb right h)) _ (λ r. next (var_of tb k r)) here filled.2)
        go (no g) = meets_same (bare_right (node_plan tb right {n = n} (omega arith))) (λ r. σ (var_of tb n r)) (λ r. next (var_of tb n r))
            (λ r w. sym (next_old (var_of tb n r) (ref_below tb (omega arith) r w))) (f n (omega arith))

  -- The types σ with those of the nodes from k on.
  record Extends (k m : ℕ) (σ κ : ℕ → Ty) : Type 0 where
    forms : FormsBelow tb m κ
    old : (v : ℕ) → v < base tb k → κ v ≡ σ v

  extended : (k m : ℕ) → k ≤ m → m ≤ length tb.nodes → (σ : ℕ → Ty) → FormsBelow tb k σ → (κ : ℕ → Ty) × Extends k m σ κ
  extended k zero h l σ f = let e : k ≡ 0 = omega arith in (σ, record { forms = subst (λ j. FormsBelow tb j σ) e f; old = λ v g. refl })
  extended k (suc m) h l σ f = go (ℕ_discrete k (suc m)) (λ g. extended k m g (omega arith) σ f)
    where
      go : Dec (k ≡ suc m) → (k ≤ m → (κ : ℕ → Ty) × Extends k m σ κ) → (κ : ℕ → Ty) × Extends k (suc m) σ κ
      go (yes e) ih = (σ, record { forms = subst (λ j. FormsBelow tb j σ) e f; old = λ v g. refl })
      go (no g) ih =
          let r = ih (omega arith) in (
            next m l r.0 r.1.forms,
            record {
              forms = next_forms m l r.0 r.1.forms;
              old = λ v q. next_old m l r.0 r.1.forms v (omega (arith, base_mono tb {n = k} m (omega arith))) ∙ r.1.old v q;
            },
          )

  -- Types that meet the plans of the nodes below k are, below base k, those of an assignment with the shapes of all nodes below m.
  pub extends : (k m : ℕ) → k ≤ m → m ≤ length tb.nodes → (σ : ℕ → Ty) → MeetsBelow tb k σ →
      (κ : ℕ → Ty) × ((v : ℕ) → v < base tb m → Matches κ (shape_at tb v) (κ v)) × ((v : ℕ) → v < base tb k → κ v ≡ σ v)
  unfolding var_of
  extends k m h l σ f =
      let r = extended k m h l σ (λ n g. ((f n g).0, (f n g).1, tt)) in
      (r.0, forms→shapes tb m r.0 l (λ n g. ((r.1.forms n g).0, (r.1.forms n g).1)), r.1.old)
