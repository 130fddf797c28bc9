-- The solutions of a table's problem are the table's typings: those of the nodes below k, for each k.
use Prim.Native.Nat.{ℕ, zero, suc, ◌+◌, ◌-◌, ◌≤◌, ◌<◌}
use mathlib.Core.Bool.{Bool, true, false, cond}
use mathlib.Core.Option.{Option, none as nothing, some}
use mathlib.Core.Path.{◌≡◌, refl, subst, sym, ◌∙◌}
use native.Mathlib.Decide.{dec_lt, ℕ_discrete}
use native.Mathlib.Nat.{not-suc-le-zero}
use native.Mathlib.Omega.{arith}
use lib.Dec.{T, ltb, lt→ltb, ltb→lt}
use lib.ListN.{length}
use Rattle.rules.specs.Types.{Ty, Declared, INTEGER}
use Rattle.rules.specs.Kinds.{Kind}
use Rattle.rules.specs.Tables.{Table, node_at, kind_at, field_words}
use Rattle.rules.specs.Readable.{KindRight}
use Rattle.rules.specs.Verdict.{node_place, ObeysKind, Typing}
use Rattle.unification.specs.Problem.{Solves}
use Rattle.typing.specs.Plan.{Ref, self, first, second, name, slot, Meets, refs}
use Rattle.typing.specs.Equations.{plan_of, plan_at, slot_count, base, var_of, shape_at, equations, RightNodes, back}
use Rattle.typing.proofs.PlanLaws.{obeys→meets, meets→obeys}
use Rattle.typing.proofs.RefLaws.{RefRight, meets_same}
use Rattle.typing.proofs.VariableLaws.{base_mono, base_below, ref_below}
use Rattle.typing.proofs.ProblemLaws.{MeetsBelow, solves→meets, meets→solves, node_plan}

-- The test i < j.
truth : (b : Bool) → T b → b ≡ true
truth true h = refl
truth false h = absurd h

falsity : (b : Bool) → (T b → ⊥) → b ≡ false
falsity true h = absurd (h tt)
falsity false h = refl

pub less : (i j : ℕ) → i < j → ltb i j ≡ true
less i j h = truth (ltb i j) (lt→ltb i j h)

pub not_less : (i j : ℕ) → j ≤ i → ltb i j ≡ false
not_less i j h = falsity (ltb i j) (λ t. let l = ltb→lt i j t in omega arith)

-- The places' types are those of their variables.
pub back_name : (tb : Table) (k : ℕ) (σ : ℕ → Ty) (x : ℕ) → x < length tb.binds → back tb k σ x ≡ σ x
unfolding back
back_name tb k σ x h = rw (less x (length tb.binds) h) refl

pub back_node : (tb : Table) (k : ℕ) (σ : ℕ → Ty) (n : ℕ) → n < k → back tb k σ (node_place tb n) ≡ σ (base tb n)
unfolding back
back_node tb k σ n h =
    let e : node_place tb n - length tb.binds ≡ n = omega arith in
    rw (not_less (node_place tb n) (length tb.binds) (omega arith), e, less n k h) refl

back_other : (tb : Table) (k : ℕ) (σ : ℕ → Ty) (p : ℕ) → length tb.binds + k ≤ p → back tb k σ p ≡ INTEGER
unfolding back
back_other tb k σ p h =
    rw (not_less p (length tb.binds) (omega arith), not_less (p - length tb.binds) k (omega arith)) refl

-- The types θ of the places of node n's references, with types s of its slots.
abbrev node_refs : Table → (ℕ → Ty) → ℕ → (ℕ → Ty) → Ref → Ty
node_refs tb θ n s =
    let d = node_at tb.nodes n in
    refs (θ d.a) (θ (node_place tb d.a)) (θ (node_place tb d.b)) (θ (node_place tb n)) s

-- They are the variables' types, where those are the places' types.
module _ (tb : Table) (n : ℕ) (σ θ s : ℕ → Ty) (names : (x : ℕ) → x < length tb.binds → σ x ≡ θ x)
    (nodes : (m : ℕ) → m < suc n → σ (base tb m) ≡ θ (node_place tb m)) (slots : (i : ℕ) → σ (base tb n + 1 + i) ≡ s i) where
  refs_agree : (r : Ref) → RefRight tb n (node_at tb.nodes n) (slot_count tb n) r → σ (var_of tb n r) ≡ node_refs tb θ n s r
  unfolding var_of
  refs_agree self w = nodes n (omega arith)
  refs_agree first w = nodes (node_at tb.nodes n).a (omega arith)
  refs_agree second w = nodes (node_at tb.nodes n).b (omega arith)
  refs_agree name w = names (node_at tb.nodes n).a w
  refs_agree (slot i) w = slots i

-- The rule of node n and its plan, for a kind that may be unknown.
module _ (tb : Table) (θ : ℕ → Ty) (n : ℕ) where
  kind_meets : (o : Option Kind) → ObeysKind tb θ n o → (s : ℕ → Ty) × Meets (plan_of o (node_at tb.nodes n).a) (node_refs tb θ n s)
  kind_meets nothing h = absurd h
  kind_meets (some k) h = obeys→meets (node_at tb.nodes n) _ (λ m. θ (node_place tb m)) _ k h

  kind_obeys : (o : Option Kind) → KindRight tb n o (field_words (node_at tb.nodes n)) →
      (s : ℕ → Ty) → Meets (plan_of o (node_at tb.nodes n).a) (node_refs tb θ n s) → ObeysKind tb θ n o
  kind_obeys nothing r s h = absurd r
  kind_obeys (some k) r s h = meets→obeys (node_at tb.nodes n) _ (λ m. θ (node_place tb m)) _ k (s, h)

-- Types σ of the variables below b, with z at b and s behind it.
abbrev pub behind : Ty → (ℕ → Ty) → ℕ → Ty
behind z s zero = z
behind z s (suc i) = s i

unfoldable pub extend : ℕ → (ℕ → Ty) → Ty → (ℕ → Ty) → ℕ → Ty
extend b σ z s v = cond (ltb v b) (σ v) (behind z s (v - b))

module _ (b : ℕ) (σ : ℕ → Ty) (z : Ty) (s : ℕ → Ty) where
  pub extend_old : (v : ℕ) → v < b → extend b σ z s v ≡ σ v
  unfolding extend
  extend_old v h = rw (less v b h) refl

  pub extend_self : extend b σ z s b ≡ z
  unfolding extend
  extend_self = let e : b - b ≡ 0 = omega arith in rw (not_less b b (omega arith), e) refl

  pub extend_slot : (i : ℕ) → extend b σ z s (b + 1 + i) ≡ s i
  unfolding extend
  extend_slot i = let e : b + 1 + i - b ≡ suc i = omega arith in rw (not_less (b + 1 + i) b (omega arith), e) refl

-- The types of the variables of the nodes below k meet their plans, and are those of θ at the places.
record Found (tb : Table) (k : ℕ) (θ σ : ℕ → Ty) : Type 0 where
  meets : MeetsBelow tb k σ
  names : (x : ℕ) → x < length tb.binds → σ x ≡ θ x
  nodes : (n : ℕ) → n < k → σ (base tb n) ≡ θ (node_place tb n)

module _ (tb : Table) (right : RightNodes tb) (θ : ℕ → Ty) where
  found_none : Found tb 0 θ θ
  found_none = record { meets = λ n l. absurd (not-suc-le-zero l); names = λ x l. refl; nodes = λ n l. absurd (not-suc-le-zero l) }

  module _ (k : ℕ) (h : k < length tb.nodes) (σ s : ℕ → Ty) (f : Found tb k θ σ)
      (m : Meets (plan_at tb k) (node_refs tb θ k s)) where
    abbrev next : ℕ → Ty
    next = extend (base tb k) σ (θ (node_place tb k)) s

    next_old : (v : ℕ) → v < base tb k → next v ≡ σ v
    next_old v l = extend_old (base tb k) σ (θ (node_place tb k)) s v l

    next_names : (x : ℕ) → x < length tb.binds → next x ≡ θ x
    unfolding base
    next_names x l = next_old x (omega (arith, base_mono tb {n = 0} k (omega arith))) ∙ f.names x l

    next_nodes : (n : ℕ) → n < suc k → next (base tb n) ≡ θ (node_place tb n)
    next_nodes n l = go (ℕ_discrete n k)
      where
        go : Dec (n ≡ k) → next (base tb n) ≡ θ (node_place tb n)
        go (yes e) = rw e (extend_self (base tb k) σ (θ (node_place tb k)) s)
        go (no g) = next_old (base tb n) (omega (arith, base_below tb {n = n} {m = k} (omega arith))) ∙ f.nodes n (omega arith)

    next_meets : MeetsBelow tb (suc k) next
    next_meets n l = go (ℕ_discrete n k)
      where
        go : Dec (n ≡ k) → Meets (plan_at tb n) (λ r. next (var_of tb n r))
        go (yes e) = subst (λ j. Meets (plan_at tb j) (λ r. next (var_of tb j r))) (sym e)
            (meets_same (node_plan tb right h) (node_refs tb θ k s) (λ r. next (var_of tb k r))
            (λ r w. sym (refs_agree tb k next θ s next_names next_nodes
            (extend_slot (base tb k) σ (θ (node_place tb k)) s) r w)) m)
        go (no g) = meets_same (node_plan tb right {n = n} (omega arith)) (λ r. σ (var_of tb n r)) (λ r. next (var_of tb n r))
            (λ r w. sym (next_old (var_of tb n r) (ref_below tb (omega arith) r w))) (f.meets n (omega arith))

    found_next : Found tb (suc k) θ next
    found_next = record { meets = next_meets; names = next_names; nodes = next_nodes }

  found : (k : ℕ) → k ≤ length tb.nodes → ((n : ℕ) → n < k → ObeysKind tb θ n (kind_at tb.nodes n)) →
      (σ : ℕ → Ty) × Found tb k θ σ
  found zero h o = (θ, found_none)
  found (suc k) h o =
      let r = found k (omega arith) (λ n l. o n (omega arith)) in
      let s = kind_meets tb θ k (kind_at tb.nodes k) (o k (omega arith)) in
      (_, found_next k h r.0 s.0 r.1 s.1)

  -- A typing of the nodes below k gives a solution of their problem, which is the same at the places.
  pub typing→solves : (k : ℕ) → k ≤ length tb.nodes → Typing tb k θ → (σ : ℕ → Ty) ×
      Solves (shape_at tb) (base tb k) (equations tb k) σ × ((x : ℕ) → x < length tb.binds → σ x ≡ θ x) ×
      ((n : ℕ) → n < k → σ (base tb n) ≡ θ (node_place tb n))
  typing→solves k h t =
      let r = found k h t.obeyed in (r.0, meets→solves tb k r.0 h r.1.meets, r.1.names, r.1.nodes)

module _ (tb : Table) (right : RightNodes tb) (k : ℕ) (h : k ≤ length tb.nodes) (σ : ℕ → Ty) where
  back_declared : ((v : ℕ) → v < base tb k → Declared (length tb.sizes) (σ v)) → (p : ℕ) →
      Declared (length tb.sizes) (back tb k σ p)
  unfolding base
  back_declared d p = go (dec_lt p (length tb.binds)) (dec_lt (p - length tb.binds) k)
    where
      go : Dec (p < length tb.binds) → Dec (p - length tb.binds < k) → Declared (length tb.sizes) (back tb k σ p)
      go (yes l) e = subst (λ t. Declared (length tb.sizes) t) (sym (back_name tb k σ p l))
          (d p (omega (arith, base_mono tb {n = 0} k (omega arith))))
      go (no g) (yes l) =
          let e : node_place tb (p - length tb.binds) ≡ p = omega arith in
          subst (λ t. Declared (length tb.sizes) t) (sym (rw e at (back_node tb k σ (p - length tb.binds) l)))
          (d (base tb (p - length tb.binds)) (omega (arith, base_below tb l)))
      go (no g) (no f) = subst (λ t. Declared (length tb.sizes) t) (sym (back_other tb k σ p (omega arith))) tt

  back_obeyed : MeetsBelow tb k σ → (n : ℕ) → n < k → ObeysKind tb (back tb k σ) n (kind_at tb.nodes n)
  back_obeyed q n l =
      let s : ℕ → Ty = λ i. σ (base tb n + 1 + i) in
      kind_obeys tb (back tb k σ) n (kind_at tb.nodes n) (right n (omega arith)) s
      (meets_same (node_plan tb right {n = n} (omega arith)) (λ r. σ (var_of tb n r)) (node_refs tb (back tb k σ) n s)
      (refs_agree tb n σ (back tb k σ) s (λ x g. sym (back_name tb k σ x g))
      (λ m g. sym (back_node tb k σ m (omega arith))) (λ i. refl)) (q n l))

  -- A solution in types of the table gives a typing.
  pub solves→typing : Solves (shape_at tb) (base tb k) (equations tb k) σ →
      ((v : ℕ) → v < base tb k → Declared (length tb.sizes) (σ v)) → Typing tb k (back tb k σ)
  solves→typing q d = record { declared = λ p w. back_declared d p; obeyed = back_obeyed (solves→meets tb k σ h q) }
