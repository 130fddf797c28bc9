-- The problem of a table's nodes: it is well formed where the table is readable, and its solutions are the assignments of
-- types to variables that meet the nodes' plans.
use Prim.Native.Nat.{ℕ, zero, suc, ◌+◌, ◌≤◌, ◌<◌}
use mathlib.Core.List.{List, [], ◌∷◌, map}
use mathlib.Core.Path.{◌≡◌, subst, sym}
use native.Mathlib.Decide.{ℕ_discrete}
use native.Mathlib.Nat.{not-suc-le-zero}
use native.Mathlib.Omega.{arith}
use lib.ListN.{get_or, length}
use Rattle.rules.specs.Types.{Ty}
use Rattle.rules.specs.Tables.{Node, Table, node_at, kind_at}
use Rattle.unification.specs.Problem.{Shape, unknown, Matches, Holds, Solves, PartsBelow, AllBelow}
use Rattle.unification.specs.Solved.{LeafDeclared}
use Rattle.unification.proofs.Step.{below_append, holds_append}
use Rattle.typing.specs.Plan.{Ref, Form, openᶠ, atomᶠ, powᶠ, prodᶠ, MatchesForm, MatchesSlots, HoldsRefs, Meets}
use Rattle.typing.specs.Equations.{plan_at, slot_count, base, var_of, shape_from, eqn_from, node_equations, shape_at, equations}
use Rattle.typing.specs.Equations.{WellFormed, RightNodes}
use Rattle.typing.proofs.RefLaws.{FormRight, FormsRight, PairsRight, PlanRight, plan_refs}
use Rattle.typing.proofs.VariableLaws.{base_below, shape_name, shape_self, shape_slot, each_variable, ref_below}

module _ (tb : Table) where
  holds_node : (σ : ℕ → Ty) (k : ℕ) → Holds σ (equations tb k) → (n : ℕ) → n < k → Holds σ (node_equations tb n)
  unfolding equations
  holds_node σ zero h n l = absurd (not-suc-le-zero l)
  holds_node σ (suc k) h n l =
      let r = (holds_append σ (equations tb k) (node_equations tb k)).1 h in go (ℕ_discrete n k) r.1 (holds_node σ k r.0 n)
    where
      go : Dec (n ≡ k) → Holds σ (node_equations tb k) → (n < k → Holds σ (node_equations tb n)) → Holds σ (node_equations tb n)
      go (yes e) last ih = subst (λ j. Holds σ (node_equations tb j)) (sym e) last
      go (no g) last ih = ih (omega arith)

  holds_all : (σ : ℕ → Ty) (k : ℕ) → ((n : ℕ) → n < k → Holds σ (node_equations tb n)) → Holds σ (equations tb k)
  unfolding equations
  holds_all σ zero h = tt
  holds_all σ (suc k) h = (holds_append σ (equations tb k) (node_equations tb k)).0 (holds_all σ k (λ n l. h n (omega arith)), h k (omega arith))

  below_all : (m k : ℕ) → ((n : ℕ) → n < k → AllBelow m (node_equations tb n)) → AllBelow m (equations tb k)
  unfolding equations
  below_all m zero h = tt
  below_all m (suc k) h = below_append m (equations tb k) (node_equations tb k) (below_all m k (λ n l. h n (omega arith))) (h k (omega arith))

-- Forms and pairs of references mean the shapes and equations that are made of them.
module _ (σ : ℕ → Ty) (v : Ref → ℕ) where
  form→shape : (f : Form) (t : Ty) → MatchesForm (λ r. σ (v r)) f t → Matches σ (shape_from v f) t
  form→shape openᶠ t h = h
  form→shape (atomᶠ a) t h = h
  form→shape (powᶠ r) t h = h
  form→shape (prodᶠ r s) t h = h

  shape→form : (f : Form) (t : Ty) → Matches σ (shape_from v f) t → MatchesForm (λ r. σ (v r)) f t
  shape→form openᶠ t h = h
  shape→form (atomᶠ a) t h = h
  shape→form (powᶠ r) t h = h
  shape→form (prodᶠ r s) t h = h

  pairs→eqns : (es : List (Ref × Ref)) → HoldsRefs (λ r. σ (v r)) es → Holds σ (map (eqn_from v) es)
  pairs→eqns [] h = tt
  pairs→eqns (e ∷ es) h = (h.0, pairs→eqns es h.1)

  eqns→pairs : (es : List (Ref × Ref)) → Holds σ (map (eqn_from v) es) → HoldsRefs (λ r. σ (v r)) es
  eqns→pairs [] h = tt
  eqns→pairs (e ∷ es) h = (h.0, eqns→pairs es h.1)

module _ (ρ : Ref → Ty) where
  slot_at : (t : ℕ → Ty) (fs : List Form) → MatchesSlots ρ t fs → (j : ℕ) → j < length fs → MatchesForm ρ (get_or fs j openᶠ) (t j)
  slot_at t [] h j l = tt
  slot_at t (f ∷ fs) h zero l = h.0
  slot_at t (f ∷ fs) h (suc j) l = slot_at (λ i. t (suc i)) fs h.1 j (omega arith)

  slots_all : (t : ℕ → Ty) (fs : List Form) → ((j : ℕ) → j < length fs → MatchesForm ρ (get_or fs j openᶠ) (t j)) →
      MatchesSlots ρ t fs
  slots_all t [] h = tt
  slots_all t (f ∷ fs) h = (h 0 (omega arith), slots_all (λ i. t (suc i)) fs (λ j l. h (suc j) (omega arith)))

-- The variables' types meet the plans of the nodes below k.
abbrev pub MeetsBelow : Table → ℕ → (ℕ → Ty) → Type 0
MeetsBelow tb k σ = (n : ℕ) → n < k → Meets (plan_at tb n) (λ r. σ (var_of tb n r))

-- A solution of the problem is an assignment of types that meets the plans.
pub solves→meets : (tb : Table) (k : ℕ) (σ : ℕ → Ty) → k ≤ length tb.nodes →
    Solves (shape_at tb) (base tb k) (equations tb k) σ → MeetsBelow tb k σ
unfolding var_of
solves→meets tb k σ h q n l = (
  shape→form σ (var_of tb n) (plan_at tb n).self_form _
      (subst (λ s. Matches σ s (σ (base tb n))) (shape_self tb (omega arith)) (q.shapes (base tb n) (omega (arith, base_below tb l)))),
  slots_all _ _ (plan_at tb n).slots (λ j g. shape→form σ (var_of tb n) (get_or (plan_at tb n).slots j openᶠ) _
      (subst (λ s. Matches σ s (σ (base tb n + 1 + j))) (shape_slot tb (omega arith) g)
      (q.shapes (base tb n + 1 + j) (omega (arith, base_below tb l))))),
  eqns→pairs σ (var_of tb n) (plan_at tb n).equations (holds_node tb σ k q.equal n l),
)

-- Forms that are met give the variables' types their shapes, whatever the equations.
pub forms→shapes : (tb : Table) (k : ℕ) (σ : ℕ → Ty) → k ≤ length tb.nodes →
    ((n : ℕ) → n < k → MatchesForm (λ r. σ (var_of tb n r)) (plan_at tb n).self_form (σ (base tb n)) ×
    MatchesSlots (λ r. σ (var_of tb n r)) (λ i. σ (base tb n + 1 + i)) (plan_at tb n).slots) →
    (v : ℕ) → v < base tb k → Matches σ (shape_at tb v) (σ v)
forms→shapes tb k σ h q = each_variable tb (λ v. Matches σ (shape_at tb v) (σ v))
    (λ x l. subst (λ s. Matches σ s (σ x)) (sym (shape_name tb l)) tt) k
    (λ n l. subst (λ s. Matches σ s (σ (base tb n))) (sym (shape_self tb (omega arith)))
    (form→shape σ (var_of tb n) (plan_at tb n).self_form _ (q n l).0))
    (λ n j l g. subst (λ s. Matches σ s (σ (base tb n + 1 + j))) (sym (shape_slot tb (omega arith) g))
    (form→shape σ (var_of tb n) (get_or (plan_at tb n).slots j openᶠ) _ (slot_at _ _ (plan_at tb n).slots (q n l).1 j g)))

pub meets→solves : (tb : Table) (k : ℕ) (σ : ℕ → Ty) → k ≤ length tb.nodes →
    MeetsBelow tb k σ → Solves (shape_at tb) (base tb k) (equations tb k) σ
unfolding var_of
meets→solves tb k σ h q = record {
  shapes = forms→shapes tb k σ h (λ n l. ((q n l).0, (q n l).1));
  equal = holds_all tb σ k (λ n l. pairs→eqns σ (var_of tb n) (plan_at tb n).equations (q n l).2);
}

-- A solution is one for fewer nodes.
pub solves_fewer : (tb : Table) (k m : ℕ) (σ : ℕ → Ty) → k ≤ m → m ≤ length tb.nodes →
    Solves (shape_at tb) (base tb m) (equations tb m) σ → Solves (shape_at tb) (base tb k) (equations tb k) σ
solves_fewer tb k m σ h l q =
    let r = solves→meets tb m σ l q in meets→solves tb k σ (omega arith) (λ n g. r n (omega arith))

-- The plans of a readable table speak of what they may.
pub node_plan : (tb : Table) → RightNodes tb → {n : ℕ} → n < length tb.nodes → PlanRight tb n (node_at tb.nodes n) (plan_at tb n)
node_plan tb right {n} h = plan_refs tb n (node_at tb.nodes n) (kind_at tb.nodes n) (right n h)

-- Shapes and equations of right references are well formed.
module _ (tb : Table) {n k : ℕ} (h : n < k) where
  parts_below : (f : Form) → FormRight tb n (node_at tb.nodes n) (slot_count tb n) f → PartsBelow (base tb k) (shape_from (var_of tb n) f)
  parts_below openᶠ w = tt
  parts_below (atomᶠ a) w = tt
  parts_below (powᶠ r) w = ref_below tb h r w
  parts_below (prodᶠ r s) w = (ref_below tb h r w.0, ref_below tb h s w.1)

  pairs_below : (es : List (Ref × Ref)) → PairsRight tb n (node_at tb.nodes n) (slot_count tb n) es →
      AllBelow (base tb k) (map (eqn_from (var_of tb n)) es)
  pairs_below [] w = tt
  pairs_below (e ∷ es) w = (ref_below tb h e.0 w.0, ref_below tb h e.1 w.1, pairs_below es w.2)

module _ (tb : Table) (n : ℕ) (d : Node) (m : ℕ) where
  leaf_declared : (v : Ref → ℕ) (f : Form) → FormRight tb n d m f → LeafDeclared (length tb.sizes) (shape_from v f)
  leaf_declared v openᶠ w = tt
  leaf_declared v (atomᶠ a) w = w
  leaf_declared v (powᶠ r) w = tt
  leaf_declared v (prodᶠ r s) w = tt

  pub form_at : (fs : List Form) → FormsRight tb n d m fs → (j : ℕ) → j < length fs → FormRight tb n d m (get_or fs j openᶠ)
  form_at [] w j l = tt
  form_at (f ∷ fs) w zero l = w.0
  form_at (f ∷ fs) w (suc j) l = form_at fs w.1 j (omega arith)

module _ (tb : Table) (right : RightNodes tb) where
  -- What holds of the shapes of right forms, and of an unknown one, holds of every shape.
  each_shape : (P : Shape → Type 0) → P unknown → (k : ℕ) → k ≤ length tb.nodes →
      ((n : ℕ) → n < k → (f : Form) → FormRight tb n (node_at tb.nodes n) (slot_count tb n) f → P (shape_from (var_of tb n) f)) →
      (v : ℕ) → v < base tb k → P (shape_at tb v)
  each_shape P p k h q = each_variable tb (λ v. P (shape_at tb v)) (λ x l. subst P (sym (shape_name tb l)) p) k
      (λ n l. subst P (sym (shape_self tb (omega arith)))
      (q n l (plan_at tb n).self_form (node_plan tb right {n = n} (omega arith)).self_right))
      (λ n j l g. subst P (sym (shape_slot tb (omega arith) g))
      (q n l (get_or (plan_at tb n).slots j openᶠ)
      (form_at tb n (node_at tb.nodes n) (slot_count tb n) (plan_at tb n).slots
      (node_plan tb right {n = n} (omega arith)).slots_right j g)))

  pub well_formed_law : (k : ℕ) → k ≤ length tb.nodes → WellFormed tb k
  well_formed_law k h = record {
    parts = each_shape (λ s. PartsBelow (base tb k) s) tt k h (λ n l f w. parts_below tb l f w);
    leaves = each_shape (λ s. LeafDeclared (length tb.sizes) s) tt k h
        (λ n l f w. leaf_declared tb n (node_at tb.nodes n) (slot_count tb n) (var_of tb n) f w);
    below = below_all tb (base tb k) k
        (λ n l. pairs_below tb l (plan_at tb n).equations (node_plan tb right {n = n} (omega arith)).equations_right);
  }
