-- One more node: the words of its kind's rule are those of its plan, since the plan's references are right, and the arrays that hold the
-- constraints of the nodes before it and its own words hold those of one node more.
use Prim.Native.Nat.{ℕ, zero, suc, ◌+◌, ◌*◌, ◌-◌, ◌/◌, ◌%◌, ◌≤◌, ◌<◌}
use mathlib.Core.List.{List, [], ◌∷◌, ◌++◌, map}
use mathlib.Core.Option.{Option, none as nothing, some}
use mathlib.Core.Path.{◌≡◌, refl, sym, ap, ap₂, subst, ◌∙◌}
use native.Mathlib.Decide.{ℕ_discrete, dec_lt}
use native.Mathlib.Nat.{add-zero, zero-add}
use native.Mathlib.Numerals.{add-one}
use native.Mathlib.Omega.{arith}
use lib.ListN.{length, get_or, set, length-append, length-map, get_or-append, get_or-map}
use lib.Seq.{get_or-set_same, get_or-set_other, get_or-append-add}
use Rattle.rules.specs.Kinds.{identifier, given_set, element_of, literal, truth_const, empty_set, bool_set}
use Rattle.rules.specs.Kinds.{Kind, join, negation, test, quant, leaf, bool_of, one, two, comprehension, kind_of}
use Rattle.rules.specs.Tables.{Node, Table, node_at, kind_at, field_words}
use Rattle.rules.specs.Readable.{KindRight, NodeRight}
use Rattle.unification.specs.Problem.{power, product, eqn}
use Rattle.typing.specs.Plan.{Ref, self, first, second, name, slot, Form, openᶠ, atomᶠ, powᶠ, prodᶠ, Plan}
use Rattle.typing.specs.Equations.{plan_of, plan_at, slot_count, base, var_of, shape_from, eqn_from, node_equations, shape_at, equations}
use Rattle.typing.proofs.RefLaws.{few_slots, few_equations, RefRight, FormRight, FormsRight, PairsRight, PlanRight, plan_refs}
use Rattle.typing.proofs.VariableLaws.{shape_name, shape_node, ref_below}
use Rattle.terms.specs.Words.{ShapeWord, word_eqn}
use Rattle.terms.proofs.WordLaws.{open_word}
use Rattle.constraints.specs.declared.NodeWords.{NodeWords}
use Rattle.constraints.specs.Constrained.{Constrained}
use Rattle.constraints.specs.Rules.{slot_var, ref_var, ShapesFrom, PairsFrom, RuleOf, RuleHeld, NodeRule, WordsCopied, StartsTo}
use Rattle.typing.proofs.EquationCounts.{length_equations}

-- Variables that are the same at right references make the same words.
module _ (tb : Table) (n : ℕ) (d : Node) (m : ℕ) {ρ ρ' : Ref → ℕ} (same : (r : Ref) → RefRight tb n d m r → ρ r ≡ ρ' r) where
  shape_same : (f : Form) → FormRight tb n d m f → shape_from ρ f ≡ shape_from ρ' f
  shape_same openᶠ h = refl
  shape_same (atomᶠ a) h = refl
  shape_same (powᶠ r) h = ap power (same r h)
  shape_same (prodᶠ r s) h = ap₂ product (same r h.0) (same s h.1)

  shapes_same : (fs : List Form) (i : ℕ) (r : List ℕ) → FormsRight tb n d m fs → ShapesFrom ρ fs i r → ShapesFrom ρ' fs i r
  shapes_same [] i r h q = tt
  shapes_same (f ∷ fs) i r h q = (rw (shape_same f h.0) at q.0, shapes_same fs (suc i) r h.1 q.1)

  pairs_same : (es : List (Ref × Ref)) (i : ℕ) (r : List ℕ) → PairsRight tb n d m es → PairsFrom ρ es i r → PairsFrom ρ' es i r
  pairs_same [] i r h q = tt
  pairs_same (e ∷ es) i r h q =
      (q.0 ∙ ap₂ (λ v u. v * 4096 + u) (same e.0 h.0) (same e.1 h.1), pairs_same es (suc i) r h.2 q.1)

rule_same : {tb : Table} {n : ℕ} {d : Node} {p : Plan} {ρ ρ' : Ref → ℕ} {r : NodeWords} → PlanRight tb n d p →
    ((r : Ref) → RefRight tb n d (length p.slots) r → ρ r ≡ ρ' r) → RuleOf p ρ r → RuleOf p ρ' r
rule_same {tb} {n} {d} {p} {r = r} w same q = record {
  shapes_held = shapes_same tb n d (length p.slots) same (p.self_form ∷ p.slots) 0 r.shapes (w.self_right, w.slots_right) q.shapes_held;
  pairs_held = pairs_same tb n d (length p.slots) same p.equations 0 r.equations w.equations_right q.pairs_held;
  sizes_held = q.sizes_held;
}

-- A plan speaks of field a only where it is a given set.
plan_name : (tb : Table) (n : ℕ) (d : Node) (x : ℕ) → (d.a < length tb.sizes → x ≡ d.a) → (o : Option Kind) →
    KindRight tb n o (field_words d) → plan_of o x ≡ plan_of o d.a
plan_name tb n d x e nothing h = absurd h
plan_name tb n d x e (some (join j)) h = refl
plan_name tb n d x e (some negation) h = refl
plan_name tb n d x e (some (test j)) h = refl
plan_name tb n d x e (some (quant j)) h = refl
plan_name tb n d x e (some (leaf identifier)) h = refl
plan_name tb n d x e (some (leaf given_set)) h = rw (e h.0) refl
plan_name tb n d x e (some (leaf element_of)) h = rw (e h.0) refl
plan_name tb n d x e (some (leaf (literal m))) h = refl
plan_name tb n d x e (some (leaf truth_const)) h = refl
plan_name tb n d x e (some (leaf empty_set)) h = refl
plan_name tb n d x e (some (leaf bool_set)) h = refl
plan_name tb n d x e (some bool_of) h = refl
plan_name tb n d x e (some (one j)) h = refl
plan_name tb n d x e (some (two j)) h = refl
plan_name tb n d x e (some comprehension) h = refl

slot_var_law : (s i : ℕ) → slot_var s i ≡ s + i
slot_var_law s zero = omega arith
slot_var_law s (suc i) = refl

-- What the code reads of node n.
pub record NodeRead (tb : Table) (n kind own a b x : ℕ) : Type 0 where
  pub kind_is : kind ≡ (node_at tb.nodes n).kind
  pub own_is : own ≡ base tb n
  pub first_is : (node_at tb.nodes n).a < n → a ≡ base tb (node_at tb.nodes n).a
  pub second_is : (node_at tb.nodes n).b < n → b ≡ base tb (node_at tb.nodes n).b
  pub name_is : (node_at tb.nodes n).a < 32 → x ≡ (node_at tb.nodes n).a

module _ {tb : Table} {n kind own a b x : ℕ} (q : NodeRead tb n kind own a b x) (names : length tb.binds ≤ 32) where
  var_right : (m : ℕ) (r : Ref) → RefRight tb n (node_at tb.nodes n) m r → ref_var own a b x r ≡ var_of tb n r
  unfolding var_of
  var_right m self w = q.own_is
  var_right m first w = q.first_is w
  var_right m second w = q.second_is w
  var_right m name w = q.name_is (omega arith)
  var_right m (slot i) w = slot_var_law (own + 1) i ∙ ap (λ v. v + 1 + i) q.own_is

  pub node_words_law : length tb.sizes ≤ 16 → NodeRight tb n → {r : NodeWords} → RuleHeld kind own a b x r → NodeRule tb n r
  node_words_law sets right {r} h =
      let d = node_at tb.nodes n in
      let same : plan_of (kind_of kind) x ≡ plan_at tb n =
      ap (λ k. plan_of (kind_of k) x) q.kind_is ∙ plan_name tb n d x (λ l. q.name_is (omega arith)) (kind_at tb.nodes n) right in
      rule_same (plan_refs tb n d (kind_at tb.nodes n) right) (var_right (slot_count tb n))
      (subst (λ (p : Plan). RuleOf p (ref_var own a b x) r) same h.rule_held)

-- Each shape and each equation of the words.
shape_at_law : (ρ : Ref → ℕ) (fs : List Form) (i : ℕ) (r : List ℕ) → ShapesFrom ρ fs i r → (j : ℕ) → j < length fs →
    ShapeWord (get_or r (i + j) 0) (shape_from ρ (get_or fs j openᶠ))
shape_at_law ρ [] i r h j l = absurd (omega arith)
shape_at_law ρ (f ∷ fs) i r h zero l = rw add-zero h.0
shape_at_law ρ (f ∷ fs) i r h (suc j) l =
    let e : i + suc j ≡ suc i + j = omega arith in rw e (shape_at_law ρ fs (suc i) r h.1 j (omega arith))

eqn_word : {w v u : ℕ} → w ≡ v * 4096 + u → u < 4096 → word_eqn w ≡ eqn v u
eqn_word {w} {v} {u} e h = let l : w / 4096 ≡ v = omega arith in let r : w % 4096 ≡ u = omega arith in ap₂ eqn l r

module _ (tb : Table) (n : ℕ) (d : Node) (m : ℕ) {ρ : Ref → ℕ} (small : (r : Ref) → RefRight tb n d m r → ρ r < 4096) where
  eqn_at : (es : List (Ref × Ref)) (i : ℕ) (r : List ℕ) → PairsRight tb n d m es → PairsFrom ρ es i r → (j : ℕ) → j < length es →
      word_eqn (get_or r (i + j) 0) ≡ get_or (map (eqn_from ρ) es) j (eqn 0 0)
  eqn_at [] i r w h j l = absurd (omega arith)
  eqn_at (e ∷ es) i r w h zero l = rw add-zero (eqn_word h.0 (small e.1 w.1))
  eqn_at (e ∷ es) i r w h (suc j) l =
      let q : i + suc j ≡ suc i + j = omega arith in rw q (eqn_at es (suc i) r w.2 h.1 j (omega arith))

-- The arrays with the words of node n.
module _ (tb : Table) (n : ℕ) {r : NodeWords} (h : NodeRule tb n r) where
  shapes_next : n < length tb.nodes → (shapes shapes' : List ℕ) → WordsCopied 6 r.shapes shapes shapes' (base tb n) →
      ((v : ℕ) → v < base tb n → ShapeWord (get_or shapes v 0) (shape_at tb v)) →
      (v : ℕ) → v < base tb (suc n) → ShapeWord (get_or shapes' v 0) (shape_at tb v)
  unfolding base
  shapes_next l shapes shapes' c old v g = go (dec_lt v (base tb n))
    where
      new : (i : ℕ) → i < suc (slot_count tb n) → ShapeWord (get_or shapes' (base tb n + i) 0) (shape_at tb (base tb n + i))
      new i k =
          let few = few_slots (node_at tb.nodes n).kind (node_at tb.nodes n).a in
          let fs = (plan_at tb n).self_form ∷ (plan_at tb n).slots in
          rw (c.copied i (omega arith), shape_node tb l i k ∙ get_or-map (shape_from (var_of tb n)) fs i openᶠ)
          (rw zero-add at (shape_at_law (var_of tb n) fs 0 r.shapes h.shapes_held i k))

      go : Dec (v < base tb n) → ShapeWord (get_or shapes' v 0) (shape_at tb v)
      go (yes k) = rw (c.kept_below v k) (old v k)
      go (no k) = let e : base tb n + (v - base tb n) ≡ v = omega arith in rw e at (new (v - base tb n) (omega arith))

  equations_next : NodeRight tb n → base tb (suc n) ≤ 4096 → (eqns eqns' : List ℕ) → WordsCopied 2 r.equations eqns eqns' (length (equations tb n)) →
      ((i : ℕ) → i < length (equations tb n) → word_eqn (get_or eqns i 0) ≡ get_or (equations tb n) i (eqn 0 0)) →
      (i : ℕ) → i < length (equations tb n ++ node_equations tb n) →
      word_eqn (get_or eqns' i 0) ≡ get_or (equations tb n ++ node_equations tb n) i (eqn 0 0)
  equations_next right small eqns eqns' c old i g = go (dec_lt i (length (equations tb n)))
    where
      d : Node
      d = node_at tb.nodes n

      own : length (node_equations tb n) ≡ length (plan_at tb n).equations
      own = length-map (plan_at tb n).equations (eqn_from (var_of tb n))

      new : (j : ℕ) → j < length (plan_at tb n).equations →
          word_eqn (get_or eqns' (length (equations tb n) + j) 0) ≡ get_or (node_equations tb n) j (eqn 0 0)
      new j k =
          rw (c.copied j (omega (arith, few_equations d.kind d.a)))
          (rw zero-add at
          (eqn_at tb n d (slot_count tb n) (λ s w. omega (arith, ref_below tb {n = n} {k = suc n} (omega arith) s w)) (plan_at tb n).equations 0
          r.equations (plan_refs tb n d (kind_at tb.nodes n) right).equations_right h.pairs_held j k))

      go : Dec (i < length (equations tb n)) → word_eqn (get_or eqns' i 0) ≡ get_or (equations tb n ++ node_equations tb n) i (eqn 0 0)
      go (yes k) = ap word_eqn (c.kept_below i k) ∙ old i k ∙ sym (get_or-append (equations tb n) (node_equations tb n) (eqn 0 0) i k)
      go (no k) =
          let j = i - length (equations tb n) in
          let e : length (equations tb n) + j ≡ i = omega arith in
          let t = new j (omega (arith, own, length-append (equations tb n) (node_equations tb n))) in
          rw e at (t ∙ sym (get_or-append-add (equations tb n) (node_equations tb n) j (eqn 0 0)))

  pub start_next : {s : ℕ} → s ≡ base tb n + 4096 * length (equations tb n) →
      s + r.count ≡ base tb (suc n) + 4096 * length (equations tb (suc n))
  unfolding base
  start_next e = omega (arith, h.sizes_held, length_equations tb n)

  starts_next : (starts : List ℕ) → n + 1 < length starts → StartsTo tb n starts →
      (m : ℕ) → m ≤ suc n → get_or (set starts (n + 1) (get_or starts n 0 + r.count)) m 0 ≡ base tb m + 4096 * length (equations tb m)
  starts_next starts long old m k = go (ℕ_discrete m (n + 1))
    where
      x : ℕ
      x = get_or starts n 0 + r.count

      go : Dec (m ≡ n + 1) → get_or (set starts (n + 1) x) m 0 ≡ base tb m + 4096 * length (equations tb m)
      go (yes e) = rw e (get_or-set_same starts (n + 1) x 0 long ∙ rw (add-one n) (start_next (old n (omega arith))))
      go (no g) = get_or-set_other starts (n + 1) m x 0 g ∙ old m (omega arith)

  pub constrained_next : n < length tb.nodes → NodeRight tb n → base tb (suc n) ≤ 4096 →
      (shapes shapes' eqns eqns' starts : List ℕ) → Constrained tb n shapes eqns starts →
      WordsCopied 6 r.shapes shapes shapes' (base tb n) → WordsCopied 2 r.equations eqns eqns' (length (equations tb n)) → n + 1 < length starts →
      Constrained tb (n + 1) shapes' eqns' (set starts (n + 1) (get_or starts n 0 + r.count))
  unfolding equations
  constrained_next l right small shapes shapes' eqns eqns' starts q cs ce long =
      subst (λ k. Constrained tb k shapes' eqns' (set starts (n + 1) (get_or starts n 0 + r.count))) (sym (add-one n))
      (record {
        starts_are = starts_next starts long q.starts_are;
        shapes_are = shapes_next l shapes shapes' cs q.shapes_are;
        equations_are = equations_next right small eqns eqns' ce q.equations_are;
      })

-- Before the first node.
pub constrained_none : (tb : Table) (shapes eqns starts : List ℕ) → get_or starts 0 0 ≡ length tb.binds →
    ((v : ℕ) → v < length tb.binds → get_or shapes v 0 ≡ 0) → Constrained tb 0 shapes eqns starts
unfolding base equations
constrained_none tb shapes eqns starts e h = record {
  starts_are = λ n l. let z : n ≡ 0 = omega arith in rw z (omega arith);
  shapes_are = λ v l. rw (h v l, shape_name tb l) open_word;
  equations_are = λ i l. absurd (omega arith);
}
