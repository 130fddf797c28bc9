-- The rules by the kinds' codes: an arm's words are taken to its code, and a code that has no arm has no rule.
use Prim.Native.Nat.{ℕ, suc, ◌+◌, ◌*◌, ◌-◌, ◌<◌, ◌≤◌}
use mathlib.Core.List.{List, [], ◌∷◌, ◌++◌, map}
use mathlib.Core.Logic.{inl, inr}
use mathlib.Core.Option.{Option, none as nothing}
use mathlib.Core.Path.{◌≡◌, refl, sym, ap, subst, ◌∙◌}
use native.Mathlib.Decide.{ℕ_discrete}
use native.Mathlib.Omega.{arith}
use lib.ListN.{length, drop, replicate, get_or-replicate, get_or-eq_default, get_or-map}
use lib.Seq.{get_or-take, get_or-drop}
use Rattle.rules.specs.Types.{given}
use Rattle.rules.specs.Kinds.{Kind, kinds, kind_of}
use Rattle.unification.specs.Problem.{leaf, atom_from}
use Rattle.unification.specs.Codes.{AtomCode}
use Rattle.typing.specs.Plan.{Plan, only, openᶠ}
use Rattle.typing.specs.Equations.{plan_of}
use Rattle.terms.specs.Words.{ShapeWord}
use Rattle.terms.proofs.WordLaws.{open_word}
use Rattle.constraints.specs.declared.NodeWords.{NodeWords}
use Rattle.constraints.specs.Rules.{ref_var, ShapesFrom, PairsFrom, RuleOf, WordsOf, RuleHeld}

abbrev PlanShapes : (n own a b x : ℕ) → List ℕ → Type 0
PlanShapes n own a b x shapes =
    ShapesFrom (ref_var own a b x) ((plan_of (kind_of n) x).self_form ∷ (plan_of (kind_of n) x).slots) 0
    (shapes ++ drop (length shapes) (replicate 6 0))

abbrev PlanPairs : (n own a b x : ℕ) → List ℕ → Type 0
PlanPairs n own a b x eqns =
    PairsFrom (ref_var own a b x) (plan_of (kind_of n) x).equations 0 (eqns ++ drop (length eqns) (replicate 2 0))

abbrev PlanSizes : (n x : ℕ) (shapes eqns : List ℕ) → Type 0
PlanSizes n x shapes eqns =
    length shapes + 4096 * length eqns ≡ 1 + length (plan_of (kind_of n) x).slots + 4096 * length (plan_of (kind_of n) x).equations

-- Words that are made of shapes and equations are the rule of a kind k with code n, or with the plan of the one with code n.
module _ {k own a b x : ℕ} {shapes eqns : List ℕ} {r : NodeWords} (w : WordsOf shapes eqns r) where
  rule_like : (n : ℕ) → plan_of (kind_of n) x ≡ plan_of (kind_of k) x → PlanShapes n own a b x shapes → PlanPairs n own a b x eqns →
      PlanSizes n x shapes eqns → RuleHeld k own a b x r
  rule_like n e s q z =
      let h : RuleOf (plan_of (kind_of n) x) (ref_var own a b x) r =
      record { shapes_held = rw w.shapes_are s; pairs_held = rw w.equations_are q; sizes_held = w.count_is ∙ z } in
      record { rule_held = subst (λ (p : Plan). RuleOf p (ref_var own a b x) r) e h }

  pub rule_at : (n : ℕ) → k ≡ n → PlanShapes n own a b x shapes → PlanPairs n own a b x eqns → PlanSizes n x shapes eqns → RuleHeld k own a b x r
  rule_at n e = rule_like n (ap (λ m. plan_of (kind_of m) x) (sym e))

  -- Two or three codes with the same plan.
  pub rule_two : (n : ℕ) → n ≤ k → k < n + 2 → plan_of (kind_of n) x ≡ plan_of (kind_of (n + 1)) x →
      PlanShapes n own a b x shapes → PlanPairs n own a b x eqns → PlanSizes n x shapes eqns → RuleHeld k own a b x r
  rule_two n l u e = go (ℕ_discrete k n)
    where
      go : Dec (k ≡ n) → PlanShapes n own a b x shapes → PlanPairs n own a b x eqns → PlanSizes n x shapes eqns → RuleHeld k own a b x r
      go (yes q) = rule_at n q
      go (no g) = let q : n + 1 ≡ k = omega arith in rule_like n (e ∙ ap (λ m. plan_of (kind_of m) x) q)

  pub rule_three : (n : ℕ) → n ≤ k → k < n + 3 → plan_of (kind_of n) x ≡ plan_of (kind_of (n + 1)) x →
      plan_of (kind_of n) x ≡ plan_of (kind_of (n + 2)) x → PlanShapes n own a b x shapes → PlanPairs n own a b x eqns → PlanSizes n x shapes eqns →
      RuleHeld k own a b x r
  rule_three n l u e f = go (ℕ_discrete k (n + 2))
    where
      go : Dec (k ≡ n + 2) → PlanShapes n own a b x shapes → PlanPairs n own a b x eqns → PlanSizes n x shapes eqns → RuleHeld k own a b x r
      go (yes q) = rule_like n (f ∙ ap (λ m. plan_of (kind_of m) x) (sym q))
      go (no g) = rule_two n l (omega arith) e

-- Codes from n on that are none of the first two, or four.
pub past_two : {k : ℕ} (n : ℕ) → n ≤ k → (Unit {0} × (k ≡ n → ⊥)) × (k ≡ n + 1 → ⊥) → n + 2 ≤ k
past_two n l none = omega (arith, none.0.1, none.1)

pub past_four : {k : ℕ} (n : ℕ) → n ≤ k →
    (((Unit {0} × (k ≡ n → ⊥)) × (k ≡ n + 1 → ⊥)) × (k ≡ n + 2 → ⊥)) × (k ≡ n + 3 → ⊥) → n + 4 ≤ k
past_four n l none = let h = past_two n l none.0.0 in omega (arith, none.0.1, none.1)

-- The third of three codes, which is neither of the others.
pub third : {A : Type 0} {k : ℕ} (n : ℕ) → n ≤ k → k ≤ n + 2 → (A × (k ≡ n → ⊥)) × (k ≡ n + 1 → ⊥) → k ≡ n + 2
third n l u none = omega (arith, none.0.1, none.1)

pub below_first : {k n : ℕ} → k < n → n ≤ k → ⊥
below_first l u = omega arith

-- The word of a given set.
pub given_word : {w x : ℕ} → ShapeWord w (leaf (atom_from (16 + x))) → ShapeWord w (leaf (given x))
given_word {w} {x} h =
    let e : 16 + x ≡ suc (suc (suc (13 + x))) = omega arith in
    let q : suc (suc (suc (13 + x))) - 16 ≡ x = omega arith in
    rw q at (rw e at h)

-- The codes of types without parts.
pub integer_code : (1 < 4096) × AtomCode 1
integer_code = (omega arith, inl refl)

pub bool_code : (2 < 4096) × AtomCode 2
bool_code = (omega arith, inr (inl refl))

pub given_code : {x : ℕ} → x < 32 → (16 + x < 4096) × AtomCode (16 + x)
given_code {x} h = (omega arith, inr (inr (omega arith, omega arith)))

-- A node of whose types nothing is said.
module _ {k own a b x : ℕ} {r : NodeWords} (w : WordsOf (0 ∷ []) [] r) where
  no_rule_law : plan_of (kind_of k) x ≡ only openᶠ → RuleHeld k own a b x r
  no_rule_law e =
      let h : RuleOf (only openᶠ) (ref_var own a b x) r =
      record { shapes_held = (rw w.shapes_are open_word, tt); pairs_held = tt; sizes_held = w.count_is } in
      record { rule_held = subst (λ (p : Plan). RuleOf p (ref_var own a b x) r) (sym e) h }

-- Kinds 0 to 5, and the codes of no kind, by computation over the list of kinds.
low_plan : (k x : ℕ) → k < 6 → plan_of (kind_of k) x ≡ only openᶠ
unfolding kind_of
low_plan k x h =
    let plans = map (λ (o : Option Kind). plan_of o x) kinds in
    sym (get_or-map (λ (o : Option Kind). plan_of o x) kinds k nothing) ∙ sym (get_or-take 6 plans k (only openᶠ) h)
    ∙ get_or-replicate 6 k (only openᶠ) (only openᶠ) h

between_kind : (j : ℕ) → j < 8 → kind_of (12 + j) ≡ nothing
unfolding kind_of
between_kind j h =
    sym (get_or-drop 12 kinds j nothing) ∙ sym (get_or-take 8 (drop 12 kinds) j nothing h) ∙ get_or-replicate 8 j nothing nothing h

above_kind : (k : ℕ) → 44 ≤ k → kind_of k ≡ nothing
unfolding kind_of
above_kind k h = get_or-eq_default kinds nothing h

module _ {k own a b x : ℕ} {r : NodeWords} (w : WordsOf (0 ∷ []) [] r) where
  pub low_rule : k < 6 → RuleHeld k own a b x r
  low_rule h = no_rule_law w (low_plan k x h)

  pub between_rule : 12 ≤ k → k < 20 → RuleHeld k own a b x r
  between_rule l h =
      let e : 12 + (k - 12) ≡ k = omega arith in
      no_rule_law w (ap (λ o. plan_of o x) (rw e at (between_kind (k - 12) (omega arith))))

  pub above_rule : 44 ≤ k → RuleHeld k own a b x r
  above_rule h = no_rule_law w (ap (λ o. plan_of o x) (above_kind k h))
