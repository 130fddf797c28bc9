-- Document 01, "Values and evaluation" and refusals 14 to 19: the value rules, and the whole of Evaluate.
use Rattle.std.specs.Prelude.{ℕ, List, [], ◌∷◌, Bool, true, false, not, get_or}
use Rattle.std.proofs.Math.Option.{Option, none as nothing, some}
use Rattle.rules.specs.Values.{Value, truth_value}
use Rattle.rules.specs.Kinds.{Quant, for_all, for_some}
use Rattle.rules.specs.Rules.{Rule, test_rule, one_rule, two_rule, quant_rule, comprehension_rule}
use Rattle.rules.specs.Fits.{fits}
use Rattle.rules.specs.Tables.{Table, Pred, joinᵖ, notᵖ, testᵖ, quantᵖ, Expr, leafᵉ, boolᵉ, oneᵉ, twoᵉ, comprehensionᵉ, condition_of}
use Rattle.rules.specs.Reading.{reading}
use Rattle.rules.specs.Cells.{values_in, no_value}
use Rattle.rules.specs.Runs.{Run, M, lift, return, ◌>>=◌, ◌>>◌, demand, visit, form, ◌or_else◌, gives}
use Rattle.rules.specs.Operations.{Env, ◌with◌≔◌, decides, joined, holds, leaf_value, one_value, two_value, elems, set_of}

-- 15: some instance of the node's rule fits the operands.
abbrev pub fitting : ℕ → Rule → List Value → M (Unit {0})
fitting n r vs = demand (fits r.takes vs) 15 n

-- 10 and 11 stop at the first member that decides.
unfoldable pub quantify : Quant → (Value → M Bool) → List Value → M Bool
quantify for_all f [] = return true
quantify for_all f (v ∷ vs) = do
  b ← f v
  elim b [ true ↦ quantify for_all f vs | false ↦ return false ]
quantify for_some f [] = return false
quantify for_some f (v ∷ vs) = do
  b ← f v
  elim b [ true ↦ return true | false ↦ quantify for_some f vs ]

-- 34 goes on to the last member.
unfoldable pub select : (Value → M Bool) → List Value → M (List Value)
select f [] = return []
select f (v ∷ vs) = do
  b ← f v
  ws ← select f vs
  elim b [ true ↦ return (v ∷ ws) | false ↦ return ws ]

-- The value rules: a visit is counted, the children run in field order, then come 15 and 16 to 18; a range is tested
-- for 15 before the body runs.
module _ (budget : ℕ) (sizes : List ℕ) where
  unfoldable mutual
    unfolding fits leaf_value one_value two_value holds quantify select

    pub holdsᵖ : Pred → Env → M Bool
    holdsᵖ (joinᵖ n j p q) ρ = do
      visit budget n
      a ← holdsᵖ p ρ
      decides j a or_else do
        b ← holdsᵖ q ρ
        return (joined j a b)
    holdsᵖ (notᵖ n p) ρ = do
      visit budget n
      a ← holdsᵖ p ρ
      return (not a)
    holdsᵖ (testᵖ n j e f) ρ = do
      visit budget n
      v ← valueᵉ e ρ
      w ← valueᵉ f ρ
      fitting n (test_rule j) (v ∷ w ∷ [])
      return (holds j v w)
    holdsᵖ (quantᵖ n j x r p) ρ = do
      visit budget n
      v ← valueᵉ r ρ
      fitting n quant_rule (v ∷ [])
      quantify j (λ w. holdsᵖ p (ρ with x ≔ w)) (elems v)

    pub valueᵉ : Expr → Env → M Value
    valueᵉ (leafᵉ n j a b) ρ = do
      visit budget n
      form n (gives (leaf_value sizes j a b ρ))
    valueᵉ (boolᵉ n p) ρ = do
      visit budget n
      b ← holdsᵖ p ρ
      form n (gives (truth_value b))
    valueᵉ (oneᵉ n j e) ρ = do
      visit budget n
      v ← valueᵉ e ρ
      fitting n (one_rule j) (v ∷ [])
      form n (one_value j v)
    valueᵉ (twoᵉ n j e f) ρ = do
      visit budget n
      v ← valueᵉ e ρ
      w ← valueᵉ f ρ
      fitting n (two_rule j) (v ∷ w ∷ [])
      form n (two_value j v w)
    valueᵉ (comprehensionᵉ n x r p) ρ = do
      visit budget n
      v ← valueᵉ r ρ
      fitting n comprehension_rule (v ∷ [])
      ws ← select (λ w. holdsᵖ p (ρ with x ≔ w)) (elems v)
      form n (gives (set_of ws))

  -- A condition that is absent is true, and nothing is visited (document 02, N1).
  abbrev pub holdsᶜ : Option Pred → Env → M Bool
  holdsᶜ nothing ρ = return true
  holdsᶜ (some p) ρ = holdsᵖ p ρ

-- The run of a table at values for its identifiers, from no visits.
unfoldable pub run : Table → List Value → ℕ → Run Bool
unfolding condition_of holdsᵖ
run tb vs budget = holdsᶜ budget tb.sizes (condition_of tb) (λ x. get_or vs x no_value) 0

-- Evaluate: refusals 1 to 9, then 14, both with 0 steps, then the run.
unfoldable pub evaluation : List ℕ → List ℕ → ℕ → Run Bool
unfolding reading values_in run
evaluation bs buffer budget =
    (do
      tb ← lift (reading bs)
      vs ← lift (values_in tb buffer)
      λ _. run tb vs budget)
    0
