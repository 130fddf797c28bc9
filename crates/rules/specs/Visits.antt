-- Document 01, "Values and evaluation": the visits that an evaluation makes, in the order in which they end. They are told from
-- how runs end and from their steps, never from the values formed: `TraceLaws` proves that those are the completed visits' values.
use Rattle.std.specs.Prelude.{ℕ, suc, ◌+◌, Bool, false, not, cond, List, [], ◌∷◌, ◌++◌, map, ltb, eqb, get_or}
use Rattle.std.proofs.Math.Option.{Option, none as nothing, some}
use Rattle.rules.specs.Values.{Value}
use Rattle.rules.specs.Kinds.{Quant, for_all, for_some}
use Rattle.rules.specs.Rules.{Rule, quant_rule, comprehension_rule}
use Rattle.rules.specs.Fits.{fits}
use Rattle.rules.specs.Tables.{Table, Pred, joinᵖ, notᵖ, testᵖ, quantᵖ, Expr, leafᵉ, boolᵉ, oneᵉ, twoᵉ, comprehensionᵉ, condition_of}
use Rattle.rules.specs.Ends.{End, done, refused}
use Rattle.rules.specs.Reading.{occurrences, reading}
use Rattle.rules.specs.Cells.{values_in, no_value}
use Rattle.rules.specs.Runs.{Trace, Run, M}
use Rattle.rules.specs.Operations.{Env, ◌with◌≔◌, decides, elems}
use Rattle.rules.specs.Evaluation.{holdsᵖ, valueᵉ}

-- A visit to a node and how it ended: with a truth at a predicate, with a value at an expression, or with a refusal.
pub data Visit : Type 0 where
  to_pred : ℕ → End Bool → Visit
  to_expr : ℕ → End Value → Visit

-- The visits to expressions that are not refused, as nodes and values.
abbrev pub completed : List Visit → Trace
completed [] = []
completed (to_pred n e ∷ vs) = completed vs
completed (to_expr n (done v) ∷ vs) = (n, v) ∷ completed vs
completed (to_expr n (refused r p) ∷ vs) = completed vs

-- How many of them are visits to node n; and how many values a trace holds for it.
abbrev pub completed_at : ℕ → List Visit → ℕ
completed_at n [] = 0
completed_at n (to_pred m e ∷ vs) = completed_at n vs
completed_at n (to_expr m (done v) ∷ vs) = cond (eqb n m) 1 0 + completed_at n vs
completed_at n (to_expr m (refused r p) ∷ vs) = completed_at n vs

abbrev pub formed_at : ℕ → Trace → ℕ
formed_at n tr = occurrences n (map (λ x. x.0) tr)

-- A completed visit has the property P; of the other visits nothing is said.
abbrev pub Completes : (ℕ × Value → Type 0) → Visit → Type 0
Completes P (to_pred n e) = Unit {0}
Completes P (to_expr n (done v)) = P (n, v)
Completes P (to_expr n (refused r p)) = Unit {0}

-- After a refusal there are no visits.
abbrev pub if_done : {A : Type 0} → End A → (A → List Visit) → List Visit
if_done (done a) f = f a
if_done (refused r p) f = []

-- The visits after a run, by its answer and from its steps on.
abbrev pub thereafter : {A : Type 0} → Run A → (A → ℕ → List Visit) → List Visit
thereafter r f = if_done r.end λ a. f a r.steps

-- 1, 2 and 3 skip q where p decides.
abbrev pub unless_decided : Option Bool → List Visit → List Visit
unless_decided nothing vs = vs
unless_decided (some b) vs = []

-- 15 is tested of a range before the body runs.
abbrev pub if_fits : Rule → Value → List Visit → List Visit
if_fits r v vs = cond (fits r.takes (v ∷ [])) vs []

-- The truth of the body that decides 10 and 11; none stops 34.
abbrev pub stops_at : Quant → Bool → Bool
stops_at for_all b = not b
stops_at for_some b = b

-- The body for each member in turn, up to a refusal or the first truth that stops it.
unfoldable pub member_visits : (Bool → Bool) → (Value → M Bool) → (Value → ℕ → List Visit) → List Value → ℕ → List Visit
member_visits stops body visits [] = λ s. []
member_visits stops body visits (w ∷ ws) = λ s.
    visits w s ++ thereafter (body w s) λ b t. let rest = member_visits stops body visits ws t in cond (stops b) [] rest

-- A visit to a node from the steps s: none where the budget has no step left (19), else its step is counted, its parts make
-- their visits, and then it ends as its run does.
abbrev pub visit_to : {A : Type 0} → ℕ → (End A → Visit) → M A → (ℕ → List Visit) → ℕ → List Visit
visit_to budget own m parts s = let vs = parts (suc s) in cond (ltb s budget) (vs ++ (own (m s).end ∷ [])) []

module _ (budget : ℕ) (sizes : List ℕ) where
  -- The parts of a node are visited in field order, each where the one before it gave an answer.
  unfoldable mutual
    unfolding fits holdsᵖ member_visits

    pub visitsᵖ : Pred → Env → ℕ → List Visit
    visitsᵖ (joinᵖ n j p q) ρ =
        visit_to budget (to_pred n) (holdsᵖ budget sizes (joinᵖ n j p q) ρ) λ s.
        visitsᵖ p ρ s ++ thereafter (holdsᵖ budget sizes p ρ s) λ a t. unless_decided (decides j a) (visitsᵖ q ρ t)
    visitsᵖ (notᵖ n p) ρ =
        visit_to budget (to_pred n) (holdsᵖ budget sizes (notᵖ n p) ρ) λ s. visitsᵖ p ρ s
    visitsᵖ (testᵖ n j e f) ρ =
        visit_to budget (to_pred n) (holdsᵖ budget sizes (testᵖ n j e f) ρ) λ s.
        visitsᵉ e ρ s ++ thereafter (valueᵉ budget sizes e ρ s) λ v t. visitsᵉ f ρ t
    visitsᵖ (quantᵖ n j x r p) ρ =
        visit_to budget (to_pred n) (holdsᵖ budget sizes (quantᵖ n j x r p) ρ) λ s.
        visitsᵉ r ρ s ++ thereafter (valueᵉ budget sizes r ρ s) λ v t.
        if_fits quant_rule v
        (member_visits (stops_at j) (λ w. holdsᵖ budget sizes p (ρ with x ≔ w)) (λ w u. visitsᵖ p (ρ with x ≔ w) u) (elems v) t)

    pub visitsᵉ : Expr → Env → ℕ → List Visit
    visitsᵉ (leafᵉ n j a b) ρ =
        visit_to budget (to_expr n) (valueᵉ budget sizes (leafᵉ n j a b) ρ) λ s. []
    visitsᵉ (boolᵉ n p) ρ =
        visit_to budget (to_expr n) (valueᵉ budget sizes (boolᵉ n p) ρ) λ s. visitsᵖ p ρ s
    visitsᵉ (oneᵉ n j e) ρ =
        visit_to budget (to_expr n) (valueᵉ budget sizes (oneᵉ n j e) ρ) λ s. visitsᵉ e ρ s
    visitsᵉ (twoᵉ n j e f) ρ =
        visit_to budget (to_expr n) (valueᵉ budget sizes (twoᵉ n j e f) ρ) λ s.
        visitsᵉ e ρ s ++ thereafter (valueᵉ budget sizes e ρ s) λ v t. visitsᵉ f ρ t
    visitsᵉ (comprehensionᵉ n x r p) ρ =
        visit_to budget (to_expr n) (valueᵉ budget sizes (comprehensionᵉ n x r p) ρ) λ s.
        visitsᵉ r ρ s ++ thereafter (valueᵉ budget sizes r ρ s) λ v t.
        if_fits comprehension_rule v
        (member_visits (λ _. false) (λ w. holdsᵖ budget sizes p (ρ with x ≔ w)) (λ w u. visitsᵖ p (ρ with x ≔ w) u) (elems v) t)

  abbrev pub visitsᶜ : Option Pred → Env → ℕ → List Visit
  visitsᶜ nothing ρ s = []
  visitsᶜ (some p) ρ s = visitsᵖ p ρ s

-- The visits of `run` and of `evaluation`.
unfoldable pub run_visits : Table → List Value → ℕ → List Visit
unfolding condition_of visitsᵖ
run_visits tb vs budget = visitsᶜ budget tb.sizes (condition_of tb) (λ x. get_or vs x no_value) 0

unfoldable pub evaluation_visits : List ℕ → List ℕ → ℕ → List Visit
unfolding reading values_in run_visits
evaluation_visits bs buffer budget = if_done (reading bs) λ tb. if_done (values_in tb buffer) λ vs. run_visits tb vs budget
