-- The values that a run forms are exactly those of its visits to expressions that are not refused, in the order in which the
-- visits end, each at its node; and its steps are the number of its visits. Each rule of Runs.antt is said with the visits that it
-- makes (`MakesVisits`), then the value rules by induction on the tree.
use Prim.Native.Nat.{ℕ, suc, ◌+◌, ◌≤◌, ◌<◌}
use mathlib.Core.List.{List, [], ◌∷◌, ◌++◌, append-nil, append_assoc}
use mathlib.Core.Bool.{Bool, true, false, not, cond}
use mathlib.Core.Option.{Option, none as nothing, some}
use mathlib.Core.Path.{◌≡◌, refl, sym, subst, ap, ◌∙◌}
use native.Mathlib.Omega.{arith}
use lib.Dec.{T, ltb, leb, eqb, ltb→lt, lt→ltb}
use lib.ListN.{get_or, length, length-append}
use Rattle.rules.specs.Types.{Ty}
use Rattle.rules.specs.Values.{Value, truth_value, weight}
use Rattle.rules.specs.Kinds.{Quant, for_all, for_some}
use Rattle.rules.specs.Rules.{Rule, test_rule, one_rule, two_rule, quant_rule, comprehension_rule}
use Rattle.rules.specs.Fits.{HasType, fits}
use Rattle.rules.specs.Tables.{Table, Pred, joinᵖ, notᵖ, testᵖ, quantᵖ, Expr, leafᵉ, boolᵉ, oneᵉ, twoᵉ, comprehensionᵉ, condition_of}
use Rattle.rules.specs.Ends.{End, done, refused}
use Rattle.rules.specs.Reading.{occurrences, reading}
use Rattle.rules.specs.Cells.{weight_limit, no_value, values_in}
use Rattle.rules.specs.Runs.{Trace, Run, M, lift, return, go_on, ◌>>=◌, ◌>>◌, demand, counted, visit, emit, form, ◌or_else◌, Given, gives, lacks}
use Rattle.rules.specs.Operations.{Env, ◌with◌≔◌, decides, elems, set_of, leaf_value, one_value, two_value}
use Rattle.rules.specs.Evaluation.{fitting, quantify, select, holdsᵖ, valueᵉ, holdsᶜ, run, evaluation}
use Rattle.rules.specs.Verdict.{node_place, Whole}
use Rattle.rules.specs.Safety.{Free, All}
use Rattle.rules.specs.Visits.{Visit, to_pred, to_expr, completed, completed_at, formed_at, Completes}
use Rattle.rules.specs.Visits.{if_done, thereafter, unless_decided, if_fits, stops_at, member_visits, visit_to}
use Rattle.rules.specs.Visits.{visitsᵖ, visitsᵉ, visitsᶜ, run_visits, evaluation_visits}
use Rattle.rules.proofs.Basics.{absurd01}
use Rattle.laws.proofs.EndLaws.{T_true}
use Rattle.laws.proofs.TypedTree.{numberᵉ, IsExpression}
use Rattle.laws.proofs.Soundness.{AtNode, evaluation_sound}

completed_append : (vs ws : List Visit) → completed (vs ++ ws) ≡ completed vs ++ completed ws
completed_append [] ws = refl
completed_append (to_pred n e ∷ vs) ws = completed_append vs ws
completed_append (to_expr n (done v) ∷ vs) ws = ap (λ (tr : Trace). (n, v) ∷ tr) (completed_append vs ws)
completed_append (to_expr n (refused r p) ∷ vs) ws = completed_append vs ws

-- Of the completed visits there are as many values at a node as visits to it.
completed_at_law : (n : ℕ) (vs : List Visit) → formed_at n (completed vs) ≡ completed_at n vs
unfolding occurrences
completed_at_law n [] = refl
completed_at_law n (to_pred m e ∷ vs) = completed_at_law n vs
completed_at_law n (to_expr m (done v) ∷ vs) = ap (λ (k : ℕ). cond (eqb n m) 1 0 + k) (completed_at_law n vs)
completed_at_law n (to_expr m (refused r p) ∷ vs) = completed_at_law n vs

-- What all values formed have, all completed visits have.
all_completes : (P : ℕ × Value → Type 0) (vs : List Visit) → All P (completed vs) → All (Completes P) vs
all_completes P [] h = tt
all_completes P (to_pred n e ∷ vs) h = (tt, all_completes P vs h)
all_completes P (to_expr n (done v) ∷ vs) h = (h.0, all_completes P vs h.1)
all_completes P (to_expr n (refused r p) ∷ vs) h = (tt, all_completes P vs h)

done_nothing : {A : Type 0} (e : End A) → if_done e (λ _. []) ≡ []
done_nothing (done a) = refl
done_nothing (refused r p) = refl

-- From any steps s, a part of an evaluation makes the visits `vs s`: it forms their values, then by its end what is `own`, and
-- takes a step for each.
record MakesVisits {A : Type 0} (own : End A → Trace) (m : M A) (vs : ℕ → List Visit) : Type 0 where
  forms : (s : ℕ) → (m s).formed ≡ completed (vs s) ++ own (m s).end
  takes_steps : (s : ℕ) → (m s).steps ≡ length (vs s) + s

-- Nothing of its own.
abbrev silent : {A : Type 0} → End A → Trace
silent e = []

-- What makes no visit and forms nothing.
return_makes : {A : Type 0} {e : End A} → MakesVisits silent (lift e) (λ _. [])
return_makes = record { forms = λ s. refl; takes_steps = λ s. omega arith }

-- For what is own of an answer only.
module _ {B : Type 0} {own : End B → Trace} (quiet : (r p : ℕ) → own (refused r p) ≡ []) where
  go_on_makes : {A : Type 0} (e : End A) (s t : ℕ) (tr : Trace) (f : A → M B) (vs : List Visit) (h : A → ℕ → List Visit) →
      tr ≡ completed vs ++ [] → t ≡ length vs + s → ((a : A) → MakesVisits own (f a) (h a)) →
      ((go_on e t tr f).formed ≡ completed (vs ++ if_done e (λ a. h a t)) ++ own (go_on e t tr f).end) ×
      ((go_on e t tr f).steps ≡ length (vs ++ if_done e (λ a. h a t)) + s)
  go_on_makes (done a) s t tr f vs h k l hf = (
    rw (k, append-nil (completed vs), (hf a).forms t, completed_append vs (h a t))
        (sym (append_assoc (completed vs) (completed (h a t)) (own (f a t).end))),
    omega (arith, l, (hf a).takes_steps t, length-append vs (h a t)),
  )
  go_on_makes (refused r p) s t tr f vs h k l hf = (rw (append-nil vs, quiet r p) k, rw (append-nil vs) l)

  -- A run and what goes on from its answer.
  bind : {A : Type 0} {m : M A} {vs : ℕ → List Visit} {f : A → M B} {h : A → ℕ → List Visit} →
      MakesVisits silent m vs → ((a : A) → MakesVisits own (f a) (h a)) → MakesVisits own (m >>= f) (λ s. vs s ++ thereafter (m s) h)
  bind {A} {m} {vs} {f} {h} hm hf = record { forms = λ s. (both s).0; takes_steps = λ s. (both s).1 }
    where
      both : (s : ℕ) → (((m >>= f) s).formed ≡ completed (vs s ++ thereafter (m s) h) ++ own ((m >>= f) s).end) ×
          (((m >>= f) s).steps ≡ length (vs s ++ thereafter (m s) h) + s)
      both s = go_on_makes (m s).end s (m s).steps (m s).formed f (vs s) h (hm.forms s) (hm.takes_steps s) hf

  -- So too where no visit follows.
  bind_last : {A : Type 0} {m : M A} {vs : ℕ → List Visit} {f : A → M B} →
      MakesVisits silent m vs → ((a : A) → MakesVisits own (f a) (λ _. [])) → MakesVisits own (m >>= f) vs
  bind_last {A} {m} {vs} {f} hm hf = record {
    forms = λ s. subst (λ (ws : List Visit). ((m >>= f) s).formed ≡ completed ws ++ own ((m >>= f) s).end) (none_after s) (bound.forms s);
    takes_steps = λ s. subst (λ (ws : List Visit). ((m >>= f) s).steps ≡ length ws + s) (none_after s) (bound.takes_steps s);
  }
    where
      bound : MakesVisits own (m >>= f) (λ s. vs s ++ thereafter (m s) (λ _ _. []))
      bound = bind {h = λ _ _. []} hm hf

      none_after : (s : ℕ) → vs s ++ thereafter (m s) (λ _ _. []) ≡ vs s
      none_after s = ap (λ (ws : List Visit). vs s ++ ws) (done_nothing (m s).end) ∙ append-nil (vs s)

  -- 15, where no visit follows, and of a range.
  fits_last : (n : ℕ) (r : Rule) (xs : List Value) {m : M B} → MakesVisits own m (λ _. []) → MakesVisits own (fitting n r xs >> m) (λ _. [])
  fits_last n r xs {m} h = bind_last (go (fits r.takes xs)) (λ _. h)
    where
      go : (b : Bool) → MakesVisits silent (demand b 15 n) (λ _. [])
      go true = return_makes
      go false = return_makes

  range_makes : (n : ℕ) (r : Rule) (v : Value) {m : M B} {vs : ℕ → List Visit} → MakesVisits own m vs →
      MakesVisits own (fitting n r (v ∷ []) >> m) (λ s. if_fits r v (vs s))
  range_makes n r v {m} {vs} h = go (fits r.takes (v ∷ []))
    where
      go : (b : Bool) → MakesVisits own (demand b 15 n >> m) (λ s. cond b (vs s) [])
      go true = record { forms = h.forms; takes_steps = h.takes_steps }
      go false = record { forms = λ s. sym (quiet 15 n); takes_steps = λ s. omega arith }

-- A visit whose step is counted (`true`) or not, and what follows it.
abbrev stepped : {B : Type 0} → ℕ → M B → ℕ → Bool → Run B
stepped n m s b = go_on (counted b n s).end (counted b n s).steps (counted b n s).formed (λ _. m)

-- A visit ends after its parts, with what its end completes.
visit_makes : {B : Type 0} (budget n : ℕ) (own : End B → Visit) {m : M B} {vs : ℕ → List Visit} →
    MakesVisits (λ e. completed (own e ∷ [])) m vs → MakesVisits silent (visit budget n >> m) (visit_to budget own (visit budget n >> m) vs)
visit_makes budget n own {m} {vs} h = record { forms = λ s. (go s (ltb s budget)).0; takes_steps = λ s. (go s (ltb s budget)).1 }
  where
    go : (s : ℕ) (b : Bool) → let ws = cond b (vs (suc s) ++ (own (stepped n m s b).end ∷ [])) [] in
        ((stepped n m s b).formed ≡ completed ws ++ []) × ((stepped n m s b).steps ≡ length ws + s)
    go s true = (
      h.forms (suc s) ∙ sym (completed_append (vs (suc s)) (own (m (suc s)).end ∷ [])) ∙ sym (append-nil _),
      omega (arith, h.takes_steps (suc s), length-append (vs (suc s)) (own (m (suc s)).end ∷ [])),
    )
    go s false = (refl, omega arith)

-- Where the budget has a step for it, an expression's own visit is the last of its visits.
abbrev OwnLast : Bool → ℕ → End Value → List Visit → Type 0
OwnLast true n e vs = (parts : List Visit) × (vs ≡ parts ++ (to_expr n e ∷ []))
OwnLast false n e vs = (e ≡ refused 19 n) × (vs ≡ [])

-- An expression with the number n makes the visits vs, the last to itself.
record EndsOwn (budget n : ℕ) (m : M Value) (vs : ℕ → List Visit) : Type 0 where
  makes : MakesVisits silent m vs
  own_last : (s : ℕ) → OwnLast (ltb s budget) n (m s).end (vs s)

expr_visit : (budget n : ℕ) {m : M Value} {vs : ℕ → List Visit} → MakesVisits (λ e. completed (to_expr n e ∷ [])) m vs →
    EndsOwn budget n (visit budget n >> m) (visit_to budget (to_expr n) (visit budget n >> m) vs)
expr_visit budget n {m} {vs} h = record { makes = visit_makes budget n (to_expr n) h; own_last = λ s. go s (ltb s budget) }
  where
    go : (s : ℕ) (b : Bool) → let e = (stepped n m s b).end in OwnLast b n e (cond b (vs (suc s) ++ (to_expr n e ∷ [])) [])
    go s true = (vs (suc s), refl)
    go s false = (refl, refl)

-- An expression records the value that it forms at its node; where it is refused, nothing.
form_makes : (n : ℕ) (g : Given) → MakesVisits (λ e. completed (to_expr n e ∷ [])) (form n g) (λ _. [])
form_makes n (lacks r) = record { forms = λ s. refl; takes_steps = λ s. omega arith }
form_makes n (gives v) = go (leb (weight v) weight_limit)
  where
    go : (b : Bool) → MakesVisits (λ e. completed (to_expr n e ∷ [])) (demand b 18 n >> emit n v) (λ _. [])
    go true = record { forms = λ s. refl; takes_steps = λ s. omega arith }
    go false = record { forms = λ s. refl; takes_steps = λ s. omega arith }

or_else_makes : (o : Option Bool) {m : M Bool} {vs : ℕ → List Visit} → MakesVisits silent m vs →
    MakesVisits silent (o or_else m) (λ s. unless_decided o (vs s))
or_else_makes nothing h = h
or_else_makes (some b) h = return_makes

-- The body at the members of a range.
module _ {f : Value → M Bool} {vs : Value → ℕ → List Visit} (hf : (w : Value) → MakesVisits silent (f w) (vs w)) where
  quantify_makes : (j : Quant) (ws : List Value) → MakesVisits silent (quantify j f ws) (member_visits (stops_at j) f vs ws)
  unfolding quantify member_visits
  quantify_makes for_all [] = return_makes
  quantify_makes for_all (w ∷ ws) =
      let r = quantify_makes for_all ws in
      bind (λ _ _. refl) {h = λ b t. cond (not b) [] (member_visits not f vs ws t)} (hf w)
      (λ b. elim b as (λ k. MakesVisits silent (elim k as (λ _. M Bool) [ true ↦ quantify for_all f ws | false ↦ return false ])
      (λ t. cond (not k) [] (member_visits not f vs ws t))) [
        | true ↦ r
        | false ↦ return_makes
      ])
  quantify_makes for_some [] = return_makes
  quantify_makes for_some (w ∷ ws) =
      let r = quantify_makes for_some ws in
      bind (λ _ _. refl) {h = λ b t. cond b [] (member_visits (stops_at for_some) f vs ws t)} (hf w)
      (λ b. elim b as (λ k. MakesVisits silent (elim k as (λ _. M Bool) [ true ↦ return true | false ↦ quantify for_some f ws ])
      (λ t. cond k [] (member_visits (stops_at for_some) f vs ws t))) [
        | true ↦ return_makes
        | false ↦ r
      ])

  select_makes : (ws : List Value) → MakesVisits silent (select f ws) (member_visits (λ _. false) f vs ws)
  unfolding select member_visits
  select_makes [] = return_makes
  select_makes (w ∷ ws) =
      bind (λ _ _. refl) (hf w) λ b. bind_last (λ _ _. refl) (select_makes ws) λ us.
      elim b as (λ k. MakesVisits silent (elim k as (λ _. M (List Value)) [ true ↦ return (w ∷ us) | false ↦ return us ]) (λ _. [])) [
        | true ↦ return_makes
        | false ↦ return_makes
      ]

module _ (budget : ℕ) (sizes : List ℕ) where
  mutual
    unfolding holdsᵖ visitsᵖ

    -- The value rules make the visits of Visits.antt.
    pred_makes : (p : Pred) (ρ : Env) → MakesVisits silent (holdsᵖ budget sizes p ρ) (visitsᵖ budget sizes p ρ)
    pred_makes (joinᵖ n j p q) ρ =
        visit_makes budget n (to_pred n)
        (bind (λ _ _. refl) (pred_makes p ρ) λ a. or_else_makes (decides j a) (bind_last (λ _ _. refl) (pred_makes q ρ) λ b. return_makes))
    pred_makes (notᵖ n p) ρ = visit_makes budget n (to_pred n) (bind_last (λ _ _. refl) (pred_makes p ρ) λ a. return_makes)
    pred_makes (testᵖ n j a b) ρ =
        visit_makes budget n (to_pred n)
        (bind (λ _ _. refl) (expr_makes a ρ).makes λ v.
        bind_last (λ _ _. refl) (expr_makes b ρ).makes λ w.
        fits_last (λ _ _. refl) n (test_rule j) (v ∷ w ∷ []) return_makes)
    pred_makes (quantᵖ n j x r p) ρ =
        visit_makes budget n (to_pred n)
        (bind (λ _ _. refl) (expr_makes r ρ).makes λ v.
        range_makes (λ _ _. refl) n quant_rule v (quantify_makes (λ w. pred_makes p (ρ with x ≔ w)) j (elems v)))

    expr_makes : (a : Expr) (ρ : Env) → EndsOwn budget (numberᵉ a) (valueᵉ budget sizes a ρ) (visitsᵉ budget sizes a ρ)
    expr_makes (leafᵉ n j a b) ρ = expr_visit budget n (form_makes n (gives (leaf_value sizes j a b ρ)))
    expr_makes (boolᵉ n p) ρ =
        expr_visit budget n (bind_last (λ _ _. refl) (pred_makes p ρ) λ b. form_makes n (gives (truth_value b)))
    expr_makes (oneᵉ n j a) ρ =
        expr_visit budget n
        (bind_last (λ _ _. refl) (expr_makes a ρ).makes λ v. fits_last (λ _ _. refl) n (one_rule j) (v ∷ []) (form_makes n (one_value j v)))
    expr_makes (twoᵉ n j a b) ρ =
        expr_visit budget n
        (bind (λ _ _. refl) (expr_makes a ρ).makes λ v.
        bind_last (λ _ _. refl) (expr_makes b ρ).makes λ w.
        fits_last (λ _ _. refl) n (two_rule j) (v ∷ w ∷ []) (form_makes n (two_value j v w)))
    expr_makes (comprehensionᵉ n x r p) ρ =
        expr_visit budget n
        (bind (λ _ _. refl) (expr_makes r ρ).makes λ v.
        range_makes (λ _ _. refl) n comprehension_rule v
        (bind_last (λ _ _. refl) (select_makes (λ w. pred_makes p (ρ with x ≔ w)) (elems v)) λ ws. form_makes n (gives (set_of ws))))

  -- What a predicate forms: the values of the completed visits that it makes. Its steps are all visits that it makes.
  pub pred_trace : (p : Pred) (ρ : Env) (s : ℕ) → (holdsᵖ budget sizes p ρ s).formed ≡ completed (visitsᵖ budget sizes p ρ s)
  pred_trace p ρ s = (pred_makes p ρ).forms s ∙ append-nil (completed (visitsᵖ budget sizes p ρ s))

  pub pred_steps : (p : Pred) (ρ : Env) (s : ℕ) → (holdsᵖ budget sizes p ρ s).steps ≡ length (visitsᵖ budget sizes p ρ s) + s
  pred_steps p ρ s = (pred_makes p ρ).takes_steps s

  -- So too an expression.
  pub expr_trace : (a : Expr) (ρ : Env) (s : ℕ) → (valueᵉ budget sizes a ρ s).formed ≡ completed (visitsᵉ budget sizes a ρ s)
  expr_trace a ρ s = (expr_makes a ρ).makes.forms s ∙ append-nil (completed (visitsᵉ budget sizes a ρ s))

  pub expr_steps : (a : Expr) (ρ : Env) (s : ℕ) → (valueᵉ budget sizes a ρ s).steps ≡ length (visitsᵉ budget sizes a ρ s) + s
  expr_steps a ρ s = (expr_makes a ρ).makes.takes_steps s

  -- The visit to a itself, with the end e, is the last of a's visits; `own` is formed after what its parts form.
  abbrev pub OwnVisit : Expr → Env → ℕ → End Value → Trace → Type 0
  OwnVisit a ρ s e own =
      (parts : List Visit) × (visitsᵉ budget sizes a ρ s ≡ parts ++ (to_expr (numberᵉ a) e ∷ [])) ×
      ((valueᵉ budget sizes a ρ s).formed ≡ completed parts ++ own)

  own_visit : (a : Expr) (ρ : Env) (s : ℕ) (e : End Value) → (valueᵉ budget sizes a ρ s).end ≡ e →
      OwnLast true (numberᵉ a) (valueᵉ budget sizes a ρ s).end (visitsᵉ budget sizes a ρ s) →
      OwnVisit a ρ s e (completed (to_expr (numberᵉ a) e ∷ []))
  own_visit a ρ s e q (parts, o) =
      let w = o ∙ ap (λ (z : End Value). parts ++ (to_expr (numberᵉ a) z ∷ [])) q in
      (parts, w, expr_trace a ρ s ∙ ap completed w ∙ completed_append parts (to_expr (numberᵉ a) e ∷ []))

  -- A visit to an expression that is not refused forms its value, at its node and after the values of its parts.
  pub value_recorded : (a : Expr) (ρ : Env) (s : ℕ) (v : Value) → (valueᵉ budget sizes a ρ s).end ≡ done v →
      OwnVisit a ρ s (done v) ((numberᵉ a, v) ∷ [])
  value_recorded a ρ s v e = go (ltb s budget) ((expr_makes a ρ).own_last s)
    where
      go : (b : Bool) → OwnLast b (numberᵉ a) (valueᵉ budget sizes a ρ s).end (visitsᵉ budget sizes a ρ s) →
          OwnVisit a ρ s (done v) ((numberᵉ a, v) ∷ [])
      go true o = own_visit a ρ s (done v) e o
      go false o = absurd01 (cc (e, o.0))

  -- One that is refused forms nothing itself,
  pub refusal_unrecorded : (a : Expr) (ρ : Env) (s r p : ℕ) → s < budget → (valueᵉ budget sizes a ρ s).end ≡ refused r p →
      OwnVisit a ρ s (refused r p) []
  refusal_unrecorded a ρ s r p l e =
      own_visit a ρ s (refused r p) e (rw ((T_true (ltb s budget)).0 (lt→ltb s budget l)) at ((expr_makes a ρ).own_last s))

  -- and where the budget has no step left there is no visit.
  pub no_visit : (a : Expr) (ρ : Env) (s : ℕ) → budget ≤ s → (visitsᵉ budget sizes a ρ s ≡ []) × ((valueᵉ budget sizes a ρ s).formed ≡ [])
  no_visit a ρ s l = go (ltb s budget) (ltb→lt s budget) ((expr_makes a ρ).own_last s)
    where
      go : (b : Bool) → (T b → s < budget) → OwnLast b (numberᵉ a) (valueᵉ budget sizes a ρ s).end (visitsᵉ budget sizes a ρ s) →
          (visitsᵉ budget sizes a ρ s ≡ []) × ((valueᵉ budget sizes a ρ s).formed ≡ [])
      go true h o = absurd (omega (arith, h tt))
      go false h o = (o.1, expr_trace a ρ s ∙ ap completed o.1)

-- So for a whole run: what it forms, how often at each node, and its steps.
run_makes : (tb : Table) (vs : List Value) (budget : ℕ) →
    ((run tb vs budget).formed ≡ completed (run_visits tb vs budget)) × ((run tb vs budget).steps ≡ length (run_visits tb vs budget))
unfolding run run_visits
run_makes tb vs budget = go (condition_of tb)
  where
    ρ : Env
    ρ x = get_or vs x no_value

    go : (c : Option Pred) → ((holdsᶜ budget tb.sizes c ρ 0).formed ≡ completed (visitsᶜ budget tb.sizes c ρ 0)) ×
        ((holdsᶜ budget tb.sizes c ρ 0).steps ≡ length (visitsᶜ budget tb.sizes c ρ 0))
    go nothing = (refl, refl)
    go (some p) = (pred_trace budget tb.sizes p ρ 0, omega (arith, pred_steps budget tb.sizes p ρ 0))

pub run_trace : (tb : Table) (vs : List Value) (budget : ℕ) → (run tb vs budget).formed ≡ completed (run_visits tb vs budget)
run_trace tb vs budget = (run_makes tb vs budget).0

pub run_counts : (tb : Table) (vs : List Value) (budget n : ℕ) →
    formed_at n (run tb vs budget).formed ≡ completed_at n (run_visits tb vs budget)
run_counts tb vs budget n = ap (formed_at n) (run_trace tb vs budget) ∙ completed_at_law n (run_visits tb vs budget)

pub run_steps : (tb : Table) (vs : List Value) (budget : ℕ) → (run tb vs budget).steps ≡ length (run_visits tb vs budget)
run_steps tb vs budget = (run_makes tb vs budget).1

module _ (bs buffer : List ℕ) (budget : ℕ) where
  evaluation_makes : ((evaluation bs buffer budget).formed ≡ completed (evaluation_visits bs buffer budget)) ×
      ((evaluation bs buffer budget).steps ≡ length (evaluation_visits bs buffer budget))
  unfolding evaluation evaluation_visits
  evaluation_makes = go (reading bs)
    where
      valued : (tb : Table) (e : End (List Value)) → let r = (lift e >>= λ vs _. run tb vs budget) 0 in
          let ws = if_done e (λ vs. run_visits tb vs budget) in (r.formed ≡ completed ws) × (r.steps ≡ length ws)
      valued tb (done vs) = (run_trace tb vs budget, run_steps tb vs budget)
      valued tb (refused r p) = (refl, refl)

      go : (e : End Table) → let r = (lift e >>= λ tb. lift (values_in tb buffer) >>= λ vs _. run tb vs budget) 0 in
          let ws = if_done e (λ tb. if_done (values_in tb buffer) λ vs. run_visits tb vs budget) in
          (r.formed ≡ completed ws) × (r.steps ≡ length ws)
      go (done tb) = valued tb (values_in tb buffer)
      go (refused r p) = (refl, refl)

  -- The values that Evaluate forms are those of its completed visits, and its steps are its visits.
  pub evaluation_trace : (evaluation bs buffer budget).formed ≡ completed (evaluation_visits bs buffer budget)
  evaluation_trace = evaluation_makes.0

  pub evaluation_steps : (evaluation bs buffer budget).steps ≡ length (evaluation_visits bs buffer budget)
  evaluation_steps = evaluation_makes.1

  -- So it forms as many values at a node as there are completed visits to it.
  pub evaluation_counts : (n : ℕ) → formed_at n (evaluation bs buffer budget).formed ≡ completed_at n (evaluation_visits bs buffer budget)
  evaluation_counts n = ap (formed_at n) evaluation_trace ∙ completed_at_law n (evaluation_visits bs buffer budget)

  -- What every value formed has, the value of every completed visit has.
  pub completed_have : (P : ℕ × Value → Type 0) → All P (evaluation bs buffer budget).formed → All (Completes P) (evaluation_visits bs buffer budget)
  completed_have P h = all_completes P (evaluation_visits bs buffer budget) (subst (All P) evaluation_trace h)

-- Demand 3 of the visits: where `evaluation_sound` holds, each completed visit is to an expression and its value has the type there.
pub visits_sound : (bs buffer : List ℕ) (budget : ℕ) (tb : Table) (θ : ℕ → Ty) (vs : List Value) →
    reading bs ≡ done tb → values_in tb buffer ≡ done vs → Whole tb θ →
    ((x : ℕ) → Free tb x → HasType (get_or vs x no_value) (θ x)) →
    All (Completes (AtNode (IsExpression tb) (λ n. θ (node_place tb n)))) (evaluation_visits bs buffer budget)
visits_sound bs buffer budget tb θ vs e f w h =
    completed_have bs buffer budget (AtNode (IsExpression tb) (λ n. θ (node_place tb n))) (evaluation_sound bs buffer budget tb θ vs e f w h).1
