-- Every value that a run forms is good: its sets rise and have a type, its numbers are of 32 bits, its elements exist, and
-- it weighs at most 256. This holds for every table with `Records`, also where the table has no typing.
use Prim.Native.Nat.{ℕ, zero, suc, ◌≤◌, ◌<◌}
use mathlib.Core.List.{List, [], ◌∷◌}
use mathlib.Core.Bool.{Bool, true, false, ◌&&◌}
use mathlib.Core.Option.{Option, none as nothing, some}
use mathlib.Core.Path.{◌≡◌, refl, ap, subst}
use native.Mathlib.Omega.{arith}
use native.Mathlib.Decide.{dec_lt}
use lib.Dec.{T, leb, ltb, eqb, leb→le, le→leb, lt→ltb}
use lib.ListN.{get_or, length, get_or-eq_default}
use Rattle.rules.specs.Types.{Ty, atom, POW, ◌⊗◌, BOOL, G}
use Rattle.rules.specs.Values.{Value, scalar, pair, set, Values, truth_value, members, weight, before}
use Rattle.rules.specs.Kinds.{Quant, for_all, for_some, One, Two}
use Rattle.rules.specs.Kinds.{Leaf, identifier, given_set, element_of, literal, truth_const, empty_set, bool_set, leaf_fields}
use Rattle.rules.specs.Kinds.{Kind, join, negation, test, quant, leaf, bool_of, one, two, comprehension, kind_of}
use Rattle.rules.specs.Rules.{Pattern, inst, Rule, Says, test_rule, one_rule, two_rule, quant_rule, comprehension_rule}
use Rattle.rules.specs.Fits.{HasType, Fits, fits, typed}
use Rattle.rules.specs.Tables.{Node, Table, node_at, kind_at, field_words, no_node, pred_of, expr_of, pred_at, expr_at, last_node, condition_of}
use Rattle.rules.specs.Tables.{Pred, joinᵖ, notᵖ, testᵖ, quantᵖ, Expr, leafᵉ, boolᵉ, oneᵉ, twoᵉ, comprehensionᵉ}
use Rattle.rules.specs.Ends as EndsSafely
use Rattle.rules.specs.Ends.{End, done, refused, require}
use Rattle.rules.specs.Reading.{reading}
use Rattle.rules.specs.Readable.{Records, FieldsRight}
use Rattle.rules.specs.Cells.{well_formed, good, weight_limit, no_value, Read, value}
use Rattle.rules.specs.Cells.{or_fault, value_for, nothing_left, values_from, values_in}
use Rattle.rules.specs.Runs.{Trace, M, return, go_on, ◌>>=◌, demand, counted, visit, emit, form, ◌or_else◌, Given, gives, lacks}
use Rattle.rules.specs.Operations.{elems, set_of, elements_from, Env, ◌with◌≔◌, decides, leaf_value, one_value, two_value}
use Rattle.rules.specs.Evaluation.{fitting, quantify, select, holdsᵖ, valueᵉ, holdsᶜ, run, evaluation}
use Rattle.laws.proofs.TableLaws.{IfSome, condition_has}
use Rattle.laws.proofs.OrderLaws.{and_left, and_right}
use Rattle.laws.proofs.FitsLaws.{fits_right, typed_right}
use Rattle.laws.proofs.SetTypes.{GivenHas, elems_have, values_have, elements_have, one_has, two_has}
use Rattle.laws.proofs.SetOrder.{All, all_imp, all_append, all_at, Any, Before, Rising, signed_right}
use Rattle.laws.proofs.SetOrder.{elements_rising, elems_light, Well, elems_well, set_of_well, elements_well, GivenWell, one_well, two_well}
use Rattle.rules.proofs.Basics.{and_of, all_both}

has_typed : (v : Value) (t : Ty) → HasType v t → T (typed v)
has_typed v t h = (typed_right v).1 (t, h)

members_typed : (s : Values) (t : Ty) → HasType (set s) t → All (λ w. T (typed w)) (members s)
members_typed s (atom a) h = absurd h
members_typed s (POW t) h =
    all_imp (λ w. HasType w t) (λ w. T (typed w)) (λ w k. has_typed w t k) (members s) (elems_have (set s) t h)
members_typed s (t ⊗ u) h = absurd h

-- The members of a set that has a type have one.
elems_typed : (v : Value) → T (typed v) → All (λ w. T (typed w)) (elems v)
elems_typed (scalar s) h = tt
elems_typed (pair v w) h = tt
elems_typed (set s) h = let k = (typed_right (set s)).0 h in members_typed s k.0 k.1

-- What a rule says of the node itself.
abbrev result_at : Option Pattern → Ty → Ty → Ty
result_at nothing t u = t
result_at (some p) t u = inst p t u

says_result : (o : Option Pattern) (t u : Ty) → Says o (result_at o t u) t u
says_result nothing t u = tt
says_result (some p) t u = refl

-- An answer has Q.
abbrev pub Ended : {A : Type 0} → (A → Type 0) → End A → Type 0
Ended Q (done a) = Q a
Ended Q (refused k n) = Unit {0}

-- The answer of a run, if it has one, has Q, and each value that the run forms has, with its node, R.
module _ (R : ℕ × Value → Type 0) where
  abbrev pub Forms : {A : Type 0} → (A → Type 0) → M A → Type 0
  Forms Q m = (s : ℕ) → Ended Q (m s).end × All R (m s).formed

  go_on_forms : {A B : Type 0} (P : A → Type 0) (Q : B → Type 0) (e : End A) (s : ℕ) (tr : Trace) (f : A → M B) →
      Ended P e → All R tr → ((a : A) → P a → Forms Q (f a)) → Ended Q (go_on e s tr f).end × All R (go_on e s tr f).formed
  go_on_forms P Q (done a) s tr f h k hf = ((hf a h s).0, all_append R tr (f a s).formed k (hf a h s).1)
  go_on_forms P Q (refused x n) s tr f h k hf = (h, k)

  pub bind : {A B : Type 0} (P : A → Type 0) (Q : B → Type 0) (m : M A) (f : A → M B) →
      Forms P m → ((a : A) → P a → Forms Q (f a)) → Forms Q (m >>= f)
  bind P Q m f hm hf s = go_on_forms P Q (m s).end (m s).steps (m s).formed f (hm s).0 (hm s).1 hf

  demand_forms : (b : Bool) (k n : ℕ) → Forms (λ _. T b) (demand b k n)
  demand_forms true k n s = (tt, tt)
  demand_forms false k n s = (tt, tt)

  pub visit_forms : (budget n : ℕ) → Forms Any (visit budget n)
  visit_forms budget n s = go (ltb s budget)
    where
      go : (b : Bool) → Ended Any (counted b n s).end × All R (counted b n s).formed
      go true = (tt, tt)
      go false = (tt, tt)

  -- Operands that pass 15 fit.
  pub fitting_forms : (n : ℕ) (r : Rule) (vs : List Value) → Forms (λ _. Fits r.takes vs) (fitting n r vs)
  fitting_forms n r vs = go (fits r.takes vs) (fits_right r.takes vs).0
    where
      go : (b : Bool) → (T b → Fits r.takes vs) → Forms (λ _. Fits r.takes vs) (demand b 15 n)
      go true h = λ s. (h tt, tt)
      go false h = λ s. (tt, tt)

  -- A value formed has passed 18.
  pub given_forms : (Q : Value → Type 0) (n : ℕ) (g : Given) →
      ((v : Value) → g ≡ gives v → T (leb (weight v) weight_limit) → Q v × R (n, v)) → Forms Q (form n g)
  given_forms Q n (lacks r) h = λ s. (tt, tt)
  given_forms Q n (gives v) h =
      bind (λ _. T (leb (weight v) weight_limit)) Q (demand (leb (weight v) weight_limit) 18 n) (λ _. emit n v)
      (demand_forms (leb (weight v) weight_limit) 18 n) (λ _ l s. let k = h v refl l in (k.0, (k.1, tt)))

  or_else_forms : (o : Option Bool) (m : M Bool) → Forms Any m → Forms Any (o or_else m)
  or_else_forms nothing m h = h
  or_else_forms (some b) m h = λ s. (tt, tt)

module _ (gs : List ℕ) where
  -- A value that is good if it weighs at most 256.
  abbrev pub WellTyped : Value → Type 0
  WellTyped v = Well gs v × T (typed v)

  -- The test of refusal 14 as a property.
  abbrev pub Good : Value → Type 0
  Good v = T (good gs v)

  -- The three parts of `good`.
  light_good : (v : Value) → WellTyped v → T (leb (weight v) weight_limit) → Good v
  unfolding good
  light_good v h l =
      and_of (well_formed gs v && leb (weight v) weight_limit) (typed v) (and_of (well_formed gs v) (leb (weight v) weight_limit) h.0 l) h.1

  good_well : (v : Value) → Good v → Well gs v
  unfolding good
  good_well v h =
      and_left (well_formed gs v) (leb (weight v) weight_limit) (and_left (well_formed gs v && leb (weight v) weight_limit) (typed v) h)

  good_light : (v : Value) → Good v → weight v ≤ 256
  unfolding good
  good_light v h =
      leb→le (weight v) weight_limit
      (and_right (well_formed gs v) (leb (weight v) weight_limit) (and_left (well_formed gs v && leb (weight v) weight_limit) (typed v) h))

  good_typed : (v : Value) → Good v → T (typed v)
  unfolding good
  good_typed v h = and_right (well_formed gs v && leb (weight v) weight_limit) (typed v) h

  -- The members of a good set are good.
  pub elems_good : (v : Value) → Good v → All Good (elems v)
  elems_good v h =
      all_imp (λ w. WellTyped w × (weight w ≤ 256)) Good (λ w k. light_good w k.0 (le→leb (weight w) 256 k.1)) (elems v)
      (all_both WellTyped (λ w. weight w ≤ 256) (elems v)
      (all_both (Well gs) (λ w. T (typed w)) (elems v) (elems_well gs v (good_well v h)).0 (elems_typed v (good_typed v h)))
      (elems_light 256 v (good_light v h)))

  -- What the leaves and the operations give is well formed and typed.
  abbrev GivenWellTyped : Given → Type 0
  GivenWellTyped (gives v) = WellTyped v
  GivenWellTyped (lacks k) = Unit {0}

  given_well_typed : (g : Given) (t : Ty) → GivenWell gs g → GivenHas g t → GivenWellTyped g
  given_well_typed (gives v) t h k = (h, has_typed v t k)
  given_well_typed (lacks k) t h q = tt

  one_well_typed : (j : One) (v : Value) → Good v → Fits (one_rule j).takes (v ∷ []) → GivenWellTyped (one_value j v)
  one_well_typed j v h f =
      let z = result_at (one_rule j).result f.0 f.1 in
      given_well_typed (one_value j v) z (one_well gs j v (good_well v h) (good_light v h))
      (one_has j v f.0 f.1 z f.2 (says_result (one_rule j).result f.0 f.1))

  two_well_typed : (j : Two) (v w : Value) → Good v → Good w → Fits (two_rule j).takes (v ∷ w ∷ []) → GivenWellTyped (two_value j v w)
  two_well_typed j v w h k f =
      let z = result_at (two_rule j).result f.0 f.1 in
      given_well_typed (two_value j v w) z (two_well gs j v w f.0 f.1 f.2 (good_well v h) (good_well w k))
      (two_has j v w f.0 f.1 z f.2 (says_result (two_rule j).result f.0 f.1))

  -- A leaf names only elements that exist.
  abbrev pub LeafRight : Leaf → ℕ → ℕ → Type 0
  LeafRight identifier a b = Unit {0}
  LeafRight given_set a b = Unit {0}
  LeafRight element_of a b = b < get_or gs a 0
  LeafRight (literal n) a b = Unit {0}
  LeafRight truth_const a b = Unit {0}
  LeafRight empty_set a b = Unit {0}
  LeafRight bool_set a b = Unit {0}

  -- An environment of good values.
  abbrev pub EnvGood : Env → Type 0
  EnvGood ρ = (x : ℕ) → Good (ρ x)

  -- An environment of good values with one more.
  pub with_good : (ρ : Env) (x : ℕ) (v : Value) → EnvGood ρ → Good v → EnvGood (ρ with x ≔ v)
  with_good ρ x v h k y = go (eqb x y)
    where
      go : (b : Bool) → Good (elim b [ true ↦ v | false ↦ ρ y ])
      go true = k
      go false = h y

  leaf_well_typed : (j : Leaf) (a b : ℕ) (ρ : Env) → LeafRight j a b → EnvGood ρ → WellTyped (leaf_value gs j a b ρ)
  unfolding leaf_value typed before
  leaf_well_typed identifier a b ρ h e = (good_well (ρ a) (e a), good_typed (ρ a) (e a))
  leaf_well_typed given_set a b ρ h e =
      let vs = elements_from a 0 (get_or gs a 0) in (
        set_of_well gs vs (elements_well gs a 0 (get_or gs a 0) (omega arith)) (elements_rising a 0 (get_or gs a 0)),
        has_typed (set_of vs) (POW (G a)) (values_have vs (G a) (elements_have a 0 (get_or gs a 0))),
      )
  leaf_well_typed element_of a b ρ h e = (lt→ltb b (get_or gs a 0) h, tt)
  leaf_well_typed (literal n) a b ρ h e = (signed_right a, tt)
  leaf_well_typed truth_const a b ρ h e = (tt, tt)
  leaf_well_typed empty_set a b ρ h e = (tt, tt)
  leaf_well_typed bool_set a b ρ h e = (tt, tt)

  -- Every value of a trace is good.
  abbrev GoodAt : ℕ × Value → Type 0
  GoodAt x = Good x.1

  abbrev pub FormedGood : Trace → Type 0
  FormedGood tr = All GoodAt tr

  form_forms : (n : ℕ) (g : Given) → GivenWellTyped g → Forms GoodAt Good (form n g)
  form_forms n g h = given_forms GoodAt Good n g (λ v e l. let k = light_good v (subst GivenWellTyped e h) l in (k, k))

  quantify_forms : (j : Quant) (f : Value → M Bool) (vs : List Value) →
      ((w : Value) → Good w → Forms GoodAt Any (f w)) → All Good vs → Forms GoodAt Any (quantify j f vs)
  unfolding quantify
  quantify_forms for_all f [] hf h = λ s. (tt, tt)
  quantify_forms for_all f (v ∷ vs) hf h =
      let r = quantify_forms for_all f vs hf h.1 in
      bind GoodAt Any Any (f v) _ (hf v h.0)
      (λ b _. elim b as (λ k. Forms GoodAt Any (elim k as (λ _. M Bool) [ true ↦ quantify for_all f vs | false ↦ return false ]))
      [ true ↦ r | false ↦ λ s. (tt, tt) ])
  quantify_forms for_some f [] hf h = λ s. (tt, tt)
  quantify_forms for_some f (v ∷ vs) hf h =
      let r = quantify_forms for_some f vs hf h.1 in
      bind GoodAt Any Any (f v) _ (hf v h.0)
      (λ b _. elim b as (λ k. Forms GoodAt Any (elim k as (λ _. M Bool) [ true ↦ return true | false ↦ quantify for_some f vs ]))
      [ true ↦ λ s. (tt, tt) | false ↦ r ])

  -- What `select` gives has P where its list has, and rises where its list does.
  select_forms : (f : Value → M Bool) (vs : List Value) (P : Value → Type 0) → ((w : Value) → Good w → Forms GoodAt Any (f w)) →
      All Good vs → All P vs → Rising vs → Forms GoodAt (λ ws. All P ws × Rising ws) (select f vs)
  unfolding select
  select_forms f [] P hf h k r = λ s. ((tt, tt), tt)
  select_forms f (v ∷ vs) P hf h k r =
      let Q : List Value → Type 0 = λ ws. All (λ w. P w × Before v w) ws × Rising ws in
      let rest = select_forms f vs (λ w. P w × Before v w) hf h.1 (all_both P (Before v) vs k.1 r.0) r.1 in
      bind GoodAt Any (λ ws. All P ws × Rising ws) (f v) _ (hf v h.0) λ b _.
      bind GoodAt Q (λ ws. All P ws × Rising ws) (select f vs) _ rest λ ws q.
      let p = all_imp (λ w. P w × Before v w) P (λ w x. x.0) ws q.0 in
      let l = all_imp (λ w. P w × Before v w) (Before v) (λ w x. x.1) ws q.0 in
      elim b as (λ x. Forms GoodAt (λ us. All P us × Rising us) (elim x as (λ _. M (List Value)) [ true ↦ return (v ∷ ws) | false ↦ return ws ])) [
        | true ↦ λ s. (((k.0, p), (l, q.1)), tt)
        | false ↦ λ s. ((p, q.1), tt)
      ]

  -- The leaves of a tree name only elements that exist.
  abbrev mutual
    pub Leavesᵖ : Pred → Type 0
    Leavesᵖ (joinᵖ n j p q) = Leavesᵖ p × Leavesᵖ q
    Leavesᵖ (notᵖ n p) = Leavesᵖ p
    Leavesᵖ (testᵖ n j e f) = Leavesᵉ e × Leavesᵉ f
    Leavesᵖ (quantᵖ n j x r p) = Leavesᵉ r × Leavesᵖ p

    pub Leavesᵉ : Expr → Type 0
    Leavesᵉ (leafᵉ n j a b) = LeafRight j a b
    Leavesᵉ (boolᵉ n p) = Leavesᵖ p
    Leavesᵉ (oneᵉ n j e) = Leavesᵉ e
    Leavesᵉ (twoᵉ n j e f) = Leavesᵉ e × Leavesᵉ f
    Leavesᵉ (comprehensionᵉ n x r p) = Leavesᵉ r × Leavesᵖ p

  -- What a comprehension selects makes a well formed and typed set.
  selected_well_typed : (t : Ty) (ws : List Value) → All (λ w. Well gs w × HasType w t) ws × Rising ws → WellTyped (set_of ws)
  selected_well_typed t ws h = (
    set_of_well gs ws (all_imp (λ w. Well gs w × HasType w t) (Well gs) (λ w x. x.0) ws h.0) h.1,
    has_typed (set_of ws) (POW t)
        (values_have ws t (all_imp (λ w. Well gs w × HasType w t) (λ w. HasType w t) (λ w x. x.1) ws h.0)),
  )

  range_typed : (v : Value) (t : Ty) → Good v → HasType v (POW t) → All (λ w. Well gs w × HasType w t) (elems v)
  range_typed v t h k =
      all_both (Well gs) (λ w. HasType w t) (elems v) (elems_well gs v (good_well v h)).0 (elems_have v t k)

-- By the value rules: a condition forms only good values, and so does an expression, whose own value is good.
module _ (budget : ℕ) (gs : List ℕ) where
  mutual
    unfolding holdsᵖ

    pred_forms : (p : Pred) (ρ : Env) → Leavesᵖ gs p → EnvGood gs ρ → Forms (GoodAt gs) Any (holdsᵖ budget gs p ρ)
    pred_forms (joinᵖ n j p q) ρ h e =
        bind (GoodAt gs) Any Any (visit budget n) _ (visit_forms (GoodAt gs) budget n) λ _ _.
        bind (GoodAt gs) Any Any (holdsᵖ budget gs p ρ) _ (pred_forms p ρ h.0 e) λ a _.
        or_else_forms (GoodAt gs) (decides j a) _
        (bind (GoodAt gs) Any Any (holdsᵖ budget gs q ρ) _ (pred_forms q ρ h.1 e) λ b _ s. (tt, tt))
    pred_forms (notᵖ n p) ρ h e =
        bind (GoodAt gs) Any Any (visit budget n) _ (visit_forms (GoodAt gs) budget n) λ _ _.
        bind (GoodAt gs) Any Any (holdsᵖ budget gs p ρ) _ (pred_forms p ρ h e) λ a _ s. (tt, tt)
    pred_forms (testᵖ n j a b) ρ h e =
        bind (GoodAt gs) Any Any (visit budget n) _ (visit_forms (GoodAt gs) budget n) λ _ _.
        bind (GoodAt gs) (Good gs) Any (valueᵉ budget gs a ρ) _ (expr_forms a ρ h.0 e) λ v _.
        bind (GoodAt gs) (Good gs) Any (valueᵉ budget gs b ρ) _ (expr_forms b ρ h.1 e) λ w _.
        bind (GoodAt gs) (λ _. Fits (test_rule j).takes (v ∷ w ∷ [])) Any (fitting n (test_rule j) (v ∷ w ∷ [])) _
        (fitting_forms (GoodAt gs) n (test_rule j) (v ∷ w ∷ [])) λ _ _ s. (tt, tt)
    pred_forms (quantᵖ n j x r p) ρ h e =
        bind (GoodAt gs) Any Any (visit budget n) _ (visit_forms (GoodAt gs) budget n) λ _ _.
        bind (GoodAt gs) (Good gs) Any (valueᵉ budget gs r ρ) _ (expr_forms r ρ h.0 e) λ v hv.
        bind (GoodAt gs) (λ _. Fits quant_rule.takes (v ∷ [])) Any (fitting n quant_rule (v ∷ [])) _
        (fitting_forms (GoodAt gs) n quant_rule (v ∷ [])) λ _ _.
        quantify_forms gs j (λ w. holdsᵖ budget gs p (ρ with x ≔ w)) (elems v)
        (λ w hw. pred_forms p (ρ with x ≔ w) h.1 (with_good gs ρ x w e hw)) (elems_good gs v hv)

    pub expr_forms : (a : Expr) (ρ : Env) → Leavesᵉ gs a → EnvGood gs ρ → Forms (GoodAt gs) (Good gs) (valueᵉ budget gs a ρ)
    expr_forms (leafᵉ n j a b) ρ h e =
        bind (GoodAt gs) Any (Good gs) (visit budget n) _ (visit_forms (GoodAt gs) budget n) λ _ _.
        form_forms gs n (gives (leaf_value gs j a b ρ)) (leaf_well_typed gs j a b ρ h e)
    expr_forms (boolᵉ n p) ρ h e =
        bind (GoodAt gs) Any (Good gs) (visit budget n) _ (visit_forms (GoodAt gs) budget n) λ _ _.
        bind (GoodAt gs) Any (Good gs) (holdsᵖ budget gs p ρ) _ (pred_forms p ρ h e) λ b _.
        form_forms gs n (gives (truth_value b)) (tt, has_typed (truth_value b) BOOL refl)
    expr_forms (oneᵉ n j a) ρ h e =
        bind (GoodAt gs) Any (Good gs) (visit budget n) _ (visit_forms (GoodAt gs) budget n) λ _ _.
        bind (GoodAt gs) (Good gs) (Good gs) (valueᵉ budget gs a ρ) _ (expr_forms a ρ h e) λ v hv.
        bind (GoodAt gs) (λ _. Fits (one_rule j).takes (v ∷ [])) (Good gs) (fitting n (one_rule j) (v ∷ [])) _
        (fitting_forms (GoodAt gs) n (one_rule j) (v ∷ [])) λ _ f.
        form_forms gs n (one_value j v) (one_well_typed gs j v hv f)
    expr_forms (twoᵉ n j a b) ρ h e =
        bind (GoodAt gs) Any (Good gs) (visit budget n) _ (visit_forms (GoodAt gs) budget n) λ _ _.
        bind (GoodAt gs) (Good gs) (Good gs) (valueᵉ budget gs a ρ) _ (expr_forms a ρ h.0 e) λ v hv.
        bind (GoodAt gs) (Good gs) (Good gs) (valueᵉ budget gs b ρ) _ (expr_forms b ρ h.1 e) λ w hw.
        bind (GoodAt gs) (λ _. Fits (two_rule j).takes (v ∷ w ∷ [])) (Good gs) (fitting n (two_rule j) (v ∷ w ∷ [])) _
        (fitting_forms (GoodAt gs) n (two_rule j) (v ∷ w ∷ [])) λ _ f.
        form_forms gs n (two_value j v w) (two_well_typed gs j v w hv hw f)
    expr_forms (comprehensionᵉ n x r p) ρ h e =
        bind (GoodAt gs) Any (Good gs) (visit budget n) _ (visit_forms (GoodAt gs) budget n) λ _ _.
        bind (GoodAt gs) (Good gs) (Good gs) (valueᵉ budget gs r ρ) _ (expr_forms r ρ h.0 e) λ v hv.
        bind (GoodAt gs) (λ _. Fits comprehension_rule.takes (v ∷ [])) (Good gs) (fitting n comprehension_rule (v ∷ [])) _
        (fitting_forms (GoodAt gs) n comprehension_rule (v ∷ [])) λ _ f.
        bind (GoodAt gs) (λ ws. All (λ w. Well gs w × HasType w f.0) ws × Rising ws) (Good gs)
        (select (λ w. holdsᵖ budget gs p (ρ with x ≔ w)) (elems v)) _
        (select_forms gs (λ w. holdsᵖ budget gs p (ρ with x ≔ w)) (elems v) (λ w. Well gs w × HasType w f.0)
        (λ w hw. pred_forms p (ρ with x ≔ w) h.1 (with_good gs ρ x w e hw)) (elems_good gs v hv)
        (range_typed gs v f.0 hv f.2.0) (elems_well gs v (good_well gs v hv)).1) λ ws k.
        form_forms gs n (gives (set_of ws)) (selected_well_typed gs f.0 ws k)

-- The tree of a table with `Records` names only elements that exist.
abbrev LeafOf : List ℕ → Option Kind → Node → Type 0
LeafOf gs k d = (j : Leaf) → k ≡ some (leaf j) → LeafRight gs j d.a d.b

leaf_right : (tb : Table) (n : ℕ) (j : Leaf) → FieldsRight tb n (leaf_fields j) (field_words (node_at tb.nodes n)) →
    LeafRight tb.sizes j (node_at tb.nodes n).a (node_at tb.nodes n).b
leaf_right tb n identifier h = tt
leaf_right tb n given_set h = tt
leaf_right tb n element_of h = h.1.0
leaf_right tb n (literal k) h = tt
leaf_right tb n truth_const h = tt
leaf_right tb n empty_set h = tt
leaf_right tb n bool_set h = tt

-- A node that the table does not have is of no kind.
no_kind : (ns : List Node) (n : ℕ) → length ns ≤ n → kind_at ns n ≡ nothing
unfolding kind_of
no_kind ns n h = rw (get_or-eq_default ns no_node h) refl

node_leaf : (tb : Table) → Records tb → (n : ℕ) → LeafOf tb.sizes (kind_at tb.nodes n) (node_at tb.nodes n)
node_leaf tb r n j e = go (dec_lt n (length tb.nodes))
  where
    go : Dec (n < length tb.nodes) → LeafRight tb.sizes j (node_at tb.nodes n).a (node_at tb.nodes n).b
    go (yes h) = leaf_right tb n j (rw e at (r.fields n h))
    go (no h) =
        let k : kind_at tb.nodes n ≡ nothing = no_kind tb.nodes n (omega arith) in
        let z : ◌≡◌ {A = ℕ} 0 1 = cc in absurd (omega arith)

pred_of_leaves : (gs : List ℕ) (k : Option Kind) (n : ℕ) (d : Node) (p : ℕ → Pred) (e : ℕ → Expr) →
    ((m : ℕ) → Leavesᵖ gs (p m)) → ((m : ℕ) → Leavesᵉ gs (e m)) → Leavesᵖ gs (pred_of k n d p e)
pred_of_leaves gs nothing n d p e h l = (tt, tt)
pred_of_leaves gs (some (join j)) n d p e h l = (h d.a, h d.b)
pred_of_leaves gs (some negation) n d p e h l = h d.a
pred_of_leaves gs (some (test j)) n d p e h l = (l d.a, l d.b)
pred_of_leaves gs (some (quant j)) n d p e h l = (l d.b, h d.c)
pred_of_leaves gs (some (leaf j)) n d p e h l = (tt, tt)
pred_of_leaves gs (some bool_of) n d p e h l = (tt, tt)
pred_of_leaves gs (some (one j)) n d p e h l = (tt, tt)
pred_of_leaves gs (some (two j)) n d p e h l = (tt, tt)
pred_of_leaves gs (some comprehension) n d p e h l = (tt, tt)

expr_of_leaves : (gs : List ℕ) (k : Option Kind) (n : ℕ) (d : Node) (p : ℕ → Pred) (e : ℕ → Expr) →
    LeafOf gs k d → ((m : ℕ) → Leavesᵖ gs (p m)) → ((m : ℕ) → Leavesᵉ gs (e m)) → Leavesᵉ gs (expr_of k n d p e)
expr_of_leaves gs nothing n d p e r h l = tt
expr_of_leaves gs (some (join j)) n d p e r h l = tt
expr_of_leaves gs (some negation) n d p e r h l = tt
expr_of_leaves gs (some (test j)) n d p e r h l = tt
expr_of_leaves gs (some (quant j)) n d p e r h l = tt
expr_of_leaves gs (some (leaf j)) n d p e r h l = r j refl
expr_of_leaves gs (some bool_of) n d p e r h l = h d.a
expr_of_leaves gs (some (one j)) n d p e r h l = l d.a
expr_of_leaves gs (some (two j)) n d p e r h l = (l d.a, l d.b)
expr_of_leaves gs (some comprehension) n d p e r h l = (l d.b, h d.c)

module _ (tb : Table) (r : Records tb) where
  mutual
    unfolding pred_at

    pub pred_at_leaves : (f n : ℕ) → Leavesᵖ tb.sizes (pred_at f tb.nodes n)
    pred_at_leaves zero n = (tt, tt)
    pred_at_leaves (suc f) n =
        pred_of_leaves tb.sizes (kind_at tb.nodes n) n (node_at tb.nodes n)
        (λ m. pred_at f tb.nodes m) (λ m. expr_at f tb.nodes m) (λ m. pred_at_leaves f m) (λ m. expr_at_leaves f m)

    expr_at_leaves : (f n : ℕ) → Leavesᵉ tb.sizes (expr_at f tb.nodes n)
    expr_at_leaves zero n = tt
    expr_at_leaves (suc f) n =
        expr_of_leaves tb.sizes (kind_at tb.nodes n) n (node_at tb.nodes n)
        (λ m. pred_at f tb.nodes m) (λ m. expr_at f tb.nodes m) (node_leaf tb r n) (λ m. pred_at_leaves f m) (λ m. expr_at_leaves f m)

pub condition_leaves : (tb : Table) → Records tb → IfSome (Leavesᵖ tb.sizes) (condition_of tb)
condition_leaves tb r = condition_has tb (Leavesᵖ tb.sizes) (λ _. pred_at_leaves tb r (length tb.nodes) (last_node tb.nodes))

-- Every value that a run forms is good.
pub run_good : (tb : Table) (vs : List Value) (budget : ℕ) → Records tb →
    ((x : ℕ) → T (good tb.sizes (get_or vs x no_value))) → FormedGood tb.sizes (run tb vs budget).formed
unfolding run
run_good tb vs budget r h = go (condition_of tb) (condition_leaves tb r)
  where
    go : (c : Option Pred) → IfSome (Leavesᵖ tb.sizes) c → FormedGood tb.sizes (holdsᶜ budget tb.sizes c (λ x. get_or vs x no_value) 0).formed
    go nothing l = tt
    go (some p) l = (pred_forms budget tb.sizes p (λ x. get_or vs x no_value) l h 0).1

-- The value of an expression of the tree is good where the identifiers' values are.
pub value_good : (budget : ℕ) (tb : Table) → Records tb → (f n : ℕ) (ρ : Env) (s : ℕ) (v : Value) →
    ((x : ℕ) → T (good tb.sizes (ρ x))) → (valueᵉ budget tb.sizes (expr_at f tb.nodes n) ρ s).end ≡ done v → T (good tb.sizes v)
value_good budget tb r f n ρ s v h e =
    rw e at (expr_forms budget tb.sizes (expr_at f tb.nodes n) ρ (expr_at_leaves tb r f n) h s).0

-- Refusal 14: the values that it lets through.
ended_bind : {A B : Type 0} (P : A → Type 0) (Q : B → Type 0) (m : End A) (f : A → End B) →
    Ended P m → ((a : A) → P a → Ended Q (f a)) → Ended Q (EndsSafely.◌>>=◌ m f)
ended_bind P Q (done a) f h k = k a h
ended_bind P Q (refused r p) f h k = tt

fault_ended : (x : ℕ) (r : Read Value) → Ended Any (or_fault x r)
fault_ended x nothing = tt
fault_ended x (some r) = tt

require_ended : (r p : ℕ) (b : Bool) → Ended (λ _. T b) (require r p b)
require_ended r p true = tt
require_ended r p false = tt

-- The value of an identifier that the buffer has no value for is good.
pub no_value_good : (gs : List ℕ) → T (good gs no_value)
unfolding good
no_value_good gs = tt

value_for_ended : (gs : List ℕ) (w x : ℕ) (bs : List ℕ) → Ended (λ r. T (good gs r.0)) (value_for gs w x bs)
value_for_ended gs zero x bs =
    ended_bind Any (λ r. T (good gs r.0)) (or_fault x (value bs)) _ (fault_ended x (value bs)) λ r _.
    ended_bind (λ _. T (good gs r.0)) (λ r. T (good gs r.0)) (require 14 x (good gs r.0)) _
    (require_ended 14 x (good gs r.0)) λ _ h. h
value_for_ended gs (suc w) x bs = no_value_good gs

-- Good values, one for each identifier.
abbrev GoodFor : List ℕ → List ℕ → List Value → Type 0
GoodFor gs ws vs = All (Good gs) vs × (length vs ≡ length ws)

nothing_left_ended : (gs : List ℕ) (x : ℕ) (bs : List ℕ) → Ended (GoodFor gs []) (nothing_left x bs)
nothing_left_ended gs x [] = (tt, refl)
nothing_left_ended gs x (b ∷ bs) = tt

values_from_ended : (gs ws : List ℕ) (x : ℕ) (bs : List ℕ) → Ended (GoodFor gs ws) (values_from gs ws x bs)
unfolding values_from
values_from_ended gs [] x bs = nothing_left_ended gs x bs
values_from_ended gs (w ∷ ws) x bs =
    ended_bind (λ r. T (good gs r.0)) (GoodFor gs (w ∷ ws)) (value_for gs w x bs) _ (value_for_ended gs w x bs) λ r h.
    ended_bind (GoodFor gs ws) (GoodFor gs (w ∷ ws)) (values_from gs ws (suc x) r.1) _ (values_from_ended gs ws (suc x) r.1) λ vs k.
    ((h, k.0), ap suc k.1)

values_in_ended : (tb : Table) (bs : List ℕ) (vs : List Value) → values_in tb bs ≡ done vs → GoodFor tb.sizes tb.binds vs
unfolding values_in
values_in_ended tb bs vs e = rw e at (values_from_ended tb.sizes tb.binds 0 bs)

-- The values of a buffer that passes are good; a bound identifier has `no_value`, which is good too.
pub values_in_good : (tb : Table) (bs : List ℕ) (vs : List Value) → values_in tb bs ≡ done vs →
    (x : ℕ) → T (good tb.sizes (get_or vs x no_value))
values_in_good tb bs vs e x = all_at (Good tb.sizes) vs no_value (values_in_ended tb bs vs e).0 (no_value_good tb.sizes) x

-- There is a value for each identifier.
pub values_in_length : (tb : Table) (bs : List ℕ) (vs : List Value) → values_in tb bs ≡ done vs → length vs ≡ length tb.binds
values_in_length tb bs vs e = (values_in_ended tb bs vs e).1

-- Every value that an evaluation forms is good; where 14 refuses there is none.
pub evaluation_good : (bs buffer : List ℕ) (budget : ℕ) (tb : Table) → reading bs ≡ done tb → Records tb →
    FormedGood tb.sizes (evaluation bs buffer budget).formed
unfolding evaluation
evaluation_good bs buffer budget tb e r = rw e (go (values_in tb buffer) refl)
  where
    go : (v : End (List Value)) → values_in tb buffer ≡ v → FormedGood tb.sizes (go_on v 0 [] (λ vs _. run tb vs budget)).formed
    go (done vs) h = run_good tb vs budget r (values_in_good tb buffer vs h)
    go (refused k p) h = tt
