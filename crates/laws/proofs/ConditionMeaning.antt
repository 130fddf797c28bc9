-- Document 01, "Values and evaluation": a condition's truth and an expression's value in terms of sets alone, with no visits, order, budget
-- or refusal (`Trueᵖ`, `Denotes`), and that they are what evaluation answers: `evaluation_means`. An expression has at most one value
-- (`denotes_only`); it has none where choice or application lacks one, or a number leaves its bounds. Where a refusal ends the evaluation,
-- nothing is said.
use Prim.Native.Nat.{ℕ, ◌≤◌}
use mathlib.Core.Bool.{Bool, true, false, beq}
use mathlib.Core.List.{List, [], ◌∷◌}
use mathlib.Core.Logic.{◌↔◌, ◌⊎◌, inl, inr}
use mathlib.Core.Option.{Option, none as nothing, some}
use mathlib.Core.Path.{◌≡◌, refl, sym, ap, ◌∙◌, subst, subst₂}
use native.Mathlib.Omega.{arith}
use lib.Dec.{T, T_not, not_T}
use lib.ListN.{get_or}
use Rattle.rules.specs.Values.{Value, truth_value}
use Rattle.rules.specs.Kinds.{Join, and, or, implies, iff, Test, Quant, for_all, for_some}
use Rattle.rules.specs.Kinds.{Leaf, identifier, given_set, element_of, literal, truth_const, empty_set, bool_set}
use Rattle.rules.specs.Rules.{Rule, test_rule, one_rule, two_rule, quant_rule, comprehension_rule}
use Rattle.rules.specs.Fits.{Fits}
use Rattle.rules.specs.Tables.{Table, Pred, joinᵖ, notᵖ, testᵖ, quantᵖ, Expr, leafᵉ, boolᵉ, oneᵉ, twoᵉ, comprehensionᵉ, condition_of}
use Rattle.rules.specs.Ends.{End, done, refused}
use Rattle.rules.specs.Reading.{reading}
use Rattle.rules.specs.Readable.{Records}
use Rattle.rules.specs.Cells.{no_value, values_in}
use Rattle.rules.specs.Runs.{M, return, ◌>>=◌, visit, form, ◌or_else◌, Given, gives}
use Rattle.rules.specs.Operations.{elems, set_of, Env, ◌with◌≔◌, decides, joined, holds, leaf_value, one_value, two_value}
use Rattle.rules.specs.Evaluation.{fitting, quantify, select, holdsᵖ, valueᵉ, holdsᶜ, run, evaluation}
use Rattle.laws.proofs.CellsLaws.{good_well_formed, size_below}
use Rattle.laws.proofs.TableLaws.{IfSome}
use Rattle.laws.proofs.ReadingLaws.{reading_records_law}
use Rattle.laws.proofs.Soundness.{evaluation_run}
use Rattle.laws.proofs.SetOrder.{All, Any, Before, Rising, all_imp, elems_well}
use Rattle.laws.proofs.Membership.{In, all_in_law, in_all}
use Rattle.laws.proofs.SetMeaning.{◌∈◌, IsSetOf, TestMeans, OneMeans, TwoMeans, LeafMeans}
use Rattle.laws.proofs.SetMeaning.{set_of_law, set_of_only, test_means, one_means, two_means, leaf_means, one_only, two_only}
use Rattle.laws.proofs.FormedLaws.{Ended, Forms, bind, visit_forms, fitting_forms, given_forms}
use Rattle.laws.proofs.FormedLaws.{Good, EnvGood, Leavesᵖ, Leavesᵉ, elems_good, with_good, expr_forms, condition_leaves, values_in_good}

-- 1, 2, 3 and 5
abbrev pub JoinMeans : Join → Type 0 → Type 0 → Type 0
JoinMeans and P Q = P × Q
JoinMeans or P Q = P ⊎ Q
JoinMeans implies P Q = P → Q
JoinMeans iff P Q = P ↔ Q

-- 10 and 11, over the members of a list
abbrev pub QuantMeans : Quant → List Value → (Value → Type 0) → Type 0
QuantMeans for_all vs P = (w : Value) → In w vs → P w
QuantMeans for_some vs P = (w : Value) × In w vs × P w

-- Two truths of one proposition are the same.
same_truth : (b c : Bool) (P : Type 0) → (T b ↔ P) → (T c ↔ P) → b ≡ c
same_truth true true P h k = refl
same_truth true false P h k = absurd (k.1 (h.0 tt))
same_truth false true P h k = absurd (h.1 (k.0 tt))
same_truth false false P h k = refl

gives_eq : (v w : Value) → gives v ≡ gives w → v ≡ w
gives_eq v w e = cc

module _ (sizes : List ℕ) where
  abbrev mutual
    -- A condition is true where the identifiers have the values ρ.
    pub Trueᵖ : Pred → Env → Type 0
    Trueᵖ (joinᵖ n j p q) ρ = JoinMeans j (Trueᵖ p ρ) (Trueᵖ q ρ)
    Trueᵖ (notᵖ n p) ρ = Trueᵖ p ρ → ⊥
    Trueᵖ (testᵖ n j e f) ρ = (v : Value) × (w : Value) × Denotes e ρ v × Denotes f ρ w × TestMeans j v w
    Trueᵖ (quantᵖ n j x r p) ρ = (s : Value) × Denotes r ρ s × QuantMeans j (elems s) (λ w. Trueᵖ p (ρ with x ≔ w))

    -- An expression has the value v there.
    pub Denotes : Expr → Env → Value → Type 0
    Denotes (leafᵉ n j a b) ρ v = LeafMeans sizes j a b ρ v
    Denotes (boolᵉ n p) ρ v = (b : Bool) × (v ≡ truth_value b) × (T b ↔ Trueᵖ p ρ)
    Denotes (oneᵉ n j e) ρ v = (x : Value) × Denotes e ρ x × OneMeans j x (gives v)
    Denotes (twoᵉ n j e f) ρ v = (x : Value) × (y : Value) × Denotes e ρ x × Denotes f ρ y × TwoMeans j x y (gives v)
    Denotes (comprehensionᵉ n x r p) ρ v = (s : Value) × Denotes r ρ s × IsSetOf (λ w. (w ∈ s) × Trueᵖ p (ρ with x ≔ w)) v

  -- A condition that is absent is true.
  abbrev pub Trueᶜ : Option Pred → Env → Type 0
  Trueᶜ nothing ρ = Unit {0}
  Trueᶜ (some p) ρ = Trueᵖ p ρ

  leaf_only : (j : Leaf) (a b : ℕ) (ρ : Env) (v w : Value) → LeafMeans sizes j a b ρ v → LeafMeans sizes j a b ρ w → v ≡ w
  leaf_only identifier a b ρ v w h k = h ∙ sym k
  leaf_only given_set a b ρ v w h k = set_of_only _ v w h k
  leaf_only element_of a b ρ v w h k = h ∙ sym k
  leaf_only (literal n) a b ρ v w h k = h ∙ sym k
  leaf_only truth_const a b ρ v w h k = h ∙ sym k
  leaf_only empty_set a b ρ v w h k = set_of_only _ v w h k
  leaf_only bool_set a b ρ v w h k = set_of_only _ v w h k

  -- An expression has at most one value.
  pub denotes_only : (e : Expr) (ρ : Env) (v w : Value) → Denotes e ρ v → Denotes e ρ w → v ≡ w
  denotes_only (leafᵉ n j a b) ρ v w h k = leaf_only j a b ρ v w h k
  denotes_only (boolᵉ n p) ρ v w h k = h.1 ∙ ap truth_value (same_truth h.0 k.0 (Trueᵖ p ρ) h.2 k.2) ∙ sym k.1
  denotes_only (oneᵉ n j e) ρ v w h k =
      let q = denotes_only e ρ h.0 k.0 h.1 k.1 in
      gives_eq v w (one_only j k.0 (gives v) (gives w) (subst (λ (x : Value). OneMeans j x (gives v)) q h.2) k.2)
  denotes_only (twoᵉ n j e f) ρ v w h k =
      let q = denotes_only e ρ h.0 k.0 h.2 k.2 in
      let r = denotes_only f ρ h.1 k.1 h.3 k.3 in
      gives_eq v w
      (two_only j k.0 k.1 (gives v) (gives w) (subst₂ (λ (x : Value) (y : Value). TwoMeans j x y (gives v)) q r h.4) k.4)
  denotes_only (comprehensionᵉ n x r p) ρ v w h k =
      let q = denotes_only r ρ h.0 k.0 h.1 k.1 in
      set_of_only (λ y. (y ∈ k.0) × Trueᵖ p (ρ with x ≔ y)) v w
      (subst (λ (s : Value). IsSetOf (λ y. (y ∈ s) × Trueᵖ p (ρ with x ≔ y)) v) q h.2) k.2

-- The answer of a run, if it has one, has Q; the values formed do not matter.
abbrev AnswerHas : {A : Type 0} → (A → Type 0) → M A → Type 0
AnswerHas Q m = Forms Any Q m

visited_has : {B : Type 0} (Q : B → Type 0) (budget n : ℕ) (f : Unit {0} → M B) → AnswerHas Q (f tt) → AnswerHas Q (visit budget n >>= f)
visited_has Q budget n f h = bind Any Any Q (visit budget n) f (visit_forms Any budget n) (λ _ _. h)

fitted_has : {B : Type 0} (Q : B → Type 0) (n : ℕ) (r : Rule) (vs : List Value) (f : Unit {0} → M B) →
    (Fits r.takes vs → AnswerHas Q (f tt)) → AnswerHas Q (fitting n r vs >>= f)
fitted_has Q n r vs f h = bind Any (λ _. Fits r.takes vs) Q (fitting n r vs) f (fitting_forms Any n r vs) (λ _ k. h k)

form_has : (n : ℕ) (g : Given) (Q : Value → Type 0) → ((v : Value) → g ≡ gives v → Q v) → AnswerHas Q (form n g)
form_has n g Q h = given_forms Any Q n g (λ v e _. (h v e, tt))

ended_both : {A : Type 0} (P Q : A → Type 0) (e : End A) → Ended P e → Ended Q e → Ended (λ a. P a × Q a) e
ended_both P Q (done a) h k = (h, k)
ended_both P Q (refused r n) h k = tt

ended_imp : {A : Type 0} (P Q : A → Type 0) → ((a : A) → P a → Q a) → (e : End A) → Ended P e → Ended Q e
ended_imp P Q f (done a) h = f a h
ended_imp P Q f (refused r n) h = tt

imp_has : {A : Type 0} (P Q : A → Type 0) (m : M A) → ((a : A) → P a → Q a) → AnswerHas P m → AnswerHas Q m
imp_has P Q m f h s = (ended_imp P Q f (m s).end (h s).0, (h s).1)

-- 1, 2, 3 and 5: q is skipped only where p decides.
join_has : (j : Join) (a : Bool) (P Q : Type 0) (m : M Bool) → (T a ↔ P) → AnswerHas (λ b. T b ↔ Q) m →
    AnswerHas (λ c. T c ↔ JoinMeans j P Q) (decides j a or_else (m >>= λ b. return (joined j a b)))
join_has and true P Q m h k =
    bind Any (λ b. T b ↔ Q) (λ c. T c ↔ (P × Q)) m _ k (λ b q s. ((λ t. (h.0 tt, q.0 t), λ r. q.1 r.1), tt))
join_has and false P Q m h k = λ s. ((λ t. absurd t, λ r. h.1 r.0), tt)
join_has or true P Q m h k = λ s. ((λ t. inl (h.0 tt), λ r. tt), tt)
join_has or false P Q m h k = bind Any (λ b. T b ↔ Q) (λ c. T c ↔ (P ⊎ Q)) m _ k (λ b q s. ((λ t. inr (q.0 t), λ r. go b q r), tt))
  where
    go : (b : Bool) → (T b ↔ Q) → P ⊎ Q → T b
    go b q (inl p) = absurd (h.1 p)
    go b q (inr r) = q.1 r
join_has implies true P Q m h k =
    bind Any (λ b. T b ↔ Q) (λ c. T c ↔ (P → Q)) m _ k (λ b q s. ((λ t p. q.0 t, λ r. q.1 (r (h.0 tt))), tt))
join_has implies false P Q m h k = λ s. ((λ t p. absurd (h.1 p), λ r. tt), tt)
join_has iff a P Q m h k = bind Any (λ b. T b ↔ Q) (λ c. T c ↔ (P ↔ Q)) m _ k (λ b q s. (go a b h q, tt))
  where
    go : (a b : Bool) → (T a ↔ P) → (T b ↔ Q) → T (beq a b) ↔ (P ↔ Q)
    go true true p q = (λ t. (λ x. q.0 tt, λ y. p.0 tt), λ r. tt)
    go true false p q = (λ t. absurd t, λ r. q.1 (r.0 (p.0 tt)))
    go false true p q = (λ t. absurd t, λ r. p.1 (r.1 (q.0 tt)))
    go false false p q = (λ t. (λ x. absurd (p.1 x), λ y. absurd (q.1 y)), λ r. tt)

-- 10 and 11: the members behind the first that decides do not matter.
quantify_has : (j : Quant) (f : Value → M Bool) (P : Value → Type 0) (vs : List Value) → All (λ w. AnswerHas (λ b. T b ↔ P w) (f w)) vs →
    AnswerHas (λ b. T b ↔ QuantMeans j vs P) (quantify j f vs)
unfolding quantify
quantify_has for_all f P [] h = λ s. ((λ t w i. absurd i, λ r. tt), tt)
quantify_has for_all f P (v ∷ vs) h =
    let rest = quantify_has for_all f P vs h.1 in
    bind Any (λ b. T b ↔ P v) (λ b. T b ↔ QuantMeans for_all (v ∷ vs) P) (f v) _ h.0 λ b q.
    elim b as (λ c. T c ↔ P v → AnswerHas (λ b. T b ↔ QuantMeans for_all (v ∷ vs) P) (elim c [ true ↦ quantify for_all f vs | false ↦ return false ])) [
      | true ↦ λ x. imp_has (λ b. T b ↔ QuantMeans for_all vs P) (λ b. T b ↔ QuantMeans for_all (v ∷ vs) P) (quantify for_all f vs) (passed x) rest
      | false ↦ λ x s. ((λ t. absurd t, λ r. x.1 (r v (inl refl))), tt)
    ] q
  where
    passed : T true ↔ P v → (b : Bool) → T b ↔ QuantMeans for_all vs P → T b ↔ QuantMeans for_all (v ∷ vs) P
    passed q b k = (λ t w i. go (k.0 t) w i, λ r. k.1 (λ w i. r w (inr i)))
      where
        go : QuantMeans for_all vs P → (w : Value) → (w ≡ v) ⊎ In w vs → P w
        go r w (inl e) = subst P (sym e) (q.0 tt)
        go r w (inr i) = r w i
quantify_has for_some f P [] h = λ s. ((λ t. absurd t, λ r. r.1), tt)
quantify_has for_some f P (v ∷ vs) h =
    let rest = quantify_has for_some f P vs h.1 in
    bind Any (λ b. T b ↔ P v) (λ b. T b ↔ QuantMeans for_some (v ∷ vs) P) (f v) _ h.0 λ b q.
    elim b as (λ c. T c ↔ P v → AnswerHas (λ b. T b ↔ QuantMeans for_some (v ∷ vs) P) (elim c [ true ↦ return true | false ↦ quantify for_some f vs ])) [
      | true ↦ λ x s. ((λ t. (v, inl refl, x.0 tt), λ r. tt), tt)
      | false ↦ λ x. imp_has (λ b. T b ↔ QuantMeans for_some vs P) (λ b. T b ↔ QuantMeans for_some (v ∷ vs) P) (quantify for_some f vs) (passed x) rest
    ] q
  where
    passed : T false ↔ P v → (b : Bool) → T b ↔ QuantMeans for_some vs P → T b ↔ QuantMeans for_some (v ∷ vs) P
    passed q b k = (λ t. let r = k.0 t in (r.0, inr r.1, r.2), λ r. k.1 (go r.0 r.1 r.2))
      where
        go : (w : Value) → (w ≡ v) ⊎ In w vs → P w → QuantMeans for_some vs P
        go w (inl e) p = absurd (q.1 (subst P e p))
        go w (inr i) p = (w, i, p)

-- 34: the members at which the body is true, rising as the range does.
abbrev Selected : (Value → Type 0) → List Value → List Value → Type 0
Selected P vs ws = Rising ws × ((w : Value) → In w ws ↔ (In w vs × P w))

select_has : (f : Value → M Bool) (P : Value → Type 0) (vs : List Value) → Rising vs → All (λ w. AnswerHas (λ b. T b ↔ P w) (f w)) vs →
    AnswerHas (Selected P vs) (select f vs)
unfolding select
select_has f P [] r h = λ s. ((tt, λ w. (λ i. absurd i, λ k. k.0)), tt)
select_has f P (v ∷ vs) r h =
    bind Any (λ b. T b ↔ P v) (Selected P (v ∷ vs)) (f v) _ h.0 λ b q.
    bind Any (Selected P vs) (Selected P (v ∷ vs)) (select f vs) _ (select_has f P vs r.1 h.1) λ ws k. go b q ws k
  where
    go : (b : Bool) → T b ↔ P v → (ws : List Value) → Selected P vs ws →
        AnswerHas (Selected P (v ∷ vs)) (elim b [ true ↦ return (v ∷ ws) | false ↦ return ws ])
    go true q ws k =
        let l = in_all (Before v) ws (λ w i. all_in_law (Before v) w vs r.0 ((k.1 w).0 i).0) in
        λ s. (((l, k.0), λ w. (there w, λ x. back w x.0 x.1)), tt)
      where
        there : (w : Value) → (w ≡ v) ⊎ In w ws → ((w ≡ v) ⊎ In w vs) × P w
        there w (inl e) = (inl e, subst P (sym e) (q.0 tt))
        there w (inr i) = let x = (k.1 w).0 i in (inr x.0, x.1)

        back : (w : Value) → (w ≡ v) ⊎ In w vs → P w → (w ≡ v) ⊎ In w ws
        back w (inl e) p = inl e
        back w (inr i) p = inr ((k.1 w).1 (i, p))
    go false q ws k = λ s. ((k.0, λ w. (λ i. let x = (k.1 w).0 i in (inr x.0, x.1), λ x. back w x.0 x.1)), tt)
      where
        back : (w : Value) → (w ≡ v) ⊎ In w vs → P w → In w ws
        back w (inl e) p = absurd (q.1 (subst P e p))
        back w (inr i) p = (k.1 w).1 (i, p)

-- By the value rules, for given sets gs of at most 256 elements.
module _ (budget : ℕ) (gs : List ℕ) (few : (g : ℕ) → get_or gs g 0 ≤ 256) where
  -- A truth is that of a condition.
  abbrev pub TruthOf : Pred → Env → Bool → Type 0
  TruthOf p ρ b = T b ↔ Trueᵖ gs p ρ

  -- A good value of an expression.
  abbrev ValueOf : Expr → Env → Value → Type 0
  ValueOf a ρ v = Good gs v × Denotes gs a ρ v

  value_known : (a : Expr) (ρ : Env) → Leavesᵉ gs a → EnvGood gs ρ → AnswerHas (Denotes gs a ρ) (valueᵉ budget gs a ρ) →
      AnswerHas (ValueOf a ρ) (valueᵉ budget gs a ρ)
  value_known a ρ h e k s =
      (ended_both (Good gs) (Denotes gs a ρ) (valueᵉ budget gs a ρ s).end (expr_forms budget gs a ρ h e s).0 (k s).0, (k s).1)

  -- 6 to 9
  test_known : (n : ℕ) (j : Test) (a b : Expr) (ρ : Env) (v w : Value) → ValueOf a ρ v → ValueOf b ρ w → TruthOf (testᵖ n j a b) ρ (holds j v w)
  test_known n j a b ρ v w h k =
      let m = test_means gs few j v w (good_well_formed gs v h.0) (good_well_formed gs w k.0) in (
        λ t. (v, w, h.1, k.1, m.0 t),
        λ x. m.1 (subst₂ (TestMeans j) (denotes_only gs a ρ x.0 v x.2 h.1) (denotes_only gs b ρ x.1 w x.3 k.1) x.4),
      )

  -- 10 and 11
  quant_known : (n : ℕ) (j : Quant) (x : ℕ) (r : Expr) (p : Pred) (ρ : Env) (v : Value) → Denotes gs r ρ v → (b : Bool) →
      T b ↔ QuantMeans j (elems v) (λ w. Trueᵖ gs p (ρ with x ≔ w)) → TruthOf (quantᵖ n j x r p) ρ b
  quant_known n j x r p ρ v d b k = (
    λ t. (v, d, k.0 t),
    λ y. k.1 (subst (λ (s : Value). QuantMeans j (elems s) (λ w. Trueᵖ gs p (ρ with x ≔ w))) (denotes_only gs r ρ y.0 v y.1 d) y.2),
  )

  -- The body at each member of a range.
  bodies : (p : Pred) (x : ℕ) (ρ : Env) (v : Value) → EnvGood gs ρ → Good gs v →
      ((ρ₁ : Env) → EnvGood gs ρ₁ → AnswerHas (TruthOf p ρ₁) (holdsᵖ budget gs p ρ₁)) →
      All (λ w. AnswerHas (TruthOf p (ρ with x ≔ w)) (holdsᵖ budget gs p (ρ with x ≔ w))) (elems v)
  bodies p x ρ v e g f =
      all_imp (Good gs) (λ w. AnswerHas (TruthOf p (ρ with x ≔ w)) (holdsᵖ budget gs p (ρ with x ≔ w)))
      (λ w k. f (ρ with x ≔ w) (with_good gs ρ x w e k)) (elems v) (elems_good gs v g)

  mutual
    unfolding holdsᵖ

    pub pred_means : (p : Pred) (ρ : Env) → Leavesᵖ gs p → EnvGood gs ρ → AnswerHas (TruthOf p ρ) (holdsᵖ budget gs p ρ)
    pred_means (joinᵖ n j p q) ρ h e =
        visited_has (TruthOf (joinᵖ n j p q) ρ) budget n _
        (bind Any (TruthOf p ρ) (TruthOf (joinᵖ n j p q) ρ) (holdsᵖ budget gs p ρ) _ (pred_means p ρ h.0 e) λ a k.
        join_has j a (Trueᵖ gs p ρ) (Trueᵖ gs q ρ) (holdsᵖ budget gs q ρ) k (pred_means q ρ h.1 e))
    pred_means (notᵖ n p) ρ h e =
        visited_has (TruthOf (notᵖ n p) ρ) budget n _
        (bind Any (TruthOf p ρ) (TruthOf (notᵖ n p) ρ) (holdsᵖ budget gs p ρ) _ (pred_means p ρ h e) λ a k s.
        ((λ t x. T_not a t (k.1 x), λ r. not_T a (λ t. r (k.0 t))), tt))
    pred_means (testᵖ n j a b) ρ h e =
        visited_has (TruthOf (testᵖ n j a b) ρ) budget n _
        (bind Any (ValueOf a ρ) (TruthOf (testᵖ n j a b) ρ) (valueᵉ budget gs a ρ) _ (value_known a ρ h.0 e (value_means a ρ h.0 e)) λ v x.
        bind Any (ValueOf b ρ) (TruthOf (testᵖ n j a b) ρ) (valueᵉ budget gs b ρ) _ (value_known b ρ h.1 e (value_means b ρ h.1 e)) λ w y.
        fitted_has (TruthOf (testᵖ n j a b) ρ) n (test_rule j) (v ∷ w ∷ []) _ λ _ s. (test_known n j a b ρ v w x y, tt))
    pred_means (quantᵖ n j x r p) ρ h e =
        visited_has (TruthOf (quantᵖ n j x r p) ρ) budget n _
        (bind Any (ValueOf r ρ) (TruthOf (quantᵖ n j x r p) ρ) (valueᵉ budget gs r ρ) _ (value_known r ρ h.0 e (value_means r ρ h.0 e)) λ v y.
        fitted_has (TruthOf (quantᵖ n j x r p) ρ) n quant_rule (v ∷ []) _ λ _.
        imp_has (λ b. T b ↔ QuantMeans j (elems v) (λ w. Trueᵖ gs p (ρ with x ≔ w))) (TruthOf (quantᵖ n j x r p) ρ)
        (quantify j (λ w. holdsᵖ budget gs p (ρ with x ≔ w)) (elems v)) (quant_known n j x r p ρ v y.1)
        (quantify_has j (λ w. holdsᵖ budget gs p (ρ with x ≔ w)) (λ w. Trueᵖ gs p (ρ with x ≔ w)) (elems v)
        (bodies p x ρ v e y.0 (λ ρ₁ g. pred_means p ρ₁ h.1 g))))

    pub value_means : (a : Expr) (ρ : Env) → Leavesᵉ gs a → EnvGood gs ρ → AnswerHas (Denotes gs a ρ) (valueᵉ budget gs a ρ)
    value_means (leafᵉ n j a b) ρ h e =
        visited_has (Denotes gs (leafᵉ n j a b) ρ) budget n _
        (form_has n (gives (leaf_value gs j a b ρ)) (LeafMeans gs j a b ρ)
        (λ v q. subst (LeafMeans gs j a b ρ) (gives_eq (leaf_value gs j a b ρ) v q) (leaf_means gs j a b ρ)))
    value_means (boolᵉ n p) ρ h e =
        visited_has (Denotes gs (boolᵉ n p) ρ) budget n _
        (bind Any (TruthOf p ρ) (Denotes gs (boolᵉ n p) ρ) (holdsᵖ budget gs p ρ) _ (pred_means p ρ h e) λ b k.
        form_has n (gives (truth_value b)) (Denotes gs (boolᵉ n p) ρ) (λ v q. (b, sym (gives_eq (truth_value b) v q), k)))
    value_means (oneᵉ n j a) ρ h e =
        visited_has (Denotes gs (oneᵉ n j a) ρ) budget n _
        (bind Any (ValueOf a ρ) (Denotes gs (oneᵉ n j a) ρ) (valueᵉ budget gs a ρ) _ (value_known a ρ h e (value_means a ρ h e)) λ v x.
        fitted_has (Denotes gs (oneᵉ n j a) ρ) n (one_rule j) (v ∷ []) _ λ f.
        form_has n (one_value j v) (Denotes gs (oneᵉ n j a) ρ)
        (λ r q. (v, x.1, subst (OneMeans j v) q (one_means gs few j v (good_well_formed gs v x.0) f))))
    value_means (twoᵉ n j a b) ρ h e =
        visited_has (Denotes gs (twoᵉ n j a b) ρ) budget n _
        (bind Any (ValueOf a ρ) (Denotes gs (twoᵉ n j a b) ρ) (valueᵉ budget gs a ρ) _ (value_known a ρ h.0 e (value_means a ρ h.0 e)) λ v x.
        bind Any (ValueOf b ρ) (Denotes gs (twoᵉ n j a b) ρ) (valueᵉ budget gs b ρ) _ (value_known b ρ h.1 e (value_means b ρ h.1 e)) λ w y.
        fitted_has (Denotes gs (twoᵉ n j a b) ρ) n (two_rule j) (v ∷ w ∷ []) _ λ f.
        form_has n (two_value j v w) (Denotes gs (twoᵉ n j a b) ρ) (λ r q.
        (v, w, x.1, y.1, subst (TwoMeans j v w) q (two_means gs few j v w (good_well_formed gs v x.0) (good_well_formed gs w y.0) f))))
    value_means (comprehensionᵉ n x r p) ρ h e =
        visited_has (Denotes gs (comprehensionᵉ n x r p) ρ) budget n _
        (bind Any (ValueOf r ρ) (Denotes gs (comprehensionᵉ n x r p) ρ) (valueᵉ budget gs r ρ) _ (value_known r ρ h.0 e (value_means r ρ h.0 e)) λ v y.
        fitted_has (Denotes gs (comprehensionᵉ n x r p) ρ) n comprehension_rule (v ∷ []) _ λ _.
        bind Any (Selected (λ w. Trueᵖ gs p (ρ with x ≔ w)) (elems v)) (Denotes gs (comprehensionᵉ n x r p) ρ)
        (select (λ w. holdsᵖ budget gs p (ρ with x ≔ w)) (elems v)) _
        (select_has (λ w. holdsᵖ budget gs p (ρ with x ≔ w)) (λ w. Trueᵖ gs p (ρ with x ≔ w)) (elems v)
        (elems_well gs v (good_well_formed gs v y.0)).1 (bodies p x ρ v e y.0 (λ ρ₁ g. pred_means p ρ₁ h.1 g))) λ ws k.
        form_has n (gives (set_of ws)) (Denotes gs (comprehensionᵉ n x r p) ρ) (λ z q. (
          v,
          y.1,
          subst (IsSetOf (λ w. (w ∈ v) × Trueᵖ gs p (ρ with x ≔ w))) (gives_eq (set_of ws) z q)
              (set_of_law (λ w. (w ∈ v) × Trueᵖ gs p (ρ with x ≔ w)) ws k.0 k.1),
        )))

-- The truth that Evaluate answers is that of the condition, at the values of the buffer.
pub evaluation_means : (bs buffer : List ℕ) (budget : ℕ) (tb : Table) (vs : List Value) (b : Bool) →
    reading bs ≡ done tb → values_in tb buffer ≡ done vs → (evaluation bs buffer budget).end ≡ done b →
    T b ↔ Trueᶜ tb.sizes (condition_of tb) (λ x. get_or vs x no_value)
unfolding run
evaluation_means bs buffer budget tb vs b e f a =
    go (condition_of tb) (condition_leaves tb right) (rw (evaluation_run bs buffer budget tb vs e f) at a)
  where
    right : Records tb
    right = reading_records_law bs tb e

    few : (g : ℕ) → get_or tb.sizes g 0 ≤ 256
    few = size_below tb.sizes 256 (λ g l. omega (arith, (right.sizes g l).1))

    ρ : Env
    ρ x = get_or vs x no_value

    go : (c : Option Pred) → IfSome (Leavesᵖ tb.sizes) c → (holdsᶜ budget tb.sizes c ρ 0).end ≡ done b → T b ↔ Trueᶜ tb.sizes c ρ
    go nothing l q = let t : b ≡ true = cc in rw t (λ _. tt, λ _. tt)
    go (some p) l q = let k = (pred_means budget tb.sizes few p ρ l (values_in_good tb buffer vs f) 0).0 in rw q at k
