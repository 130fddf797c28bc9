-- A typed condition is never refused by 15, and every value that its evaluation forms has its node's type: `run_sound`.
use Prim.Native.Nat.{ℕ}
use mathlib.Core.List.{List, [], ◌∷◌}
use mathlib.Core.Bool.{Bool, true, false}
use mathlib.Core.Option.{Option, none as nothing, some}
use mathlib.Core.Path.{◌≡◌, sym, subst, ap, ◌∙◌}
use mathlib.Core.Logic.{◌⊎◌, inl, inr}
use native.Mathlib.Omega.{arith}
use lib.ListN.{get_or}
use lib.Dec.{T, ltb, leb, eqb, eqb→eq, eqb_refl}
use Rattle.rules.specs.Types.{Ty, POW}
use Rattle.rules.specs.Values.{Value, truth_value, weight}
use Rattle.rules.specs.Kinds.{Quant, for_all, for_some}
use Rattle.rules.specs.Rules.{Rule, Pattern, test_rule, one_rule, two_rule, quant_rule, comprehension_rule, Takes}
use Rattle.rules.specs.Fits.{HasType, FitAt, fits}
use Rattle.rules.specs.Tables.{Table, Pred, joinᵖ, notᵖ, testᵖ, quantᵖ, Expr, leafᵉ, boolᵉ, oneᵉ, twoᵉ, comprehensionᵉ, condition_of}
use Rattle.rules.specs.Ends.{End, done, refused}
use Rattle.rules.specs.Reading.{reading}
use Rattle.rules.specs.Readable.{Records}
use Rattle.rules.specs.Cells.{weight_limit, no_value, values_in}
use Rattle.rules.specs.Runs.{Trace, Run, M, return, go_on, ◌>>=◌, ◌>>◌, demand, counted, visit, emit, form, ◌or_else◌, Given, gives, lacks}
use Rattle.rules.specs.Operations.{Env, ◌with◌≔◌, decides, elems, set_of, leaf_value, one_value, two_value}
use Rattle.rules.specs.Evaluation.{fitting, quantify, select, holdsᵖ, valueᵉ, holdsᶜ, run, evaluation}
use Rattle.rules.specs.Verdict.{node_place, Whole}
use Rattle.rules.specs.Safety.{Free, Left, EndsSafely, Any, All}
use Rattle.laws.proofs.FitsLaws.{fits_right}
use Rattle.laws.proofs.ReadingLaws.{reading_records_law}
use Rattle.laws.proofs.TableLaws.{IfSome}
use Rattle.laws.proofs.TypedTree.{numberᵉ, Typedᵖ, Typedᵉ, TypedᵖAt, IsExpression, ◌adding◌, Scopedᵖ, Scopedᵉ, typed_root, scoped_root}
use Rattle.laws.proofs.SetOrder.{all_append}
use Rattle.laws.proofs.SetTypes.{AllHave, GivenHas, values_have, elems_have, one_has, two_has, leaf_has}

-- It is not refusal 15.
pub not_15 : {A : Type 0} (Q : A → Type 0) (e : End A) (n : ℕ) → EndsSafely Q e → e ≡ refused 15 n → ⊥
not_15 Q e n h p = let k : Left 15 = rw p at h in omega arith

-- Values have the types of a list, one by one.
abbrev pub Have : List Value → List Ty → Type 0
Have [] [] = Unit {0}
Have [] (x ∷ xs) = ⊥
Have (v ∷ vs) [] = ⊥
Have (v ∷ vs) (x ∷ xs) = HasType v x × Have vs xs

-- Operands of the types that a rule takes fit it.
pub takes_fit : (ps : List Pattern) (xs : List Ty) (vs : List Value) (t u : Ty) → Takes ps xs t u → Have vs xs → FitAt ps vs t u
takes_fit [] xs vs t u h k = tt
takes_fit (p ∷ ps) [] vs t u h k = absurd h
takes_fit (p ∷ ps) (x ∷ xs) [] t u h k = k
takes_fit (p ∷ ps) (x ∷ xs) (v ∷ vs) t u h k = (rw h.0 at k.0, takes_fit ps xs vs t u h.1 k.1)

-- An environment gives each identifier in scope a value of its type.
abbrev pub EnvHas : (ℕ → Ty) → (ℕ → Type 0) → Env → Type 0
EnvHas ι σ ρ = (x : ℕ) → σ x → HasType (ρ x) (ι x)

-- So it does after a member of a binder's range is bound.
pub with_has : (ι : ℕ → Ty) (σ : ℕ → Type 0) (ρ : Env) (x : ℕ) (v : Value) →
    EnvHas ι σ ρ → HasType v (ι x) → EnvHas ι (σ adding x) (ρ with x ≔ v)
with_has ι σ ρ x v h k y i = go (eqb x y) (eqb→eq x y) i (λ p. subst (λ (z : ℕ). T (eqb x z)) p (eqb_refl x))
  where
    go : (b : Bool) → (T b → x ≡ y) → (x ≡ y) ⊎ σ y → (x ≡ y → T b) → HasType (elim b [ true ↦ v | false ↦ ρ y ]) (ι y)
    go true e j f = subst (λ (z : ℕ). HasType v (ι z)) (e tt) k
    go false e (inl j) f = absurd (f j)
    go false e (inr j) f = h y j

-- The members of a range have the type of the identifier that the rule binds.
range_has : (v : Value) (x r t : Ty) → x ≡ t → r ≡ POW t → HasType v r → AllHave (elems v) x
range_has v x r t p q h = elems_have v x (subst (λ (z : Ty). HasType v z) (q ∙ ap POW (sym p)) h)

module _ (E : ℕ → Type 0) (ν : ℕ → Ty) where
  -- E holds of the node where a value is formed, and the value has its type.
  abbrev pub AtNode : ℕ × Value → Type 0
  AtNode x = E x.0 × HasType x.1 (ν x.0)

  -- From any number of visits, a run ends with Q or in a refusal that is left, and forms only values of their nodes' types.
  abbrev pub Sound : {A : Type 0} → (A → Type 0) → M A → Type 0
  Sound Q m = (s : ℕ) → EndsSafely Q (m s).end × All AtNode (m s).formed

  go_on_sound : {A B : Type 0} (P : A → Type 0) (Q : B → Type 0) (e : End A) (s : ℕ) (tr : Trace) (f : A → M B) → EndsSafely P e → All AtNode tr →
      ((a : A) → P a → Sound Q (f a)) → EndsSafely Q (go_on e s tr f).end × All AtNode (go_on e s tr f).formed
  go_on_sound P Q (done a) s tr f h k hf = ((hf a h s).0, all_append AtNode tr (f a s).formed k (hf a h s).1)
  go_on_sound P Q (refused r n) s tr f h k hf = (h, k)

  -- A run and what goes on from its answer.
  pub bind : {A B : Type 0} (P : A → Type 0) (Q : B → Type 0) (m : M A) (f : A → M B) →
      Sound P m → ((a : A) → P a → Sound Q (f a)) → Sound Q (m >>= f)
  bind P Q m f hm hf s = go_on_sound P Q (m s).end (m s).steps (m s).formed f (hm s).0 (hm s).1 hf

  counted_sound : (b : Bool) (n : ℕ) → Sound Any (counted b n)
  counted_sound true n s = (tt, tt)
  counted_sound false n s = ((omega arith, omega arith), tt)

  -- A visit, and what follows it.
  visited : {B : Type 0} (Q : B → Type 0) (budget n : ℕ) (m : M B) → Sound Q m → Sound Q (visit budget n >> m)
  visited Q budget n m h = bind Any Q (visit budget n) (λ _. m) (λ s. counted_sound (ltb s budget) n s) (λ _ _. h)

  demand_sound : (b : Bool) (r n : ℕ) → Left r → Sound Any (demand b r n)
  demand_sound true r n h s = (tt, tt)
  demand_sound false r n h s = (h, tt)

  demand_passes : (b : Bool) (r n : ℕ) → T b → Sound Any (demand b r n)
  demand_passes true r n h s = (tt, tt)
  demand_passes false r n h s = absurd h

  -- Operands that fit their node's rule pass 15.
  fitted : {B : Type 0} (Q : B → Type 0) (n : ℕ) (r : Rule) (vs : List Value) (t u : Ty) (m : M B) →
      FitAt r.takes vs t u → Sound Q m → Sound Q (fitting n r vs >> m)
  fitted Q n r vs t u m k h =
      bind Any Q (fitting n r vs) (λ _. m) (demand_passes (fits r.takes vs) 15 n ((fits_right r.takes vs).1 (t, u, k))) (λ _ _. h)

  -- A value of its node's type is formed, or 16 to 18 refuses.
  form_sound : (n : ℕ) (g : Given) → E n → GivenHas g (ν n) → Sound (λ v. HasType v (ν n)) (form n g)
  form_sound n (lacks r) i h = λ s. ((h.0, omega arith), tt)
  form_sound n (gives v) i h =
      bind Any (λ w. HasType w (ν n)) (demand (leb (weight v) weight_limit) 18 n) (λ _. emit n v)
      (demand_sound (leb (weight v) weight_limit) 18 n (omega arith, omega arith)) (λ _ _ s. (h, ((i, h), tt)))

  or_else_sound : (o : Option Bool) (m : M Bool) → Sound Any m → Sound Any (o or_else m)
  or_else_sound nothing m h = h
  or_else_sound (some b) m h = λ s. (tt, tt)

  -- The runs of a body at the members of a range.
  module _ (f : Value → M Bool) (t : Ty) (hf : (w : Value) → HasType w t → Sound Any (f w)) where
    quantify_sound : (j : Quant) (vs : List Value) → AllHave vs t → Sound Any (quantify j f vs)
    unfolding quantify
    quantify_sound for_all [] h = λ s. (tt, tt)
    quantify_sound for_all (v ∷ vs) h =
        let r = quantify_sound for_all vs h.1 in
        bind Any Any (f v) _ (hf v h.0) (λ b _. elim b as (λ k. Sound Any (elim k as (λ _. M Bool) [ true ↦ quantify for_all f vs | false ↦ return false ]))
        [ true ↦ r | false ↦ λ s. (tt, tt) ])
    quantify_sound for_some [] h = λ s. (tt, tt)
    quantify_sound for_some (v ∷ vs) h =
        let r = quantify_sound for_some vs h.1 in
        bind Any Any (f v) _ (hf v h.0) (λ b _. elim b as (λ k. Sound Any (elim k as (λ _. M Bool) [ true ↦ return true | false ↦ quantify for_some f vs ]))
        [ true ↦ λ s. (tt, tt) | false ↦ r ])

    select_sound : (vs : List Value) → AllHave vs t → Sound (λ ws. AllHave ws t) (select f vs)
    unfolding select
    select_sound [] h = λ s. (tt, tt)
    select_sound (v ∷ vs) h =
        bind Any (λ ws. AllHave ws t) (f v) _ (hf v h.0)
        (λ b _. bind (λ ws. AllHave ws t) (λ ws. AllHave ws t) (select f vs) _ (select_sound vs h.1)
        (λ ws g. elim b as (λ k. Sound (λ us. AllHave us t) (elim k as (λ _. M (List Value)) [ true ↦ return (v ∷ ws) | false ↦ return ws ]))
        [ true ↦ λ s. ((h.0, g), tt) | false ↦ λ s. (g, tt) ]))

  module _ (ι : ℕ → Ty) (budget : ℕ) (sizes : List ℕ) where
    -- A value has the type of an expression's node.
    abbrev Of : Expr → Value → Type 0
    Of a v = HasType v (ν (numberᵉ a))

    mutual
      unfolding holdsᵖ

      -- The runs of a typed and scoped tree at values of the identifiers' types.
      pub pred_sound : (p : Pred) (σ : ℕ → Type 0) (ρ : Env) → Typedᵖ E ι ν p → Scopedᵖ p σ → EnvHas ι σ ρ →
          Sound Any (holdsᵖ budget sizes p ρ)
      pred_sound (joinᵖ n j p q) σ ρ h c e =
          visited Any budget n _
          (bind Any Any (holdsᵖ budget sizes p ρ) _ (pred_sound p σ ρ h.0 c.0 e) λ a _.
          or_else_sound (decides j a) _ (bind Any Any (holdsᵖ budget sizes q ρ) _ (pred_sound q σ ρ h.1 c.1 e) λ b _ s. (tt, tt)))
      pred_sound (notᵖ n p) σ ρ h c e =
          visited Any budget n _ (bind Any Any (holdsᵖ budget sizes p ρ) _ (pred_sound p σ ρ h c e) λ a _ s. (tt, tt))
      pred_sound (testᵖ n j a b) σ ρ h c e =
          visited Any budget n _
          (bind (Of a) Any (valueᵉ budget sizes a ρ) _ (expr_sound a σ ρ h.0 c.0 e) λ v hv.
          bind (Of b) Any (valueᵉ budget sizes b ρ) _ (expr_sound b σ ρ h.1 c.1 e) λ w hw.
          fitted Any n (test_rule j) (v ∷ w ∷ []) h.2.0 h.2.1 _
          (takes_fit (test_rule j).takes (ν (numberᵉ a) ∷ ν (numberᵉ b) ∷ []) (v ∷ w ∷ []) h.2.0 h.2.1 h.2.3 (hv, (hw, tt)))
          λ s. (tt, tt))
      pred_sound (quantᵖ n j x r p) σ ρ h c e =
          visited Any budget n _
          (bind (Of r) Any (valueᵉ budget sizes r ρ) _ (expr_sound r σ ρ h.0 c.0 e) λ v hv.
          fitted Any n quant_rule (v ∷ []) h.2.0 h.2.1 _ (rw h.2.3.0 at hv, tt)
          (quantify_sound (λ w. holdsᵖ budget sizes p (ρ with x ≔ w)) (ι x)
          (λ w hw. pred_sound p (σ adding x) (ρ with x ≔ w) h.1 c.1 (with_has ι σ ρ x w e hw))
          j (elems v) (range_has v (ι x) (ν (numberᵉ r)) h.2.0 h.2.2 h.2.3.0 hv)))

      -- So too of an expression, whose value has its node's type.
      pub expr_sound : (a : Expr) (σ : ℕ → Type 0) (ρ : Env) → Typedᵉ E ι ν a → Scopedᵉ a σ → EnvHas ι σ ρ →
          Sound (λ v. HasType v (ν (numberᵉ a))) (valueᵉ budget sizes a ρ)
      expr_sound (leafᵉ n j a b) σ ρ h c e =
          visited (Of (leafᵉ n j a b)) budget n _
          (form_sound n (gives (leaf_value sizes j a b ρ)) h.1 (leaf_has sizes j a b ρ σ (ι a) (ν n) (e a) c h.0))
      expr_sound (boolᵉ n p) σ ρ h c e =
          visited (Of (boolᵉ n p)) budget n _
          (bind Any (Of (boolᵉ n p)) (holdsᵖ budget sizes p ρ) _ (pred_sound p σ ρ h.0 c e) λ b _.
          form_sound n (gives (truth_value b)) h.2 h.1.4)
      expr_sound (oneᵉ n j a) σ ρ h c e =
          visited (Of (oneᵉ n j a)) budget n _
          (bind (Of a) (Of (oneᵉ n j a)) (valueᵉ budget sizes a ρ) _ (expr_sound a σ ρ h.0 c e) λ v hv.
          let k = takes_fit (one_rule j).takes (ν (numberᵉ a) ∷ []) (v ∷ []) h.1.0 h.1.1 h.1.3 (hv, tt) in
          fitted (Of (oneᵉ n j a)) n (one_rule j) (v ∷ []) h.1.0 h.1.1 _ k
          (form_sound n (one_value j v) h.2 (one_has j v h.1.0 h.1.1 (ν n) k h.1.4)))
      expr_sound (twoᵉ n j a b) σ ρ h c e =
          visited (Of (twoᵉ n j a b)) budget n _
          (bind (Of a) (Of (twoᵉ n j a b)) (valueᵉ budget sizes a ρ) _ (expr_sound a σ ρ h.0 c.0 e) λ v hv.
          bind (Of b) (Of (twoᵉ n j a b)) (valueᵉ budget sizes b ρ) _ (expr_sound b σ ρ h.1 c.1 e) λ w hw.
          let es = ν (numberᵉ a) ∷ ν (numberᵉ b) ∷ [] in
          let k = takes_fit (two_rule j).takes es (v ∷ w ∷ []) h.2.0 h.2.1 h.2.3 (hv, (hw, tt)) in
          fitted (Of (twoᵉ n j a b)) n (two_rule j) (v ∷ w ∷ []) h.2.0 h.2.1 _ k
          (form_sound n (two_value j v w) h.3 (two_has j v w h.2.0 h.2.1 (ν n) k h.2.4)))
      expr_sound (comprehensionᵉ n x r p) σ ρ h c e =
          visited (Of (comprehensionᵉ n x r p)) budget n _
          (bind (Of r) (Of (comprehensionᵉ n x r p)) (valueᵉ budget sizes r ρ) _ (expr_sound r σ ρ h.0 c.0 e) λ v hv.
          fitted (Of (comprehensionᵉ n x r p)) n comprehension_rule (v ∷ []) h.2.0 h.2.1 _ (rw h.2.3.0 at hv, tt)
          (bind (λ ws. AllHave ws (ι x)) (Of (comprehensionᵉ n x r p)) (select (λ w. holdsᵖ budget sizes p (ρ with x ≔ w)) (elems v)) _
          (select_sound (λ w. holdsᵖ budget sizes p (ρ with x ≔ w)) (ι x)
          (λ w hw. pred_sound p (σ adding x) (ρ with x ≔ w) h.1 c.1 (with_has ι σ ρ x w e hw))
          (elems v) (range_has v (ι x) (ν (numberᵉ r)) h.2.0 h.2.2 h.2.3.0 hv)) λ ws hws.
          form_sound n (gives (set_of ws)) h.3
          (subst (λ (z : Ty). HasType (set_of ws) z) (ap POW h.2.2 ∙ sym h.2.4) (values_have ws (ι x) hws))))

-- A run ends in a truth or in a refusal of 16 to 19, and each value is formed at an expression and has its type at θ.
abbrev pub SoundRun : Table → (ℕ → Ty) → Run Bool → Type 0
SoundRun tb θ r = EndsSafely Any r.end × All (AtNode (IsExpression tb) (λ n. θ (node_place tb n))) r.formed

-- The run of a table with a whole typing θ, at values of θ's types for the free identifiers, is never refused by 15.
pub run_sound : (tb : Table) (θ : ℕ → Ty) (vs : List Value) (budget : ℕ) → Records tb → Whole tb θ →
    ((x : ℕ) → Free tb x → HasType (get_or vs x no_value) (θ x)) →
    SoundRun tb θ (run tb vs budget)
unfolding run
run_sound tb θ vs budget r w e = go (condition_of tb) (typed_root tb θ r w) (scoped_root tb r)
  where
    go : (c : Option Pred) → IfSome (TypedᵖAt tb θ) c → IfSome (λ p. Scopedᵖ p (Free tb)) c →
        SoundRun tb θ (holdsᶜ budget tb.sizes c (λ x. get_or vs x no_value) 0)
    go nothing t s = (tt, tt)
    go (some p) t s =
        pred_sound (IsExpression tb) (λ n. θ (node_place tb n)) θ budget tb.sizes p (Free tb) (λ x. get_or vs x no_value) t s e 0

-- Evaluate is the run of the table and the values that its bytes hold.
pub evaluation_run : (bs buffer : List ℕ) (budget : ℕ) (tb : Table) (vs : List Value) →
    reading bs ≡ done tb → values_in tb buffer ≡ done vs → evaluation bs buffer budget ≡ run tb vs budget
unfolding evaluation
evaluation_run bs buffer budget tb vs e f = rw (e, f)

-- So too of the bytes of a table, which is then readable, and of its values.
pub evaluation_sound : (bs buffer : List ℕ) (budget : ℕ) (tb : Table) (θ : ℕ → Ty) (vs : List Value) →
    reading bs ≡ done tb → values_in tb buffer ≡ done vs → Whole tb θ →
    ((x : ℕ) → Free tb x → HasType (get_or vs x no_value) (θ x)) →
    SoundRun tb θ (evaluation bs buffer budget)
evaluation_sound bs buffer budget tb θ vs e f w h =
    rw (evaluation_run bs buffer budget tb vs e f) (run_sound tb θ vs budget (reading_records_law bs tb e) w h)
