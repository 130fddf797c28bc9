-- A typing and the binding rules of a table, said of the tree of its condition: `typed_root` and `scoped_root`.
use Prim.Native.Nat.{ℕ, zero, suc, ◌+◌, ◌<◌}
use mathlib.Core.List.{List, [], ◌∷◌}
use mathlib.Core.Bool.{Bool, true, false, not, cond, ◌||◌, ◌&&◌}
use mathlib.Core.Option.{Option, none as nothing, some}
use mathlib.Core.Path.{◌≡◌, refl, sym, subst}
use mathlib.Core.Logic.{◌⊎◌, inl, inr}
use native.Mathlib.Omega.{arith}
use lib.Dec.{T, eqb, leb, eqb→eq, eqb_refl}
use lib.ListN.{get_or, length}
use Rattle.rules.specs.Types.{Ty}
use Rattle.rules.specs.Kinds.{Leaf, identifier, given_set, element_of, literal, truth_const, empty_set, bool_set}
use Rattle.rules.specs.Kinds.{Kind, join, negation, test, quant, leaf, bool_of, one, two, comprehension}
use Rattle.rules.specs.Kinds.{predicate, expression, Field, fields_of, is_binder}
use Rattle.rules.specs.Rules.{test_rule, leaf_rule, one_rule, two_rule, quant_rule, comprehension_rule, ◌gives◌, boolᵖ, Obeys}
use Rattle.rules.specs.Tables.{Node, Table, node_at, kind_at, fields_if, field_words, pick, last_node, condition_of}
use Rattle.rules.specs.Tables.{Pred, joinᵖ, notᵖ, testᵖ, quantᵖ, Expr, leafᵉ, boolᵉ, oneᵉ, twoᵉ, comprehensionᵉ}
use Rattle.rules.specs.Tables.{pred_of, expr_of, pred_at, expr_at}
use Rattle.rules.specs.Reading.{occurrences, upward, occurs_in, occurs_in_any, occurs_step, occurs_free, occurs_in_root, binders}
use Rattle.rules.specs.Readable.{CategoryIs, KindRight, BindingRight, Records}
use Rattle.rules.specs.Verdict.{node_place, ObeysKind, Whole}
use Rattle.rules.specs.Safety.{Free}
use Rattle.rules.proofs.Basics.{absurd01, any_default}
use Rattle.laws.proofs.TableLaws.{some_root, root_tree, IfSome, condition_has}

-- The number of an expression's node.
abbrev pub numberᵉ : Expr → ℕ
numberᵉ (leafᵉ n j a b) = n
numberᵉ (boolᵉ n p) = n
numberᵉ (oneᵉ n j e) = n
numberᵉ (twoᵉ n j e f) = n
numberᵉ (comprehensionᵉ n x r p) = n

-- Every node of a tree obeys its rule, at the types ι of the identifiers and ν of the nodes, and E holds of its expressions.
-- Where field a holds a child, the rule says nothing of an identifier.
module _ (E : ℕ → Type 0) (ι ν : ℕ → Ty) where
  abbrev mutual
    pub Typedᵖ : Pred → Type 0
    Typedᵖ (joinᵖ n j p q) = Typedᵖ p × Typedᵖ q
    Typedᵖ (notᵖ n p) = Typedᵖ p
    Typedᵖ (testᵖ n j e f) = Typedᵉ e × Typedᵉ f × Obeys (test_rule j) (ι (numberᵉ e)) (ν (numberᵉ e) ∷ ν (numberᵉ f) ∷ []) (ν n)
    Typedᵖ (quantᵖ n j x r p) = Typedᵉ r × Typedᵖ p × Obeys quant_rule (ι x) (ν (numberᵉ r) ∷ []) (ν n)

    pub Typedᵉ : Expr → Type 0
    Typedᵉ (leafᵉ n j a b) = Obeys (leaf_rule j a) (ι a) [] (ν n) × E n
    Typedᵉ (boolᵉ n p) = Typedᵖ p × Obeys ([] gives boolᵖ) (ι 0) [] (ν n) × E n
    Typedᵉ (oneᵉ n j e) = Typedᵉ e × Obeys (one_rule j) (ι (numberᵉ e)) (ν (numberᵉ e) ∷ []) (ν n) × E n
    Typedᵉ (twoᵉ n j e f) = Typedᵉ e × Typedᵉ f × Obeys (two_rule j) (ι (numberᵉ e)) (ν (numberᵉ e) ∷ ν (numberᵉ f) ∷ []) (ν n) × E n
    Typedᵉ (comprehensionᵉ n x r p) = Typedᵉ r × Typedᵖ p × Obeys comprehension_rule (ι x) (ν (numberᵉ r) ∷ []) (ν n) × E n

-- The identifier that a leaf uses is in scope; the other leaves use none.
abbrev pub Uses : Leaf → (ℕ → Type 0) → ℕ → Type 0
Uses identifier σ a = σ a
Uses given_set σ a = Unit {0}
Uses element_of σ a = Unit {0}
Uses (literal n) σ a = Unit {0}
Uses truth_const σ a = Unit {0}
Uses empty_set σ a = Unit {0}
Uses bool_set σ a = Unit {0}

infixl 40 ◌adding◌
-- The scope of the body of a binder of x.
abbrev pub ◌adding◌ : (ℕ → Type 0) → ℕ → ℕ → Type 0
σ adding x = λ y. (x ≡ y) ⊎ σ y

-- Every identifier used is in scope; a binder's identifier is in its body, not in its range.
abbrev mutual
  pub Scopedᵖ : Pred → (ℕ → Type 0) → Type 0
  Scopedᵖ (joinᵖ n j p q) σ = Scopedᵖ p σ × Scopedᵖ q σ
  Scopedᵖ (notᵖ n p) σ = Scopedᵖ p σ
  Scopedᵖ (testᵖ n j e f) σ = Scopedᵉ e σ × Scopedᵉ f σ
  Scopedᵖ (quantᵖ n j x r p) σ = Scopedᵉ r σ × Scopedᵖ p (σ adding x)

  pub Scopedᵉ : Expr → (ℕ → Type 0) → Type 0
  Scopedᵉ (leafᵉ n j a b) σ = Uses j σ a
  Scopedᵉ (boolᵉ n p) σ = Scopedᵖ p σ
  Scopedᵉ (oneᵉ n j e) σ = Scopedᵉ e σ
  Scopedᵉ (twoᵉ n j e f) σ = Scopedᵉ e σ × Scopedᵉ f σ
  Scopedᵉ (comprehensionᵉ n x r p) σ = Scopedᵉ r σ × Scopedᵖ p (σ adding x)

number_of : (k : Option Kind) (n : ℕ) (d : Node) (p : ℕ → Pred) (e : ℕ → Expr) → numberᵉ (expr_of k n d p e) ≡ n
number_of nothing n d p e = refl
number_of (some (join j)) n d p e = refl
number_of (some negation) n d p e = refl
number_of (some (test j)) n d p e = refl
number_of (some (quant j)) n d p e = refl
number_of (some (leaf j)) n d p e = refl
number_of (some bool_of) n d p e = refl
number_of (some (one j)) n d p e = refl
number_of (some (two j)) n d p e = refl
number_of (some comprehension) n d p e = refl

-- The tree at node n has the number n.
pub number_at : (f : ℕ) (ns : List Node) (n : ℕ) → numberᵉ (expr_at f ns n) ≡ n
unfolding pred_at
number_at zero ns n = refl
number_at (suc f) ns n = number_of (kind_at ns n) n (node_at ns n) (λ m. pred_at f ns m) (λ m. expr_at f ns m)

-- No kind is of both categories.
one_category : {A : Type 0} → predicate ≡ expression → A
one_category e = absurd01 (cc)

-- A node of the table that is an expression.
abbrev pub IsExpression : Table → ℕ → Type 0
IsExpression tb n = (n < length tb.nodes) × CategoryIs expression (kind_at tb.nodes n)

-- The tree obeys the rules at the types θ of the table's places.
abbrev pub TypedᵖAt : Table → (ℕ → Ty) → Pred → Type 0
TypedᵖAt tb θ = Typedᵖ (IsExpression tb) θ (λ n. θ (node_place tb n))

abbrev pub TypedᵉAt : Table → (ℕ → Ty) → Expr → Type 0
TypedᵉAt tb θ = Typedᵉ (IsExpression tb) θ (λ n. θ (node_place tb n))

module _ (tb : Table) (θ : ℕ → Ty) where
  abbrev record_of : ℕ → Node
  record_of n = node_at tb.nodes n

  -- The children of a node, by category, that are typed.
  abbrev TypedᵖBelow : ℕ → (ℕ → Pred) → Type 0
  TypedᵖBelow n p = (m : ℕ) → m < n → CategoryIs predicate (kind_at tb.nodes m) → TypedᵖAt tb θ (p m)

  abbrev TypedᵉBelow : ℕ → (ℕ → Expr) → Type 0
  TypedᵉBelow n e = (m : ℕ) → m < n → CategoryIs expression (kind_at tb.nodes m) → TypedᵉAt tb θ (e m)

  typed_pred_of : (k : Option Kind) (n : ℕ) (p : ℕ → Pred) (e : ℕ → Expr) → CategoryIs predicate k →
      KindRight tb n k (field_words (record_of n)) → ObeysKind tb θ n k →
      TypedᵖBelow n p → TypedᵉBelow n e → ((m : ℕ) → numberᵉ (e m) ≡ m) → TypedᵖAt tb θ (pred_of k n (record_of n) p e)
  typed_pred_of nothing n p e i c o hp he hn = absurd i
  typed_pred_of (some (join j)) n p e i c o hp he hn = (hp _ c.0.0 c.0.1, hp _ c.1.0.0 c.1.0.1)
  typed_pred_of (some negation) n p e i c o hp he hn = hp _ c.0.0 c.0.1
  typed_pred_of (some (test j)) n p e i c o hp he hn =
      (he _ c.0.0 c.0.1, he _ c.1.0.0 c.1.0.1, rw (hn (record_of n).a, hn (record_of n).b) o)
  typed_pred_of (some (quant j)) n p e i c o hp he hn =
      (he _ c.1.0.0 c.1.0.1, hp _ c.1.1.0.0 c.1.1.0.1, rw (hn (record_of n).b) o)
  typed_pred_of (some (leaf j)) n p e i c o hp he hn = one_category (sym i)
  typed_pred_of (some bool_of) n p e i c o hp he hn = one_category (sym i)
  typed_pred_of (some (one j)) n p e i c o hp he hn = one_category (sym i)
  typed_pred_of (some (two j)) n p e i c o hp he hn = one_category (sym i)
  typed_pred_of (some comprehension) n p e i c o hp he hn = one_category (sym i)

  typed_expr_of : (k : Option Kind) (n : ℕ) (p : ℕ → Pred) (e : ℕ → Expr) → CategoryIs expression k → IsExpression tb n →
      KindRight tb n k (field_words (record_of n)) → ObeysKind tb θ n k →
      TypedᵖBelow n p → TypedᵉBelow n e → ((m : ℕ) → numberᵉ (e m) ≡ m) → TypedᵉAt tb θ (expr_of k n (record_of n) p e)
  typed_expr_of nothing n p e i q c o hp he hn = absurd i
  typed_expr_of (some (join j)) n p e i q c o hp he hn = one_category i
  typed_expr_of (some negation) n p e i q c o hp he hn = one_category i
  typed_expr_of (some (test j)) n p e i q c o hp he hn = one_category i
  typed_expr_of (some (quant j)) n p e i q c o hp he hn = one_category i
  typed_expr_of (some (leaf identifier)) n p e i q c o hp he hn = (o, q)
  typed_expr_of (some (leaf given_set)) n p e i q c o hp he hn = (o, q)
  typed_expr_of (some (leaf element_of)) n p e i q c o hp he hn = (o, q)
  typed_expr_of (some (leaf (literal k))) n p e i q c o hp he hn = (o, q)
  typed_expr_of (some (leaf truth_const)) n p e i q c o hp he hn = (o, q)
  typed_expr_of (some (leaf empty_set)) n p e i q c o hp he hn = (o, q)
  typed_expr_of (some (leaf bool_set)) n p e i q c o hp he hn = (o, q)
  typed_expr_of (some bool_of) n p e i q c o hp he hn = (hp _ c.0.0 c.0.1, o, q)
  typed_expr_of (some (one j)) n p e i q c o hp he hn = (he _ c.0.0 c.0.1, rw (hn (record_of n).a) o, q)
  typed_expr_of (some (two j)) n p e i q c o hp he hn =
      (he _ c.0.0 c.0.1, he _ c.1.0.0 c.1.0.1, rw (hn (record_of n).a, hn (record_of n).b) o, q)
  typed_expr_of (some comprehension) n p e i q c o hp he hn =
      (he _ c.1.0.0 c.1.0.1, hp _ c.1.1.0.0 c.1.1.0.1, rw (hn (record_of n).b) o, q)

  module _ (r : Records tb) (w : Whole tb θ) where
    mutual
      unfolding pred_at

      -- The trees at the nodes of a whole typing are typed.
      pub typed_pred_at : (f n : ℕ) → n < f → n < length tb.nodes → CategoryIs predicate (kind_at tb.nodes n) →
          TypedᵖAt tb θ (pred_at f tb.nodes n)
      typed_pred_at zero n h l i = absurd (omega arith)
      typed_pred_at (suc f) n h l i =
          typed_pred_of (kind_at tb.nodes n) n (λ m. pred_at f tb.nodes m) (λ m. expr_at f tb.nodes m) i (r.fields n l) (w.obeyed n l)
          (λ m q c. typed_pred_at f m (omega arith) (omega arith) c) (λ m q c. typed_expr_at f m (omega arith) (omega arith) c)
          (λ m. number_at f tb.nodes m)

      -- So too of an expression.
      pub typed_expr_at : (f n : ℕ) → n < f → n < length tb.nodes → CategoryIs expression (kind_at tb.nodes n) →
          TypedᵉAt tb θ (expr_at f tb.nodes n)
      typed_expr_at zero n h l i = absurd (omega arith)
      typed_expr_at (suc f) n h l i =
          typed_expr_of (kind_at tb.nodes n) n (λ m. pred_at f tb.nodes m) (λ m. expr_at f tb.nodes m) i (l, i) (r.fields n l)
          (w.obeyed n l)
          (λ m q c. typed_pred_at f m (omega arith) (omega arith) c) (λ m q c. typed_expr_at f m (omega arith) (omega arith) c)
          (λ m. number_at f tb.nodes m)

-- A whole typing of a table types the tree of its condition.
pub typed_root : (tb : Table) (θ : ℕ → Ty) → Records tb → Whole tb θ → IfSome (TypedᵖAt tb θ) (condition_of tb)
unfolding last_node
typed_root tb θ r w =
    condition_has tb (TypedᵖAt tb θ)
    (λ h. typed_pred_at tb θ r w (length tb.nodes) (last_node tb.nodes) (omega arith) (omega arith) (r.root h))

or_false : (a b : Bool) → a || b ≡ false → (a ≡ false) × (b ≡ false)
or_false true b h = absurd01 (cc)
or_false false b h = (refl, h)

module _ (limit : ℕ) where
  -- Every identifier below the limit is in scope or fails a test.
  abbrev pub InScope : (ℕ → Type 0) → (ℕ → Bool) → Type 0
  InScope σ occ = (x : ℕ) → x < limit → σ x ⊎ (occ x ≡ false)

  module _ (σ : ℕ → Type 0) where
    or_left : (a b : ℕ → Bool) → InScope σ (λ x. a x || b x) → InScope σ a
    or_left a b h x l = go (h x l)
      where
        go : σ x ⊎ (a x || b x ≡ false) → σ x ⊎ (a x ≡ false)
        go (inl s) = inl s
        go (inr e) = inr (or_false (a x) (b x) e).0

    or_right : (a b : ℕ → Bool) → InScope σ (λ x. a x || b x) → InScope σ b
    or_right a b h x l = go (h x l)
      where
        go : σ x ⊎ (a x || b x ≡ false) → σ x ⊎ (b x ≡ false)
        go (inl s) = inl s
        go (inr e) = inr (or_false (a x) (b x) e).1

    -- The body of a binder of a: `not (leb 1 ..)` is what `binds_here` leaves of it.
    in_body : (a : ℕ) (occ : ℕ → Bool) → InScope σ (λ x. not (leb 1 (occurrences x (a ∷ []))) && occ x) → InScope (σ adding a) occ
    unfolding occurrences
    in_body a occ h x l = go (eqb x a) (eqb→eq x a) (h x l)
      where
        go : (b : Bool) → (T b → x ≡ a) → σ x ⊎ (not (leb 1 (cond b 1 0 + 0)) && occ x ≡ false) → ((a ≡ x) ⊎ σ x) ⊎ (occ x ≡ false)
        go true e k = inl (inl (sym (e tt)))
        go false e (inl s) = inl (inr s)
        go false e (inr k) = inr k

    -- An identifier that is used is in scope.
    used : (a : ℕ) → a < limit → InScope σ (λ x. eqb x a) → σ a
    used a l h = go (eqb a a) (eqb_refl a) (h a l)
      where
        go : (b : Bool) → T b → σ a ⊎ (b ≡ false) → σ a
        go true t (inl s) = s
        go true t (inr e) = absurd01 (cc)
        go false t k = absurd t

    module _ (b : ℕ → Bool) (occ : ℕ → ℕ → Bool) where
      abbrev Each : List Field → List ℕ → Type 0
      Each [] ys = Unit {0}
      Each (f ∷ fs) [] = Unit {0}
      Each (f ∷ fs) (y ∷ ys) = InScope σ (λ x. occurs_in x (b x) (occ x) f y) × Each fs ys

      each_field : (fs : List Field) (ys : List ℕ) → InScope σ (λ x. occurs_in_any x (b x) (occ x) fs ys) → Each fs ys
      each_field [] ys h = tt
      each_field (f ∷ fs) [] h = tt
      each_field (f ∷ fs) (y ∷ ys) h = (
        or_left (λ x. occurs_in x (b x) (occ x) f y) (λ x. occurs_in_any x (b x) (occ x) fs ys) h,
        each_field fs ys (or_right (λ x. occurs_in x (b x) (occ x) f y) (λ x. occurs_in_any x (b x) (occ x) fs ys) h),
      )

module _ (tb : Table) where
  abbrev pub Below : (ℕ → Type 0) → (ℕ → Bool) → Type 0
  Below σ occ = InScope (length tb.binds) σ occ

  abbrev binds_by : Option Kind → Node → ℕ → Bool
  binds_by k d x = leb 1 (occurrences x (pick is_binder (fields_if k) (field_words d)))

  -- `occurs_step` at a record of a kind.
  abbrev occurs_by : Option Kind → Node → (ℕ → ℕ → Bool) → ℕ → Bool
  occurs_by k d occ x = occurs_in_any x (binds_by k d x) (occ x) (fields_if k) (field_words d)

  abbrev scopedᵖ_below : ℕ → (ℕ → ℕ → Bool) → (ℕ → Pred) → Type 1
  scopedᵖ_below n occ p = (m : ℕ) (σ : ℕ → Type 0) → m < n → Below σ (λ x. occ x m) → Scopedᵖ (p m) σ

  abbrev scopedᵉ_below : ℕ → (ℕ → ℕ → Bool) → (ℕ → Expr) → Type 1
  scopedᵉ_below n occ e = (m : ℕ) (σ : ℕ → Type 0) → m < n → Below σ (λ x. occ x m) → Scopedᵉ (e m) σ

  -- What holds of a record holds of each of its fields.
  parts : (k : Kind) (d : Node) (σ : ℕ → Type 0) (occ : ℕ → ℕ → Bool) → Below σ (occurs_by (some k) d occ) →
      Each (length tb.binds) σ (binds_by (some k) d) occ (fields_of k) (field_words d)
  parts k d σ occ h = each_field (length tb.binds) σ (binds_by (some k) d) occ (fields_of k) (field_words d) h

  scoped_pred_of : (k : Option Kind) (n : ℕ) (d : Node) (p : ℕ → Pred) (e : ℕ → Expr) (σ : ℕ → Type 0) (occ : ℕ → ℕ → Bool) →
      KindRight tb n k (field_words d) → Below σ (occurs_by k d occ) →
      scopedᵖ_below n occ p → scopedᵉ_below n occ e → Scopedᵖ (pred_of k n d p e) σ
  unfolding occurrences
  scoped_pred_of nothing n d p e σ occ c h hp he = (tt, tt)
  scoped_pred_of (some (join j)) n d p e σ occ c h hp he =
      let k = parts (join j) d σ occ h in
      (hp _ σ c.0.0 k.0, hp _ σ c.1.0.0 k.1.0)
  scoped_pred_of (some negation) n d p e σ occ c h hp he =
      let k = parts negation d σ occ h in
      hp _ σ c.0.0 k.0
  scoped_pred_of (some (test j)) n d p e σ occ c h hp he =
      let k = parts (test j) d σ occ h in
      (he _ σ c.0.0 k.0, he _ σ c.1.0.0 k.1.0)
  scoped_pred_of (some (quant j)) n d p e σ occ c h hp he =
      let k = parts (quant j) d σ occ h in (
        he _ σ c.1.0.0 k.1.0,
        hp _ (σ adding d.a) c.1.1.0.0 (in_body (length tb.binds) σ d.a (λ x. occ x d.c) k.1.1.0),
      )
  scoped_pred_of (some (leaf j)) n d p e σ occ c h hp he = (tt, tt)
  scoped_pred_of (some bool_of) n d p e σ occ c h hp he = (tt, tt)
  scoped_pred_of (some (one j)) n d p e σ occ c h hp he = (tt, tt)
  scoped_pred_of (some (two j)) n d p e σ occ c h hp he = (tt, tt)
  scoped_pred_of (some comprehension) n d p e σ occ c h hp he = (tt, tt)

  scoped_leaf : (j : Leaf) (n : ℕ) (d : Node) (σ : ℕ → Type 0) (occ : ℕ → ℕ → Bool) →
      KindRight tb n (some (leaf j)) (field_words d) → Below σ (occurs_by (some (leaf j)) d occ) → Uses j σ d.a
  scoped_leaf identifier n d σ occ c h =
      let k = parts (leaf identifier) d σ occ h in
      used (length tb.binds) σ d.a c.0 k.0
  scoped_leaf given_set n d σ occ c h = tt
  scoped_leaf element_of n d σ occ c h = tt
  scoped_leaf (literal k) n d σ occ c h = tt
  scoped_leaf truth_const n d σ occ c h = tt
  scoped_leaf empty_set n d σ occ c h = tt
  scoped_leaf bool_set n d σ occ c h = tt

  scoped_expr_of : (k : Option Kind) (n : ℕ) (d : Node) (p : ℕ → Pred) (e : ℕ → Expr) (σ : ℕ → Type 0) (occ : ℕ → ℕ → Bool) →
      KindRight tb n k (field_words d) → Below σ (occurs_by k d occ) →
      scopedᵖ_below n occ p → scopedᵉ_below n occ e → Scopedᵉ (expr_of k n d p e) σ
  unfolding occurrences
  scoped_expr_of nothing n d p e σ occ c h hp he = tt
  scoped_expr_of (some (join j)) n d p e σ occ c h hp he = tt
  scoped_expr_of (some negation) n d p e σ occ c h hp he = tt
  scoped_expr_of (some (test j)) n d p e σ occ c h hp he = tt
  scoped_expr_of (some (quant j)) n d p e σ occ c h hp he = tt
  scoped_expr_of (some (leaf j)) n d p e σ occ c h hp he = scoped_leaf j n d σ occ c h
  scoped_expr_of (some bool_of) n d p e σ occ c h hp he =
      let k = parts bool_of d σ occ h in
      hp _ σ c.0.0 k.0
  scoped_expr_of (some (one j)) n d p e σ occ c h hp he =
      let k = parts (one j) d σ occ h in
      he _ σ c.0.0 k.0
  scoped_expr_of (some (two j)) n d p e σ occ c h hp he =
      let k = parts (two j) d σ occ h in
      (he _ σ c.0.0 k.0, he _ σ c.1.0.0 k.1.0)
  scoped_expr_of (some comprehension) n d p e σ occ c h hp he =
      let k = parts comprehension d σ occ h in (
        he _ σ c.1.0.0 k.1.0,
        hp _ (σ adding d.a) c.1.1.0.0 (in_body (length tb.binds) σ d.a (λ x. occ x d.c) k.1.1.0),
      )

  -- Whether x occurs free at a node, for a depth.
  abbrev pub occurs_to : ℕ → ℕ → ℕ → Bool
  occurs_to f x n = upward false (occurs_step tb.nodes x) f n

  module _ (r : Records tb) where
    mutual
      unfolding pred_at upward occurs_free

      -- A tree is scoped where each identifier that occurs free in it is in scope.
      pub scoped_pred_at : (f n : ℕ) (σ : ℕ → Type 0) → n < length tb.nodes → Below σ (λ x. occurs_to f x n) →
          Scopedᵖ (pred_at f tb.nodes n) σ
      scoped_pred_at zero n σ l h = (tt, tt)
      scoped_pred_at (suc f) n σ l h =
          scoped_pred_of (kind_at tb.nodes n) n (node_at tb.nodes n) (λ m. pred_at f tb.nodes m) (λ m. expr_at f tb.nodes m) σ
          (λ x m. occurs_to f x m) (r.fields n l) h
          (λ m τ q k. scoped_pred_at f m τ (omega arith) k) (λ m τ q k. scoped_expr_at f m τ (omega arith) k)

      -- So too of an expression.
      pub scoped_expr_at : (f n : ℕ) (σ : ℕ → Type 0) → n < length tb.nodes → Below σ (λ x. occurs_to f x n) →
          Scopedᵉ (expr_at f tb.nodes n) σ
      scoped_expr_at zero n σ l h = tt
      scoped_expr_at (suc f) n σ l h =
          scoped_expr_of (kind_at tb.nodes n) n (node_at tb.nodes n) (λ m. pred_at f tb.nodes m) (λ m. expr_at f tb.nodes m) σ
          (λ x m. occurs_to f x m) (r.fields n l) h
          (λ m τ q k. scoped_pred_at f m τ (omega arith) k) (λ m τ q k. scoped_expr_at f m τ (omega arith) k)

-- An identifier is free or does not occur free in the whole condition.
free_or_bound : (tb : Table) → Records tb → InScope (length tb.binds) (Free tb) (λ x. occurs_in_root tb.nodes x)
free_or_bound tb r x l = go (get_or tb.binds x 0) (any_default tb.binds x 1 0 l) (r.bindings x l)
  where
    go : (w : ℕ) → get_or tb.binds x 1 ≡ w → BindingRight w (binders tb.nodes x) (occurs_in_root tb.nodes x) →
        Free tb x ⊎ (occurs_in_root tb.nodes x ≡ false)
    go zero e b = inl (l, e)
    go (suc w) e b = inr b.1

-- The tree of a readable table's condition uses only its free identifiers, and bound ones in their binders' bodies.
pub scoped_root : (tb : Table) → Records tb → IfSome (λ p. Scopedᵖ p (Free tb)) (condition_of tb)
unfolding last_node occurs_free
scoped_root tb r = condition_has tb (λ p. Scopedᵖ p (Free tb)) whole
  where
    whole : 0 < length tb.nodes → Scopedᵖ (root_tree tb) (Free tb)
    whole h =
        let e : suc (last_node tb.nodes) ≡ length tb.nodes = omega arith in
        let free : Below tb (Free tb) (λ x. occurs_free tb.nodes x (last_node tb.nodes)) =
        λ x l. rw (some_root false (occurs_free tb.nodes x) tb.nodes h) at (free_or_bound tb r x l) in
        scoped_pred_at tb r (length tb.nodes) (last_node tb.nodes) (Free tb) (omega arith)
        (subst (λ (f : ℕ). Below tb (Free tb) (λ x. occurs_to tb f x (last_node tb.nodes))) e free)
