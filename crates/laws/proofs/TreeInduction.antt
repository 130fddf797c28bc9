-- Induction over the condition of a readable table: what every node below N hands on from its children holds of its tree,
-- `root_has`. By the depth of the tree: a right node's children have lower numbers.
use Prim.Native.Nat.{ℕ, zero, suc, ◌<◌}
use mathlib.Core.Option.{Option, none as nothing, some}
use native.Mathlib.Omega.{arith}
use lib.ListN.{length}
use Rattle.rules.specs.Kinds.{Join, Test, equal, Quant, Leaf, empty_set, One, Two}
use Rattle.rules.specs.Kinds.{Kind, join, negation, test, quant, leaf, bool_of, one, two, comprehension}
use Rattle.rules.specs.Tables.{Table, node_at, kind_at, field_words, last_node, condition_of, no_expr, no_pred, pred_of, expr_of, pred_at, expr_at}
use Rattle.rules.specs.Tables.{Pred, joinᵖ, notᵖ, testᵖ, quantᵖ, Expr, leafᵉ, boolᵉ, oneᵉ, twoᵉ, comprehensionᵉ}
use Rattle.rules.specs.Readable.{KindRight, NodeRight}
use Rattle.laws.proofs.TableLaws.{IfSome, condition_has}

-- Each node below N hands P, of conditions, and Q, of expressions, on from its children.
pub record HandsOn (N : ℕ) (P : Pred → Type 0) (Q : Expr → Type 0) : Type 0 where
  pub join_on : (n : ℕ) (j : Join) (p q : Pred) → n < N → P p → P q → P (joinᵖ n j p q)
  pub not_on : (n : ℕ) (p : Pred) → n < N → P p → P (notᵖ n p)
  pub test_on : (n : ℕ) (j : Test) (e f : Expr) → n < N → Q e → Q f → P (testᵖ n j e f)
  pub quant_on : (n : ℕ) (j : Quant) (x : ℕ) (r : Expr) (p : Pred) → n < N → Q r → P p → P (quantᵖ n j x r p)
  pub leaf_on : (n : ℕ) (j : Leaf) (a b : ℕ) → n < N → Q (leafᵉ n j a b)
  pub bool_on : (n : ℕ) (p : Pred) → n < N → P p → Q (boolᵉ n p)
  pub one_on : (n : ℕ) (j : One) (e : Expr) → n < N → Q e → Q (oneᵉ n j e)
  pub two_on : (n : ℕ) (j : Two) (e f : Expr) → n < N → Q e → Q f → Q (twoᵉ n j e f)
  pub comprehension_on : (n x : ℕ) (r : Expr) (p : Pred) → n < N → Q r → P p → Q (comprehensionᵉ n x r p)

module _ (tb : Table) (P : Pred → Type 0) (Q : Expr → Type 0) (h : HandsOn (length tb.nodes) P Q) where
  -- What stands for a node of the other category.
  no_expr_has : (n : ℕ) → n < length tb.nodes → Q (no_expr n)
  no_expr_has n l = h.leaf_on n empty_set 0 0 l

  no_pred_has : (n : ℕ) → n < length tb.nodes → P (no_pred n)
  no_pred_has n l = h.test_on n equal (no_expr n) (no_expr n) l (no_expr_has n l) (no_expr_has n l)

  module _ (n : ℕ) (p : ℕ → Pred) (e : ℕ → Expr) (l : n < length tb.nodes) (hp : (m : ℕ) → m < n → P (p m)) (he : (m : ℕ) → m < n → Q (e m)) where
    pred_has : (k : Option Kind) → KindRight tb n k (field_words (node_at tb.nodes n)) → P (pred_of k n (node_at tb.nodes n) p e)
    pred_has nothing c = absurd c
    pred_has (some (join j)) c = h.join_on n j _ _ l (hp _ c.0.0) (hp _ c.1.0.0)
    pred_has (some negation) c = h.not_on n _ l (hp _ c.0.0)
    pred_has (some (test j)) c = h.test_on n j _ _ l (he _ c.0.0) (he _ c.1.0.0)
    pred_has (some (quant j)) c = h.quant_on n j _ _ _ l (he _ c.1.0.0) (hp _ c.1.1.0.0)
    pred_has (some (leaf j)) c = no_pred_has n l
    pred_has (some bool_of) c = no_pred_has n l
    pred_has (some (one j)) c = no_pred_has n l
    pred_has (some (two j)) c = no_pred_has n l
    pred_has (some comprehension) c = no_pred_has n l

    expr_has : (k : Option Kind) → KindRight tb n k (field_words (node_at tb.nodes n)) → Q (expr_of k n (node_at tb.nodes n) p e)
    expr_has nothing c = absurd c
    expr_has (some (join j)) c = no_expr_has n l
    expr_has (some negation) c = no_expr_has n l
    expr_has (some (test j)) c = no_expr_has n l
    expr_has (some (quant j)) c = no_expr_has n l
    expr_has (some (leaf j)) c = h.leaf_on n j _ _ l
    expr_has (some bool_of) c = h.bool_on n _ l (hp _ c.0.0)
    expr_has (some (one j)) c = h.one_on n j _ l (he _ c.0.0)
    expr_has (some (two j)) c = h.two_on n j _ _ l (he _ c.0.0) (he _ c.1.0.0)
    expr_has (some comprehension) c = h.comprehension_on n _ _ _ l (he _ c.1.0.0) (hp _ c.1.1.0.0)

  module _ (right : (n : ℕ) → n < length tb.nodes → NodeRight tb n) where
    mutual
      unfolding pred_at

      pred_at_has : (f n : ℕ) → n < length tb.nodes → P (pred_at f tb.nodes n)
      pred_at_has zero n l = no_pred_has n l
      pred_at_has (suc f) n l =
          pred_has n (λ m. pred_at f tb.nodes m) (λ m. expr_at f tb.nodes m) l
          (λ m q. pred_at_has f m (omega arith)) (λ m q. expr_at_has f m (omega arith)) (kind_at tb.nodes n) (right n l)

      expr_at_has : (f n : ℕ) → n < length tb.nodes → Q (expr_at f tb.nodes n)
      expr_at_has zero n l = no_expr_has n l
      expr_at_has (suc f) n l =
          expr_has n (λ m. pred_at f tb.nodes m) (λ m. expr_at f tb.nodes m) l
          (λ m q. pred_at_has f m (omega arith)) (λ m q. expr_at_has f m (omega arith)) (kind_at tb.nodes n) (right n l)

    -- The condition of a table whose nodes are right.
    pub root_has : IfSome P (condition_of tb)
    unfolding last_node
    root_has = condition_has tb P (λ l. pred_at_has (length tb.nodes) (last_node tb.nodes) (omega arith))
