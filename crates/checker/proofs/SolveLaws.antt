-- What the attempt to solve the whole table says of it: solved, its first clash, or nodes that have no typing.
use Prim.Native.Nat.{ℕ, zero, suc, ◌≤◌, ◌<◌}
use mathlib.Core.List.{List, ◌++◌}
use mathlib.Core.Logic.{◌⊎◌, inl, inr}
use mathlib.Core.Path.{◌≡◌, refl, sym, subst, ◌∙◌}
use native.Mathlib.Omega.{arith}
use lib.ListN.{length, take}
use lib.Seq.{take-append_seam, length-take-le}
use Rattle.rules.specs.Tables.{Table, table_of, node_count, nodes_at}
use Rattle.laws.proofs.TableLaws.{nodes_length}
use Rattle.terms.specs.Terms.{Terms}
use Rattle.typing.specs.Equations.{base, equations}
use Rattle.std.specs.Prelude.{Result, Ok, Err}
use Rattle.checker.specs.declared.solving.Unsolved.{Unsolved}
use Rattle.checker.specs.declared.solving.Unsolved.TheVariants.{At, UpTo}
use Rattle.checker.specs.Solving.{Ready, Untypable, FirstClash, count_at, EquationBelow, EquationAt, NodesTo, SolvedBelow, SolvedTo}
use Rattle.checker.specs.Attempts.{Attempted}
use Rattle.checker.specs.Answers.{Checkable, Answerable}
use Rattle.checker.proofs.PosedLaws.{start_inside, start_variable, start_count, count_is_law, part_solved, part_none, part_typable, clash_none}

no_equations : (tb : Table) → length (equations tb 0) ≡ 0
unfolding equations
no_equations tb = refl

-- The first part of a list that was put together.
front : {n : ℕ} (xs ys : List ℕ) → length xs ≡ n → take n (xs ++ ys) ≡ xs
front xs ys e = subst (λ k. take k (xs ++ ys) ≡ xs) e (take-append_seam xs ys)

module _ {bs shapes eqns starts : List ℕ} (r : Ready bs shapes eqns starts) {n v m : ℕ} (en : n ≡ node_count bs)
    (ev : v ≡ base (table_of bs) (node_count bs)) (em : m ≡ length (equations (table_of bs) (node_count bs))) where
  abbrev tb : Table
  tb = table_of bs

  all : node_count bs ≤ node_count bs
  all = omega arith

  long : length (take m eqns) ≡ m
  long = count_is_law r all em

  pub nodes_inside : n < length starts
  nodes_inside = omega (arith, start_inside r all)

  -- The counts of a node below n and of the one behind it.
  count_at_law : {k : ℕ} → k ≤ node_count bs → count_at starts k ≡ length (equations tb k)
  count_at_law h = start_count r h

  module _ (ts marks : List ℕ) where
    abbrev Comes : Result (Unit {0}) Unsolved → Type 0
    Comes a = Attempted v (take v shapes) (take m eqns) a ts marks

    pub whole_solved : Comes (Ok tt) → (ts₂ marks₂ : List ℕ) → length marks ≡ v → SolvedTo tb (node_count bs) (ts ++ ts₂) (marks ++ marks₂) (Ok tt)
    whole_solved x ts₂ marks₂ lm =
        let s = part_solved r all em ev ts marks x.0 x.1 in
        subst (λ l. SolvedBelow tb (node_count bs) l (take (base tb (node_count bs)) (marks ++ marks₂)))
        (sym (front ts ts₂ s.terms.len)) (subst (λ l. SolvedBelow tb (node_count bs) ts l) (sym (front marks marks₂ (lm ∙ ev))) s)

    module _ {e : ℕ} (x : Comes (Err (At e))) where
      pub clash_below : EquationBelow starts e n
      clash_below = record {
        inside = nodes_inside;
        begins = omega (arith, count_at_law {k = 0} (omega arith), no_equations tb);
        ends = subst (λ k. e < count_at starts k) (sym en) (omega (arith, x.0, long, count_at_law all));
      }

      pub clash_first : {k : ℕ} → EquationAt starts e n k → FirstClash tb (node_count bs) k
      clash_first {k} at =
          let below : k < node_count bs = omega (arith, at.below) in
          let from : length (equations tb k) ≤ e = omega (arith, at.from, count_at_law {k = k} (omega arith)) in
          let to : e < length (equations tb (suc k)) = omega (arith, at.to, count_at_law {k = suc k} below) in
          record {
            below = below;
            typing = part_typable r ev em {e = e} {j = k} (omega arith) from ts marks x.2 x.3;
            none = clash_none r ev em {e = e} {j = k} below to x.1;
          }

    pub none_upto : {e : ℕ} → Comes (Err (UpTo e)) → {k : ℕ} → NodesTo starts e n k → Untypable tb k
    none_upto {e} none {k} t = go k t.inside t.reach
      where
        go : (j : ℕ) → j ≤ n → (j ≡ n) ⊎ ((0 < j) × (e < count_at starts j)) → Untypable tb j
        go j l (inl s) = subst (λ i. Untypable tb i) (sym (s ∙ en))
            (part_none r all em ev (λ θ f h. none θ f (λ i g. h i (omega arith))))
        go zero l (inr w) = absurd (omega (arith, w.0))
        go (suc j) l (inr w) =
            let below : j < node_count bs = omega arith in
            clash_none r ev em {e = e} {j = j} below (omega (arith, w.1, count_at_law {k = suc j} below))
            (λ θ f h. none θ f (λ i g. h i (omega arith)))

  pub first_solved : {k x : ℕ} → k ≤ n → FirstClash tb k x → FirstClash tb (node_count bs) x
  first_solved l f = record { below = omega (arith, f.below); typing = f.typing; none = f.none }

-- ---- the solved table, for the answer
module _ {bs shapes eqns starts sheet : List ℕ} (c : Checkable bs sheet) (r : Ready bs shapes eqns starts) {at v : ℕ} (ea : at ≡ nodes_at bs)
    (ev : v ≡ base (table_of bs) (node_count bs)) where
  pub answerable : (terms stack marks : List ℕ) → v ≤ length stack → v ≤ length marks →
      SolvedBelow (table_of bs) (node_count bs) (take (base (table_of bs) (node_count bs)) terms) (take (base (table_of bs) (node_count bs)) marks) →
      Answerable bs at (take v terms) starts (take v marks) (take v stack) sheet
  answerable terms stack marks ls lm s =
      let s₁ : SolvedBelow (table_of bs) (node_count bs) (take v terms) (take v marks) =
      subst (λ k. SolvedBelow (table_of bs) (node_count bs) (take k terms) (take k marks)) (sym ev) s in
      let s₂ : SolvedBelow (table_of bs) (length (table_of bs).nodes) (take v terms) (take v marks) =
      subst (λ k. SolvedBelow (table_of bs) k (take v terms) (take v marks)) (sym (nodes_length bs)) s₁ in
      let long : length (take v terms) ≡ v = s₁.terms.len ∙ sym ev in
      record {
        checkable = c;
        places = record {
          laid = record { header = r.readable.header; base = ea };
          terms = subst (λ k. Terms k (take v terms)) (sym s₁.terms.len) s₁.terms;
          long = omega (arith, nodes_length bs, r.room.starts_room);
          starts_are = λ m h. start_variable r (omega (arith, nodes_length bs));
          covers = omega (arith, s₂.terms.len);
          marked = length-take-le v marks lm ∙ sym long;
        };
        solved = s₂;
        room = length-take-le v stack ls ∙ sym long;
      }
