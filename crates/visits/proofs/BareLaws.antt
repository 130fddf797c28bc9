-- Negations passed from a condition down: each turns the answer round, for one visit; and the condition's answer from that of the one reached.
use Rattle.visits.proofs.Terms.{ℕ, suc, ◌+◌, ◌-◌, ◌<◌, Bool, true, false, not, List, some, ◌≡◌, refl, sym, ap, ◌∙◌, subst, arith}
use Rattle.visits.proofs.Terms.{predicate, negation, kind_of, Pred, table_of, node_at, kind_at, pred_at, node_count, Readable, Env, holdsᵖ, kind_of_law, Held, Truth, Refused, HeldAs, turned_by, NodeReady, truth_at, Passes, EvaluatesP, field_a, IsPred, notᵖ}
use Rattle.visits.proofs.RunLaws.{then_done, then_refused, returns, visited}
use Rattle.visits.proofs.NodeLaws.{Child, field_child, pred_at_law, condition_cells_law, ready_at}

-- 4
negated_ends : (budget : ℕ) (gs : List ℕ) (n : ℕ) (ρ : Env) (s : ℕ) (p : Pred) (r : Held) → s < budget →
    HeldAs (holdsᵖ budget gs p ρ (suc s)) budget r → HeldAs (holdsᵖ budget gs (notᵖ n p) ρ s) budget (turned_by true r)
unfolding holdsᵖ
negated_ends budget gs n ρ s p (Truth true l) less h = visited budget n s _ less (then_done _ h (returns false h.steps))
negated_ends budget gs n ρ s p (Truth false l) less h = visited budget n s _ less (then_done _ h (returns true h.steps))
negated_ends budget gs n ρ s p (Refused r l) less h = visited budget n s _ less (then_refused _ h)

turned_not : (h : Held) → turned_by false h ≡ h
turned_not (Truth true l) = refl
turned_not (Truth false l) = refl
turned_not (Refused r l) = refl

turned_twice : (t : Bool) (h : Held) → turned_by t (turned_by true h) ≡ turned_by (not t) h
turned_twice true (Truth true l) = refl
turned_twice true (Truth false l) = refl
turned_twice false (Truth true l) = refl
turned_twice false (Truth false l) = refl
turned_twice true (Refused r l) = refl
turned_twice false (Refused r l) = refl

-- No negation has been passed yet.
pub passes_none : {bs : List ℕ} {n left : ℕ} → IsPred bs n → Passes bs n left n left false
passes_none {bs} {n} {left} e = record {
  below = omega arith;
  is = e;
  lower = omega arith;
  answer = λ f ρ budget steps h l c k.
      subst (λ (z : Held). HeldAs (truth_at bs budget f n ρ steps) budget z) (sym (turned_not h)) (k f steps l c);
}

-- One more, at node m.
module _ {bs : List ℕ} {m k : ℕ} (r : Readable bs) (lt : m < node_count bs) (same : k ≡ (node_at (table_of bs).nodes m).kind) (e : k ≡ 4) where
  not_kind : kind_at (table_of bs).nodes m ≡ some negation
  not_kind = ap kind_of (sym same) ∙ kind_of_law k negation e

  not_child : Child bs m (field_a bs m) predicate
  not_child = field_child bs r m lt negation not_kind predicate 0 (omega arith) (omega arith) refl

  not_held : {l : ℕ} (g : ℕ) (ρ : Env) (budget u : ℕ) (h : Held) → m < g → u + l ≡ budget → 0 < l →
      ((g u : ℕ) → field_a bs m < g → u + (l - 1) ≡ budget → HeldAs (truth_at bs budget g (field_a bs m) ρ u) budget h) →
      HeldAs (truth_at bs budget g m ρ u) budget (turned_by true h)
  not_held g ρ budget u h below c more on =
      let d = pred_at_law (table_of bs).nodes m (some negation) not_kind g below in
      subst (λ (p : Pred). HeldAs (holdsᵖ budget (table_of bs).sizes p ρ u) budget (turned_by true h)) (sym d.is)
      (negated_ends budget (table_of bs).sizes m ρ u (pred_at d.depth (table_of bs).nodes (field_a bs m)) h (omega arith)
      (on d.depth (suc u) (omega (arith, d.enough, not_child.below)) (omega arith)))

  pub passes_on : {n left l a : ℕ} {t : Bool} → Passes bs n left m l t → 0 < l → a ≡ field_a bs m → Passes bs n left a (l - 1) (not t)
  passes_on {n} {left} {l} {a} {t} p more q = subst (λ (z : ℕ). Passes bs n left z (l - 1) (not t)) (sym q) (record {
    below = omega (arith, p.below, not_child.below);
    is = not_child.is;
    lower = omega (arith, p.lower, not_child.lower);
    answer = λ f ρ budget steps h below c on.
        subst (λ (z : Held). HeldAs (truth_at bs budget f n ρ steps) budget z) (turned_twice t h)
        (p.answer f ρ budget steps (turned_by true h) below c (λ g u l' c'. not_held g ρ budget u h l' c' more on));
  })

-- What the evaluator of the condition reached is given, and what its answer tells.
module _ {bs env s : List ℕ} {top n left m l : ℕ} {t : Bool} (r : NodeReady bs env s top n) (is : IsPred bs n) (p : Passes bs n left m l t) where
  pub bare_ready : NodeReady bs env s top m
  bare_ready =
      let high = condition_cells_law (kind_at (table_of bs).nodes n) is in
      ready_at r m (omega (arith, r.node, p.below)) (λ b. omega (arith, r.room b, p.lower, condition_cells_law (kind_at (table_of bs).nodes m) p.is, high))
      refl r.entries r.binds

  pub bare_tells : {s' : List ℕ} {h x : Held} → EvaluatesP bs env s top m l s' h → x ≡ turned_by t h → EvaluatesP bs env s top n left s' x
  bare_tells {s'} {h} e q = record {
    frame = e.frame;
    answer = λ f ρ budget steps below c b.
        subst (λ (z : Held). HeldAs (truth_at bs budget f n ρ steps) budget z) (sym q)
        (p.answer f ρ budget steps h below c (λ g u l' c'. e.answer g ρ budget u l' c' b));
  }
