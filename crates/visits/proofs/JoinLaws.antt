-- Joins by their codes; then the run at the node, part by part, and with it what the answers for the conditions below make of the node's.
use Rattle.visits.proofs.Terms.{ℕ, ◌+◌, ◌-◌, ◌*◌, ◌<◌, Bool, true, false, not, Bool·beq, List, ◌≢◌, ◌≡◌, refl, sym, subst, arith}
use Rattle.visits.proofs.Terms.{predicate, and, or, implies, iff, join, holdsᵖ, Same, same_trans, code_of_law, Refusal, Held, Truth, Refused, HeldAs, NodeReady, Visited, Sort, Asks, EvaluatesP, field_a, field_b, IsPred, Join, decided, DecidesBy, JoinedBy, join_code, same_join, Some, None}
use Rattle.std.specs.Prelude.{Option}
use Rattle.std.specs.Bool.{then_some}
use Rattle.rules.specs.Operations as rules
use Rattle.visits.proofs.RunLaws.{then_done, then_refused, returns}
use Rattle.visits.proofs.NodeLaws.{Child, ready_child, visited_child, held_as}
use Rattle.visits.proofs.NodeLaws.{asks_on, visits, after, holds_in, held_below, held_by}

-- Where the first truth of a join decides, and what.
first_decides : (p : Bool) → (rules.decides and p ≡ decided (then_some (not p) false)) × (rules.decides or p ≡ decided (then_some p true)) ×
    (rules.decides implies p ≡ decided (then_some (not p) true))
first_decides true = (refl, refl, refl)
first_decides false = (refl, refl, refl)

-- A join is known by its code, and 5 is what the others leave.
iff_left : {k : ℕ} → k ≢ 1 → k ≢ 2 → k ≢ 3 → (j : Join) → k ≡ join_code j → iff ≡ j
iff_left n1 n2 n3 and c = absurd (n1 c)
iff_left n1 n2 n3 or c = absurd (n2 c)
iff_left n1 n2 n3 implies c = absurd (n3 c)
iff_left n1 n2 n3 iff c = refl

module _ {k : ℕ} (p : Bool) where
  module _ (r : Option Bool) where
    decides_by : (i : Join) → k ≡ join_code i → rules.decides i p ≡ decided r → DecidesBy k p r
    decides_by i c h j e = subst (λ (x : Join). rules.decides x p ≡ decided r) (same_join k i j c e) h

    pub decides_1 : k ≡ 1 → r ≡ then_some (not p) false → DecidesBy k p r
    decides_1 c q = decides_by and c (rw q (first_decides p).0)

    pub decides_2 : k ≡ 2 → r ≡ then_some p true → DecidesBy k p r
    decides_2 c q = decides_by or c (rw q (first_decides p).1)

    pub decides_3 : k ≡ 3 → r ≡ then_some (not p) true → DecidesBy k p r
    decides_3 c q = decides_by implies c (rw q (first_decides p).2)

  pub decides_5 : k ≢ 1 → k ≢ 2 → k ≢ 3 → DecidesBy k p None
  decides_5 n1 n2 n3 j e = rw (← iff_left n1 n2 n3 j (code_of_law k (join j) e))

  module _ (q : Bool) where
    pub joined_by : {r : Bool} (i : Join) → k ≡ join_code i → r ≡ rules.joined i p q → JoinedBy k p q r
    joined_by {r} i c h j e = subst (λ (x : Join). r ≡ rules.joined x p q) (same_join k i j c e) h

    pub joined_5 : k ≢ 1 → k ≢ 2 → k ≢ 3 → JoinedBy k p q (Bool·beq p q)
    joined_5 n1 n2 n3 j e = rw (← iff_left n1 n2 n3 j (code_of_law k (join j) e))

-- 1, 2, 3 and 5: the first operand's node is `a`.
module _ {bs env s : List ℕ} {top k n left : ℕ} (at_join : Visited bs env s top k n left × Sort join k) {a : ℕ} (q : a ≡ field_a bs n) where
  abbrev v : Visited bs env s top k n left
  v = at_join.0

  abbrev j : Join
  j = at_join.1.0

  pub join_child : Child bs n a predicate
  join_child = visited_child v (join j) at_join.1.1 predicate 0 a (omega arith) (omega arith) refl q

  -- It has been evaluated.
  module _ {s' : List ℕ} {r : Held} (h : EvaluatesP bs env s top a (left - 1) s' r) where
    join_first : (r₀ : Held) → r ≡ r₀ → (i : Asks bs env s top n left) → HeldAs (holds_in (after v i) (field_a bs n)) i.budget r₀
    join_first r₀ d i = held_below (after v i) join_child q r₀ (held_as refl d h)

    -- It is refused.
    pub join_stays : {p : Refusal} {l : ℕ} → r ≡ Refused p l → EvaluatesP bs env s top n left s' r
    unfolding holdsᵖ
    join_stays {p} {l} d =
        held_as refl (sym d) (held_by v (join j) at_join.1.1 h.frame (λ i. visits v i _ (then_refused _ (join_first (Refused p l) d i))))

    module _ {y : Bool} {l : ℕ} (d : r ≡ Truth y l) {o : Option Bool} (by : DecidesBy k y o) where
      decided_as : {b : Option Bool} → o ≡ b → rules.decides j y ≡ decided b
      decided_as c = rw c at (by j at_join.1.1)

      -- It decides.
      pub join_short : {b : Bool} → o ≡ Some b → EvaluatesP bs env s top n left s' (Truth b l)
      unfolding holdsᵖ
      join_short c =
          held_by v (join j) at_join.1.1 h.frame (λ i.
          let w = join_first (Truth y l) d i in visits v i _ (then_done _ w (rw (decided_as c) (returns _ w.steps))))

      -- It does not, and the second operand's node is `m`.
      module _ (c : o ≡ None) {m : ℕ} (qb : m ≡ field_b bs n) where
        join_next : Child bs n m predicate
        join_next = visited_child v (join j) at_join.1.1 predicate 1 m (omega arith) (omega arith) refl qb

        pub join_asks : {t : ℕ} → 5 * n + 1 ≡ t → (5 * m + 3 < t) × (NodeReady bs env s' top m × IsPred bs m)
        join_asks e = (omega (arith, join_next.below), (ready_child s' m top v.ready join_next h.frame (omega arith) (omega arith), join_next.is))

        -- What is asked of it.
        abbrev second : Asks bs env s top n left → Asks bs env s' top n l
        second i = asks_on (after v i) (holds_in (after v i) (field_a bs n)).steps h.frame (omega arith) (join_first (Truth y l) d i).steps

        module _ {s'' : List ℕ} {r' : Held} (h' : EvaluatesP bs env s' top m l s'' r') where
          join_frame : Same top s s''
          join_frame = same_trans top top s s' s'' h.frame h'.frame (omega arith)

          pub join_stays_2 : {p : Refusal} {u : ℕ} → r' ≡ Refused p u → EvaluatesP bs env s top n left s'' r'
          unfolding holdsᵖ
          join_stays_2 {p} {u} d' =
              held_as refl (sym d') (held_by v (join j) at_join.1.1 join_frame (λ i.
              visits v i _ (then_done _ (join_first (Truth y l) d i) (rw (decided_as c)
              (then_refused _ (held_below (second i) join_next qb (Refused p u) (held_as refl d' h')))))))

          pub join_both : {z w : Bool} {u : ℕ} → r' ≡ Truth z u → JoinedBy k y z w → EvaluatesP bs env s top n left s'' (Truth w u)
          unfolding holdsᵖ
          join_both {z} {w} {u} d' is =
              held_by v (join j) at_join.1.1 join_frame (λ i.
              let t = held_below (second i) join_next qb (Truth z u) (held_as refl d' h') in
              visits v i _ (then_done _ (join_first (Truth y l) d i) (rw (decided_as c)
              (then_done _ t (rw (sym (is j at_join.1.1)) (returns w t.steps))))))
