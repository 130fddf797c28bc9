-- The two operands of a node, one after the other: their answers joined, for tests and for operations of two; and the tests.
use Rattle.visits.proofs.Terms.{cond, demand, ℕ, ◌+◌, ◌-◌, ◌*◌, ◌≤◌, ◌<◌, Bool, true, false, List, [], ◌∷◌, ◌≡◌, refl, sym, ◌∙◌, subst, arith}
use Rattle.visits.proofs.Terms.{Value, expression, test, fits, table_of, End, done, refused, Run, M, return, ◌>>=◌, ◌>>◌, fitting, holdsᵖ, Same, same_trans, SomeOperands, Refusal, Formed, Placed, Stopped, Truth, Refused, EndsWith, PlacedAs, condition_cells, NodeReady, Visited, Sort, Asks, value_at, EvaluatesP, EvaluatesE, field_a, field_b, IsExpr, Held, RefusalOf, Test, holds, TestOf, tested, test_rule, height, good_above}
use Rattle.std.specs.Prelude.{Option, Some, None}
use Rattle.visits.proofs.RunLaws.{then_done, then_refused, returns}
use Rattle.visits.proofs.NodeLaws.{Child, TwoFields, ready_child, child_asks, good_frame, sizes_small, formed_as, some_asks, asks_on}
use Rattle.visits.proofs.NodeLaws.{held_as, refusal_is, visited_operands, visits, after, value_in, formed_below, predᵍ, held_by}

-- The run at the second operand, which begins where the first ends.
module _ {bs env s : List ℕ} {top n left : ℕ} (i : Asks bs env s top n left) where
  abbrev pub first_in : Run Value
  first_in = value_in i (field_a bs n)

  abbrev pub second_in : Run Value
  second_in = value_at bs i.budget i.depth (field_b bs n) i.values first_in.steps

-- The answers for the operands of a node: one is refused, whatever would follow; or both have values, which stand at a, below mid, and then at b,
-- below next.
pub record StopsBoth (bs env s : List ℕ) (top n left : ℕ) (s' : List ℕ) (r : Refusal) (l : ℕ) : Type 1 where
  pub frame : Same top s s'
  pub answer : (i : Asks bs env s top n left) {B : Type 0} (k : Value → Value → M B) →
      EndsWith ((value_at bs i.budget i.depth (field_a bs n) i.values >>= λ v. value_at bs i.budget i.depth (field_b bs n) i.values >>=
      λ w. k v w) i.steps) (refused r.number r.place) i.budget l

pub record EvaluatesBoth (bs env s : List ℕ) (top n left : ℕ) (s' : List ℕ) (a mid b next l : ℕ) : Type 0 where
  pub frame : Same top s s'
  pub low : top ≤ mid
  pub high : mid ≤ top + 256
  pub order : mid ≤ next
  pub near : next + 514 ≤ top + condition_cells (height (table_of bs).nodes n) + 128
  pub between : ℕ
  pub first : (i : Asks bs env s top n left) → PlacedAs (first_in i) i.budget (table_of bs).sizes s' a mid between
  pub second : (i : Asks bs env s top n left) → PlacedAs (second_in i) i.budget (table_of bs).sizes s' b next l

-- The first operand's node is `a`.
module _ {bs env s : List ℕ} {top n : ℕ} (y : TwoFields bs env s top n) {a : ℕ} (q : a ≡ field_a bs n) where
  pub left_child : Child bs n a expression
  left_child = subst (λ (z : ℕ). Child bs n z expression) (sym q) y.left

  -- What its evaluator asks, where the measures are those of the cycle: 5 times the node, and what is left to do there.
  pub left_asks : {t : ℕ} → 5 * n + 1 ≡ t → (5 * a + 4 < t) × (NodeReady bs env s top a × IsExpr bs a)
  left_asks e = child_asks 4 (omega arith) e y.ready left_child

  -- It has been evaluated.
  module _ {left : ℕ} {s' : List ℕ} {r : Formed} (h : EvaluatesE bs env s top a left s' r) where
    pub both_stops : {p : Refusal} {l : ℕ} → r ≡ Stopped p l → StopsBoth bs env s top n left s' p l
    both_stops {p} {l} d = record { frame = h.frame; answer = λ i k. then_refused _ (formed_below i left_child q (Stopped p l) (formed_as refl d h)) }

    -- The second operand's node is `m`.
    module _ {at mid l : ℕ} (d : r ≡ Placed at mid l) {m : ℕ} (q' : m ≡ field_b bs n) where
      pub right_child : Child bs n m expression
      right_child = subst (λ (z : ℕ). Child bs n z expression) (sym q') y.right

      placed : EvaluatesE bs env s top a left s' (Placed at mid l)
      placed = formed_as refl d h

      pub right_ready : NodeReady bs env s' mid m × IsExpr bs m
      right_ready = (ready_child s' m mid y.ready right_child h.frame placed.bounds.0 placed.bounds.1, right_child.is)

      pub right_asks : {t : ℕ} → 5 * n + 1 ≡ t → (5 * m + 4 < t) × (NodeReady bs env s' mid m × IsExpr bs m)
      right_asks e = (omega (arith, right_child.below), right_ready)

      -- The values of the first, and what is asked of the second.
      first_at : (i : Asks bs env s top n left) → PlacedAs (first_in i) i.budget (table_of bs).sizes s' at mid l
      first_at i = formed_below i left_child q (Placed at mid l) placed

      abbrev second : Asks bs env s top n left → Asks bs env s' mid n l
      second i = asks_on i (first_in i).steps h.frame placed.bounds.0 (first_at i).ends.steps

      module _ {s'' : List ℕ} {r' : Formed} (h' : EvaluatesE bs env s' mid m l s'' r') where
        both_frame : Same top s s''
        both_frame = same_trans top mid s s' s'' h.frame h'.frame placed.bounds.0

        pub both_stops_2 : {p : Refusal} {u : ℕ} → r' ≡ Stopped p u → StopsBoth bs env s top n left s'' p u
        both_stops_2 {p} {u} d' = record {
          frame = both_frame;
          answer = λ i k. then_done _ (first_at i).ends (then_refused _ (formed_below (second i) right_child q' (Stopped p u) (formed_as refl d' h')));
        }

        pub both_formed : {other next u : ℕ} → r' ≡ Placed other next u → EvaluatesBoth bs env s top n left s'' at mid other next u
        both_formed {other} {next} {u} d' =
            let k = formed_as refl d' h' in
            record {
              frame = both_frame;
              low = placed.bounds.0;
              high = placed.bounds.1;
              order = k.bounds.0;
              near = omega (arith, left_child.lower, left_child.tall, right_child.lower, placed.bounds, k.bounds);
              between = l;
              first = λ i. let v = first_at i in record { value = v.value; ends = v.ends; place = good_frame mid h'.frame (omega arith) v.place };
              second = λ i. formed_below (second i) right_child q' (Placed other next u) k;
            }

-- What an operation may take for granted of its operands. An abbreviation, so that `next` is seen to be where they end.
abbrev pub operands_ready : {bs env s : List ℕ} {top n left : ℕ} {s' : List ℕ} {a mid b next l : ℕ} → NodeReady bs env s top n →
    EvaluatesBoth bs env s top n left s' a mid b next l → SomeOperands s' a b
operands_ready {bs} {n = n} {left = left} {next = next} x h =
    let i = some_asks n left x in
    let small = sizes_small bs x.readable in
    (next, record { sizes = _; small = small; first = _; second = _; left = good_above small (h.first i).place next h.order; right = (h.second i).place })

-- The end that the test's answer tells: the truth, or 15.
abbrev told_end : ℕ → Option Bool → End Bool
told_end n (Some y) = done y
told_end n None = refused 15 n

tested_ends : {budget left : ℕ} (n : ℕ) (j : Test) (v w : Value) (s : ℕ) → s + left ≡ budget →
    EndsWith ((fitting n (test_rule j) (v ∷ w ∷ []) >> return (holds j v w)) s) (told_end n (tested j v w)) budget left
unfolding tested
tested_ends {budget} {left} n j v w s c =
    elim (fits (test_rule j).takes (v ∷ w ∷ [])) as (λ b.
    EndsWith ((demand b 15 n >> return (holds j v w)) s) (told_end n (cond b (Some (holds j v w)) None)) budget left)
    [ true ↦ returns (holds j v w) c | false ↦ record { end = refl; steps = c } ]

-- 6 to 9
module _ {bs env s : List ℕ} {top k n left : ℕ} (p : Visited bs env s top k n left × Sort test k) where
  abbrev x : Visited bs env s top k n left
  x = p.0

  abbrev j : Test
  j = p.1.0

  pub test_fields : TwoFields bs env s top n
  test_fields = visited_operands x (test j) p.1.1 refl

  -- An operand is refused.
  pub test_stops : {s' : List ℕ} {f : Formed} {o : Held} {r : Refusal} {l : ℕ} → f ≡ Stopped r l → RefusalOf f o → StopsBoth bs env s top n (left - 1) s' r l →
      EvaluatesP bs env s top n left s' o
  unfolding holdsᵖ
  test_stops q e h = held_as refl (refusal_is q e) (held_by x (test j) p.1.1 h.frame (λ i. visits x i _ (h.answer (after x i) _)))

  module _ {s' : List ℕ} {at mid other next l : ℕ} (h : EvaluatesBoth bs env s top n (left - 1) s' at mid other next l)
      {o : Option Bool} (op : TestOf k s' at other o) where
    -- The node's end, by what the test tells of the operands' values.
    told : {z : Option Bool} → o ≡ z → (i : Asks bs env s top n left) →
        EndsWith (holdsᵖ i.budget (table_of bs).sizes (predᵍ bs n (test j) i.depth) i.values i.steps) (told_end n z) i.budget l
    unfolding holdsᵖ
    told q i =
        let v = h.first (after x i) in
        let w = h.second (after x i) in
        let r = op j p.1.1 (table_of bs).sizes mid next v.value w.value (sizes_small bs x.ready.readable) v.place w.place in
        visits x i _ (then_done _ v.ends (then_done _ w.ends
        (rw (sym r ∙ q) at (tested_ends n j v.value w.value _ w.ends.steps))))

    pub test_unlike : o ≡ None → EvaluatesP bs env s top n left s' (Refused (record { number = 15; place = n }) l)
    test_unlike q = held_by x (test j) p.1.1 h.frame (told q)

    pub test_truth : {y : Bool} → o ≡ Some y → EvaluatesP bs env s top n left s' (Truth y l)
    test_truth q = held_by x (test j) p.1.1 h.frame (told q)
