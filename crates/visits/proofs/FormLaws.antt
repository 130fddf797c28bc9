-- What the evaluators of expressions with operands give, kinds 25, 27 to 41 and 43: the operands' answers, and with them the node's.
use Rattle.arena.proofs.MadeLaws.{made_ends}
use Rattle.visits.proofs.Terms.{ℕ, ◌+◌, ◌-◌, ◌*◌, ◌≤◌, ◌<◌, Bool, true, false, List, [], ◌∷◌, ◌≡◌, refl, arith, bool_byte}
use Rattle.visits.proofs.Terms.{weight, bool_of, one, two, comprehension, predicate, expression, table_of, gives, valueᵉ, code, same_trans, SomeOperands, NodeAnswer, kind_of_law, Builds, Refusal, Truth, Refused, Formed, Placed, Stopped, Some, None, PlacedAs, field_a, field_b, RangeAt, Visited, Sort, Asks, EvaluatesP, EvaluatesE, EachReady, EvaluatesChosen, truth_value, One, set_of, one_value, two_value, one_given, two_given, OneReady, OneOf, TwoReady, TwoOf, LightOf, KnownFunction, FunctionLeaf, one_rule, two_rule, PutsCell, IsLight, Built, Ok, function_known, StandingTwo}
use Rattle.visits.specs.declared.Places.{Places}
use Rattle.visits.proofs.RunLaws.{then_done, then_refused, light_form, fitted_ends}
use Rattle.visits.proofs.NodeLaws.{Child, TwoFields, ready_first, sizes_small, visited_builds, operation_room, visited_child, visited_operands}
use Rattle.visits.proofs.NodeLaws.{some_asks, visits, after, value_in, held_below, formed_below, stopped_by, settled_by, Operated}
use Rattle.visits.proofs.DispatchLaws.{name_below, placed_answer, light_two, standing_name_place}
use Rattle.visits.proofs.BothLaws.{operands_ready, StopsBoth, EvaluatesBoth, right_ready, both_formed}
use Rattle.visits.proofs.ChosenLaws.{chosen_as}
use Rattle.visits.proofs.RangeLaws.{Binder, Ranged, range_child, range_stops, range_unlike, each_ready, in_range_law, range_on}

-- 27, 33, 35, 36, 38 and 43: the operand's node is `m`.
module _ {bs env s : List ℕ} {top k n m left : ℕ} (p : Visited bs env s top k n left × Sort one k) (w : m ≡ field_a bs n) where
  abbrev x : Visited bs env s top k n left
  x = p.0

  abbrev j : One
  j = p.1.0

  pub one_child : Child bs n m expression
  one_child = visited_child x (one j) p.1.1 expression 0 m (omega arith) (omega arith) refl w

  pub one_fails : {s₁ : List ℕ} {r : Refusal} {l : ℕ} → EvaluatesE bs env s top m (left - 1) s₁ (Stopped r l) →
      EvaluatesE bs env s top n left s₁ (Stopped r l)
  unfolding valueᵉ
  one_fails {r = r} {l = l} h =
      stopped_by x (one j) p.1.1 h.frame (λ i. visits x i _ (then_refused _ (formed_below (after x i) one_child w (Stopped r l) h)))

  module _ {s₁ : List ℕ} {at next l : ℕ} (h : EvaluatesE bs env s top m (left - 1) s₁ (Placed at next l)) where
    operand_at : (i : Asks bs env s top n (left - 1)) → PlacedAs (value_in i (field_a bs n)) i.budget (table_of bs).sizes s₁ at next l
    operand_at i = formed_below i one_child w (Placed at next l) h

    pub one_ready : OneReady s₁ at next
    one_ready =
        let v = operand_at (some_asks n (left - 1) x.ready) in
        record {
          sizes = (table_of bs).sizes;
          small = sizes_small bs x.ready.readable;
          value = v.value;
          operand = v.place;
          room = operation_room x (one j) p.1.1 next refl refl h.frame (omega (arith, one_child.lower, one_child.tall, h.bounds));
        }

    pub one_operated : {s₂ : List ℕ} {o : NodeAnswer} → OneOf k s₁ at next s₂ o → Operated bs env s top k n left (one j) s₂ o next next l
    unfolding valueᵉ one_given
    one_operated {s₂} op = record {
      visited = x;
      code = p.1.1;
      tall = omega (arith, one_child.lower, one_child.tall);
      frame = same_trans top next s s₁ s₂ h.frame (op j p.1.1).frame h.bounds.0;
      low = h.bounds.0;
      high = h.bounds.1;
      order = omega arith;
      room = omega (arith, one_ready.room, (op j p.1.1).frame.kept);
      gives = λ i. let v = operand_at (after x i) in (
        one_given j v.value,
        visits x i _ (then_done _ v.ends (fitted_ends n (one_rule j) (v.value ∷ []) (one_value j v.value) _ v.ends.steps)),
        (op j p.1.1).answer (table_of bs).sizes v.value (sizes_small bs x.ready.readable) v.place,
      );
    }

-- 28 to 32, 37 and 39 to 41: the node's operands have been evaluated.
module _ {bs env s : List ℕ} {top k n left : ℕ} (p : Visited bs env s top k n left × Sort two k) where
  pub two_fields : TwoFields bs env s top n
  two_fields = visited_operands p.0 (two p.1.0) p.1.1 refl

  -- What the operation may take for granted of its operands.
  pub two_ready : {s₁ : List ℕ} {at mid other next l : ℕ} → EvaluatesBoth bs env s top n (left - 1) s₁ at mid other next l → TwoReady s₁ at other next
  two_ready h = record {
    operands = (operands_ready p.0.ready h).1;
    room = operation_room p.0 (two p.1.0) p.1.1 _ refl refl h.frame h.near;
  }

  pub two_fails : {s₁ : List ℕ} {f : Formed} {r : Refusal} {l : ℕ} → f ≡ Stopped r l → StopsBoth bs env s top n (left - 1) s₁ r l →
      EvaluatesE bs env s top n left s₁ f
  unfolding valueᵉ
  two_fails q h = rw q (stopped_by p.0 (two p.1.0) p.1.1 h.frame (λ i. visits p.0 i _ (h.answer (after p.0 i) _)))

  pub two_operated : {s₁ : List ℕ} {at mid other next l : ℕ} {s₂ : List ℕ} {o : NodeAnswer} → EvaluatesBoth bs env s top n (left - 1) s₁ at mid other next l →
      TwoOf k s₁ at other next s₂ o → Operated bs env s top k n left (two p.1.0) s₂ o mid next l
  unfolding valueᵉ two_given
  two_operated {s₁} {mid = mid} {next = next} {s₂ = s₂} h op =
      let x = p.0 in
      let j = p.1.0 in
      let done = op j p.1.1 in
      record {
        visited = x;
        code = p.1.1;
        tall = omega (arith, two_fields.left.lower, two_fields.left.tall);
        frame = same_trans top next s s₁ s₂ h.frame done.frame (omega (arith, h.low, h.order));
        low = h.low;
        high = h.high;
        order = h.order;
        room = omega (arith, (two_ready h).room, done.frame.kept);
        gives = λ i. let v = h.first (after x i) in let w = h.second (after x i) in (
          two_given j v.value w.value,
          visits x i _ (then_done _ v.ends (then_done _ w.ends
              (fitted_ends n (two_rule j) (v.value ∷ w.value ∷ []) (two_value j v.value w.value) _ w.ends.steps))),
          done.answer (table_of bs).sizes mid v.value w.value (sizes_small bs x.ready.readable) h.order v.place w.place,
        );
      }

-- 37, 39 and 40, where the operands stand already, and there are visits for them.
module _ {bs env s : List ℕ} {top k n left : ℕ} (x : Visited bs env s top k n left) {r : Places} (z : StandingTwo bs env k n left r) where
  abbrev at_two : Visited bs env s top k n left × Sort two k
  at_two = (x, light_two z.light)

  first_stands : EvaluatesE bs env s top (field_a bs n) (left - 1) s (Placed r.first top (left - 2))
  first_stands = placed_answer (ready_first x.ready (two_fields at_two).left) z.first (omega (arith, z.visits)) (omega arith)

  both : EvaluatesBoth bs env s top n (left - 1) s r.first top r.second top (left - 3)
  both =
      let q = (right_ready (two_fields at_two) refl first_stands refl refl).0 in
      both_formed (two_fields at_two) refl first_stands refl refl (placed_answer q z.second (omega (arith, z.visits)) (omega arith)) refl

  -- The first is marked, so it is an identifier's value and known to be a function.
  known_first : FunctionLeaf bs env (field_a bs n) → KnownFunction s r.first true
  known_first m =
      let b = x.ready.binds in
      let lt = name_below bs x.ready.readable (field_a bs n) (omega (arith, (two_fields at_two).left.below, x.ready.node)) m.is in
      let y = field_a bs (field_a bs n) in
      rw (standing_name_place z.first m.is) (function_known (sizes_small bs x.ready.readable) (b.at y lt) (λ _. b.functions y lt m.marked))

  pub light_asks : SomeOperands s r.first r.second × KnownFunction s r.first r.known × IsLight k
  light_asks = (operands_ready x.ready both, λ e. known_first (z.known e) refl, z.light)

  pub light_operated : {o : NodeAnswer} → LightOf k s r.first r.second o → Operated bs env s top k n left (two at_two.1.0) s o top top (left - 3)
  light_operated op = two_operated at_two both (op top)

-- 25: the condition's node is `m`.
truth_code : (b : Bool) → code (truth_value b) ≡ (8589934592 + bool_byte b) ∷ []
unfolding code
truth_code true = refl
truth_code false = refl

module _ {bs env s : List ℕ} {top n m left : ℕ} (x : Visited bs env s top 25 n left) (w : m ≡ field_a bs n) where
  pub bool_child : Child bs n m predicate
  bool_child = visited_child x bool_of (kind_of_law 25 bool_of refl) predicate 0 m (omega arith) (omega arith) refl w

  pub bool_builds : Builds bs
  bool_builds = visited_builds x bool_of (kind_of_law 25 bool_of refl) refl

  pub bool_fails : {s₁ : List ℕ} {r : Refusal} {l : ℕ} → EvaluatesP bs env s top m (left - 1) s₁ (Refused r l) →
      EvaluatesE bs env s top n left s₁ (Stopped r l)
  unfolding valueᵉ
  bool_fails {s₁} {r} {l} h =
      stopped_by x bool_of (kind_of_law 25 bool_of refl) h.frame
      (λ i. visits x i _ (then_refused _ (held_below (after x i) bool_child w (Refused r l) h)))

  pub bool_evaluates : {s₁ : List ℕ} {y : Bool} {l : ℕ} {s₂ : List ℕ} {end : ℕ} → EvaluatesP bs env s top m (left - 1) s₁ (Truth y l) →
      PutsCell s₁ top (8589934592 + bool_byte y) s₂ end → EvaluatesE bs env s top n left s₂ (Placed top end l)
  unfolding valueᵉ
  bool_evaluates {s₁} {y} {l} {s₂} {end} h put =
      let made = put (truth_value y) (truth_code y) in
      let q = made_ends made in
      settled_by x bool_of (kind_of_law 25 bool_of refl) (same_trans top top s s₁ s₂ h.frame made.frame (omega arith))
      (omega (arith, q.1, x.ready.tall))
      (λ i. let z = held_below (after x i) bool_child w (Truth y l) h in (
        gives (truth_value y),
        visits x i _ (then_done _ z (light_form n (truth_value y) _ (omega arith) z.steps)),
        record { value = truth_value y; is = refl; stands = q.2; below = omega (arith, q.1); same = refl },
      ))

-- 34: the range's node is `m`.
pub select_binder : {bs env s : List ℕ} {top n m left : ℕ} → Visited bs env s top 34 n left → m ≡ field_b bs n → Binder bs env s top 34 n left m comprehension
select_binder x w = record { visited = x; code = kind_of_law 34 comprehension refl; fields = refl; word = w }

module _ {bs env s : List ℕ} {top k n m left : ℕ} where
  pub select_fails : Binder bs env s top k n left m comprehension → {s₁ : List ℕ} {f : Formed} {r : Refusal} {l : ℕ} →
      EvaluatesE bs env s top m (left - 1) s₁ f → f ≡ Stopped r l → EvaluatesE bs env s top n left s₁ f
  unfolding valueᵉ
  select_fails b h q = rw q (stopped_by b.visited comprehension b.code h.frame (λ i. range_stops b i _ (rw q at h)))

  module _ {s₁ : List ℕ} {at next l : ℕ} (g : Ranged bs env s top k n left m comprehension s₁ at next l) where
    abbrev b : Binder bs env s top k n left m comprehension
    b = g.binder

    abbrev h : EvaluatesE bs env s top m (left - 1) s₁ (Placed at next l)
    h = g.placed

    pub select_unlike : RangeAt s₁ at None → EvaluatesE bs env s top n left s₁ (Stopped (record { number = 15; place = n }) l)
    unfolding valueᵉ
    select_unlike y = stopped_by b.visited comprehension b.code h.frame (λ i. range_unlike b h y i _)

    module _ {count : ℕ} (y : RangeAt s₁ at (Some count)) where
      pub select_asks : {t : ℕ} → 5 * n + 1 ≡ t → (5 * n < t) × EachReady bs env s₁ next n (at + 1) count 256
      select_asks e = (omega arith, each_ready b h y 256 (omega arith) (λ _. refl))

      pub chosen_fails : {s₂ : List ℕ} {f : Formed} {r : Refusal} {u : ℕ} → EvaluatesChosen bs env s₁ next n (at + 1) count l s₂ f → f ≡ Stopped r u →
          EvaluatesE bs env s top n left s₂ f
      unfolding valueᵉ
      chosen_fails {s₂} ch q =
          rw q (stopped_by b.visited comprehension b.code (same_trans top next s s₁ s₂ h.frame ch.frame h.bounds.0) (λ i.
          range_on b h y i _ (then_refused _ ((chosen_as q ch).answer (in_range_law b h y i)))))

      -- The set has been built at `next`.
      pub select_operated : {s₂ : List ℕ} {f : Formed} {to end u : ℕ} → EvaluatesChosen bs env s₁ next n (at + 1) count l s₂ f → f ≡ Placed to end u →
          Operated bs env s top k n left comprehension s₂ (Ok (Built end)) next next u
      unfolding valueᵉ
      select_operated {s₂} c q =
          let ch = chosen_as q c in
          let d = range_child b in
          let same = same_trans top next s s₁ s₂ h.frame ch.frame h.bounds.0 in
          record {
            visited = b.visited;
            code = b.code;
            tall = omega (arith, d.lower, d.tall);
            frame = same;
            low = h.bounds.0;
            high = h.bounds.1;
            order = omega arith;
            room = operation_room b.visited comprehension b.code next refl refl same (omega (arith, d.lower, d.tall, h.bounds));
            gives = λ i.
                let z = ch.answer (in_range_law b h y i) in
                let v = set_of z.chosen in
                let light : weight v ≤ 256 = omega (arith, z.ending, ch.bounds.1) in (
                  gives v,
                  range_on b h y i _ (then_done _ z.ends (light_form n v _ light z.ends.steps)),
                  record { value = v; is = refl; stands = z.stands; ends = z.ending; light = light },
                );
          }
