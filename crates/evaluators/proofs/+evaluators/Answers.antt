-- The answers of the cycle, function by function. Each gives a law of `visits` what its path has told: what was lent, the words of the node's fields, and
-- the answers for the operands, or for the body at a member.
-- In `eval_bare` and `eval_value` an arm asks what its evaluator asks of the node, by the codes of the arm; the last arm is met by no code. In
-- `m = .. .rest`, `m.1` is that the code is neither 20 nor 26, `m.0.1` neither 21 nor 42, and so on back to 25.
use Rattle.visits.proofs.Terms.{ℕ, ◌-◌, refl, sym, ◌∙◌, arith, inl, inr, List, EvaluatesE, Kind}
use Rattle.visits.proofs.SafeLaws.{byte_small, cell_room}
use Rattle.visits.proofs.NodeLaws.{child_asks, held_as, formed_as, stop_is, settle_asks, settle_tells}
use Rattle.visits.proofs.BodyLaws.{member_low, member_at}
use Rattle.visits.specs.declared.Formed.TheVariants.{Value as Placed}
use Rattle.visits.proofs.RangeLaws.{Binder, Ranged, range_child, range_good, range_low}
use Rattle.visits.proofs.DispatchLaws.{counted, spent_pred, predicate_code, test_sort, quant_sort, join_kind, spent_expr, expression_code, one_keys, one_range, two_key, two_low, two_high, no_other, leaf_node, leaf_answer, standing_code, place_ready, unbuilt_ready, standing_answer, placed_answer}
use Rattle.visits.proofs.ChosenLaws.{choosing_start, choosing_near, choosing_end, choosing_asks, choosing_refused, choosing_choose, choosing_next, chose}
use Rattle.visits.proofs.QuantLaws.{compared, refusal_ends, turning_start, member_asks, member_ends, turning_on, members_done, quant_binder, quant_refused, quant_unlike, quant_asks, quant_done, turned}
use Rattle.visits.proofs.FormLaws.{bool_child, bool_builds, bool_fails, bool_evaluates, one_child, one_fails, one_ready, one_operated, select_binder, select_fails, select_unlike, select_asks, chosen_fails, select_operated, two_fields, two_ready, two_fails, two_operated, light_asks, light_operated}
use Rattle.visits.proofs.JoinLaws.{join_child, join_stays, join_short, join_asks, join_stays_2, join_both}
use Rattle.visits.proofs.BareLaws.{bare_ready, bare_tells}
use Rattle.visits.proofs.BothLaws.{left_asks, right_asks, both_stops, both_stops_2, both_formed, operands_ready, test_fields, test_stops, test_unlike, test_truth}
use Rattle.evaluators.proofs.+evaluators.Goals as goal
use Rattle.evaluators.proofs.+evaluators.Goals.{eval_bare-in_default-kind-via-then-kind-lt6, eval_bare-in_default-kind-via-else-kind-lt6+else-kind-lt10+else-kind-lt12-2}
use Rattle.evaluators.proofs.+evaluators.Goals.{eval_bare-in_default-via-then-kind-lt1, eval_bare-in_default-via-else-kind-lt1+else-kind-lt12}
use Rattle.evaluators.proofs.+evaluators.Goals.{eval_value-in-37-1, eval_value-in_default+else-kind-lt20+else-kind-lt25+then-kind-lt33, eval_value-in_default+else-kind-lt20+else-kind-lt25+else-kind-lt33+else-kind-lt37+then-kind-lt42}
use Rattle.evaluators.proofs.+evaluators.Goals.{eval_value-in-27-1, eval_value-in_default+else-kind-lt20+else-kind-lt25+else-kind-lt33+then-kind-lt37}
use Rattle.evaluators.proofs.+evaluators.Goals.{eval_value-in-20-1, eval_value-in_default+else-kind-lt20+then-kind-lt25}
use Rattle.evaluators.proofs.+evaluators.Goals.{eval_value-in_default-kind-via-then-kind-lt20, eval_value-in_default-kind-via-else-kind-lt20+else-kind-lt25+else-kind-lt33+else-kind-lt37+else-kind-lt42}
use Rattle.rules.specs.Kinds.{one, two}
use Rattle.visits.specs.Cycle.{Sort}
use Rattle.std.specs.Prelude.{◌≡◌, ◌≤◌, ◌<◌, ◌≢◌, ◌⊎◌}

-- A range that has been evaluated.
ranged : {bs env s : List ℕ} {top k n left a : ℕ} {x : Kind} {s₁ : List ℕ} {at next l : ℕ} → Binder bs env s top k n left a x →
    EvaluatesE bs env s top a (left - 1) s₁ (Placed at next l) → Ranged bs env s top k n left a x s₁ at next l
ranged b p = record { binder = b; placed = p }

-- `each_chosen`
pub each_chosen-loop-turn-init : goal.each_chosen-loop-turn-init
each_chosen-loop-turn-init t c = choosing_start c.requires _ (omega arith)

pub each_chosen-overflow_cast-inner : goal.each_chosen-overflow_cast-inner
each_chosen-overflow_cast-inner t c = omega (arith, member_low c.requires c.loop-turn.invariant.loop (omega arith))

pub each_chosen-eval_pred-held-requires : goal.each_chosen-eval_pred-held-requires
each_chosen-eval_pred-held-requires t c = choosing_asks c.requires c.loop-turn.invariant (omega arith) c.node_field-x.ensures
    c.node_field-body.ensures c.decreases

pub each_chosen-returns-in_default : goal.each_chosen-returns-in_default
each_chosen-returns-in_default t c =
    let ran = chose c.requires c.loop-turn.invariant (omega arith) c.node_field-x.ensures c.node_field-body.ensures c.eval_pred-held.ensures in
    choosing_refused c.loop-turn.invariant ran c.in_default.is c.stop_of.ensures

pub each_chosen-end_of-end-requires : goal.each_chosen-end_of-end-requires
each_chosen-end_of-end-requires t c =
    member_at (chose c.requires c.loop-turn.invariant (omega arith) c.node_field-x.ensures c.node_field-body.ensures c.eval_pred-held.ensures)

pub each_chosen-copy_if-to-requires : goal.each_chosen-copy_if-to-requires
each_chosen-copy_if-to-requires t c =
    let ran = chose c.requires c.loop-turn.invariant (omega arith) c.node_field-x.ensures c.node_field-body.ensures c.eval_pred-held.ensures in
    choosing_choose c.loop-turn.invariant ran c.end_of-end.ensures

pub each_chosen-overflow_add-chosen : goal.each_chosen-overflow_add-chosen
each_chosen-overflow_add-chosen t c = record { fits = omega (arith, (choosing_near c.requires c.loop-turn.invariant).2, byte_small c.in-Truth.yes) }

pub each_chosen-loop-turn-preserved : goal.each_chosen-loop-turn-preserved
each_chosen-loop-turn-preserved t c =
    let ran = chose c.requires c.loop-turn.invariant (omega arith) c.node_field-x.ensures c.node_field-body.ensures c.eval_pred-held.ensures in
    choosing_next c.loop-turn.invariant ran
    c.end_of-end.ensures (omega arith) c.in-Truth.is c.copy_if-to.ensures

pub each_chosen-overflow_add-s : goal.each_chosen-overflow_add-s
each_chosen-overflow_add-s t c = omega (arith, (choosing_near c.requires c.loop-turn.invariant).2)

pub each_chosen-returns : goal.each_chosen-returns
each_chosen-returns t c = choosing_end c.requires c.loop-turn.invariant (omega arith)

-- `each_member`
pub each_member-loop-turn-init : goal.each_member-loop-turn-init
each_member-loop-turn-init t c = turning_start _ _ (omega arith) c.requires

pub each_member-overflow_cast-inner : goal.each_member-overflow_cast-inner
each_member-overflow_cast-inner t c = record { fits = omega (arith, member_low c.requires c.loop-turn.invariant.loop (omega arith)) }

pub each_member-eval_pred-held-requires : goal.each_member-eval_pred-held-requires
each_member-eval_pred-held-requires t c = member_asks c.requires c.loop-turn.invariant (omega arith) c.node_field-x.ensures c.node_field-body.ensures
    c.decreases

pub each_member-returns-in_default : goal.each_member-returns-in_default
each_member-returns-in_default t c =
    let ran = turned c.requires c.loop-turn.invariant (omega arith) c.node_field-x.ensures c.node_field-body.ensures c.eval_pred-held.ensures in
    member_ends c.loop-turn.invariant ran _ refl (refusal_ends _ c.in_default.is)

pub each_member-returns-then-yes-all : goal.each_member-returns-then-yes-all
each_member-returns-then-yes-all t c =
    let ran = turned c.requires c.loop-turn.invariant (omega arith) c.node_field-x.ensures c.node_field-body.ensures c.eval_pred-held.ensures in
    member_ends c.loop-turn.invariant ran _ c.in-Truth.is (compared _ _ c.if-yes-all.true)

pub each_member-end_of-at-requires : goal.each_member-end_of-at-requires
each_member-end_of-at-requires t c =
    member_at (turned c.requires c.loop-turn.invariant (omega arith) c.node_field-x.ensures c.node_field-body.ensures c.eval_pred-held.ensures)

pub each_member-loop-turn-preserved : goal.each_member-loop-turn-preserved
each_member-loop-turn-preserved t c =
    let ran = turned c.requires c.loop-turn.invariant (omega arith) c.node_field-x.ensures c.node_field-body.ensures c.eval_pred-held.ensures in
    turning_on c.loop-turn.invariant ran
    _ _ _ (omega arith) c.in-Truth.is (compared _ _ c.if-yes-all.false) c.end_of-at.ensures

pub each_member-returns : goal.each_member-returns
each_member-returns t c = members_done c.loop-turn.invariant (omega arith)

-- `eval_bare`
pub eval_bare-returns-then-left-eq0 : goal.eval_bare-returns-then-left-eq0
eval_bare-returns-then-left-eq0 t c = held_as refl (sym c.refused.ensures) (spent_pred c.requires.0 c.if-left-eq0.true)

pub eval_bare-eval_test-requires : goal.eval_bare-eval_test-requires
eval_bare-eval_test-requires t c =
    let visit = counted c.requires.0 _ c.if-left-eq0.false c.node_kind-kind.ensures in
    (omega (arith, c.decreases), (visit, test_sort _ (omega arith) (omega arith)))

pub eval_bare-eval_quant-requires : goal.eval_bare-eval_quant-requires
eval_bare-eval_quant-requires t c =
    let visit = counted c.requires.0 _ c.if-left-eq0.false c.node_kind-kind.ensures in
    (omega (arith, c.decreases), (visit, quant_sort _ (omega arith) (omega arith)))

pub eval_bare-eval_join-requires : goal.eval_bare-eval_join-requires
eval_bare-eval_join-requires t c =
    let visit = counted c.requires.0 _ c.if-left-eq0.false c.node_kind-kind.ensures in
    let below : c.node_kind-kind.result < 6 = elim c.in_default-kind.branch [
      | eval_bare-in_default-kind-via-then-kind-lt6 w ↦ omega arith
      | eval_bare-in_default-kind-via-else-kind-lt6+else-kind-lt10+else-kind-lt12-2 w ↦ absurd (omega arith)
    ] in
    let sort = join_kind visit c.requires.1 (λ e. c.requires.2 visit.unspent (sym c.node_kind-kind.ensures ∙ e)) below in
    (omega (arith, c.decreases), (visit, sort))

pub eval_bare-returns-in_default : goal.eval_bare-returns-in_default
eval_bare-returns-in_default t c =
    let visit = counted c.requires.0 _ c.if-left-eq0.false c.node_kind-kind.ensures in
    let code = predicate_code visit c.requires.1 in
    elim c.in_default.branch [
      | eval_bare-in_default-via-then-kind-lt1 w ↦ absurd (omega (arith, code))
      | eval_bare-in_default-via-else-kind-lt1+else-kind-lt12 w ↦ absurd (omega (arith, code))
    ]

-- `eval_bool`
pub eval_bool-eval_pred-held-requires : goal.eval_bool-eval_pred-held-requires
eval_bool-eval_pred-held-requires t c = child_asks 3 (omega arith) c.decreases c.requires.ready (bool_child c.requires c.node_field-a.ensures)

pub eval_bool-returns-in_default : goal.eval_bool-returns-in_default
eval_bool-returns-in_default t c =
    let q = c.in_default.is in
    formed_as refl (stop_is q c.stop_of.ensures) (bool_fails c.requires c.node_field-a.ensures (held_as refl q c.eval_pred-held.ensures))

pub eval_bool-put_cell-end-requires : goal.eval_bool-put_cell-end-requires
eval_bool-put_cell-end-requires t c = omega (arith, cell_room c.requires.ready (bool_builds c.requires c.node_field-a.ensures) c.eval_pred-held.ensures.frame)

pub eval_bool-returns : goal.eval_bool-returns
eval_bool-returns t c = bool_evaluates c.requires c.node_field-a.ensures (held_as refl c.in-Truth.is c.eval_pred-held.ensures) c.put_cell-end.ensures

-- `eval_join`
pub eval_join-eval_pred-first-requires : goal.eval_join-eval_pred-first-requires
eval_join-eval_pred-first-requires t c =
    child_asks 3 (omega arith) c.decreases c.requires.0.ready (join_child c.requires c.node_field-a.ensures)

pub eval_join-returns-in_default : goal.eval_join-returns-in_default
eval_join-returns-in_default t c =
    let p = c.requires in
    join_stays p c.node_field-a.ensures c.eval_pred-first.ensures c.in_default.is

pub eval_join-returns-in-Some : goal.eval_join-returns-in-Some
eval_join-returns-in-Some t c =
    let p = c.requires in
    join_short p c.node_field-a.ensures c.eval_pred-first.ensures c.in-Truth.is c.decides.ensures c.in-Some.is

pub eval_join-eval_pred-second-requires : goal.eval_join-eval_pred-second-requires
eval_join-eval_pred-second-requires t c =
    join_asks c.requires c.node_field-a.ensures c.eval_pred-first.ensures c.in-Truth.is c.decides.ensures
    c.in_default-decides.is c.node_field-b.ensures c.decreases

pub eval_join-returns-in_default-second : goal.eval_join-returns-in_default-second
eval_join-returns-in_default-second t c =
    let p = c.requires in
    join_stays_2 p c.node_field-a.ensures c.eval_pred-first.ensures c.in-Truth.is c.decides.ensures
    c.in_default-decides.is c.node_field-b.ensures c.eval_pred-second.ensures c.in_default-second.is

pub eval_join-returns : goal.eval_join-returns
eval_join-returns t c =
    join_both c.requires c.node_field-a.ensures c.eval_pred-first.ensures c.in-Truth.is c.decides.ensures
    c.in_default-decides.is c.node_field-b.ensures c.eval_pred-second.ensures c.in-Truth-second.is c.joined.ensures

-- `eval_one`
pub eval_one-operand-first-requires : goal.eval_one-operand-first-requires
eval_one-operand-first-requires t c = child_asks 4 (omega arith) c.decreases c.requires.0.ready (one_child c.requires c.node_field-a.ensures)

pub eval_one-returns-in_default : goal.eval_one-returns-in_default
eval_one-returns-in_default t c =
    let p = c.requires in let q = c.in_default.is in
    formed_as refl (sym q) (one_fails p c.node_field-a.ensures (formed_as refl q c.operand-first.ensures))

pub eval_one-one-r-requires : goal.eval_one-one-r-requires
eval_one-one-r-requires t c =
    let p = c.requires in
    one_ready p c.node_field-a.ensures (formed_as refl c.in-Value.is c.operand-first.ensures)

pub eval_one-settle-requires : goal.eval_one-settle-requires
eval_one-settle-requires t c =
    let p = c.requires in
    settle_asks (one_operated p c.node_field-a.ensures (formed_as refl c.in-Value.is c.operand-first.ensures) c.one-r.ensures) c.numbered.ensures

pub eval_one-returns : goal.eval_one-returns
eval_one-returns t c =
    let p = c.requires in
    settle_tells (one_operated p c.node_field-a.ensures (formed_as refl c.in-Value.is c.operand-first.ensures) c.one-r.ensures) c.numbered.ensures
    c.settle.ensures

-- `eval_pred`
pub eval_pred-eval_bare-held-requires : goal.eval_pred-eval_bare-held-requires
eval_pred-eval_bare-held-requires t c =
    let p = c.strip-b.ensures.passes in
    (omega (arith, c.decreases, p.below), (bare_ready c.requires.0 c.requires.1 p, p.is, c.strip-b.ensures.last))

pub eval_pred-returns : goal.eval_pred-returns
eval_pred-returns t c = bare_tells c.requires.0 c.requires.1 c.strip-b.ensures.passes c.eval_bare-held.ensures c.turn.ensures

-- `eval_quant`
pub eval_quant-operand-first-requires : goal.eval_quant-operand-first-requires
eval_quant-operand-first-requires t c =
    child_asks 4 (omega arith) c.decreases c.requires.0.ready (range_child (quant_binder c.requires c.node_field-a.ensures))

pub eval_quant-returns-in_default : goal.eval_quant-returns-in_default
eval_quant-returns-in_default t c = quant_refused (quant_binder c.requires c.node_field-a.ensures) c.operand-first.ensures c.in_default.is c.refusal_of.ensures

pub eval_quant-range_of-requires : goal.eval_quant-range_of-requires
eval_quant-range_of-requires t c =
    let range = ranged (quant_binder c.requires c.node_field-a.ensures) (formed_as refl c.in-Value.is c.operand-first.ensures) in
    range_good range.binder range.placed

pub eval_quant-returns-in_default-range_of : goal.eval_quant-returns-in_default-range_of
eval_quant-returns-in_default-range_of t c =
    let range = ranged (quant_binder c.requires c.node_field-a.ensures) (formed_as refl c.in-Value.is c.operand-first.ensures) in
    held_as refl (sym c.refused.ensures) (quant_unlike range c.in_default-range_of.ensures)

pub eval_quant-overflow_add-at : goal.eval_quant-overflow_add-at
eval_quant-overflow_add-at t c =
    let range = ranged (quant_binder c.requires c.node_field-a.ensures) (formed_as refl c.in-Value.is c.operand-first.ensures) in
    omega (arith, range_low range.binder range.placed)

pub eval_quant-each_member-requires : goal.eval_quant-each_member-requires
eval_quant-each_member-requires t c =
    let range = ranged (quant_binder c.requires c.node_field-a.ensures) (formed_as refl c.in-Value.is c.operand-first.ensures) in
    quant_asks range c.in-Some.ensures c.decreases

pub eval_quant-returns : goal.eval_quant-returns
eval_quant-returns t c =
    let range = ranged (quant_binder c.requires c.node_field-a.ensures) (formed_as refl c.in-Value.is c.operand-first.ensures) in
    quant_done range c.in-Some.ensures c.each_member.ensures

-- `eval_select`
pub eval_select-operand-first-requires : goal.eval_select-operand-first-requires
eval_select-operand-first-requires t c =
    child_asks 4 (omega arith) c.decreases c.requires.ready (range_child (select_binder c.requires c.node_field-a.ensures))

pub eval_select-returns-in_default : goal.eval_select-returns-in_default
eval_select-returns-in_default t c = select_fails (select_binder c.requires c.node_field-a.ensures) c.operand-first.ensures c.in_default.is

pub eval_select-range_of-requires : goal.eval_select-range_of-requires
eval_select-range_of-requires t c =
    let range = ranged (select_binder c.requires c.node_field-a.ensures) (formed_as refl c.in-Value.is c.operand-first.ensures) in
    range_good range.binder range.placed

pub eval_select-returns-in_default-range_of : goal.eval_select-returns-in_default-range_of
eval_select-returns-in_default-range_of t c =
    let range = ranged (select_binder c.requires c.node_field-a.ensures) (formed_as refl c.in-Value.is c.operand-first.ensures) in
    formed_as refl (sym c.stopped.ensures) (select_unlike range c.in_default-range_of.ensures)

pub eval_select-overflow_add-at : goal.eval_select-overflow_add-at
eval_select-overflow_add-at t c =
    let range = ranged (select_binder c.requires c.node_field-a.ensures) (formed_as refl c.in-Value.is c.operand-first.ensures) in
    omega (arith, range_low range.binder range.placed)

pub eval_select-each_chosen-chosen-requires : goal.eval_select-each_chosen-chosen-requires
eval_select-each_chosen-chosen-requires t c =
    let range = ranged (select_binder c.requires c.node_field-a.ensures) (formed_as refl c.in-Value.is c.operand-first.ensures) in
    select_asks range c.in-Some.ensures c.decreases

pub eval_select-returns-in_default-chosen : goal.eval_select-returns-in_default-chosen
eval_select-returns-in_default-chosen t c =
    let range = ranged (select_binder c.requires c.node_field-a.ensures) (formed_as refl c.in-Value.is c.operand-first.ensures) in
    chosen_fails range c.in-Some.ensures c.each_chosen-chosen.ensures c.in_default-chosen.is

pub eval_select-settle-requires : goal.eval_select-settle-requires
eval_select-settle-requires t c =
    let range = ranged (select_binder c.requires c.node_field-a.ensures) (formed_as refl c.in-Value.is c.operand-first.ensures) in
    settle_asks (select_operated range c.in-Some.ensures c.each_chosen-chosen.ensures c.in-Value-chosen.is) refl

pub eval_select-returns : goal.eval_select-returns
eval_select-returns t c =
    let range = ranged (select_binder c.requires c.node_field-a.ensures) (formed_as refl c.in-Value.is c.operand-first.ensures) in
    settle_tells (select_operated range c.in-Some.ensures c.each_chosen-chosen.ensures c.in-Value-chosen.is) refl
    c.settle.ensures

-- `eval_test`
pub eval_test-operand-first-requires : goal.eval_test-operand-first-requires
eval_test-operand-first-requires t c = left_asks (test_fields c.requires) c.node_field-a.ensures c.decreases

pub eval_test-returns-in_default : goal.eval_test-returns-in_default
eval_test-returns-in_default t c =
    let q = c.in_default.is in
    test_stops c.requires q c.refusal_of.ensures (both_stops (test_fields c.requires) c.node_field-a.ensures c.operand-first.ensures q)

pub eval_test-operand-second-requires : goal.eval_test-operand-second-requires
eval_test-operand-second-requires t c = right_asks (test_fields c.requires) c.node_field-a.ensures c.operand-first.ensures c.in-Value.is
    c.node_field-b.ensures c.decreases

pub eval_test-returns-in_default-second : goal.eval_test-returns-in_default-second
eval_test-returns-in_default-second t c =
    test_stops c.requires c.in_default-second.is c.refusal_of-in_default-second.ensures (both_stops_2 (test_fields c.requires) c.node_field-a.ensures
    c.operand-first.ensures c.in-Value.is c.node_field-b.ensures c.operand-second.ensures c.in_default-second.is)

pub eval_test-test-requires : goal.eval_test-test-requires
eval_test-test-requires t c =
    let formed = both_formed (test_fields c.requires) c.node_field-a.ensures c.operand-first.ensures c.in-Value.is
    c.node_field-b.ensures c.operand-second.ensures c.in-Value-second.is in
    operands_ready c.requires.0.ready formed

pub eval_test-returns-in_default-test : goal.eval_test-returns-in_default-test
eval_test-returns-in_default-test t c =
    let formed = both_formed (test_fields c.requires) c.node_field-a.ensures c.operand-first.ensures c.in-Value.is
    c.node_field-b.ensures c.operand-second.ensures c.in-Value-second.is in
    let p = c.requires in
    held_as refl (sym c.refused.ensures) (test_unlike p formed c.test.ensures c.in_default-test.is)

pub eval_test-returns : goal.eval_test-returns
eval_test-returns t c =
    let formed = both_formed (test_fields c.requires) c.node_field-a.ensures c.operand-first.ensures c.in-Value.is
    c.node_field-b.ensures c.operand-second.ensures c.in-Value-second.is in
    let p = c.requires in
    test_truth p formed c.test.ensures c.in-Some.is

-- `eval_two`
pub eval_two-operand-first-requires : goal.eval_two-operand-first-requires
eval_two-operand-first-requires t c = left_asks (two_fields c.requires) c.node_field-a.ensures c.decreases

pub eval_two-returns-in_default : goal.eval_two-returns-in_default
eval_two-returns-in_default t c =
    let q = c.in_default.is in
    two_fails c.requires q (both_stops (two_fields c.requires) c.node_field-a.ensures c.operand-first.ensures q)

pub eval_two-operand-second-requires : goal.eval_two-operand-second-requires
eval_two-operand-second-requires t c = right_asks (two_fields c.requires) c.node_field-a.ensures c.operand-first.ensures c.in-Value.is c.node_field-b.ensures
    c.decreases

pub eval_two-returns-in_default-second : goal.eval_two-returns-in_default-second
eval_two-returns-in_default-second t c =
    let q = c.in_default-second.is in
    two_fails c.requires q (both_stops_2 (two_fields c.requires) c.node_field-a.ensures c.operand-first.ensures c.in-Value.is
    c.node_field-b.ensures c.operand-second.ensures q)

pub eval_two-two-r-requires : goal.eval_two-two-r-requires
eval_two-two-r-requires t c =
    let formed = both_formed (two_fields c.requires) c.node_field-a.ensures c.operand-first.ensures c.in-Value.is
    c.node_field-b.ensures c.operand-second.ensures c.in-Value-second.is in
    two_ready c.requires formed

pub eval_two-settle-requires : goal.eval_two-settle-requires
eval_two-settle-requires t c =
    let formed = both_formed (two_fields c.requires) c.node_field-a.ensures c.operand-first.ensures c.in-Value.is
    c.node_field-b.ensures c.operand-second.ensures c.in-Value-second.is in
    settle_asks (two_operated c.requires formed c.two-r.ensures) c.numbered.ensures

pub eval_two-returns : goal.eval_two-returns
eval_two-returns t c =
    let formed = both_formed (two_fields c.requires) c.node_field-a.ensures c.operand-first.ensures c.in-Value.is
    c.node_field-b.ensures c.operand-second.ensures c.in-Value-second.is in
    settle_tells (two_operated c.requires formed c.two-r.ensures) c.numbered.ensures c.settle.ensures

-- `eval_value`
pub eval_value-returns-then-left-eq0 : goal.eval_value-returns-then-left-eq0
eval_value-returns-then-left-eq0 t c = formed_as refl (sym c.stopped.ensures) (spent_expr c.requires.0 c.if-left-eq0.true)

pub eval_value-light-r-requires : goal.eval_value-light-r-requires
eval_value-light-r-requires t c =
    let visit = counted c.requires.0 _ c.if-left-eq0.false c.node_kind-kind.ensures in
    light_asks visit c.in-Some.ensures

pub eval_value-settle-requires : goal.eval_value-settle-requires
eval_value-settle-requires t c =
    let visit = counted c.requires.0 _ c.if-left-eq0.false c.node_kind-kind.ensures in
    settle_asks (light_operated visit c.in-Some.ensures c.light-r.ensures) c.numbered.ensures

pub eval_value-returns-in-Some : goal.eval_value-returns-in-Some
eval_value-returns-in-Some t c =
    let visit = counted c.requires.0 _ c.if-left-eq0.false c.node_kind-kind.ensures in
    settle_tells (light_operated visit c.in-Some.ensures c.light-r.ensures) c.numbered.ensures c.settle.ensures

pub eval_value-eval_leaf-requires : goal.eval_value-eval_leaf-requires
eval_value-eval_leaf-requires t c =
    let visit = counted c.requires.0 _ c.if-left-eq0.false c.node_kind-kind.ensures in
    leaf_node visit c.in-21.is

pub eval_value-eval_two-requires : goal.eval_value-eval_two-requires
eval_value-eval_two-requires t c =
    let visit = counted c.requires.0 _ c.if-left-eq0.false c.node_kind-kind.ensures in
    let sort : Sort two c.node_kind-kind.result = elim c.in-28-to-32-1.branch [
      | eval_value-in-37-1 w ↦ two_key _ w.in-37-1.keys3
      | eval_value-in_default+else-kind-lt20+else-kind-lt25+then-kind-lt33 w ↦ let m = w.in_default-1.rest in
          two_low _ m.0.0.0.0.1 m.0.0.0.0.0.1 m.1 (omega arith) (omega arith)
      | eval_value-in_default+else-kind-lt20+else-kind-lt25+else-kind-lt33+else-kind-lt37+then-kind-lt42 w ↦ two_high _
          (λ e. w.in_default-1.rest.0.0.0.0.1 (inr (inr (inl e)))) (omega arith) (omega arith)
    ] in
    (omega (arith, c.decreases), (visit, sort))

pub eval_value-eval_one-requires : goal.eval_value-eval_one-requires
eval_value-eval_one-requires t c =
    let visit = counted c.requires.0 _ c.if-left-eq0.false c.node_kind-kind.ensures in
    let sort : Sort one c.node_kind-kind.result = elim c.in-27-1.branch [
      | eval_value-in-27-1 w ↦ one_keys _ w.in-27-1.keys2
      | eval_value-in_default+else-kind-lt20+else-kind-lt25+else-kind-lt33+then-kind-lt37 w ↦ let m = w.in_default-1.rest in
          one_range _ m.0.0.1 (omega arith) (omega arith)
    ] in
    (omega (arith, c.decreases), (visit, sort))

pub eval_value-standing-requires : goal.eval_value-standing-requires
eval_value-standing-requires t c =
    let visit = counted c.requires.0 _ c.if-left-eq0.false c.node_kind-kind.ensures in
    let code : ((c.node_kind-kind.result ≡ 20) ⊎ (c.node_kind-kind.result ≡ 26)) ⊎
    ((20 ≤ c.node_kind-kind.result) × (c.node_kind-kind.result < 25) × (c.node_kind-kind.result ≢ 21))
    = elim c.in-20-to-43-1.branch [
      | eval_value-in-20-1 w ↦ inl w.in-20-1.keys6
      | eval_value-in_default+else-kind-lt20+then-kind-lt25 w ↦ inr (omega arith, omega arith, λ e. w.in_default-1.rest.0.1 (inl e))
    ] in
    unbuilt_ready (place_ready visit.ready) visit.kind (standing_code _ code)

pub eval_value-returns-in-21 : goal.eval_value-returns-in-21
eval_value-returns-in-21 t c =
    let visit = counted c.requires.0 _ c.if-left-eq0.false c.node_kind-kind.ensures in
    let d = visit in
    leaf_answer d (leaf_node d c.in-21.is) _ _ c.eval_leaf.ensures

pub eval_value-returns-in_default-kind : goal.eval_value-returns-in_default-kind
eval_value-returns-in_default-kind t c =
    let visit = counted c.requires.0 _ c.if-left-eq0.false c.node_kind-kind.ensures in
    let code = expression_code visit c.requires.1 in
    elim c.in_default-kind.branch [
      | eval_value-in_default-kind-via-then-kind-lt20 w ↦ absurd (omega (arith, code))
      | eval_value-in_default-kind-via-else-kind-lt20+else-kind-lt25+else-kind-lt33+else-kind-lt37+else-kind-lt42 w ↦ let m = c.in_default-1.rest in
          no_other _ code (omega arith) m.0.0.0.0.1 m.0.1
    ]

pub eval_value-returns-in-20-to-43 : goal.eval_value-returns-in-20-to-43
eval_value-returns-in-20-to-43 t c =
    let visit = counted c.requires.0 _ c.if-left-eq0.false c.node_kind-kind.ensures in
    standing_answer visit c.standing.ensures

-- `operand`
pub operand-returns-in-Some : goal.operand-returns-in-Some
operand-returns-in-Some t c = placed_answer c.requires.0 c.in-Some.ensures (omega arith) refl
