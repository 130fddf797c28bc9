-- Every refusal of Check has a number of 1 to 13 and a place in that number's range, and every refusal of an evaluation one of 1 to 9 and 14
-- to 19; an evaluation's steps are at most its budget. What is said of runs is by induction over the condition (TreeInduction.antt).
use Prim.Native.Nat.{ℕ, zero, suc, ◌+◌, ◌-◌, ◌≤◌, ◌<◌}
use mathlib.Core.Bool.{Bool, true, false, cond}
use mathlib.Core.List.{List, [], ◌∷◌}
use mathlib.Core.Logic.{◌⊎◌, inl, inr}
use mathlib.Core.Option.{Option, none as nothing, some}
use mathlib.Core.Path.{◌≡◌, refl, subst}
use native.Mathlib.Omega.{arith}
use lib.Dec.{ltb, leb}
use lib.ListN.{get_or, length}
use lib.IntN.{ℤ, ◌+ℤ◌, ◌-ℤ◌}
use Rattle.rules.specs.Types.{Number}
use Rattle.rules.specs.Values.{Value, scalar, num, truth_value, payload, weight}
use Rattle.rules.specs.Kinds.{Quant, for_all, for_some, One, singleton, power, dom, ran, card, choice}
use Rattle.rules.specs.Kinds.{Two, pairing, union, inter, diff, product, apply, plus, minus, interval}
use Rattle.rules.specs.Rules.{Rule, test_rule, one_rule, two_rule, quant_rule, comprehension_rule}
use Rattle.rules.specs.Fits.{fits}
use Rattle.rules.specs.Tables.{Table, identifier_count, node_count, Pred, condition_of}
use Rattle.rules.specs.Ends as ends
use Rattle.rules.specs.Ends.{End, done, refused, require}
use Rattle.rules.specs.Reading.{reading}
use Rattle.rules.specs.Readable.{Records}
use Rattle.rules.specs.Cells.{in_range, weight_limit, no_value, Read, value, good, or_fault, value_for, nothing_left, values_from, values_in}
use Rattle.rules.specs.Runs.{Trace, Run, M, return, go_on, ◌>>=◌, ◌>>◌, demand, counted, visit, emit, form, ◌or_else◌, Given, gives, lacks}
use Rattle.rules.specs.Operations.{Env, ◌with◌≔◌, decides, elems, set_of, least, applied, ranged, leaf_value, one_value, two_value}
use Rattle.rules.specs.Evaluation.{fitting, quantify, select, holdsᵖ, valueᵉ, holdsᶜ, run, evaluation}
use Rattle.rules.specs.Merges.{free_values, first_two, union_in}
use Rattle.rules.specs.Refusals.{PlaceInRange, RefusesOnly}
use Rattle.rules.specs.Safety.{EndsSafely}
use Rattle.rules.specs.Verdict.{Place, Verdict, unreadable, misfit, clash, several, heavy, accepts}
use Rattle.laws.proofs.EndLaws.{t_ltb, T_false, refuses_imp, refuses_bind, require_refuses}
use Rattle.laws.proofs.TableLaws.{binds_length, nodes_length, IfSome}
use Rattle.laws.proofs.ReadingLaws.{reading_table, reading_records_law, reading_refuses}
use Rattle.laws.proofs.TreeInduction.{HandsOn, root_has}
use Rattle.laws.proofs.SetOrder.{Any, all_any, OrUndefined, least_from, applied_from}

-- A table has as many identifiers and nodes as the header of its bytes says.
module _ (bs : List ℕ) {tb : Table} (e : reading bs ≡ done tb) where
  identifiers_read : length tb.binds ≡ identifier_count bs
  identifiers_read = rw (reading_table bs tb e) (binds_length bs)

  nodes_read : length tb.nodes ≡ node_count bs
  nodes_read = rw (reading_table bs tb e) (nodes_length bs)

  -- A place that has a type is one of them.
  place_read : {p : ℕ} → Place tb p → p < identifier_count bs + node_count bs
  place_read (inl h) = omega (arith, identifiers_read)
  place_read (inr h) = omega (arith, identifiers_read, nodes_read, h.1, h.3)

-- Check.
pub verdict_refuses : {bs : List ℕ} {room : ℕ} {a : End (List ℕ)} → Verdict bs room a →
    RefusesOnly (λ r p. (1 ≤ r) × (r ≤ 13) × PlaceInRange bs r p) a
verdict_refuses {bs} (unreadable {r} {p} e) =
    let h : (1 ≤ r) × (r ≤ 9) × PlaceInRange bs r p = rw e at (reading_refuses bs) in (h.0, omega arith, h.2)
verdict_refuses (misfit e n) = (omega arith, omega arith, omega arith)
verdict_refuses {bs} (clash e f l w n) = (omega arith, omega arith, omega (arith, nodes_read bs e))
verdict_refuses {bs} (several e f h w w₁ d g) = (omega arith, omega arith, place_read bs e h)
verdict_refuses {bs} (heavy e f h o l g) = (omega arith, omega arith, place_read bs e h)
verdict_refuses (accepts e f o g) = tt

-- 14: the identifiers from x on have the words ws; the place is one of them, or the number behind the last.
abbrev FaultFrom : ℕ → List ℕ → ℕ → ℕ → Type 0
FaultFrom x ws r p = (r ≡ 14) × (p < x + length ws + 1)

fault_refuses : (x w : ℕ) (ws : List ℕ) (r : Read Value) → RefusesOnly (FaultFrom x (w ∷ ws)) (or_fault x r)
fault_refuses x w ws nothing = (refl, omega arith)
fault_refuses x w ws (some r) = tt

value_for_refuses : (gs : List ℕ) (w : ℕ) (ws : List ℕ) (x : ℕ) (bs : List ℕ) → RefusesOnly (FaultFrom x (w ∷ ws)) (value_for gs w x bs)
value_for_refuses gs zero ws x bs =
    refuses_bind (FaultFrom x (zero ∷ ws)) (or_fault x (value bs)) _ (fault_refuses x zero ws (value bs)) λ r.
    refuses_bind (FaultFrom x (zero ∷ ws)) (require 14 x (good gs r.0)) _
    (require_refuses (FaultFrom x (zero ∷ ws)) 14 x (good gs r.0) (refl, omega arith)) λ _. tt
value_for_refuses gs (suc w) ws x bs = tt

nothing_left_refuses : (x : ℕ) (bs : List ℕ) → RefusesOnly (FaultFrom x []) (nothing_left x bs)
nothing_left_refuses x [] = tt
nothing_left_refuses x (b ∷ bs) = (refl, omega arith)

values_from_refuses : (gs ws : List ℕ) (x : ℕ) (bs : List ℕ) → RefusesOnly (FaultFrom x ws) (values_from gs ws x bs)
unfolding values_from
values_from_refuses gs [] x bs = nothing_left_refuses x bs
values_from_refuses gs (w ∷ ws) x bs =
    refuses_bind (FaultFrom x (w ∷ ws)) (value_for gs w x bs) _ (value_for_refuses gs w ws x bs) λ r.
    refuses_bind (FaultFrom x (w ∷ ws)) (values_from gs ws (suc x) r.1) _
    (refuses_imp (FaultFrom (suc x) ws) (FaultFrom x (w ∷ ws)) (λ k p h. (h.0, omega arith)) (values_from gs ws (suc x) r.1)
    (values_from_refuses gs ws (suc x) r.1)) λ _. tt

values_in_refuses : (tb : Table) (buffer : List ℕ) → RefusesOnly (FaultFrom 0 tb.binds) (values_in tb buffer)
unfolding values_in
values_in_refuses tb buffer = values_from_refuses tb.sizes tb.binds 0 buffer

-- An operation gives a value, or lacks one by 16 or 17.
abbrev LacksOnly : Given → Type 0
LacksOnly (gives v) = Unit {0}
LacksOnly (lacks r) = (16 ≤ r) × (r ≤ 17)

taken_lacks : (g : Given) → OrUndefined Any g → LacksOnly g
taken_lacks (gives v) h = tt
taken_lacks (lacks r) h = (omega (arith, h), omega (arith, h))

ranged_lacks : (n : Number) (i : ℤ) → LacksOnly (ranged n i)
ranged_lacks n i = go (in_range i)
  where
    go : (b : Bool) → LacksOnly (cond b (gives (scalar (num n i))) (lacks 17))
    go true = tt
    go false = (omega arith, omega arith)

one_lacks : (j : One) (v : Value) → LacksOnly (one_value j v)
unfolding one_value
one_lacks singleton v = tt
one_lacks power v = tt
one_lacks dom v = tt
one_lacks ran v = tt
one_lacks card v = tt
one_lacks choice v = taken_lacks (least (elems v)) (least_from Any (elems v) (all_any (elems v)))

two_lacks : (j : Two) (v w : Value) → LacksOnly (two_value j v w)
unfolding two_value
two_lacks pairing v w = tt
two_lacks union v w = tt
two_lacks inter v w = tt
two_lacks diff v w = tt
two_lacks product v w = tt
two_lacks apply v w = taken_lacks (applied v w) (applied_from Any v w (all_any (elems v)))
two_lacks (plus n) v w = ranged_lacks n (payload v +ℤ payload w)
two_lacks (minus n) v w = ranged_lacks n (payload v -ℤ payload w)
two_lacks interval v w = tt

-- The runs of a condition with N nodes.
module _ (N budget : ℕ) where
  -- 15 to 19 at a node; at 19 the budget is spent.
  abbrev pub RunRefusal : ℕ → ℕ → ℕ → Type 0
  RunRefusal s r n = (15 ≤ r) × (r ≤ 19) × (n < N) × (r ≡ 19 → s ≡ budget)

  abbrev pub RunRefuses : {A : Type 0} → Run A → Type 0
  RunRefuses x = (x.steps ≤ budget) × RefusesOnly (RunRefusal x.steps) x.end

  -- So ends a part of an evaluation from any number of visits within the budget.
  abbrev Stays : {A : Type 0} → M A → Type 0
  Stays m = (s : ℕ) → s ≤ budget → RunRefuses (m s)

  go_on_stays : {A B : Type 0} (e : End A) (s : ℕ) (tr : Trace) (f : A → M B) → s ≤ budget → RefusesOnly (RunRefusal s) e →
      ((a : A) → Stays (f a)) → RunRefuses (go_on e s tr f)
  go_on_stays (done a) s tr f l h k = k a s l
  go_on_stays (refused r n) s tr f l h k = (l, h)

  bind : {A B : Type 0} (m : M A) (f : A → M B) → Stays m → ((a : A) → Stays (f a)) → Stays (m >>= f)
  bind m f h k s l = let x = h s l in go_on_stays (m s).end (m s).steps (m s).formed f x.0 x.1 k

  counted_stays : (b : Bool) (n s : ℕ) → n < N → s ≤ budget → ltb s budget ≡ b → RunRefuses (counted b n s)
  counted_stays true n s i l e = ((t_ltb s budget).0 (rw e tt), tt)
  counted_stays false n s i l e =
      let m : s < budget → ⊥ = λ h. (T_false (ltb s budget)).1 e ((t_ltb s budget).1 h) in (l, (omega arith, omega arith, i, λ _. omega arith))

  -- A visit, and what follows it.
  visited : {B : Type 0} (n : ℕ) (m : M B) → n < N → Stays m → Stays (visit budget n >> m)
  visited n m i h = bind (visit budget n) (λ _. m) (λ s l. counted_stays (ltb s budget) n s i l refl) (λ _. h)

  demand_stays : (b : Bool) (r n : ℕ) → 15 ≤ r → r < 19 → n < N → Stays (demand b r n)
  demand_stays true r n lo hi i s l = (l, tt)
  demand_stays false r n lo hi i s l = (l, (lo, omega arith, i, λ e. absurd (omega arith)))

  -- 15, and what follows it.
  fitted : {B : Type 0} (n : ℕ) (r : Rule) (vs : List Value) (m : M B) → n < N → Stays m → Stays (fitting n r vs >> m)
  fitted n r vs m i h =
      bind (fitting n r vs) (λ _. m) (demand_stays (fits r.takes vs) 15 n (omega arith) (omega arith) i) (λ _. h)

  -- 16 to 18, or a value.
  form_stays : (n : ℕ) (g : Given) → n < N → LacksOnly g → Stays (form n g)
  form_stays n (lacks r) i h = λ s l. (l, (omega arith, omega arith, i, λ e. absurd (omega arith)))
  form_stays n (gives v) i h =
      bind (demand (leb (weight v) weight_limit) 18 n) (λ _. emit n v)
      (demand_stays (leb (weight v) weight_limit) 18 n (omega arith) (omega arith) i) (λ _ s l. (l, tt))

  or_else_stays : (o : Option Bool) (m : M Bool) → Stays m → Stays (o or_else m)
  or_else_stays nothing m h = h
  or_else_stays (some b) m h = λ s l. (l, tt)

  -- The runs of a body at the members of a range.
  module _ (f : Value → M Bool) (hf : (w : Value) → Stays (f w)) where
    quantify_stays : (j : Quant) (vs : List Value) → Stays (quantify j f vs)
    unfolding quantify
    quantify_stays for_all [] = λ s l. (l, tt)
    quantify_stays for_all (v ∷ vs) =
        let r = quantify_stays for_all vs in
        bind (f v) _ (hf v) (λ b. elim b as (λ k. Stays (elim k as (λ _. M Bool) [ true ↦ quantify for_all f vs | false ↦ return false ]))
        [ true ↦ r | false ↦ λ s l. (l, tt) ])
    quantify_stays for_some [] = λ s l. (l, tt)
    quantify_stays for_some (v ∷ vs) =
        let r = quantify_stays for_some vs in
        bind (f v) _ (hf v) (λ b. elim b as (λ k. Stays (elim k as (λ _. M Bool) [ true ↦ return true | false ↦ quantify for_some f vs ]))
        [ true ↦ λ s l. (l, tt) | false ↦ r ])

    select_stays : (vs : List Value) → Stays (select f vs)
    unfolding select
    select_stays [] = λ s l. (l, tt)
    select_stays (v ∷ vs) =
        bind (f v) _ (hf v) λ b.
        bind (select f vs) _ (select_stays vs) λ ws.
        elim b as (λ k. Stays (elim k as (λ _. M (List Value)) [ true ↦ return (v ∷ ws) | false ↦ return ws ]))
        [ true ↦ λ s l. (l, tt) | false ↦ λ s l. (l, tt) ]

  -- The value rules at a node, at every environment.
  module _ (sizes : List ℕ) where
    nodes_stay : HandsOn N (λ p. (ρ : Env) → Stays (holdsᵖ budget sizes p ρ)) (λ e. (ρ : Env) → Stays (valueᵉ budget sizes e ρ))
    unfolding holdsᵖ
    nodes_stay = record {
      join_on = λ n j p q i hp hq ρ. visited n _ i (bind (holdsᵖ budget sizes p ρ) _ (hp ρ) λ a.
          or_else_stays (decides j a) _ (bind (holdsᵖ budget sizes q ρ) _ (hq ρ) λ b s l. (l, tt)));
      not_on = λ n p i hp ρ. visited n _ i (bind (holdsᵖ budget sizes p ρ) _ (hp ρ) λ a s l. (l, tt));
      test_on = λ n j e f i he hf ρ. visited n _ i (bind (valueᵉ budget sizes e ρ) _ (he ρ) λ v.
          bind (valueᵉ budget sizes f ρ) _ (hf ρ) λ w. fitted n (test_rule j) (v ∷ w ∷ []) _ i λ s l. (l, tt));
      quant_on = λ n j x r p i hr hp ρ. visited n _ i (bind (valueᵉ budget sizes r ρ) _ (hr ρ) λ v.
          fitted n quant_rule (v ∷ []) _ i
          (quantify_stays (λ w. holdsᵖ budget sizes p (ρ with x ≔ w)) (λ w. hp (ρ with x ≔ w)) j (elems v)));
      leaf_on = λ n j a b i ρ. visited n _ i (form_stays n (gives (leaf_value sizes j a b ρ)) i tt);
      bool_on = λ n p i hp ρ. visited n _ i (bind (holdsᵖ budget sizes p ρ) _ (hp ρ) λ b. form_stays n (gives (truth_value b)) i tt);
      one_on = λ n j e i he ρ. visited n _ i (bind (valueᵉ budget sizes e ρ) _ (he ρ) λ v.
          fitted n (one_rule j) (v ∷ []) _ i (form_stays n (one_value j v) i (one_lacks j v)));
      two_on = λ n j e f i he hf ρ. visited n _ i (bind (valueᵉ budget sizes e ρ) _ (he ρ) λ v. bind (valueᵉ budget sizes f ρ) _ (hf ρ) λ w.
          fitted n (two_rule j) (v ∷ w ∷ []) _ i (form_stays n (two_value j v w) i (two_lacks j v w)));
      comprehension_on = λ n x r p i hr hp ρ. visited n _ i (bind (valueᵉ budget sizes r ρ) _ (hr ρ) λ v.
          fitted n comprehension_rule (v ∷ []) _ i
          (bind (select (λ w. holdsᵖ budget sizes p (ρ with x ≔ w)) (elems v)) _
          (select_stays (λ w. holdsᵖ budget sizes p (ρ with x ≔ w)) (λ w. hp (ρ with x ≔ w)) (elems v)) λ ws.
          form_stays n (gives (set_of ws)) i tt));
    }

-- The run of a readable table.
pub run_refuses : (tb : Table) (vs : List Value) (budget : ℕ) → Records tb → RunRefuses (length tb.nodes) budget (run tb vs budget)
unfolding run
run_refuses tb vs budget r =
    go (condition_of tb) (root_has tb _ _ (nodes_stay (length tb.nodes) budget tb.sizes) r.fields)
  where
    go : (c : Option Pred) → IfSome (λ p. (ρ : Env) → Stays (length tb.nodes) budget (holdsᵖ budget tb.sizes p ρ)) c →
        RunRefuses (length tb.nodes) budget (holdsᶜ budget tb.sizes c (λ x. get_or vs x no_value) 0)
    go nothing h = (omega arith, tt)
    go (some p) h = h (λ x. get_or vs x no_value) 0 (omega arith)

-- 15 to 19 may name any node.
node_range : (bs : List ℕ) (k n : ℕ) → k < 5 → n < node_count bs → PlaceInRange bs (15 + k) n
node_range bs zero n l h = h
node_range bs (suc zero) n l h = h
node_range bs (suc (suc zero)) n l h = h
node_range bs (suc (suc (suc zero))) n l h = h
node_range bs (suc (suc (suc (suc zero)))) n l h = h
node_range bs (suc (suc (suc (suc (suc k))))) n l h = absurd (omega arith)

-- Evaluate: 1 to 9 and 14 with 0 steps, 15 to 19 at a node, 19 with all steps of the budget.
abbrev pub EvaluationRefusal : List ℕ → ℕ → ℕ → ℕ → ℕ → Type 0
EvaluationRefusal bs budget s r p =
    (((1 ≤ r) × (r ≤ 9)) ⊎ ((14 ≤ r) × (r ≤ 19))) × PlaceInRange bs r p × (r < 15 → s ≡ 0) × (r ≡ 19 → s ≡ budget)

abbrev pub EvaluationRefuses : List ℕ → ℕ → Run Bool → Type 0
EvaluationRefuses bs budget x = (x.steps ≤ budget) × RefusesOnly (EvaluationRefusal bs budget x.steps) x.end

run_refusal : (bs : List ℕ) (budget s r n : ℕ) → RunRefusal (node_count bs) budget s r n → EvaluationRefusal bs budget s r n
run_refusal bs budget s r n h =
    let place : PlaceInRange bs (15 + (r - 15)) n = node_range bs (r - 15) n (omega arith) h.2 in
    let same : 15 + (r - 15) ≡ r = omega arith in
    (inr (omega arith, h.1), rw same at place, λ q. absurd (omega arith), h.3)

readable_run : (bs : List ℕ) (tb : Table) (vs : List Value) (budget : ℕ) → reading bs ≡ done tb →
    RunRefuses (length tb.nodes) budget (run tb vs budget)
readable_run bs tb vs budget e = run_refuses tb vs budget (reading_records_law bs tb e)

pub evaluation_refuses : (bs buffer : List ℕ) (budget : ℕ) → EvaluationRefuses bs budget (evaluation bs buffer budget)
unfolding evaluation
evaluation_refuses bs buffer budget = read (reading bs) refl
  where
    load : (tb : Table) → reading bs ≡ done tb → (o : End (List Value)) → RefusesOnly (FaultFrom 0 tb.binds) o →
        EvaluationRefuses bs budget (go_on o 0 [] (λ vs _. run tb vs budget))
    load tb e (done vs) h =
        let y = subst (λ (m : ℕ). RunRefuses m budget (run tb vs budget)) (nodes_read bs e) (readable_run bs tb vs budget e) in
        (y.0, refuses_imp _ _ (run_refusal bs budget (run tb vs budget).steps) (run tb vs budget).end y.1)
    load tb e (refused r p) (f, h) =
        let n = identifiers_read bs e in
        (omega arith, (inr (omega arith, omega arith), rw f (omega arith), λ _. refl, λ q. absurd (omega arith)))

    read : (o : End Table) → reading bs ≡ o → EvaluationRefuses bs budget (go_on o 0 [] (λ tb s. go_on (values_in tb buffer) s [] (λ vs _. run tb vs budget)))
    read (done tb) e = load tb e (values_in tb buffer) (values_in_refuses tb buffer)
    read (refused r p) e =
        let h : (1 ≤ r) × (r ≤ 9) × PlaceInRange bs r p = rw e at (reading_refuses bs) in
        (omega arith, (inl (h.0, h.1), h.2, λ _. refl, λ q. absurd (omega arith)))

-- The merge of two lent sets: 1 to 9 and 14.
abbrev pub UnionRefusal : List ℕ → ℕ → ℕ → Type 0
UnionRefusal bs r p = (((1 ≤ r) × (r ≤ 9)) ⊎ (r ≡ 14)) × PlaceInRange bs r p

pub union_refuses : (bs buffer : List ℕ) → RefusesOnly (UnionRefusal bs) (union_in bs buffer)
unfolding union_in
union_refuses bs buffer = read (reading bs) refl
  where
    load : (tb : Table) → reading bs ≡ done tb → (o : End (List Value)) → RefusesOnly (FaultFrom 0 tb.binds) o →
        RefusesOnly (UnionRefusal bs) (ends.◌>>=◌ o (λ vs. done (first_two (free_values tb.binds vs))))
    load tb e (done vs) h = tt
    load tb e (refused r p) (f, h) = let n = identifiers_read bs e in (inr f, rw f (omega arith))

    read : (o : End Table) → reading bs ≡ o →
        RefusesOnly (UnionRefusal bs) (ends.◌>>=◌ o (λ tb. ends.◌>>=◌ (values_in tb buffer) (λ vs. done (first_two (free_values tb.binds vs)))))
    read (done tb) e = load tb e (values_in tb buffer) (values_in_refuses tb buffer)
    read (refused r p) e = let h : (1 ≤ r) × (r ≤ 9) × PlaceInRange bs r p = rw e at (reading_refuses bs) in (inl (h.0, h.1), h.2)

-- On a readable table 14 to 19 are left.
pub readable_refuses : (bs buffer : List ℕ) (budget : ℕ) (tb : Table) → reading bs ≡ done tb →
    RefusesOnly (λ r p. (14 ≤ r) × (r ≤ 19)) (evaluation bs buffer budget).end
unfolding evaluation
readable_refuses bs buffer budget tb e = rw e (go (values_in tb buffer) (values_in_refuses tb buffer))
  where
    go : (o : End (List Value)) → RefusesOnly (FaultFrom 0 tb.binds) o →
        RefusesOnly (λ r p. (14 ≤ r) × (r ≤ 19)) (go_on o 0 [] (λ vs _. run tb vs budget)).end
    go (done vs) h = refuses_imp _ _ (λ r p k. (omega arith, k.1)) (run tb vs budget).end (readable_run bs tb vs budget e).1
    go (refused r p) (f, h) = (omega arith, omega arith)

-- The ends that demand 3 leaves are truths and refusals of 16 to 19.
pub safe_refuses : {A : Type 0} (Q : A → Type 0) (e : End A) → EndsSafely Q e → RefusesOnly (λ r n. (16 ≤ r) × (r ≤ 19)) e
safe_refuses Q (done a) h = tt
safe_refuses Q (refused r n) h = h
