-- From the bytes of a table and its values to the run at the root, and what each refusal before it reports.
use Prim.Native.Nat.{ℕ, ◌+◌, ◌-◌, ◌≤◌, ◌<◌}
use mathlib.Core.Bool.{Bool, true}
use mathlib.Core.List.{List}
use mathlib.Core.Logic.{◌≢◌}
use mathlib.Core.Path.{◌≡◌, refl, sym, ap, ◌∙◌, subst}
use native.Mathlib.Omega.{arith}
use native.Mathlib.Decide.{ℕ_discrete}
use lib.ListN.{length, get_or, set as set_at, length-set}
use lib.Seq.{get_or-set_same, get_or-set_other}
use Rattle.rules.specs.Cells.{no_value, values_in, values_from}
use Rattle.rules.specs.Ends.{done, refused}
use Rattle.rules.specs.Tables.{Table, table_of, last_node, node_count, identifier_count, kind_at}
use Rattle.rules.specs.Kinds.{predicate}
use Rattle.rules.specs.Reading.{reading, height, height_limit}
use Rattle.rules.specs.Readable.{Readable, CategoryIs}
use Rattle.rules.specs.Runs.{Run}
use Rattle.rules.specs.Operations.{Env}
use Rattle.rules.specs.Evaluation.{run, evaluation}
use Rattle.laws.proofs.TableLaws.{binds_length, nodes_length, some_root, by_root, no_condition, some_condition}
use Rattle.laws.proofs.ReadingLaws.{reading_right}
use Rattle.laws.proofs.FormedLaws.{values_in_good}
use Rattle.laws.proofs.Soundness.{evaluation_run}
use Rattle.reading.specs.Answers.{height_of, root_height, reading_height}
use Rattle.std.specs.Prelude.{Result, Err}
use Rattle.reading.proofs.Promise.{unmeasured_refused}
use Rattle.reading.specs.declared.Refusal.{Refusal}
use Rattle.buffer.specs.Loaded.{Bound, LoadReady}
use Rattle.arena.specs.Code.{Same}
use Rattle.buffer.specs.Buffer.{cells_at_most}
use Rattle.constants.specs.Built.{Builds}
use Rattle.constants.specs.Constants.{Constants, OnlyBelow}
use Rattle.constants.proofs.ConstantLaws.{constants_frame}
use Rattle.visits.proofs.NodeLaws.{sizes_small, node_tall, condition_cells_law}
use Rattle.reports.specs.declared.Evaluation.{Evaluation}
use Rattle.visits.specs.declared.Held.{Held}
use Rattle.visits.specs.Answers.{HeldAs}
use Rattle.visits.specs.Cycle.{condition_cells, expression_cells, Binds, NodeReady, truth_at, EvaluatesP}
use Rattle.visits.specs.Nodes.{IsPred, entry_place, FunctionEntry}
use Rattle.operations.specs.Good.{GoodAt, SomeGood, FunctionSeen, NewFirsts}
use Rattle.arena.proofs.ValueParts.{some_inside}
use Rattle.arena.proofs.FrontLaws.{value_some}
use Rattle.reports.specs.Result.{ending_of, RefusedAt, Reported, OfBudget, Reports}
use Rattle.evaluate.specs.Arenas.{Needs, ArenaReady, RoomFor, Measured, RootReady, RootReported, Rebinds}
use Rattle.reports.proofs.ReportLaws.{held_within}

-- The arena has room for the constants, and then for the values.
pub nodes_inside : {bs buffer s : List ℕ} → ArenaReady bs buffer s → node_count bs ≤ length s
nodes_inside r = omega (arith, r.needs.enough)

pub load_ready : {bs buffer s s' : List ℕ} {n : ℕ} → ArenaReady bs buffer s → OnlyBelow (node_count bs) s s' → n ≡ node_count bs → LoadReady bs buffer s' n
load_ready r o e = record {
  readable = r.needs.readable;
  room = omega (arith, r.needs.enough, o.kept, e);
  small = omega (arith, r.small, o.kept);
}

-- Refusals 1 to 9, and 14: no visit is made.
record Unvisited (x : Run Bool) (k p : ℕ) : Type 0 where
  end : x.end ≡ refused k p
  steps : x.steps ≡ 0

unread_ends : (bs buffer : List ℕ) (budget k p : ℕ) → reading bs ≡ refused k p → Unvisited (evaluation bs buffer budget) k p
unfolding evaluation
unread_ends bs buffer budget k p e = record { end = rw e; steps = rw e }

unloaded_ends : (bs buffer : List ℕ) (budget k p : ℕ) (tb : Table) → reading bs ≡ done tb → values_in tb buffer ≡ refused k p →
    Unvisited (evaluation bs buffer budget) k p
unfolding evaluation
unloaded_ends bs buffer budget k p tb e f = record { end = rw (e, f); steps = rw (e, f) }

refusal_reported : {x : Run Bool} {k p : ℕ} {r : Evaluation} → Unvisited x k p → RefusedAt k p 0 r → Reported x r
refusal_reported e d = record { ending = d.ending ∙ sym e.end; spent = d.spent ∙ sym e.steps }

-- 14 refuses.
pub lacking_reported : (bs buffer : List ℕ) (budget : ℕ) {x : ℕ} {r : Evaluation} → Readable bs →
    values_from (table_of bs).sizes (table_of bs).binds 0 buffer ≡ refused 14 x → RefusedAt 14 x 0 r → Reported (evaluation bs buffer budget) r
unfolding values_in
lacking_reported bs buffer budget {x} q e d = refusal_reported (unloaded_ends bs buffer budget 14 x (table_of bs) ((reading_right bs).1 q) e) d

-- Marks: entries that bind the same values, functions alone marked.
pub rebinds_start : {bs s env : List ℕ} {top : ℕ} → RootReady bs env s top → Rebinds bs s env env
rebinds_start r = record { entries = r.entries; binds = λ top ρ b. b }

-- The value at an entry is good.
pub entry_good : {bs env env' s : List ℕ} {top : ℕ} → RootReady bs env s top → Rebinds bs s env env' → (x : ℕ) → x < 32 →
    SomeGood s (entry_place (get_or env' x 0))
entry_good {bs} r m x l =
    record { sizes = _; small = sizes_small bs r.readable; top = _; value = _; stands = (m.binds _ _ r.binds).at x l }

pub rebinds_more : {bs s env env' : List ℕ} (x e : ℕ) → Readable bs → Rebinds bs s env env' → x < 32 → entry_place e ≡ entry_place (get_or env' x 0) →
    FunctionSeen s (entry_place (get_or env' x 0)) true → Rebinds bs s env (set_at env' x e)
rebinds_more {bs} {s} {env} {env'} x e q m l place f = record { entries = length-set env' x e ∙ m.entries; binds = λ top ρ b. go top ρ (m.binds top ρ b) }
  where
    here : get_or (set_at env' x e) x 0 ≡ e
    here = get_or-set_same env' x e 0 (omega (arith, m.entries, l))

    go : (top : ℕ) (ρ : Env) → Binds bs s top env' ρ → Binds bs s top (set_at env' x e) ρ
    go top ρ b = record {
      at = λ y k. at y k (ℕ_discrete y x);
      good = b.good;
      functions = λ y k. functions y k (ℕ_discrete y x);
      constants = b.constants;
      low = b.low;
    }
      where
        at : (y : ℕ) → y < 32 → Dec (y ≡ x) → GoodAt (table_of bs).sizes s top (entry_place (get_or (set_at env' x e) y 0)) (ρ y)
        at y k (yes d) = rw (d, here, place) (b.at x l)
        at y k (no d) = rw (get_or-set_other env' x y e 0 d) (b.at y k)

        functions : (y : ℕ) → y < 32 → Dec (y ≡ x) → FunctionEntry (get_or (set_at env' x e) y 0) → NewFirsts (ρ y)
        functions y k (yes d) h = rw d (f refl (table_of bs).sizes top (ρ x) (sizes_small bs q) (b.at x l))
        functions y k (no d) h = b.functions y k (rw (get_or-set_other env' x y e 0 d) at h)

pub marked_ready : {bs s env env' : List ℕ} {top : ℕ} → RootReady bs env s top → Rebinds bs s env env' → RootReady bs env' s top
marked_ready r m = record {
  readable = r.readable;
  room = r.room;
  small = r.small;
  entries = m.entries;
  values = r.values;
  binds = m.binds _ _ r.binds;
}

-- The identifiers' values as an environment, over the arena s with the constants that s' has.
module _ (bs : List ℕ) {buffer s env : List ℕ} {top n : ℕ} (b : Bound (table_of bs).sizes (table_of bs).binds buffer s env n top) where
  read_all : values_in (table_of bs) buffer ≡ done b.values
  unfolding values_in
  read_all = b.reads

  module _ {s₀ s₁ : List ℕ} (r : ArenaReady bs buffer s₀) (o : OnlyBelow (node_count bs) s₀ s₁) (c : Constants bs (node_count bs) s₁) (e : n ≡ node_count bs)
      (same : Same n s₁ s) where
    -- What stands in the arena has a place below its length.
    bound_plain : (x : ℕ) → x < 32 → get_or env x 0 < 65536
    bound_plain x l = let v = b.at x l in omega (arith, some_inside s (get_or env x 0) (value_some s top _ _ v), r.small, same.kept, o.kept)

    place_plain : (x : ℕ) → x < 32 → entry_place (get_or env x 0) ≡ get_or env x 0
    place_plain x l = omega (arith, bound_plain x l)

    pub bound_binds : Binds bs s top env (λ x. get_or b.values x no_value)
    bound_binds =
        let g = values_in_good (table_of bs) buffer b.values read_all in
        record {
          at = λ x l. rw (place_plain x l) (record { stands = (b.at x l).stands; below = (b.at x l).below; good = g x });
          good = g;
          functions = λ x l m. absurd (omega (arith, bound_plain x l, m));
          constants = constants_frame bs s₁ s (node_count bs) n same (omega (arith, e)) c;
          low = omega (arith, b.above, e);
        }

    pub root_ready : length env ≡ 32 → RootReady bs env s top
    root_ready l = record {
      readable = r.needs.readable;
      room = λ z. omega (arith, b.room, binds_length bs, r.needs.room z, same.kept, o.kept, e);
      small = omega (arith, r.small, same.kept, o.kept);
      entries = l;
      values = λ x. get_or b.values x no_value;
      binds = bound_binds;
    }

    -- The end of the run at these values, by the environment that marks them, is that of the evaluation.
    pub run_reported : (budget : ℕ) {env' : List ℕ} → Rebinds bs s env env' → {x : Evaluation} → RootReported bs env' s top budget x →
        Reported (evaluation bs buffer budget) x
    run_reported budget m {x} h =
        subst (λ (z : Run Bool). Reported z x)
        (sym (evaluation_run bs buffer budget (table_of bs) b.values ((reading_right bs).1 r.needs.readable) read_all))
        (h b.values (m.binds _ _ bound_binds))

-- The run of the condition.
module _ {bs env s : List ℕ} {top : ℕ} (r : RootReady bs env s top) {n : ℕ} (e : n ≡ node_count bs) where
  -- Without nodes it is true, with no steps.
  pub absent_reported : (budget : ℕ) {x : Evaluation} → n ≡ 0 → ending_of x.ending ≡ done true → x.steps ≡ 0 → RootReported bs env s top budget x
  unfolding run
  absent_reported budget none ending spent vs b =
      rw (no_condition (table_of bs) (omega (arith, nodes_length bs))) (record { ending = ending; spent = spent })

  module _ (filled : n ≢ 0) where
    nodes_here : 0 < length (table_of bs).nodes
    nodes_here = omega (arith, e, filled, nodes_length bs)

    root_last : n - 1 ≡ last_node (table_of bs).nodes
    unfolding last_node
    root_last = omega (arith, e, nodes_length bs)

    root_cells_law : expression_cells (kind_at (table_of bs).nodes (n - 1)) ≡ 0
    root_cells_law = rw root_last (condition_cells_law (kind_at (table_of bs).nodes (last_node (table_of bs).nodes)) (r.readable.records.root nodes_here))

    root_tall : height (table_of bs).nodes (n - 1) ≡ root_height (table_of bs)
    root_tall = ap (height (table_of bs).nodes) root_last ∙ sym (some_root 0 (height (table_of bs).nodes) (table_of bs).nodes nodes_here)

    -- The condition at the root may be evaluated.
    pub node_ready : NodeReady bs env s top (n - 1) × IsPred bs (n - 1)
    node_ready = (
      record {
        readable = r.readable;
        node = omega (arith, e, filled);
        room = λ z. omega (arith, r.room z, root_tall, root_cells_law);
        tall = node_tall bs r.readable _ (omega (arith, e, filled));
        small = r.small;
        entries = r.entries;
        values = r.values;
        binds = r.binds;
      },
      subst (λ (m : ℕ). CategoryIs predicate (kind_at (table_of bs).nodes m)) (sym root_last) (r.readable.records.root nodes_here),
    )

    module _ {s' : List ℕ} {budget : ℕ} {held : Held} (p : EvaluatesP bs env s top (n - 1) budget s' held) where
      root_held : (ρ : Env) → Binds bs s top env ρ → HeldAs (truth_at bs budget (length (table_of bs).nodes) (n - 1) ρ 0) budget held
      root_held ρ b = p.answer (length (table_of bs).nodes) ρ budget 0 (omega (arith, e, filled, nodes_length bs)) (omega arith) b

      -- What is left at the end is of the budget, and the end is that of the run.
      pub root_within : OfBudget budget held
      root_within = held_within (truth_at bs budget (length (table_of bs).nodes) (n - 1) r.values 0) budget held (root_held r.values r.binds)

      pub root_reported : {x : Evaluation} → Reports budget held x → RootReported bs env s top budget x
      unfolding run
      root_reported f vs b = rw (some_condition (table_of bs) nodes_here) (f _ (rw root_last at (root_held (λ x. get_or vs x no_value) b)))

-- What is needed has been computed, and the largest arena has it.
root_low : {bs : List ℕ} → Readable bs → root_height (table_of bs) ≤ height_limit
unfolding last_node
root_low {bs} q =
    let ns = (table_of bs).nodes in
    by_root 0 (height ns) (λ h. h ≤ height_limit) ns (omega arith) (λ l. q.records.heights (last_node ns) (omega arith))

pub root_high : {bs : List ℕ} {h : ℕ} → Readable bs → h ≡ root_height (table_of bs) → Builds bs → 1 ≤ h
unfolding last_node
root_high {bs} q e b =
    let ns = (table_of bs).nodes in
    let root = some_root 0 (height ns) ns (omega (arith, b.below, nodes_length bs)) in
    omega (arith, e, root, node_tall bs q (last_node ns) (omega (arith, b.below, nodes_length bs)))

pub room_for : {bs : List ℕ} {h : ℕ} → Readable bs → h ≡ root_height (table_of bs) → RoomFor bs (condition_cells h)
room_for q e = record { enough = λ b. omega (arith, e); most = omega (arith, e, root_low q) }

pub no_room : {bs : List ℕ} → (Builds bs → ⊥) → RoomFor bs 0
no_room none = record { enough = λ b. absurd (none b); most = omega arith }

pub measured : {bs values : List ℕ} {n held r : ℕ} → Readable bs → n ≡ node_count bs → held ≡ cells_at_most (identifier_count bs) (length values) →
    RoomFor bs r →
    Measured bs values (1 + n + held + r)
measured q en eh m = record {
  needs = record { readable = q; enough = omega (arith, en, eh); room = λ b. omega (arith, en, eh, m.enough b) };
  most = omega (arith, en, eh, m.most, q.header.identifiers, q.header.few_nodes);
}

-- An arena that is no smaller than what is needed.
pub has_room : {bs values : List ℕ} {need cells : ℕ} → Measured bs values need → need ≤ cells → Needs bs values cells
has_room h l = record { readable = h.needs.readable; enough = omega (arith, h.needs.enough); room = λ b. omega (arith, h.needs.room b) }

-- 1 to 9 refuse.
pub unread_reported : (bs buffer : List ℕ) (budget : ℕ) (a : Result ℕ Refusal) {f : Refusal} {r : Evaluation} → height_of a ≡ reading_height bs → a ≡ Err f →
    RefusedAt f.number f.place 0 r → Reported (evaluation bs buffer budget) r
unread_reported bs buffer budget a {f} h e d =
    refusal_reported (unread_ends bs buffer budget f.number f.place (unmeasured_refused bs (sym (ap height_of e) ∙ h))) d
