-- The children of a node, its tree, what its evaluators pass on to theirs, and its answer from theirs.
use Rattle.visits.proofs.Terms.{ℕ, zero, suc, ◌+◌, ◌-◌, ◌*◌, ◌≤◌, ◌<◌, Bool, true, List, [], ◌∷◌, Option, nothing, some, ◌≡◌, refl, sym, ap, ◌∙◌, subst, arith, T, length, get_or, category_of, Field, is_child, Table, fields_if, pick, held, expr_of, FieldRight, FieldsRight, KindRight, NodeRight, FormedAs, FormedBounds, SettledAs, SettleReady, RefusalOf, StopOf}
use Rattle.visits.proofs.Terms.{Value, Kind, Category, predicate, expression, unused, child, kind_of, fields_of, Node, Pred, Expr, table_of, node_at, kind_at, field_words, pred_of, pred_at, expr_at, node_count, Readable, CategoryIs, Env, End, refused, Run, M, ◌>>◌, visit, Given, holdsᵖ, valueᵉ, Same, stands_frame, same_refl, same_trans, length_code, built, Builds, GoodAt, Gives, NodeAnswer, Outcome, Result, Ok, Err, numbered, GivesNumbered, Held, Refused, Formed, Placed, Stopped, Refusal, EndsWith, HeldAs, field_a, field_b, condition_cells, expression_cells, cells_for, Binds, NodeReady, Visited, Asks, truth_at, value_at, EvaluatesP, EvaluatesE, Settles, good, height, tallest, nodes_length, height_at, value_good, constants_frame}
use Rattle.laws.proofs.TableLaws.{tallest_kept}
pub use Rattle.operations.proofs.GoodLaws.{sizes_small}
use Rattle.visits.proofs.RunLaws.{visited, end_of}

-- What stands below `top` stays, and so below k.
pub good_frame : {gs s s' : List ℕ} {top at : ℕ} {v : Value} (k : ℕ) → Same top s s' → top ≤ k → GoodAt gs s top at v → GoodAt gs s' k at v
good_frame {gs} {s} {s'} {top} {at} {v} k e le h = record {
  stands = stands_frame top s s' at _ e (omega (arith, h.below, length_code v)) h.stands;
  below = omega (arith, h.below);
  good = h.good;
}

pub binds_frame : {bs s s' : List ℕ} {top : ℕ} {env : List ℕ} {ρ : Env} (k : ℕ) → Same top s s' → top ≤ k → Binds bs s top env ρ → Binds bs s' k env ρ
binds_frame {bs} {s} {s'} {top} {env} {ρ} k e le b = record {
  at = λ x h. good_frame k e le (b.at x h);
  good = b.good;
  functions = b.functions;
  constants = constants_frame bs s s' (node_count bs) top e b.low b.constants;
  low = omega (arith, b.low);
}

-- No node has height 0.
pub node_tall : (bs : List ℕ) → Readable bs → (m : ℕ) → m < node_count bs → 1 ≤ height (table_of bs).nodes m
node_tall bs r m l = omega (arith, height_at (table_of bs) r.records.fields m (omega (arith, nodes_length bs)))

-- A child of a node: lower in number and in height.
pub record Child (bs : List ℕ) (n m : ℕ) (c : Category) : Type 0 where
  pub below : m < n
  pub is : CategoryIs c (kind_at (table_of bs).nodes m)
  pub lower : height (table_of bs).nodes m < height (table_of bs).nodes n
  pub tall : 1 ≤ height (table_of bs).nodes m

-- The heights of the words in the fields that hold children.
child_tall : (h : ℕ → ℕ) (fs : List Field) (xs : List ℕ) (i : ℕ) → i < length fs → i < length xs → is_child (get_or fs i unused) ≡ true →
    h (get_or xs i 0) ≤ tallest h (pick is_child fs xs)
unfolding tallest
child_tall h [] xs i a b e = absurd (omega arith)
child_tall h (f ∷ fs) [] i a b e = absurd (omega arith)
child_tall h (f ∷ fs) (x ∷ xs) zero a b e = rw e (omega arith)
child_tall h (f ∷ fs) (x ∷ xs) (suc i) a b e =
    omega (arith, child_tall h fs xs i (omega arith) (omega arith) e, tallest_kept h (is_child f) x (pick is_child fs xs))

field_right : (tb : Table) (n : ℕ) (fs : List Field) (xs : List ℕ) (i : ℕ) → FieldsRight tb n fs xs → i < length fs →
    FieldRight tb n (get_or fs i unused) (get_or xs i 0)
field_right tb n [] xs i h l = absurd (omega arith)
field_right tb n (f ∷ fs) [] i h l = absurd h
field_right tb n (f ∷ fs) (x ∷ xs) zero h l = h.0
field_right tb n (f ∷ fs) (x ∷ xs) (suc i) h l = field_right tb n fs xs i h.1 (omega arith)

module _ (bs : List ℕ) (r : Readable bs) (n : ℕ) (lt : n < node_count bs) (k : Kind) (e : kind_at (table_of bs).nodes n ≡ some k) where
  -- What field i of a node of the kind k holds.
  pub field_holds : (i : ℕ) → i < length (fields_of k) →
      FieldRight (table_of bs) n (get_or (fields_of k) i unused) (get_or (field_words (node_at (table_of bs).nodes n)) i 0)
  field_holds i l =
      let h : NodeRight (table_of bs) n = r.records.fields n (omega (arith, nodes_length bs)) in
      field_right (table_of bs) n (fields_of k) (field_words (node_at (table_of bs).nodes n)) i
      (subst (λ (o : Option Kind). KindRight (table_of bs) n o (field_words (node_at (table_of bs).nodes n))) e h) l

  -- The child in field i.
  pub field_child : (c : Category) (i : ℕ) → i < 3 → i < length (fields_of k) → get_or (fields_of k) i unused ≡ child c →
      Child bs n (get_or (field_words (node_at (table_of bs).nodes n)) i 0) c
  unfolding held
  field_child c i l l' q =
      let f : FieldRight (table_of bs) n (child c) (get_or (field_words (node_at (table_of bs).nodes n)) i 0) = rw q at (field_holds i l') in
      let t = child_tall (height (table_of bs).nodes) (fields_of k) (field_words (node_at (table_of bs).nodes n)) i l' l (ap is_child q) in
      let s : tallest (height (table_of bs).nodes) (held is_child (node_at (table_of bs).nodes n)) ≡
      tallest (height (table_of bs).nodes) (pick is_child (fields_of k) (field_words (node_at (table_of bs).nodes n)))
      = ap (λ (o : Option Kind). tallest (height (table_of bs).nodes) (pick is_child (fields_if o) (field_words (node_at (table_of bs).nodes n)))) e in
      record {
        below = f.0;
        is = f.1;
        lower = omega (arith, height_at (table_of bs) r.records.fields n (omega (arith, nodes_length bs)), t, s);
        tall = node_tall bs r _ (omega (arith, f.0));
      }

-- A node that may be evaluated, whose fields a and b are expressions.
pub record TwoFields (bs env s : List ℕ) (top n : ℕ) : Type 0 where
  pub ready : NodeReady bs env s top n
  pub left : Child bs n (field_a bs n) expression
  pub right : Child bs n (field_b bs n) expression

-- The tree at a node, one level down.
pub record Deeper (A : Type 0) (x : A) (n : ℕ) (tree : ℕ → A) : Type 0 where
  pub depth : ℕ
  pub enough : n ≤ depth
  pub is : x ≡ tree depth

module _ (ns : List Node) (n : ℕ) (o : Option Kind) (e : kind_at ns n ≡ o) where
  pub pred_at_law : (f : ℕ) → n < f → Deeper Pred (pred_at f ns n) n (λ g. pred_of o n (node_at ns n) (λ m. pred_at g ns m) (λ m. expr_at g ns m))
  unfolding pred_at
  pred_at_law zero l = absurd (omega arith)
  pred_at_law (suc f) l = record { depth = f; enough = omega arith; is = rw e }

  pub expr_at_law : (f : ℕ) → n < f → Deeper Expr (expr_at f ns n) n (λ g. expr_of o n (node_at ns n) (λ m. pred_at g ns m) (λ m. expr_at g ns m))
  unfolding expr_at
  expr_at_law zero l = absurd (omega arith)
  expr_at_law (suc f) l = record { depth = f; enough = omega arith; is = rw e }

-- What an expression takes more than a condition.
expression_cells_law : (k : Option Kind) → expression_cells k ≤ 128
expression_cells_law nothing = omega arith
expression_cells_law (some k) =
    elim (category_of k) as (λ c. elim c [ predicate ↦ 0 | expression ↦ 128 ] ≤ 128) [ predicate ↦ omega arith | expression ↦ omega arith ]

pub condition_cells_law : (k : Option Kind) → CategoryIs predicate k → expression_cells k ≡ 0
condition_cells_law nothing e = absurd e
condition_cells_law (some k) e = ap (λ (c : Category). elim c [ predicate ↦ 0 | expression ↦ 128 ]) e

-- What an evaluator may take for granted, at a node m of the same table.
pub ready_at : {bs env s env' s' : List ℕ} {top n k : ℕ} {ρ : Env} → NodeReady bs env s top n → (m : ℕ) → m < node_count bs →
    (Builds bs → k + cells_for bs m ≤ length s') → length s' ≡ length s → length env' ≡ 32 → Binds bs s' k env' ρ → NodeReady bs env' s' k m
ready_at {bs} {ρ = ρ} r m l room kept long b = record {
  readable = r.readable;
  node = l;
  room = room;
  tall = node_tall bs r.readable m l;
  small = omega (arith, r.small, kept);
  entries = long;
  values = ρ;
  binds = b;
}

-- What a node's evaluator may pass on to that of a child, over an arena that is the same below `top`.
pub ready_child : {bs env s : List ℕ} {top n : ℕ} {c : Category} (s' : List ℕ) (m k : ℕ) →
    NodeReady bs env s top n → Child bs n m c → Same top s s' → top ≤ k → k ≤ top + 256 → NodeReady bs env s' k m
ready_child {bs} s' m k r c e le near =
    ready_at r m (omega (arith, c.below, r.node)) (λ b. omega (arith, c.lower, c.tall, r.room b, e.kept, expression_cells_law (kind_at (table_of bs).nodes m)))
    e.kept r.entries (binds_frame k e le r.binds)

-- So too to that of its first child, where nothing has been written yet.
pub ready_first : {bs env s : List ℕ} {top n m : ℕ} {c : Category} → NodeReady bs env s top n → Child bs n m c → NodeReady bs env s top m
ready_first {bs} {env} {s} {top} {n} {m} r c = ready_child s m top r c (same_refl top s) (omega arith) (omega arith)

-- The kind of a visited node, and its children.
module _ {bs env s : List ℕ} {top k n left : ℕ} (v : Visited bs env s top k n left) (x : Kind) (e : kind_of k ≡ some x) where
  pub visited_kind : kind_at (table_of bs).nodes n ≡ some x
  visited_kind = ap kind_of (sym v.kind) ∙ e

  -- It is built.
  pub visited_builds : built (some x) ≡ true → Builds bs
  visited_builds q = record { node = n; below = v.ready.node; is = ap built visited_kind ∙ q }

  -- An operation has room above its operands, which end at `next`.
  pub operation_room : {s' : List ℕ} (next : ℕ) → built (some x) ≡ true → expression_cells (some x) ≡ 128 → Same top s s' →
      next + 514 ≤ top + condition_cells (height (table_of bs).nodes n) + 128 → next + 514 ≤ length s'
  operation_room next q c same near = omega (arith, v.ready.room (visited_builds q), ap expression_cells visited_kind ∙ c, same.kept)

  pub visited_child : (c : Category) (i m : ℕ) → i < 3 → i < length (fields_of x) → get_or (fields_of x) i unused ≡ child c →
      m ≡ get_or (field_words (node_at (table_of bs).nodes n)) i 0 → Child bs n m c
  visited_child c i m l l' q w = subst (λ (z : ℕ). Child bs n z c) (sym w) (field_child bs v.ready.readable n v.ready.node x visited_kind c i l l' q)

  pub visited_operands : fields_of x ≡ child expression ∷ child expression ∷ unused ∷ [] → TwoFields bs env s top n
  visited_operands q = record {
    ready = v.ready;
    left = visited_child expression 0 (field_a bs n) (omega arith) (rw q (omega arith)) (rw q) refl;
    right = visited_child expression 1 (field_b bs n) (omega arith) (rw q (omega arith)) (rw q) refl;
  }

-- There is something to ask.
abbrev pub some_asks : {bs env s : List ℕ} {top m : ℕ} (n left : ℕ) → NodeReady bs env s top m → Asks bs env s top n left
some_asks n left r = record { depth = n; values = r.values; budget = left; steps = 0; deep = omega arith; counts = omega arith; binds = r.binds }

-- After t visits, over an arena that is the same below `top`.
abbrev pub asks_on : {bs env s : List ℕ} {top n left : ℕ} (k : Asks bs env s top n left) {s' : List ℕ} {mid l : ℕ} (t : ℕ) →
    Same top s s' → top ≤ mid → t + l ≡ k.budget → Asks bs env s' mid n l
asks_on k {mid = mid} t e le c = record {
  depth = k.depth;
  values = k.values;
  budget = k.budget;
  steps = t;
  deep = k.deep;
  counts = c;
  binds = binds_frame mid e le k.binds;
}

-- What the evaluator of a child asks, where the measures are those of the cycle: 5 times the node, and w that is left to do there.
pub child_asks : {bs env s : List ℕ} {top n m t : ℕ} {c : Category} (w : ℕ) → w ≤ 5 → 5 * n + 1 ≡ t → NodeReady bs env s top n → Child bs n m c →
    (5 * m + w < t) × (NodeReady bs env s top m × CategoryIs c (kind_at (table_of bs).nodes m))
child_asks w l e r d = (omega (arith, d.below), (ready_first r d, d.is))

-- The visit of the node is within the budget; and what is asked after it.
module _ {bs env s : List ℕ} {top k n left : ℕ} (v : Visited bs env s top k n left) (i : Asks bs env s top n left) where
  pub visits : {A : Type 0} (m : M A) {e : End A} {l : ℕ} → EndsWith (m (suc i.steps)) e i.budget l →
      EndsWith ((visit i.budget n >> m) i.steps) e i.budget l
  visits m h = visited i.budget n i.steps m (omega (arith, v.unspent, i.counts)) h

  abbrev pub after : Asks bs env s top n (left - 1)
  after = asks_on i (suc i.steps) (same_refl top s) (omega arith) (omega (arith, v.unspent, i.counts))

-- A refusal as one of the other kind of node.
pub refusal_is : {f : Formed} {h : Held} {r : Refusal} {l : ℕ} → f ≡ Stopped r l → RefusalOf f h → Refused r l ≡ h
refusal_is {f} {h} e k = sym (subst (λ (z : Formed). RefusalOf z h) e k)

pub stop_is : {h : Held} {f : Formed} {r : Refusal} {l : ℕ} → h ≡ Refused r l → StopOf h f → Stopped r l ≡ f
stop_is {h} {f} e k = sym (subst (λ (z : Held). StopOf z f) e k)

-- The same answer, for the same node.
pub held_as : {bs env s : List ℕ} {top m m' left : ℕ} {s' : List ℕ} {r r' : Held} → m ≡ m' → r ≡ r' →
    EvaluatesP bs env s top m left s' r → EvaluatesP bs env s top m' left s' r'
held_as e q h = rw (e, q) at h

pub formed_as : {bs env s : List ℕ} {top m m' left : ℕ} {s' : List ℕ} {r r' : Formed} → m ≡ m' → r ≡ r' →
    EvaluatesE bs env s top m left s' r → EvaluatesE bs env s top m' left s' r'
formed_as e q h = rw (e, q) at h

-- The runs at a node below the one that is asked for, and its answer there: b is the child's node a.
module _ {bs env s : List ℕ} {top n left : ℕ} (i : Asks bs env s top n left) where
  abbrev pub holds_in : ℕ → Run Bool
  holds_in m = truth_at bs i.budget i.depth m i.values i.steps

  abbrev pub value_in : ℕ → Run Value
  value_in m = value_at bs i.budget i.depth m i.values i.steps

  module _ {a b : ℕ} {c : Category} (d : Child bs n a c) (q : a ≡ b) {s' : List ℕ} where
    pub held_below : (r : Held) → EvaluatesP bs env s top a left s' r → HeldAs (holds_in b) i.budget r
    held_below r h = (held_as q refl h).answer i.depth i.values i.budget i.steps (omega (arith, d.below, i.deep, q)) i.counts i.binds

    pub formed_below : (r : Formed) → EvaluatesE bs env s top a left s' r → FormedAs (value_in b) i.budget (table_of bs).sizes s' r
    formed_below r h = (formed_as q refl h).answer i.depth i.values i.budget i.steps (omega (arith, d.below, i.deep, q)) i.counts i.binds

-- A node's end is what it gives; where that has been settled it is the node's answer.
module _ (bs : List ℕ) (budget f n : ℕ) (ρ : Env) (steps : ℕ) (readable : Readable bs) (ok : (x : ℕ) → T (good (table_of bs).sizes (ρ x)))
    (g : Given) {left : ℕ} (e : EndsWith (value_at bs budget f n ρ steps) (end_of n g) budget left) (s' : List ℕ) where
  settled_as : (r : Formed) → SettledAs g s' n left r → FormedAs (value_at bs budget f n ρ steps) budget (table_of bs).sizes s' r
  settled_as (Placed at next l) h =
      let q = e.end ∙ ap (end_of n) h.is in
      let ok = value_good budget (table_of bs) readable.records f n ρ steps h.value ok q in
      record {
        value = h.value;
        ends = record { end = q; steps = omega (arith, e.steps, h.same) };
        place = record { stands = h.stands; below = h.below; good = ok };
      }
  settled_as (Stopped r l) h = record { end = e.end ∙ ap (end_of n) h.0 ∙ ap (refused r.number) (sym h.1); steps = omega (arith, e.steps, h.2) }

-- The answer for a node, from its tree, whose children have the depth g.
abbrev pub predᵍ : List ℕ → ℕ → Kind → ℕ → Pred
predᵍ bs n x g = pred_of (some x) n (node_at (table_of bs).nodes n) (λ m. pred_at g (table_of bs).nodes m) (λ m. expr_at g (table_of bs).nodes m)

abbrev exprᵍ : List ℕ → ℕ → Kind → ℕ → Expr
exprᵍ bs n x g = expr_of (some x) n (node_at (table_of bs).nodes n) (λ m. pred_at g (table_of bs).nodes m) (λ m. expr_at g (table_of bs).nodes m)

-- The run of an expression's tree.
abbrev pub treeᵉ : {bs env s : List ℕ} {top n left : ℕ} → Kind → Asks bs env s top n left → Run Value
treeᵉ {bs} {n = n} x i = valueᵉ i.budget (table_of bs).sizes (exprᵍ bs n x i.depth) i.values i.steps

module _ {bs env s : List ℕ} {top k n left : ℕ} (v : Visited bs env s top k n left) (x : Kind) (e : kind_of k ≡ some x)
    {s' : List ℕ} (same : Same top s s') where
  pub held_by : {r : Held} → ((i : Asks bs env s top n left) →
      HeldAs (holdsᵖ i.budget (table_of bs).sizes (predᵍ bs n x i.depth) i.values i.steps) i.budget r) → EvaluatesP bs env s top n left s' r
  held_by {r} h = record {
    frame = same;
    answer = λ f ρ budget steps l c b.
        let d = pred_at_law (table_of bs).nodes n (some x) (visited_kind v x e) f l in
        subst (λ (p : Pred). HeldAs (holdsᵖ budget (table_of bs).sizes p ρ steps) budget r) (sym d.is)
        (h (record { depth = d.depth; values = ρ; budget = budget; steps = steps; deep = d.enough; counts = c; binds = b }));
  }

  formed_by : {r : Formed} → FormedBounds (height (table_of bs).nodes n) top r → ((f : ℕ) (i : Asks bs env s top n left) →
      value_at bs i.budget f n i.values i.steps ≡ treeᵉ x i →
      FormedAs (value_at bs i.budget f n i.values i.steps) i.budget (table_of bs).sizes s' r) → EvaluatesE bs env s top n left s' r
  formed_by bounds h = record {
    frame = same;
    bounds = bounds;
    answer = λ f ρ budget steps l c b.
        let d = expr_at_law (table_of bs).nodes n (some x) (visited_kind v x e) f l in
        h f (record { depth = d.depth; values = ρ; budget = budget; steps = steps; deep = d.enough; counts = c; binds = b })
        (ap (λ (z : Expr). valueᵉ budget (table_of bs).sizes z ρ steps) d.is);
  }

  -- It is refused, by a child or by its rule.
  pub stopped_by : {r : Refusal} {l : ℕ} → ((i : Asks bs env s top n left) → EndsWith (treeᵉ x i) (refused r.number r.place) i.budget l) →
      EvaluatesE bs env s top n left s' (Stopped r l)
  stopped_by h = formed_by tt (λ f i q. rw q (h i))

  -- It gives something, which has been settled.
  pub settled_by : {l : ℕ} {r : Formed} → FormedBounds (height (table_of bs).nodes n) top r →
      ((i : Asks bs env s top n left) → (g : Given) × EndsWith (treeᵉ x i) (end_of n g) i.budget l × SettledAs g s' n l r) →
      EvaluatesE bs env s top n left s' r
  settled_by {l} {r} bounds h = formed_by bounds (λ f i q.
      let y = h i in
      settled_as bs i.budget f n i.values i.steps v.ready.readable i.binds.good y.0 (rw q y.1) s' r y.2)

-- What a node gives stands in the arena s₂ that its operation leaves, to be settled. The node has operands.
pub record Operated (bs env s : List ℕ) (top k n left : ℕ) (x : Kind) (s₂ : List ℕ) (o : NodeAnswer) (mid next l : ℕ) : Type 0 where
  pub visited : Visited bs env s top k n left
  pub code : kind_of k ≡ some x
  pub tall : 2 ≤ height (table_of bs).nodes n
  pub frame : Same top s s₂
  pub low : top ≤ mid
  pub high : mid ≤ top + 256
  pub order : mid ≤ next
  pub room : next + 514 ≤ length s₂
  pub gives : (i : Asks bs env s top n left) → (g : Given) × EndsWith (treeᵉ x i) (end_of n g) i.budget l × Gives s₂ mid next g o

-- The answer tells the same by the refusal's number.
gives_numbered : (s : List ℕ) (mid top : ℕ) (g : Given) (o : NodeAnswer) → Gives s mid top g o → GivesNumbered s mid top g (numbered o)
gives_numbered s mid top g (Ok outcome) h = h
gives_numbered s mid top g (Err lack) h = h

module _ {bs env s : List ℕ} {top k n left : ℕ} {x : Kind} {s₂ : List ℕ} {o : NodeAnswer} {mid next l : ℕ}
    (p : Operated bs env s top k n left x s₂ o mid next l) {a : Result Outcome ℕ} (e : a ≡ numbered o) where
  pub settle_asks : SettleReady s₂ a mid next top
  settle_asks =
      let y = p.gives (some_asks n left p.visited.ready) in
      record { given = y.0; gives = rw e (gives_numbered s₂ mid next y.0 o y.2); low = p.low; high = p.high; order = p.order; room = p.room }

  pub settle_tells : {s₃ : List ℕ} {r : Formed} → Settles s₂ a mid next top n l s₃ r → EvaluatesE bs env s top n left s₃ r
  settle_tells {s₃} st =
      settled_by p.visited x p.code (same_trans top top s s₂ s₃ p.frame st.frame (omega arith)) (st.bounds _ p.tall) (λ i.
      let y = p.gives i in (y.0, y.1, st.answer y.0 (rw e (gives_numbered s₂ mid next y.0 o y.2))))
