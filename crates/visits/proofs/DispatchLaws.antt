-- Where a node's visit goes: the refusal of a visit beyond the budget, the evaluator by the kind's code, the leaves that are built, and those that
-- stand already.
use Rattle.visits.proofs.Terms.{T_true, T_and, t_leb, ℕ, zero, suc, ◌+◌, ◌-◌, ◌≤◌, ◌<◌, Bool, true, false, cond, List, ◌≢◌, ◌⊎◌, inl, inr, ⊎_elim, Option, nothing, some, ◌≡◌, refl, sym, ap, ◌∙◌, subst, arith, leb, get_or, false≢true, ◌&&◌, equal, member, subset, at_most, Leaf, given_set, element_of, literal, truth_const, empty_set, bool_set, singleton, power, dom, ran, card, choice, pairing, union, inter, diff, product, apply, plus, minus, interval, leafᵉ, boolᵉ, oneᵉ, twoᵉ, comprehensionᵉ, leaf_value, ValueAt, built_leaf, LeafFits, LeafReady, LeafDone, leaf_place, PlaceReady, StandingReady, LeafNode, LeafFormed}
use Rattle.visits.proofs.Terms.{Value, weight, and, or, implies, iff, for_all, for_some, identifier, Kind, join, negation, test, quant, leaf, bool_of, one, two, comprehension, kind_of, Category, predicate, expression, Node, Pred, Expr, table_of, node_at, kind_at, pred_of, expr_at, node_count, Readable, CategoryIs, refused, gives, Env, holdsᵖ, valueᵉ, sizes_length, binds_length, good_weight, Same, same_refl, length_code, BuiltAt, code_of_law, kind_of_law, Formed, Placed, Stopped, Refused, EndsWith, field_a, field_b, IsPred, IsExpr, entry_place, PlacedLeaf, Binds, NodeReady, Visited, Sort, EvaluatesP, EvaluatesE, dec_lt, whole, leaf_one, IsLight}
use Rattle.table.specs.Codes.{code_of as category_number, category_code}
use Rattle.table.proofs.Access.{by_range_law}
use Rattle.constants.specs.Constants.{OneCell}
use Rattle.laws.proofs.TypedTree.{numberᵉ, number_at}
use Rattle.visits.proofs.RunLaws.{unvisited, light_form}
use Rattle.visits.proofs.NodeLaws.{sizes_small, field_holds, pred_at_law, visited_kind, visited_builds, visits, after, settled_by}
use Rattle.visits.proofs.SafeLaws.{cell_room}

-- 19: the visits are spent.
module _ (budget : ℕ) (gs : List ℕ) (ρ : Env) (s n : ℕ) {left : ℕ} (c : s + left ≡ budget) (z : left ≡ 0) (d : Node) (p : ℕ → Pred) (e : ℕ → Expr) where
  pred_spent : (k : Option Kind) → EndsWith (holdsᵖ budget gs (pred_of k n d p e) ρ s) (refused 19 n) budget left
  unfolding holdsᵖ
  pred_spent nothing = unvisited budget n s _ c z
  pred_spent (some (join j)) = unvisited budget n s _ c z
  pred_spent (some negation) = unvisited budget n s _ c z
  pred_spent (some (test j)) = unvisited budget n s _ c z
  pred_spent (some (quant j)) = unvisited budget n s _ c z
  pred_spent (some (leaf j)) = unvisited budget n s _ c z
  pred_spent (some bool_of) = unvisited budget n s _ c z
  pred_spent (some (one j)) = unvisited budget n s _ c z
  pred_spent (some (two j)) = unvisited budget n s _ c z
  pred_spent (some comprehension) = unvisited budget n s _ c z

expr_spent : (budget : ℕ) (gs : List ℕ) (ρ : Env) (s : ℕ) {left : ℕ} → s + left ≡ budget → left ≡ 0 → (a : Expr) →
    EndsWith (valueᵉ budget gs a ρ s) (refused 19 (numberᵉ a)) budget left
unfolding valueᵉ
expr_spent budget gs ρ s c z (leafᵉ n j a b) = unvisited budget n s _ c z
expr_spent budget gs ρ s c z (boolᵉ n p) = unvisited budget n s _ c z
expr_spent budget gs ρ s c z (oneᵉ n j a) = unvisited budget n s _ c z
expr_spent budget gs ρ s c z (twoᵉ n j a b) = unvisited budget n s _ c z
expr_spent budget gs ρ s c z (comprehensionᵉ n x r p) = unvisited budget n s _ c z

module _ {bs env s : List ℕ} {top n left : ℕ} (r : NodeReady bs env s top n) where
  pub spent_pred : left ≡ 0 → EvaluatesP bs env s top n left s (Refused (record { number = 19; place = n }) left)
  spent_pred z = record {
    frame = same_refl top s;
    answer = λ f ρ budget steps l c b.
        rw (pred_at_law (table_of bs).nodes n _ refl f l).is (pred_spent budget (table_of bs).sizes ρ steps n c z _ _ _ (kind_at (table_of bs).nodes n));
  }

  pub spent_expr : left ≡ 0 → EvaluatesE bs env s top n left s (Stopped (record { number = 19; place = n }) left)
  spent_expr z = record {
    frame = same_refl top s;
    bounds = tt;
    answer = λ f ρ budget steps l c b.
        rw (number_at f (table_of bs).nodes n) at (expr_spent budget (table_of bs).sizes ρ steps c z (expr_at f (table_of bs).nodes n));
  }

  -- The visit can be made.
  pub counted : (k : ℕ) → left ≢ 0 → k ≡ (node_at (table_of bs).nodes n).kind → Visited bs env s top k n left
  counted k h e = record { ready = r; unspent = omega (arith, h); kind = e }

-- A visit at a node whose code is known.
pub visited_as : {bs env s : List ℕ} {top k j n left : ℕ} → Visited bs env s top k n left → k ≡ j → Visited bs env s top j n left
visited_as v e = record { ready = v.ready; unspent = v.unspent; kind = sym e ∙ v.kind }

-- What holds at each of n numbers from i on.
abbrev Along : (ℕ → Type 0) → ℕ → ℕ → Type 0
Along P i zero = Unit {0}
Along P i (suc n) = P i × Along P (suc i) n

here_or_on : (P : ℕ → Type 0) (i k : ℕ) → i ≤ k → P i → (i < k → P k) → P k
here_or_on P i k a h on = go (dec_lt i k)
  where
    go : Dec (i < k) → P k
    go (yes l) = on l
    go (no l) = let e : i ≡ k = omega arith in subst P e h

along : (P : ℕ → Type 0) (i n : ℕ) → Along P i n → (k : ℕ) → i ≤ k → k < i + n → P k
along P i zero h k a b = absurd (omega arith)
along P i (suc n) h k a b = here_or_on P i k a h.0 (λ l. along P (suc i) n h.1 k (omega arith) (omega arith))

-- The kinds that a code or a range of codes stands for.
module _ (k : ℕ) where
  pub test_sort : 6 ≤ k → k < 10 → Sort test k
  unfolding kind_of
  test_sort a b = along (λ (m : ℕ). Sort test m) 6 4 ((equal, refl), ((member, refl), ((subset, refl), ((at_most whole, refl), tt)))) k a (omega arith)

  pub quant_sort : 10 ≤ k → k < 12 → Sort quant k
  unfolding kind_of
  quant_sort a b = along (λ (m : ℕ). Sort quant m) 10 2 ((for_all, refl), ((for_some, refl), tt)) k a (omega arith)

  -- The codes of one arm: 27, 33, 38 and 43.
  abbrev SomeOne : Type 0
  SomeOne = (k ≡ 27) ⊎ ((k ≡ 33) ⊎ ((k ≡ 38) ⊎ (k ≡ 43)))

  pub one_keys : SomeOne → Sort one k
  one_keys (inl e) = (singleton, kind_of_law k (one singleton) e)
  one_keys (inr (inl e)) = (power, kind_of_law k (one power) e)
  one_keys (inr (inr (inl e))) = (card, kind_of_law k (one card) e)
  one_keys (inr (inr (inr e))) = (choice, kind_of_law k (one choice) e)

  pub one_range : k ≢ 34 → 33 ≤ k → k < 37 → Sort one k
  unfolding kind_of
  one_range d a b =
      along (λ (m : ℕ). m ≢ 34 → Sort one m) 33 4
      ((λ d. (power, refl)), ((λ d. absurd (d refl)), ((λ d. (dom, refl)), ((λ d. (ran, refl)), tt)))) k a (omega arith) d

  pub two_key : k ≡ 37 → Sort two k
  two_key e = (apply, kind_of_law k (two apply) e)

  -- No expression's code is left at the last arm.
  pub no_other : {A : Type 0} → (20 ≤ k) × (k ≤ 43) → 42 ≤ k → (SomeOne → ⊥) → ((k ≡ 21) ⊎ (k ≡ 42) → ⊥) → A
  no_other r a n m =
      let n42 : k ≢ 42 = λ e. m (inr e) in
      let n43 : k ≢ 43 = λ e. n (inr (inr (inr e))) in
      absurd (omega (arith, r.1, n42, n43))

  pub two_low : (SomeOne → ⊥) → k ≢ 25 → ((k ≡ 20) ⊎ (k ≡ 26) → ⊥) → 25 ≤ k → k < 33 → Sort two k
  unfolding kind_of
  two_low n n25 m a b =
      along (λ (m : ℕ). Sort two m) 28 5 ((pairing, refl), ((union, refl), ((inter, refl), ((diff, refl), ((product, refl), tt))))) k
      (let n26 : k ≢ 26 = λ e. m (inr e) in let n27 : k ≢ 27 = λ e. n (inl e) in omega (arith, n25, n26, n27)) (omega arith)

  pub two_high : k ≢ 38 → 37 ≤ k → k < 42 → Sort two k
  unfolding kind_of
  two_high d a b =
      along (λ (m : ℕ). m ≢ 38 → Sort two m) 37 5
      ((λ d. (apply, refl)), ((λ d. absurd (d refl)), ((λ d. (plus whole, refl)), ((λ d. (minus whole, refl)), ((λ d. (interval, refl)), tt))))) k
      a (omega arith) d

-- The ranges of the codes of predicates and of expressions.
codes_within : (k lo hi : ℕ) → leb lo k && leb k hi ≡ true → (lo ≤ k) × (k ≤ hi)
codes_within k lo hi e = let t = (T_and (leb lo k) (leb k hi)).0 ((T_true (leb lo k && leb k hi)).1 e) in ((t_leb lo k).0 t.0, (t_leb k hi).0 t.1)

in_range_law : (c : Category) (a b : Bool) → cond a 1 (cond b 2 0) ≡ category_number c → elim c [ predicate ↦ a | expression ↦ b ] ≡ true
in_range_law predicate true b e = refl
in_range_law predicate false true e = absurd (omega arith)
in_range_law predicate false false e = absurd (omega arith)
in_range_law expression true b e = absurd (omega arith)
in_range_law expression false true e = refl
in_range_law expression false false e = absurd (omega arith)

category_is_law : (c : Category) (o : Option Kind) → CategoryIs c o → category_code o ≡ category_number c
category_is_law c nothing h = absurd h
category_is_law c (some x) h = ap category_number h

-- A leaf that stands already, an identifier or a constant of one cell: its arm of `eval_value`.
abbrev pub Unbuilt : ℕ → Type 0
Unbuilt k = (j : Leaf) × (kind_of k ≡ some (leaf j)) × (built_leaf j ≡ false)

pub standing_code : (k : ℕ) → ((k ≡ 20) ⊎ (k ≡ 26)) ⊎ ((20 ≤ k) × (k < 25) × (k ≢ 21)) → Unbuilt k
unfolding kind_of
standing_code k (inl (inl e)) = (identifier, kind_of_law k (leaf identifier) e, refl)
standing_code k (inl (inr e)) = (empty_set, kind_of_law k (leaf empty_set) e, refl)
standing_code k (inr (a, b, n)) =
    let from_22 : Along Unbuilt 22 3 = ((element_of, refl, refl), ((literal whole, refl, refl), ((truth_const, refl, refl), tt))) in
    here_or_on Unbuilt 20 k a (identifier, refl, refl) (λ l. along Unbuilt 22 3 from_22 k (omega (arith, n)) (omega arith))

-- A leaf that is not built is an identifier or a constant, whose place is its node's cell.
unbuilt_leaf : (j : Leaf) → built_leaf j ≡ false → (j ≡ identifier) ⊎ (OneCell j × ((env : List ℕ) (n a : ℕ) → leaf_place j env n a ≡ n))
unbuilt_leaf identifier d = inl refl
unbuilt_leaf given_set d = absurd (false≢true (sym d))
unbuilt_leaf element_of d = inr (tt, λ env n a. refl)
unbuilt_leaf (literal m) d = inr (tt, λ env n a. refl)
unbuilt_leaf truth_const d = inr (tt, λ env n a. refl)
unbuilt_leaf empty_set d = inr (tt, λ env n a. refl)
unbuilt_leaf bool_set d = absurd (false≢true (sym d))

-- The word of an identifier is in range.
pub name_below : (bs : List ℕ) → Readable bs → (n : ℕ) → n < node_count bs → kind_at (table_of bs).nodes n ≡ some (leaf identifier) → field_a bs n < 32
name_below bs r n lt e = omega (arith, field_holds bs r n lt (leaf identifier) e 0 (omega arith), binds_length bs, r.header.identifiers)

pub place_ready : {bs env s : List ℕ} {top n : ℕ} → NodeReady bs env s top n → PlaceReady bs env n
place_ready r = record { readable = r.readable; node = r.node; entries = r.entries }

pub unbuilt_ready : {bs env : List ℕ} {k n : ℕ} → PlaceReady bs env n → k ≡ (node_at (table_of bs).nodes n).kind → Unbuilt k → StandingReady bs env k n
unbuilt_ready p e u = record { node = p; same = e; kind = u.0; is = u.1; unbuilt = u.2 }

-- What the evaluators of the leaves take for granted.
module _ {bs env s : List ℕ} {top k n left : ℕ} (v : Visited bs env s top k n left) where
  -- A node's kind is in the range of its category, and so the last arms.
  pub predicate_code : IsPred bs n → (1 ≤ k) × (k ≤ 11)
  predicate_code h = codes_within k 1 11 (in_range_law predicate _ (leb 20 k && leb k 43)
      (by_range_law k ∙ category_is_law predicate (kind_of k) (rw v.kind h)))

  pub expression_code : IsExpr bs n → (20 ≤ k) × (k ≤ 43)
  expression_code h = codes_within k 20 43
      (in_range_law expression (leb 1 k && leb k 11) _ (by_range_law k ∙ category_is_law expression (kind_of k) (rw v.kind h)))

  pub join_kind : IsPred bs n → k ≢ 4 → k < 6 → Sort join k
  unfolding kind_of
  join_kind h d l =
      along (λ (m : ℕ). m ≢ 4 → Sort join m) 1 5
      ((λ d. (and, refl)), ((λ d. (or, refl)), ((λ d. (implies, refl)), ((λ d. absurd (d refl)), ((λ d. (iff, refl)), tt))))) k
      (predicate_code h).0 (omega arith) d

  -- The leaves that are built.
  built_node : (j : Leaf) → kind_of k ≡ some (leaf j) → built_leaf j ≡ true → LeafFits j (field_a bs n) (get_or (table_of bs).sizes (field_a bs n) 0) →
      LeafNode bs s top k n
  built_node j e d fit =
      let room = cell_room v.ready (visited_builds v (leaf j) e d) (same_refl top s) in
      record { readable = v.ready.readable; node = v.ready.node; ready = record { kind = j; is = e; fits = fit; room = room } }

  pub leaf_node : (k ≡ 21) ⊎ (k ≡ 42) → LeafNode bs s top k n
  leaf_node (inl c) =
      let e = kind_of_law k (leaf given_set) c in
      let f = field_holds bs v.ready.readable n v.ready.node (leaf given_set) (visited_kind v (leaf given_set) e) 0 (omega arith) in
      built_node given_set e refl
      (omega (arith, f, sizes_length bs, v.ready.readable.header.givens), (sizes_small bs v.ready.readable).small (field_a bs n))
  leaf_node (inr c) = built_node bool_set (kind_of_law k (leaf bool_set) c) refl tt

  -- The value of a leaf's node.
  abbrev here : Leaf → Env → Value
  here j ρ = leaf_value (table_of bs).sizes j (field_a bs n) (field_b bs n) ρ

  constant_good : (j : Leaf) → kind_at (table_of bs).nodes n ≡ some (leaf j) → OneCell j → (ρ : Env) → Binds bs s top env ρ →
      ValueAt s n (here j ρ) × (n + weight (here j ρ) ≤ top) × (weight (here j ρ) ≤ 256)
  constant_good j e o ρ b =
      let one = leaf_one bs n j ρ o in
      let w = length_code (here j ρ) in
      (b.constants n j ρ v.ready.node e o, omega (arith, b.low, v.ready.node, one, w), omega (arith, one, w))

  -- The value of a leaf that is not built: where it stands, and that it is light.
  standing_good : (j : Leaf) → kind_at (table_of bs).nodes n ≡ some (leaf j) → built_leaf j ≡ false → (ρ : Env) → Binds bs s top env ρ →
      ValueAt s (leaf_place j env n (field_a bs n)) (here j ρ) × (leaf_place j env n (field_a bs n) + weight (here j ρ) ≤ top) × (weight (here j ρ) ≤ 256)
  unfolding leaf_value
  standing_good j e d ρ b = ⊎_elim
      (λ i. let g = b.at (field_a bs n) (name_below bs v.ready.readable n v.ready.node (rw i at e)) in
      rw i (g.stands, g.below, good_weight (table_of bs).sizes (ρ (field_a bs n)) (b.good (field_a bs n))))
      (λ o. rw (o.1 env n (field_a bs n)) (constant_good j e o.0 ρ b)) (unbuilt_leaf j d)

  -- It is light, and so formed at once: where it stands it is the answer.
  module _ (j : Leaf) (e : kind_of k ≡ some (leaf j)) {s' : List ℕ} (same : Same top s s') {at next : ℕ} (bounds : (top ≤ next) × (next ≤ top + 33))
      (ok : (ρ : Env) → Binds bs s top env ρ → ValueAt s' at (here j ρ) × (at + weight (here j ρ) ≤ next) × (weight (here j ρ) ≤ 256)) where
    leaf_stands : EvaluatesE bs env s top n left s' (Placed at next (left - 1))
    unfolding valueᵉ
    leaf_stands =
        settled_by v (leaf j) e same (omega (arith, bounds, v.ready.tall)) (λ i.
        let w = ok i.values i.binds in (
          gives (here j i.values),
          visits v i _ (light_form n (here j i.values) _ w.2 (after v i).counts),
          record { value = here j i.values; is = refl; stands = w.0; below = w.1; same = refl },
        ))

  pub standing_answer : {at : ℕ} → PlacedLeaf bs env n at → EvaluatesE bs env s top n left s (Placed at top (left - 1))
  standing_answer {at} p =
      subst (λ (x : ℕ). EvaluatesE bs env s top n left s (Placed x top (left - 1))) (sym p.place)
      (leaf_stands p.kind (ap kind_of v.kind ∙ p.is) (same_refl top s) (omega arith, omega arith) (standing_good p.kind p.is p.unbuilt))

  -- Another leaf's value has been built.
  pub leaf_answer : LeafNode bs s top k n → (s' : List ℕ) (o : Formed) → LeafFormed bs s top k n (left - 1) s' o → EvaluatesE bs env s top n left s' o
  leaf_answer p s' o h =
      let b : (ρ : Env) → BuiltAt s' top (gives (here p.ready.kind ρ)) h.end
      = λ ρ. h.done.answer p.ready.kind (table_of bs).sizes (field_b bs n) ρ p.ready.is p.ready.fits refl in
      subst (λ (x : Formed). EvaluatesE bs env s top n left s' x) (sym h.is)
      (leaf_stands p.ready.kind p.ready.is h.done.frame (omega (arith, (b v.ready.values).ends), h.done.near)
      (λ ρ _. let y = b ρ in let q : here p.ready.kind ρ ≡ y.value = cc y.is in rw q (y.stands, omega (arith, y.ends), y.light)))

-- An operand that stands already, where a visit is left.
pub placed_answer : {bs env s : List ℕ} {top n at left l : ℕ} → NodeReady bs env s top n → PlacedLeaf bs env n at → left ≢ 0 → l ≡ left - 1 →
    EvaluatesE bs env s top n left s (Placed at top l)
placed_answer r p h q = rw q (standing_answer (counted r _ h refl) p)

-- 37, 39 and 40 have two operands.
pub light_two : {k : ℕ} → IsLight k → Sort two k
light_two {k} h = two_high k h.other h.low (omega (arith, h.high))

-- An identifier's value stands where the environment says.
pub standing_name_place : {bs env : List ℕ} {n at : ℕ} → PlacedLeaf bs env n at → kind_at (table_of bs).nodes n ≡ some (leaf identifier) →
    at ≡ entry_place (get_or env (field_a bs n) 0)
standing_name_place {bs} {env} {n} p e =
    let d : some (leaf identifier) ≡ some (leaf p.kind) = sym e ∙ p.is in
    let q : identifier ≡ p.kind = cc in
    p.place ∙ ap (λ (j : Leaf). leaf_place j env n (field_a bs n)) (sym q)

-- Where a leaf stands.
module _ {bs env : List ℕ} {k n : ℕ} (p : StandingReady bs env k n) where
  -- An identifier has 20, a constant another code.
  pub standing_name : k ≡ 20 → field_a bs n < 32
  standing_name q = name_below bs p.node.readable n p.node.node (ap kind_of (sym p.same) ∙ kind_of_law k (leaf identifier) q)

  pub placed_name : k ≡ 20 → {x at : ℕ} → x ≡ field_a bs n → at ≡ entry_place (get_or env x 0) → PlacedLeaf bs env n at
  placed_name q ex d = record {
    kind = identifier;
    is = ap kind_of (sym p.same) ∙ kind_of_law k (leaf identifier) q;
    unbuilt = refl;
    place = d ∙ ap (λ (y : ℕ). entry_place (get_or env y 0)) ex;
  }

  pub placed_constant : k ≢ 20 → PlacedLeaf bs env n n
  placed_constant q = record {
    kind = p.kind;
    is = ap kind_of (sym p.same) ∙ p.is;
    unbuilt = p.unbuilt;
    place = ⊎_elim (λ i. absurd (q (code_of_law k (leaf identifier) (rw i at p.is)))) (λ o. sym (o.1 env n _)) (unbuilt_leaf p.kind p.unbuilt);
  }

-- 21 and 42, with the word and the size that have been read.
module _ {bs s : List ℕ} {top k n a z : ℕ} (p : LeafNode bs s top k n) (ea : a ≡ field_a bs n) (ez : z ≡ get_or (table_of bs).sizes a 0) where
  same_size : z ≡ get_or (table_of bs).sizes (field_a bs n) 0
  same_size = ez ∙ ap (λ (y : ℕ). get_or (table_of bs).sizes y 0) ea

  pub leaf_ready : LeafReady k a z s top
  leaf_ready = rw (same_size, ea) p.ready

  pub leaf_formed : {s' : List ℕ} {end left : ℕ} → LeafDone k a z s top s' end → LeafFormed bs s top k n left s' (Placed top end left)
  leaf_formed {end = end} d = record { end = end; is = refl; done = rw (same_size, ea) at d }
