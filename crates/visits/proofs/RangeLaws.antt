-- A binder's range: its fields, its part of the node's run, the members of a set that stands in the arena, what the loop over them may take for
-- granted, and `range_of`.
use Rattle.visits.proofs.Terms.{ℕ, ◌+◌, ◌-◌, ◌*◌, ◌≤◌, ◌<◌, Bool, true, false, List, [], ◌∷◌, some, ◌≡◌, refl, sym, ap, ◌∙◌, subst, arith, T, length, get_or, ◌%◌, set, typed, demand, cell_size, RangeSet, SomeGood, T_true}
use Rattle.visits.proofs.Terms.{Value, Values, count, Kind, Category, expression, predicate, unused, child, kind_of, fields_of, fits, table_of, node_at, kind_at, field_words, End, refused, Run, M, ◌>>=◌, ◌>>◌, visit, binds_length, good_weight, code, codes, built, Sizes, GoodAt, good_fits, good_inside, Placed, Stopped, Refusal, Some, None, EndsWith, PlacedAs, Listed, field_a, field_b, field_c, RangeAt, expression_cells, NodeReady, Visited, Asks, AsksEach, value_at, EvaluatesE, EachReady, P̂, t̂, quant_rule, good_typed, elems_good, stands_tail, good_typed_at}
use Rattle.laws.proofs.BindingLaws.{binder_fields}
use Rattle.arena.proofs.ValueParts.{first_cell_law}
use Rattle.fitting.specs.Tests.{FitOne}
use Rattle.fitting.proofs.Tests.{fits_set}
use Rattle.operations.proofs.SingleLaws.{fits_is_set}
use Rattle.visits.proofs.RunLaws.{then_done, then_refused, fitting_on, fitting_refused}
use Rattle.visits.proofs.NodeLaws.{Child, sizes_small, field_holds, condition_cells_law, ready_child, visited_kind, visited_builds, visited_child}
use Rattle.visits.proofs.NodeLaws.{some_asks, asks_on, visits, after, value_in, formed_below}

-- The members of a good set stand behind its own cell.
pub range_listed : {gs s : List ℕ} {top at n : ℕ} {v : Value} → GoodAt gs s top at v → (r : RangeSet v n) → Listed gs s top (at + 1) n r.members
unfolding code
range_listed {gs} {s} {top} {at} h r =
    let vs = r.members in
    let g : GoodAt gs s top at (set vs) = rw r.is at h in
    record {
      stands = stands_tail s at (5 * cell_size + count vs) (codes vs) g.stands;
      counted = r.counted;
      below = omega (arith, g.below);
      good = elems_good gs (set vs) g.good;
      light = omega (arith, good_weight gs (set vs) g.good);
    }

-- A set that has a type can be a range.
set_fits : (vs : Values) → T (typed (set vs)) → fits (P̂ t̂ ∷ []) (set vs ∷ []) ≡ true
unfolding typed
set_fits vs h = fits_set (set vs) ∙ (T_true (typed (set vs))).0 h

-- A binder's node is visited; its range is the node a.
pub record Binder (bs env s : List ℕ) (top k n left a : ℕ) (x : Kind) : Type 0 where
  pub visited : Visited bs env s top k n left
  pub code : kind_of k ≡ some x
  pub fields : fields_of x ≡ binder_fields
  pub word : a ≡ field_b bs n

-- Its range has been evaluated, and stands at `at`.
pub record Ranged (bs env s : List ℕ) (top k n left a : ℕ) (x : Kind) (s₁ : List ℕ) (at next l : ℕ) : Type 0 where
  pub binder : Binder bs env s top k n left a x
  pub placed : EvaluatesE bs env s top a (left - 1) s₁ (Placed at next l)

module _ {bs env s : List ℕ} {top k n left a : ℕ} {x : Kind} (b : Binder bs env s top k n left a x) where
  abbrev r : NodeReady bs env s top n
  r = b.visited.ready

  child_in : (c : Category) (i m : ℕ) → i < 3 → get_or binder_fields i unused ≡ child c → m ≡ get_or (field_words (node_at (table_of bs).nodes n)) i 0 →
      Child bs n m c
  child_in c i m l q w = visited_child b.visited x b.code c i m l (rw b.fields l) (rw b.fields q) w

  pub range_child : Child bs n a expression
  range_child = child_in expression 1 a (omega arith) refl b.word

  body : Child bs n (field_c bs n) predicate
  body = child_in predicate 2 (field_c bs n) (omega arith) refl refl

  binder_name : field_a bs n < 32
  binder_name =
      let e = visited_kind b.visited x b.code in
      let h : field_a bs n < length (table_of bs).binds = rw b.fields at (field_holds bs r.readable n r.node x e 0 (rw b.fields (omega arith))) in
      omega (arith, h, binds_length bs, r.readable.header.identifiers)

  -- What the node's run does with its range, and what follows.
  abbrev ranged : {A : Type 0} → Asks bs env s top n left → (Value → M A) → Run A
  ranged i f = (visit i.budget n >> (value_at bs i.budget i.depth (field_b bs n) i.values >>= λ v.
      demand (fits (P̂ t̂ ∷ []) (v ∷ [])) 15 n >> f v)) i.steps

  -- The range is refused.
  pub range_stops : {A : Type 0} (i : Asks bs env s top n left) (f : Value → M A) {s₁ : List ℕ} {p : Refusal} {l : ℕ} →
      EvaluatesE bs env s top a (left - 1) s₁ (Stopped p l) → EndsWith (ranged i f) (refused p.number p.place) i.budget l
  range_stops i f {p = p} {l = l} h =
      visits b.visited i _ (then_refused _ (formed_below (after b.visited i) range_child b.word (Stopped p l) h))

  -- It has been evaluated.
  module _ {s₁ : List ℕ} {at next l : ℕ} (h : EvaluatesE bs env s top a (left - 1) s₁ (Placed at next l)) where
    pub placed_range : (i : Asks bs env s top n (left - 1)) → PlacedAs (value_in i (field_b bs n)) i.budget (table_of bs).sizes s₁ at next l
    placed_range i = formed_below i range_child b.word (Placed at next l) h

    some_range : PlacedAs (value_in (some_asks n (left - 1) r) (field_b bs n)) (left - 1) (table_of bs).sizes s₁ at next l
    some_range = placed_range (some_asks n (left - 1) r)

    pub small : Sizes (table_of bs).sizes
    small = sizes_small bs r.readable

    pub range_good : SomeGood s₁ at
    range_good = record { sizes = (table_of bs).sizes; small = small; top = next; value = some_range.value; stands = some_range.place }

    pub range_low : at < 4294967296
    range_low = omega (arith, good_inside small some_range.place, h.frame.kept, r.small)

    -- It is no set.
    pub range_unlike : {A : Type 0} → RangeAt s₁ at None → (i : Asks bs env s top n left) (f : Value → M A) →
        EndsWith (ranged i f) (refused 15 n) i.budget l
    range_unlike y i f =
        let v = placed_range (after b.visited i) in
        visits b.visited i _ (then_done _ v.ends
        (fitting_refused n quant_rule (v.value ∷ []) (f v.value) _ (y (table_of bs).sizes next v.value small v.place) v.ends.steps))

    -- It is a set of `count` members.
    module _ {count : ℕ} (y : RangeAt s₁ at (Some count)) where
      pub each_ready : (spare : ℕ) → spare ≤ 128 + expression_cells (some x) → (0 < spare → built (some x) ≡ true) →
          EachReady bs env s₁ next n (at + 1) count spare
      each_ready spare enough builds =
          let z = y (table_of bs).sizes next some_range.value small some_range.place in
          let cells = ap expression_cells (visited_kind b.visited x b.code) in
          let low = condition_cells_law (kind_at (table_of bs).nodes (field_c bs n)) body.is in
          record {
            ready = ready_child s₁ (field_c bs n) next r body h.frame h.bounds.0 h.bounds.1;
            binder = r.node;
            deeper = body.below;
            is = body.is;
            name = binder_name;
            space = λ p.
                omega (arith, body.lower, body.tall, r.room (visited_builds b.visited x b.code (builds p)), cells, low, h.frame.kept, h.bounds.1);
            range = z.members;
            listed = range_listed some_range.place z;
          }

      module _ (i : Asks bs env s top n left) where
        abbrev placed : PlacedAs (value_in (after b.visited i) (field_b bs n)) i.budget (table_of bs).sizes s₁ at next l
        placed = placed_range (after b.visited i)

        abbrev is_set_law : RangeSet placed.value count
        is_set_law = y (table_of bs).sizes next placed.value small placed.place

        -- What is asked of the loop over it.
        abbrev pub in_range_law : AsksEach bs env s₁ next n (at + 1) count l
        in_range_law = record {
          asks = asks_on (after b.visited i) (value_in (after b.visited i) (field_b bs n)).steps h.frame h.bounds.0 placed.ends.steps;
          range = is_set_law.members;
          listed = range_listed placed.place is_set_law;
        }

        -- It fits, and so what follows it ends the run.
        pub range_on : {A : Type 0} (f : Value → M A) {e : End A} {u : ℕ} →
            EndsWith (f (set in_range_law.range) in_range_law.asks.steps) e i.budget u → EndsWith (ranged i f) e i.budget u
        range_on f z =
            let v = set is_set_law.members in
            let fit = set_fits is_set_law.members (good_typed (table_of bs).sizes v (rw is_set_law.is at placed.place.good)) in
            visits b.visited i _ (then_done _ (rw is_set_law.is at placed.ends) (fitting_on n quant_rule (v ∷ []) (f v) _ fit z))

-- `range_of`: the first cell of a set has the number of its members.
module _ {s : List ℕ} {at : ℕ} where
  module _ {r : Bool} (f : FitOne (P̂ t̂ ∷ []) s at r) where
    pub range_not : r ≡ false → RangeAt s at None
    range_not e gs top v q h = sym (f v (good_typed_at q h)) ∙ e

    pub range_set : r ≡ true → (n : ℕ) → n ≡ get_or s at 0 % 4294967296 → RangeAt s at (Some n)
    range_set e n c gs top v q h =
        let x = fits_is_set v (sym (f v (good_typed_at q h)) ∙ e) in
        let g = subst (λ (w : Value). GoodAt gs s top at w) x.1 h in
        record { members = x.0; is = x.1; counted = c ∙ (first_cell_law s at (set x.0) g.stands (good_fits q (set x.0) g.good)).1 }
