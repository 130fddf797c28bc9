-- Places: their variables, which of them have a type, and the scan for the least place where something fails.
use Prim.Native.Nat.{ℕ, ◌+◌, ◌-◌, ◌%◌, ◌≤◌, ◌<◌}
use mathlib.Core.Bool.{Bool, true, false, true≢false, false≢true}
use mathlib.Core.List.{List}
use mathlib.Core.Logic.{inl, inr}
use mathlib.Core.Option.{Option}
use mathlib.Core.Path.{◌≡◌, refl, sym, ap, ◌∙◌}
use native.Mathlib.Decide.{dec_lt}
use native.Mathlib.Omega.{arith}
use borrow.Author.Tests.{lt-ltb, le-ltb, leb-true, leb-false}
use lib.Dec.{leb}
use denote.Param.Members.{Mut}
use denote.Ref.{Bor}
use Rattle.std.specs.Fn.{CalledAt}
use Rattle.std.specs.Iterator.{FindsItem}
use Rattle.std.specs.declared.ops.Range.{Range}
use Rattle.std.proofs.iter.Yields.{nat_range_steps}
use Rattle.std.proofs.lemmas.Iterator.{first_from_Range}
use lib.ListN.{get_or, length}
use Rattle.rules.specs.Kinds.{Kind, expression}
use Rattle.rules.specs.Tables.{Table, table_of, kind_at, identifier_count, node_count}
use Rattle.rules.specs.Readable.{CategoryIs}
use Rattle.rules.specs.Verdict.{Place}
use Rattle.laws.proofs.TableLaws.{binds_length, nodes_length}
use Rattle.rules.specs.Reading.{category_is}
use Rattle.laws.proofs.EndLaws.{T_true, T_false}
use Rattle.laws.proofs.ReadingLaws.{category_is_right}
use Rattle.terms.specs.Terms.{class_in}
use Rattle.typing.specs.Places.{place_var, place_count}
use Rattle.typing.proofs.Places.{place_below, var_below}
use Rattle.std.specs.Prelude.{Option as Found, None, Some, MatchOption}
use Rattle.sheets.specs.Rows.{PlacesIn, MarkBelow, FirstPlace}
use Rattle.sheets.specs.Steps.{PlaceOf, TypedIf, FailsIf, start_var}

-- A node's place has a type just where the node is an expression.
module _ (tb : Table) (p : ℕ) (above : length tb.binds ≤ p) where
  abbrev kind_here : Option Kind
  kind_here = kind_at tb.nodes (p - length tb.binds)

  node_place_law : p < place_count tb → CategoryIs expression kind_here → Place tb p
  node_place_law h t = inr (p - length tb.binds, omega arith, t, omega arith)

  place_node : Place tb p → CategoryIs expression kind_here
  place_node (inl l) = absurd (omega arith)
  place_node (inr (n, l, t, e)) = let q : p - length tb.binds ≡ n = omega arith in rw q t

  typed_by : p < place_count tb → (b : Bool) → category_is expression kind_here ≡ b → TypedIf tb p b
  typed_by h true e = node_place_law h ((category_is_right expression kind_here).0 ((T_true _).1 e))
  typed_by h false e = λ w. (T_false _).1 e ((category_is_right expression kind_here).1 (place_node w))

-- `has_type` at an identifier and at a node.
pub typed_name : {bs : List ℕ} {i p : ℕ} → PlaceOf bs i p → p < i → TypedIf (table_of bs) p true
typed_name {bs} w h = inl (omega (arith, binds_length bs, w.names))

pub node_in : {bs : List ℕ} {i p : ℕ} → PlaceOf bs i p → i ≤ p → p - i < node_count bs
node_in {bs} w h = omega (arith, binds_length bs, nodes_length bs, w.names, w.below)

pub typed_node : {bs : List ℕ} {i p : ℕ} (r : Bool) → PlaceOf bs i p → i ≤ p →
    r ≡ category_is expression (kind_at (table_of bs).nodes (p - i)) → TypedIf (table_of bs) p r
typed_node {bs} {i} {p} r w h e =
    let q : i ≡ length (table_of bs).binds = omega (arith, binds_length bs, w.names) in
    rw (e, q) (typed_by (table_of bs) p (omega arith) w.below _ refl)

-- The number of places as the code finds it.
pub count_places : (bs : List ℕ) (i n : ℕ) → i ≡ identifier_count bs → n ≡ node_count bs → i + n ≡ place_count (table_of bs)
count_places bs i n e f = omega (arith, binds_length bs, nodes_length bs)

-- The variable as `place_class` finds it.
pub start_name : (i : ℕ) (starts : List ℕ) (p : ℕ) → p < i → start_var i starts p ≡ p
start_name i starts p h = rw (lt-ltb p i h)

pub start_node : (i : ℕ) (starts : List ℕ) (p : ℕ) → i ≤ p → start_var i starts p ≡ get_or starts (p - i) 0 % 4096
start_node i starts p h = rw (le-ltb p i h)

-- The class of the same variable.
pub same_class : (ts : List ℕ) {v u c : ℕ} → u ≡ v → (c ≡ class_in ts v) × (c < length ts) → (c ≡ class_in ts u) × (c < length ts)
same_class ts e k = (k.0 ∙ ap (class_in ts) (sym e), k.1)

-- It is that of the place, and has a term.
module _ {bs : List ℕ} {at : ℕ} {ts starts marks : List ℕ} (pl : PlacesIn bs at ts starts marks) where
  pub covered : (p : ℕ) → p < place_count (table_of bs) → place_var (table_of bs) p < length ts
  covered p h = omega (arith, pl.covers, var_below (table_of bs) (length (table_of bs).nodes) p h)

  module _ {i p : ℕ} (w : PlaceOf bs i p) where
    pub place_start : start_var i starts p ≡ place_var (table_of bs) p
    place_start = go (dec_lt p i)
      where
        q : i ≡ length (table_of bs).binds
        q = omega (arith, binds_length bs, w.names)

        go : Dec (p < i) → start_var i starts p ≡ place_var (table_of bs) p
        go (yes h) = rw (← q, lt-ltb p i h)
        go (no h) = rw (← q, le-ltb p i (omega arith)) (pl.starts_are (p - i) (omega (arith, w.below, q)))

    -- So is what is read of a node's variable.
    pub read_name : p < i → p ≡ place_var (table_of bs) p
    read_name h = sym (start_name i starts p h) ∙ place_start

    pub read_node : i ≤ p → {v : ℕ} → v ≡ get_or starts (p - i) 0 % 4096 → v ≡ place_var (table_of bs) p
    read_node h e = e ∙ sym (start_node i starts p h) ∙ place_start

    pub read_below : {v : ℕ} → v ≡ place_var (table_of bs) p → v < length ts
    read_below e = omega (arith, e, covered p w.below)

-- A place without a type fails nothing.
pub fails_blank : (tb : Table) (P : ℕ → Type 0) (p : ℕ) (b : Bool) → TypedIf tb p b → b ≡ false → FailsIf tb P p false
fails_blank tb P p true w e = absurd (true≢false e)
fails_blank tb P p false w e = λ h. absurd (w h)

pub is_place_law : (tb : Table) (p : ℕ) (b : Bool) → TypedIf tb p b → b ≡ true → Place tb p
is_place_law tb p true w e = w
is_place_law tb p false w e = absurd (false≢true e)

fails_by : (tb : Table) (P : ℕ → Type 0) (p : ℕ) → Place tb p → (t : Bool) → (t ≡ true → P p → ⊥) → (t ≡ false → P p) → FailsIf tb P p t
fails_by tb P p w true f g = (w, f refl)
fails_by tb P p w false f g = λ h. g refl

-- `is_above` at a place with a type, whose class is c.
pub above_typed : (tb : Table) (ts marks : List ℕ) (limit p c : ℕ) → Place tb p → c ≡ class_in ts (place_var tb p) →
    FailsIf tb (MarkBelow tb ts marks limit) p (leb limit (get_or marks c 0))
above_typed tb ts marks limit p c h e =
    fails_by tb (MarkBelow tb ts marks limit) p h (leb limit (get_or marks c 0))
    (λ y g. omega (arith, leb-true limit (get_or marks c 0) y, same, g)) (λ y. omega (arith, leb-false limit (get_or marks c 0) y, same))
  where
    same : get_or marks c 0 ≡ get_or marks (class_in ts (place_var tb p)) 0
    same = ap (λ x. get_or marks x 0) e

-- `find` over the numbers of the places: what it answers is the least place where P fails, if the closure tells where that is and leaves its
-- captures as they are.
module _ (tb : Table) (P : ℕ → Type 0) where
  module _ {F : Type 0} {g : Mut F (Bor ℕ × Unit {0}) Bool} {m : ℕ} (f : F) (r : Found ℕ) (u : Range ℕ) where
    pub finds_first : m ≡ place_count tb → FindsItem nat_range_steps g (record { start = 0; end = m }) f r u →
        ((x : ℕ) (q : F) → CalledAt g f x true q → FailsIf tb P x true) → ((x : ℕ) (q : F) → CalledAt g f x false q → (q ≡ f) × FailsIf tb P x false) →
        FirstPlace tb P r
    finds_first e found bad good = go r (first_from_Range _ u f r (λ k. FailsIf tb P k true) (λ k. FailsIf tb P k false) found bad good)
      where
        go : (r : Found ℕ) →
            MatchOption r ((k : ℕ) → 0 ≤ k → k < m → FailsIf tb P k false)
            (λ i. (0 ≤ i) × (i < m) × FailsIf tb P i true × ((k : ℕ) → 0 ≤ k → k < i → FailsIf tb P k false)) → FirstPlace tb P r
        go None h = record { inside = omega arith; below = λ q l. h q (omega arith) (omega arith); here = λ l. absurd (omega arith) }
        go (Some p) h = (
          omega (arith, h.1),
          record { inside = omega (arith, h.1); below = λ q l. h.3 q (omega arith) l; here = λ l. h.2 },
        )

  -- Where there is none, P holds at each place.
  pub all_places : FirstPlace tb P None → (q : ℕ) → Place tb q → P q
  all_places l q w = l.below q (place_below tb q w) w
