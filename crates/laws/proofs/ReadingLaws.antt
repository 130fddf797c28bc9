-- Laws of Reading.antt: each test against the proposition of Readable.antt that it decides, `reading` against `Readable`,
-- and which refusal `reading` gives.
use Prim.Native.Nat.{ℕ, zero, suc, ◌≤◌, ◌<◌}
use mathlib.Core.Bool.{Bool, true, false, not, ◌&&◌, cond}
use mathlib.Core.List.{List, [], ◌∷◌}
use mathlib.Core.Logic.Iff
use mathlib.Core.Logic.{◌↔◌}
use mathlib.Core.Option.{Option, none as nothing, some}
use mathlib.Core.Path.{◌≡◌, refl, sym, ◌∙◌}
use native.Mathlib.Omega.{arith}
use lib.Dec.{T, leb, ltb}
use lib.ListN.{get_or, length}
use Rattle.rules.specs.Kinds.{Kind}
use Rattle.rules.specs.Kinds.{Category, predicate, expression, category_of, is_predicate, is_expression, fields_of, is_child}
use Rattle.rules.specs.Kinds.{Field, unused, child, use_of, binder_of, set_number, element_number, any_word, truth_bit}
use Rattle.rules.specs.Tables.{word_at, Table, table_of, node_at, kind_at, fields_if, field_words, held_in, last_node}
use Rattle.rules.specs.Tables.{given_count, identifier_count, node_count, givens_at, identifiers_at, nodes_at, whole_length}
use Rattle.rules.specs.Ends.{End, done, refused, require, unless_found, least_failing, require_all}
use Rattle.rules.specs.Reading.{headed, limited, laid_out, size_good, bind_good, category_is, field_good, fields_good, known, node_good}
use Rattle.rules.specs.Reading.{occurrences, parent_good, height, height_limit, height_good, binders, occurs_in_root, bound_right, binding}
use Rattle.rules.specs.Reading.{reading}
use Rattle.rules.specs.Readable.{CategoryIs, FieldRight, FieldsRight, KindRight, NodeRight, BindingRight, Header, Records, Readable}
use Rattle.rules.specs.Refusals.{refusal_places, PlaceInRange, RefusesOnly}
use Rattle.laws.proofs.EndLaws.{T_true, T_and, t_leb, t_ltb, t_eqb, require_all_done}
use Rattle.laws.proofs.EndLaws.{require_done, require_refuses, require_all_refuses, Each, in_turn, in_turn_done, in_turn_passed, in_turn_refuses}
use Rattle.laws.proofs.TableLaws.{sizes_length, binds_length, nodes_length}
use Rattle.rules.proofs.Basics.{◌&◌, absurd01}

-- Refusals 1 to 3.
pub headed_right : (bs : List ℕ) → T (headed bs) ↔ ((32 ≤ length bs) × (word_at bs 0 ≡ 1))
unfolding headed
headed_right bs = simp (T_and, t_leb, t_eqb) Iff.rfl

pub limited_right : (bs : List ℕ) → T (limited bs) ↔
    ((given_count bs ≤ 16) × (identifier_count bs ≤ 32) × (node_count bs ≤ 512))
unfolding limited
limited_right bs = simp (T_and, t_leb) (λ h. (h.0.0, h.0.1, h.1), λ h. ((h.0, h.1), h.2))

pub laid_out_right : (bs : List ℕ) → T (laid_out bs) ↔
    ((word_at bs 16 ≡ givens_at) × (word_at bs 20 ≡ identifiers_at bs) × (word_at bs 24 ≡ nodes_at bs)
    × (word_at bs 28 ≡ whole_length bs) × (length bs ≡ whole_length bs))
unfolding laid_out
laid_out_right bs = simp (T_and, t_eqb)
    (λ h. (h.0.0.0.0, h.0.0.0.1, h.0.0.1, h.0.1, h.1), λ h. ((((h.0, h.1), h.2), h.3), h.4))

pub header_right : (bs : List ℕ) → (T (headed bs) × T (limited bs) × T (laid_out bs)) ↔ Header bs
header_right bs = (to, from)
  where
    to : T (headed bs) × T (limited bs) × T (laid_out bs) → Header bs
    to t =
        let h = (headed_right bs).0 t.0 in
        let l = (limited_right bs).0 t.1 in
        let o = (laid_out_right bs).0 t.2 in
        record {
          long = h.0;
          form = h.1;
          givens = l.0;
          identifiers = l.1;
          few_nodes = l.2;
          givens_placed = o.0;
          identifiers_placed = o.1;
          nodes_placed = o.2;
          ends_at = o.3;
          extent = o.4;
        }

    from : Header bs → T (headed bs) × T (limited bs) × T (laid_out bs)
    from r = (
      (headed_right bs).1 (r.long, r.form),
      (limited_right bs).1 (r.givens, r.identifiers, r.few_nodes),
      (laid_out_right bs).1 (r.givens_placed, r.identifiers_placed, r.nodes_placed, r.ends_at, r.extent),
    )

-- Refusals 4 and 5.
pub size_good_right : (tb : Table) (g : ℕ) → T (size_good tb g) ↔ ((1 ≤ get_or tb.sizes g 0) × (get_or tb.sizes g 0 ≤ 32))
unfolding size_good
size_good_right tb g = simp (T_and, t_leb) Iff.rfl

pub bind_good_right : (tb : Table) (x : ℕ) → T (bind_good tb x) ↔ (get_or tb.binds x 2 ≤ 1)
unfolding bind_good
bind_good_right tb x = t_leb (get_or tb.binds x 2) 1

-- Refusal 6.
is_predicate_right : (c : Category) → T (is_predicate c) ↔ (c ≡ predicate)
is_predicate_right predicate = (λ t. refl, λ e. tt)
is_predicate_right expression = (λ t. absurd t, λ e. absurd01 (cc))

is_expression_right : (c : Category) → T (is_expression c) ↔ (c ≡ expression)
is_expression_right predicate = (λ t. absurd t, λ e. absurd01 (cc))
is_expression_right expression = (λ t. refl, λ e. tt)

pub category_is_right : (c : Category) (k : Option Kind) → T (category_is c k) ↔ CategoryIs c k
category_is_right c nothing = Iff.rfl
category_is_right predicate (some k) = is_predicate_right (category_of k)
category_is_right expression (some k) = is_expression_right (category_of k)

pub field_good_right : (tb : Table) (n : ℕ) (f : Field) (x : ℕ) → T (field_good tb n f x) ↔ FieldRight tb n f x
field_good_right tb n unused x = t_eqb x 0
field_good_right tb n (child c) x = simp (T_and, t_ltb, category_is_right) Iff.rfl
field_good_right tb n use_of x = t_ltb x (length tb.binds)
field_good_right tb n binder_of x = t_ltb x (length tb.binds)
field_good_right tb n set_number x = t_ltb x (length tb.sizes)
field_good_right tb n element_number x = t_ltb x (get_or tb.sizes (node_at tb.nodes n).a 0)
field_good_right tb n any_word x = Iff.rfl
field_good_right tb n truth_bit x = t_ltb x 2

pub fields_good_right : (tb : Table) (n : ℕ) (fs : List Field) (xs : List ℕ) → T (fields_good tb n fs xs) ↔ FieldsRight tb n fs xs
fields_good_right tb n [] xs = Iff.rfl
fields_good_right tb n (f ∷ fs) [] = Iff.rfl
fields_good_right tb n (f ∷ fs) (x ∷ xs) =
    Iff.trans (T_and (field_good tb n f x) (fields_good tb n fs xs)) (Iff.and (field_good_right tb n f x) (fields_good_right tb n fs xs))

kind_good_right : (tb : Table) (n : ℕ) (k : Option Kind) (xs : List ℕ) →
    T (known k && fields_good tb n (fields_if k) xs) ↔ KindRight tb n k xs
kind_good_right tb n nothing xs = Iff.rfl
kind_good_right tb n (some k) xs = fields_good_right tb n (fields_of k) xs

pub node_good_right : (tb : Table) (n : ℕ) → T (node_good tb n) ↔ NodeRight tb n
unfolding node_good
node_good_right tb n = kind_good_right tb n (kind_at tb.nodes n) (field_words (node_at tb.nodes n))

-- Refusal 7.
t_cond : (b p q : Bool) → T (cond b p q) ↔ ((T b → T p) × ((T b → ⊥) → T q))
t_cond true p q = (λ t. (λ s. t, λ f. absurd (f tt)), λ h. h.0 tt)
t_cond false p q = (λ t. (λ s. absurd s, λ f. t), λ h. h.1 (λ s. s))

pub parent_good_right : (tb : Table) (n : ℕ) → T (parent_good tb n) ↔
    ((n ≡ last_node tb.nodes → CategoryIs predicate (kind_at tb.nodes n))
    × ((n ≡ last_node tb.nodes → ⊥) → occurrences n (held_in is_child tb.nodes) ≡ 1))
unfolding parent_good
parent_good_right tb n = simp (t_cond, t_eqb, category_is_right) Iff.rfl

-- Refusal 8.
pub height_good_right : (tb : Table) (n : ℕ) → T (height_good tb n) ↔ (height tb.nodes n ≤ height_limit)
unfolding height_good
height_good_right tb n = t_leb (height tb.nodes n) height_limit

-- Refusal 9.
T_not : (b : Bool) → T (not b) ↔ (b ≡ false)
T_not true = (λ t. absurd t, λ e. absurd01 (cc))
T_not false = (λ t. refl, λ e. tt)

bound_right_right : (w n : ℕ) (occ : Bool) → T (bound_right w n occ) ↔ BindingRight w n occ
bound_right_right zero n occ = t_eqb n 0
bound_right_right (suc w) n occ = simp (T_and, t_eqb, T_not) Iff.rfl

pub binding_right : (tb : Table) (x : ℕ) → T (binding tb x) ↔
    BindingRight (get_or tb.binds x 0) (binders tb.nodes x) (occurs_in_root tb.nodes x)
unfolding binding
binding_right tb x = bound_right_right (get_or tb.binds x 0) (binders tb.nodes x) (occurs_in_root tb.nodes x)

-- Refusals 4 to 9 together. Where there are nodes, the last one is among those that refusal 7 asks about.
abbrev pub AllGood : Table → Type 0
AllGood tb =
    ((g : ℕ) → g < length tb.sizes → T (size_good tb g))
    × ((x : ℕ) → x < length tb.binds → T (bind_good tb x))
    × ((n : ℕ) → n < length tb.nodes → T (node_good tb n))
    × ((n : ℕ) → n < length tb.nodes → T (parent_good tb n))
    × ((n : ℕ) → n < length tb.nodes → T (height_good tb n))
    × ((x : ℕ) → x < length tb.binds → T (binding tb x))

pub records_right : (tb : Table) → AllGood tb ↔ Records tb
unfolding last_node
records_right tb = (to, from)
  where
    to : AllGood tb → Records tb
    to t = record {
      sizes = λ g p. (size_good_right tb g).0 (t.0 g p);
      words = λ x p. (bind_good_right tb x).0 (t.1 x p);
      fields = λ n p. (node_good_right tb n).0 (t.2 n p);
      once = λ n p. ((parent_good_right tb n).0 (t.3 n (omega arith))).1 (λ e. omega arith);
      root = λ l. ((parent_good_right tb (last_node tb.nodes)).0 (t.3 (last_node tb.nodes) (omega arith))).0 refl;
      heights = λ n p. (height_good_right tb n).0 (t.4 n p);
      bindings = λ x p. (binding_right tb x).0 (t.5 x p);
    }

    from : Records tb → AllGood tb
    from r = (
      λ g p. (size_good_right tb g).1 (r.sizes g p),
      λ x p. (bind_good_right tb x).1 (r.words x p),
      λ n p. (node_good_right tb n).1 (r.fields n p),
      λ n p. (parent_good_right tb n).1 (λ e. rw e (r.root (omega arith)), λ e. r.once n (omega arith)),
      λ n p. (height_good_right tb n).1 (r.heights n p),
      λ x p. (binding_right tb x).1 (r.bindings x p),
    )

require_T : (r p : ℕ) (b : Bool) → (require r p b ≡ done tt) ↔ T b
require_T r p b = simp (require_done, T_true) Iff.rfl

search_T : (r : ℕ) (ok : ℕ → Bool) {m n : ℕ} → m ≡ n →
    (unless_found r (least_failing ok 0 n) ≡ done tt) ↔ ((j : ℕ) → j < m → T (ok j))
unfolding require_all
search_T r ok {n} e = rw e (Iff.trans (require_all_done r ok n) (simp T_true Iff.rfl))

-- The least places that refusals 4 to 9 name, if there are any.
abbrev pub bad_size : List ℕ → Option ℕ
bad_size bs = least_failing (size_good (table_of bs)) 0 (given_count bs)

abbrev pub bad_word : List ℕ → Option ℕ
bad_word bs = least_failing (bind_good (table_of bs)) 0 (identifier_count bs)

abbrev pub bad_node : List ℕ → Option ℕ
bad_node bs = least_failing (node_good (table_of bs)) 0 (node_count bs)

abbrev pub bad_parent : List ℕ → Option ℕ
bad_parent bs = least_failing (parent_good (table_of bs)) 0 (node_count bs)

abbrev pub bad_height : List ℕ → Option ℕ
bad_height bs = least_failing (height_good (table_of bs)) 0 (node_count bs)

abbrev pub bad_binding : List ℕ → Option ℕ
bad_binding bs = least_failing (binding (table_of bs)) 0 (identifier_count bs)

-- The tests of `reading`, in order.
abbrev pub stages : List ℕ → List (End (Unit {0}))
stages bs =
    require 1 0 (headed bs)
    ∷ require 2 0 (limited bs)
    ∷ require 3 0 (laid_out bs)
    ∷ unless_found 4 (bad_size bs)
    ∷ unless_found 5 (bad_word bs)
    ∷ unless_found 6 (bad_node bs)
    ∷ unless_found 7 (bad_parent bs)
    ∷ unless_found 8 (bad_height bs)
    ∷ unless_found 9 (bad_binding bs)
    ∷ []

pub reading_stages : (bs : List ℕ) → reading bs ≡ in_turn (stages bs) (table_of bs)
unfolding reading
reading_stages bs = refl

-- Refusals 1 to 9 together.
abbrev pub AllPass : List ℕ → Type 0
AllPass bs = (T (headed bs) × T (limited bs) × T (laid_out bs)) × AllGood (table_of bs)

stages_good : (bs : List ℕ) → Each (λ m. m ≡ done tt) (stages bs) ↔ AllPass bs
stages_good bs = (to, from)
  where
    to : Each (λ m. m ≡ done tt) (stages bs) → AllPass bs
    to (a, (b, (c, (d, (e, (f, (g, (h, (i, _))))))))) = (
      ((require_T 1 0 (headed bs)).0 a, (require_T 2 0 (limited bs)).0 b, (require_T 3 0 (laid_out bs)).0 c),
      (
        (search_T 4 (size_good (table_of bs)) (sizes_length bs)).0 d,
        (search_T 5 (bind_good (table_of bs)) (binds_length bs)).0 e,
        (search_T 6 (node_good (table_of bs)) (nodes_length bs)).0 f,
        (search_T 7 (parent_good (table_of bs)) (nodes_length bs)).0 g,
        (search_T 8 (height_good (table_of bs)) (nodes_length bs)).0 h,
        (search_T 9 (binding (table_of bs)) (binds_length bs)).0 i,
      ),
    )

    from : AllPass bs → Each (λ m. m ≡ done tt) (stages bs)
    from (h, g) = (
      (require_T 1 0 (headed bs)).1 h.0,
      (
        (require_T 2 0 (limited bs)).1 h.1,
        (
          (require_T 3 0 (laid_out bs)).1 h.2,
          (
            (search_T 4 (size_good (table_of bs)) (sizes_length bs)).1 g.0,
            (
              (search_T 5 (bind_good (table_of bs)) (binds_length bs)).1 g.1,
              (
                (search_T 6 (node_good (table_of bs)) (nodes_length bs)).1 g.2,
                (
                  (search_T 7 (parent_good (table_of bs)) (nodes_length bs)).1 g.3,
                  ((search_T 8 (height_good (table_of bs)) (nodes_length bs)).1 g.4, ((search_T 9 (binding (table_of bs)) (binds_length bs)).1 g.5, tt)),
                ),
              ),
            ),
          ),
        ),
      ),
    )

stages_right : (bs : List ℕ) → Each (λ m. m ≡ done tt) (stages bs) ↔ Readable bs
stages_right bs = (to, from)
  where
    to : Each (λ m. m ≡ done tt) (stages bs) → Readable bs
    to s =
        let t = (stages_good bs).0 s in
        let h : Header bs = (header_right bs).0 t.0 in
        record { header = h; records = (records_right (table_of bs)).0 t.1 }

    from : Readable bs → Each (λ m. m ≡ done tt) (stages bs)
    from r = (stages_good bs).1 ((header_right bs).1 r.header, (records_right (table_of bs)).1 r.records)

-- `reading` gives the table exactly where the bytes are readable.
pub reading_right : (bs : List ℕ) → (reading bs ≡ done (table_of bs)) ↔ Readable bs
reading_right bs = (
  λ e. (stages_right bs).0 (in_turn_done (stages bs) (table_of bs) (table_of bs) (sym (reading_stages bs) ∙ e)).0,
  λ r. reading_stages bs ∙ in_turn_passed (stages bs) (table_of bs) ((stages_right bs).1 r),
)

-- It gives no other table, and none for bytes that are not readable.
pub reading_table : (bs : List ℕ) (tb : Table) → reading bs ≡ done tb → tb ≡ table_of bs
reading_table bs tb e = sym (in_turn_done (stages bs) (table_of bs) tb (sym (reading_stages bs) ∙ e)).1

pub reading_readable : (bs : List ℕ) (tb : Table) → reading bs ≡ done tb → Readable bs
reading_readable bs tb e = (stages_right bs).0 (in_turn_done (stages bs) (table_of bs) tb (sym (reading_stages bs) ∙ e)).0

pub reading_records_law : (bs : List ℕ) (tb : Table) → reading bs ≡ done tb → Records tb
reading_records_law bs tb e = rw (reading_table bs tb e) (reading_readable bs tb e).records

-- Its refusals have the numbers 1 to 9, each with a place in its range.
pub reading_refuses : (bs : List ℕ) → RefusesOnly (λ r p. (1 ≤ r) × (r ≤ 9) × PlaceInRange bs r p) (reading bs)
unfolding require_all
reading_refuses bs =
    let tb = table_of bs in
    rw reading_stages (in_turn_refuses R (stages bs) tb
    (single 1 (headed bs) tt & single 2 (limited bs) tt & single 3 (laid_out bs) tt & least 4 (size_good tb) tt & least 5 (bind_good tb) tt &
    least 6 (node_good tb) tt & least 7 (parent_good tb) tt & least 8 (height_good tb) tt & least 9 (binding tb) tt & tt))
  where
    R : ℕ → ℕ → Type 0
    R r p = (1 ≤ r) × (r ≤ 9) × PlaceInRange bs r p

    listed : (k p : ℕ) → T (leb 1 k && leb k 9) → PlaceInRange bs k p → R k p
    listed k p l h = let b : (1 ≤ k) × (k ≤ 9) = simp (T_and, t_leb) at l in (b.0, b.1, h)

    single : (k : ℕ) (b : Bool) → T (leb 1 k && leb k 9 && ltb 0 (get_or (refusal_places bs) k 0)) → RefusesOnly R (require k 0 b)
    single k b l = let w = (T_and (leb 1 k && leb k 9) _).0 l in require_refuses R k 0 b (listed k 0 w.0 ((t_ltb 0 _).0 w.1))

    least : (k : ℕ) (ok : ℕ → Bool) → T (leb 1 k && leb k 9) → RefusesOnly R (unless_found k (least_failing ok 0 (get_or (refusal_places bs) k 0)))
    least k ok l = require_all_refuses R k ok (get_or (refusal_places bs) k 0) (λ p h. listed k p l h)

-- The numbers alone.
pub reading_numbers : (bs : List ℕ) (r p : ℕ) → reading bs ≡ refused r p → (1 ≤ r) × (r ≤ 9)
reading_numbers bs r p e = let h : (1 ≤ r) × (r ≤ 9) × PlaceInRange bs r p = rw e at (reading_refuses bs) in (h.0, h.1)

-- The first test that fails decides. Of stage k the tests of the stages before are given as passed.
module _ (bs : List ℕ) where
  pub refused_1 : headed bs ≡ false → reading bs ≡ refused 1 0
  refused_1 e = rw (reading_stages, e)

  module _ (h1 : headed bs ≡ true) where
    pub refused_2 : limited bs ≡ false → reading bs ≡ refused 2 0
    refused_2 e = rw (reading_stages, h1, e)

    module _ (h2 : limited bs ≡ true) where
      pub refused_3 : laid_out bs ≡ false → reading bs ≡ refused 3 0
      refused_3 e = rw (reading_stages, h1, h2, e)

      module _ (h3 : laid_out bs ≡ true) where
        pub refused_4 : (p : ℕ) → bad_size bs ≡ some p → reading bs ≡ refused 4 p
        refused_4 p e = rw (reading_stages, h1, h2, h3, e)

        module _ (h4 : bad_size bs ≡ nothing) where
          pub refused_5 : (p : ℕ) → bad_word bs ≡ some p → reading bs ≡ refused 5 p
          refused_5 p e = rw (reading_stages, h1, h2, h3, h4, e)

          module _ (h5 : bad_word bs ≡ nothing) where
            pub refused_6 : (p : ℕ) → bad_node bs ≡ some p → reading bs ≡ refused 6 p
            refused_6 p e = rw (reading_stages, h1, h2, h3, h4, h5, e)

            module _ (h6 : bad_node bs ≡ nothing) where
              pub refused_7 : (p : ℕ) → bad_parent bs ≡ some p → reading bs ≡ refused 7 p
              refused_7 p e = rw (reading_stages, h1, h2, h3, h4, h5, h6, e)

              module _ (h7 : bad_parent bs ≡ nothing) where
                pub refused_8 : (p : ℕ) → bad_height bs ≡ some p → reading bs ≡ refused 8 p
                refused_8 p e = rw (reading_stages, h1, h2, h3, h4, h5, h6, h7, e)

                module _ (h8 : bad_height bs ≡ nothing) where
                  pub refused_9 : (p : ℕ) → bad_binding bs ≡ some p → reading bs ≡ refused 9 p
                  refused_9 p e = rw (reading_stages, h1, h2, h3, h4, h5, h6, h7, h8, e)

                  pub passed : bad_binding bs ≡ nothing → reading bs ≡ done (table_of bs)
                  passed e = rw (reading_stages, h1, h2, h3, h4, h5, h6, h7, h8, e)
