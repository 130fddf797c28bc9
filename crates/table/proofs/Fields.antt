-- Refusals 4 to 6: the tests that the code makes are those of document 01.
use Prim.Native.Nat.{ℕ}
use mathlib.Core.Bool.{Bool, true, false, ◌&&◌, false≢true, true≢false}
use mathlib.Core.List.{List, [], ◌∷◌}
use mathlib.Core.Logic.{◌⊎◌, inl, inr}
use mathlib.Core.Option.{Option, none as nothing, some}
use mathlib.Core.Path.{◌≡◌, refl, sym, ap, ap₂, ◌∙◌}
use lib.Dec.{ltb}
use lib.ListN.{get_or}
use Rattle.rules.specs.Kinds.{Kind, join, negation, test, quant, leaf, bool_of, one, two, comprehension, kind_of, fields_of, category_of}
use Rattle.rules.specs.Kinds.{Leaf, leaf_fields, identifier, given_set, element_of, literal, truth_const, empty_set, bool_set}
use Rattle.rules.specs.Kinds.{Category, predicate, expression, is_predicate, is_expression, is_binder}
use Rattle.rules.specs.Kinds.{Field, unused, child, use_of, binder_of, set_number, element_number, any_word, truth_bit}
use Rattle.rules.specs.Tables.{Table, table_of, node_at, kind_at, fields_if, given_count, identifier_count}
use Rattle.rules.specs.Reading.{category_is, field_good, fields_good, known, node_good}
use Rattle.laws.proofs.TableLaws.{sizes_length, binds_length}
use Rattle.std.specs.Prelude.{Option as Found, Some, is_some}
use Rattle.std.specs.Option.{option_eq}
use Rattle.table.specs.contracts.NodeCategoryPartialEq.TheImpl.{eq-value}
use Rattle.table.specs.declared.NodeCategory.TheVariants.{Predicate, Expression}
use Rattle.table.specs.declared.NodeCategory.{NodeCategory}
use Rattle.table.specs.declared.Holds.{Holds}
use Rattle.table.specs.declared.Holds.TheVariants.{IdentifierUsed, IdentifierBound, GivenSet}
use Rattle.table.specs.Codes.{field_of, category_in_rules, category_in_code, category_if, row_of, HoldsOf}
use Rattle.table.specs.declared.NodeField.{NodeField}
use Rattle.table.specs.Layout.{FieldOf, field_codes_at, holds_at, field_at}

-- The code's test for a category is that of the rules.
category_equals : (o : Option Kind) (c : NodeCategory) → option_eq (eq-value).it (category_if o) (Some c) ≡ category_is (category_in_rules c) o
category_equals nothing Predicate = refl
category_equals nothing Expression = refl
category_equals (some k) Predicate = go (category_of k)
  where
    go : (d : Category) → option_eq (eq-value).it (Some (category_in_code d)) (Some Predicate) ≡ is_predicate d
    go predicate = refl
    go expression = refl
category_equals (some k) Expression = go (category_of k)
  where
    go : (d : Category) → option_eq (eq-value).it (Some (category_in_code d)) (Some Expression) ≡ is_expression d
    go predicate = refl
    go expression = refl

pub category_read : (bs : List ℕ) (n k : ℕ) (m : Found NodeCategory) (c : NodeCategory) (r : Bool) → k ≡ (node_at (table_of bs).nodes n).kind →
    m ≡ category_if (kind_of k) → r ≡ option_eq (eq-value).it m (Some c) → r ≡ category_is (category_in_rules c) (kind_at (table_of bs).nodes n)
category_read bs n k m c r ek em er =
    er ∙ ap (λ x. option_eq (eq-value).it x (Some c)) (em ∙ ap (λ j. category_if (kind_of j)) ek) ∙ category_equals (kind_at (table_of bs).nodes n) c

-- What a field may hold where the code compares with a count.
module _ (bs : List ℕ) (n x : ℕ) where
  pub good_identifier : (i : ℕ) (h : Holds) → (h ≡ IdentifierUsed) ⊎ (h ≡ IdentifierBound) → i ≡ identifier_count bs →
      ltb x i ≡ field_good (table_of bs) n (field_of h) x
  good_identifier i h (inl e) q = rw e (ap (ltb x) (q ∙ sym (binds_length bs)))
  good_identifier i h (inr e) q = rw e (ap (ltb x) (q ∙ sym (binds_length bs)))

  pub good_given : (g : ℕ) (h : Holds) → h ≡ GivenSet → g ≡ given_count bs → ltb x g ≡ field_good (table_of bs) n (field_of h) x
  good_given g h e q = rw e (ap (ltb x) (q ∙ sym (sizes_length bs)))

-- A kind has three fields, of which only the first may bind; an unknown kind has none.
module _ (P : List Field → Type 0) (three : (f g h : Field) → is_binder g ≡ false → is_binder h ≡ false → P (f ∷ g ∷ h ∷ [])) where
  by_leaf : (j : Leaf) → P (leaf_fields j)
  by_leaf identifier = three use_of unused unused refl refl
  by_leaf given_set = three set_number unused unused refl refl
  by_leaf element_of = three set_number element_number unused refl refl
  by_leaf (literal n) = three any_word unused unused refl refl
  by_leaf truth_const = three truth_bit unused unused refl refl
  by_leaf empty_set = three unused unused unused refl refl
  by_leaf bool_set = three unused unused unused refl refl

  by_kind : (k : Kind) → P (fields_of k)
  by_kind (join j) = three (child predicate) (child predicate) unused refl refl
  by_kind negation = three (child predicate) unused unused refl refl
  by_kind (test j) = three (child expression) (child expression) unused refl refl
  by_kind (quant j) = three binder_of (child expression) (child predicate) refl refl
  by_kind (leaf j) = by_leaf j
  by_kind bool_of = three (child predicate) unused unused refl refl
  by_kind (one j) = three (child expression) unused unused refl refl
  by_kind (two j) = three (child expression) (child expression) unused refl refl
  by_kind comprehension = three binder_of (child expression) (child predicate) refl refl

  pub by_fields : P [] → (k : Option Kind) → P (fields_if k)
  by_fields unknown nothing = unknown
  by_fields unknown (some k) = by_kind k

fields_three : (k : Kind) → fields_of k ≡ get_or (fields_of k) 0 unused ∷ get_or (fields_of k) 1 unused ∷ get_or (fields_of k) 2 unused ∷ []
fields_three = by_kind (λ fs. fs ≡ get_or fs 0 unused ∷ get_or fs 1 unused ∷ get_or fs 2 unused ∷ []) (λ f g h p q. refl)

unknown_kind : (o : Option Kind) → is_some (category_if o) ≡ false → known o ≡ false
unknown_kind nothing e = refl
unknown_kind (some k) e = absurd (true≢false e)

and_three : (a b c : Bool) → (a && b && c) ≡ (a && (b && (c && true)))
and_three false b c = refl
and_three true false c = refl
and_three true true false = refl
and_three true true true = refl

fields_known : (tb : Table) (n : ℕ) (o : Option Kind) (x y z : ℕ) → is_some (category_if o) ≡ true →
    (field_good tb n (get_or (fields_if o) 0 unused) x && field_good tb n (get_or (fields_if o) 1 unused) y &&
    field_good tb n (get_or (fields_if o) 2 unused) z)
    ≡ (known o && fields_good tb n (fields_if o) (x ∷ y ∷ z ∷ []))
fields_known tb n nothing x y z h = absurd (false≢true h)
fields_known tb n (some k) x y z h = and_three (good 0 x) (good 1 y) (good 2 z)
    ∙ sym (ap (λ fs. fields_good tb n fs (x ∷ y ∷ z ∷ [])) (fields_three k))
  where
    good : ℕ → ℕ → Bool
    good i x = field_good tb n (get_or (fields_of k) i unused) x

-- What field i of node n holds, by the row that the code reads.
pub row_read : (bs : List ℕ) (n k row : ℕ) → k ≡ (node_at (table_of bs).nodes n).kind → row ≡ row_of (kind_of k) → row ≡ field_codes_at bs n
row_read bs n k row ek er = er ∙ ap (λ j. row_of (kind_of j)) ek

pub holds_read : (bs : List ℕ) (n row i : ℕ) (h : Holds) → row ≡ field_codes_at bs n → HoldsOf row i h → field_of h ≡ holds_at bs n i
holds_read bs n row i h er eh = eh (kind_at (table_of bs).nodes n) er

-- The test of field i of node n.
abbrev pub field_test : List ℕ → ℕ → ℕ → Bool
field_test bs n i = field_good (table_of bs) n (holds_at bs n i) (field_at bs n i)

pub field_told : {bs : List ℕ} {n i : ℕ} {f : NodeField} {r : Bool} → FieldOf bs n i f → r ≡ field_good (table_of bs) n (field_of f.holds) f.word →
    r ≡ field_test bs n i
field_told {bs} {n} h e = e ∙ ap₂ (field_good (table_of bs) n) h.holds h.word

-- Refusal 6 at one node: the two ways out of `node_is_good`.
module _ (bs : List ℕ) (n k : ℕ) (m : Found NodeCategory) (ek : k ≡ (node_at (table_of bs).nodes n).kind) (em : m ≡ category_if (kind_of k)) where
  pub node_unknown : is_some m ≡ false → false ≡ node_good (table_of bs) n
  unfolding node_good
  node_unknown e = rw (← ek, unknown_kind (kind_of k) (sym (ap is_some em) ∙ e))

  pub node_read : is_some m ≡ true → (a b c d e : Bool) → a ≡ field_test bs n 0 → b ≡ field_test bs n 1 → c ≡ field_test bs n 2 →
      d ≡ (a && b) → e ≡ (d && c) → e ≡ node_good (table_of bs) n
  unfolding node_good
  node_read h a b c d e ea eb ec ed ee =
      let w = node_at (table_of bs).nodes n in
      let all : (a && b && c) ≡ (field_test bs n 0 && field_test bs n 1 && field_test bs n 2) = cc in
      ee ∙ ap (λ o. o && c) ed ∙ all ∙
      fields_known (table_of bs) n (kind_of w.kind) w.a w.b w.c (sym (ap is_some (em ∙ ap (λ j. category_if (kind_of j)) ek)) ∙ h)
