-- What the layers above may rest on: the facts of a table that passes refusals 1 to 9. `reading_right` in
-- proofs/ReadingLaws.antt says that `reading` passes exactly these.
use Rattle.std.specs.Prelude.{ℕ, zero, suc, ◌≤◌, ◌<◌, Bool, false, List, [], ◌∷◌, ◌≡◌, get_or, length}
use Rattle.std.proofs.Math.Option.{Option, none as nothing, some}
use Rattle.rules.specs.Kinds.{Kind, Category, category_of, predicate, fields_of, is_child}
use Rattle.rules.specs.Kinds.{Field, unused, child, use_of, binder_of, set_number, element_number, any_word, truth_bit}
use Rattle.rules.specs.Tables.{word_at, Table, table_of, node_at, kind_at, field_words, held_in, last_node}
use Rattle.rules.specs.Tables.{given_count, identifier_count, node_count, givens_at, identifiers_at, nodes_at, whole_length}
use Rattle.rules.specs.Reading.{occurrences, height, height_limit, binders, occurs_in_root}

abbrev pub CategoryIs : Category → Option Kind → Type 0
CategoryIs c nothing = ⊥
CategoryIs c (some k) = category_of k ≡ c

-- A field x of the node n holds what its kind says.
abbrev pub FieldRight : Table → ℕ → Field → ℕ → Type 0
FieldRight tb n unused x = x ≡ 0
FieldRight tb n (child c) x = (x < n) × CategoryIs c (kind_at tb.nodes x)
FieldRight tb n use_of x = x < length tb.binds
FieldRight tb n binder_of x = x < length tb.binds
FieldRight tb n set_number x = x < length tb.sizes
FieldRight tb n element_number x = x < get_or tb.sizes (node_at tb.nodes n).a 0
FieldRight tb n any_word x = Unit {0}
FieldRight tb n truth_bit x = x < 2

abbrev pub FieldsRight : Table → ℕ → List Field → List ℕ → Type 0
FieldsRight tb n [] xs = Unit {0}
FieldsRight tb n (f ∷ fs) [] = ⊥
FieldsRight tb n (f ∷ fs) (x ∷ xs) = FieldRight tb n f x × FieldsRight tb n fs xs

abbrev pub KindRight : Table → ℕ → Option Kind → List ℕ → Type 0
KindRight tb n nothing xs = ⊥
KindRight tb n (some k) xs = FieldsRight tb n (fields_of k) xs

abbrev pub NodeRight : Table → ℕ → Type 0
NodeRight tb n = KindRight tb n (kind_at tb.nodes n) (field_words (node_at tb.nodes n))

-- How often an identifier is bound and whether it occurs free in the whole condition, by its word.
abbrev pub BindingRight : ℕ → ℕ → Bool → Type 0
BindingRight zero n occ = n ≡ 0
BindingRight (suc w) n occ = (n ≡ 1) × (occ ≡ false)

-- Refusals 1 to 3.
pub record Header (bs : List ℕ) : Type 0 where
  pub long : 32 ≤ length bs
  pub form : word_at bs 0 ≡ 1
  pub givens : given_count bs ≤ 16
  pub identifiers : identifier_count bs ≤ 32
  pub few_nodes : node_count bs ≤ 512
  pub givens_placed : word_at bs 16 ≡ givens_at
  pub identifiers_placed : word_at bs 20 ≡ identifiers_at bs
  pub nodes_placed : word_at bs 24 ≡ nodes_at bs
  pub ends_at : word_at bs 28 ≡ whole_length bs
  pub extent : length bs ≡ whole_length bs

-- Refusals 4 to 9.
pub record Records (tb : Table) : Type 0 where
  pub sizes : (g : ℕ) → g < length tb.sizes → (1 ≤ get_or tb.sizes g 0) × (get_or tb.sizes g 0 ≤ 32)
  pub words : (x : ℕ) → x < length tb.binds → get_or tb.binds x 2 ≤ 1
  pub fields : (n : ℕ) → n < length tb.nodes → NodeRight tb n
  pub once : (n : ℕ) → n < last_node tb.nodes → occurrences n (held_in is_child tb.nodes) ≡ 1
  pub root : 0 < length tb.nodes → CategoryIs predicate (kind_at tb.nodes (last_node tb.nodes))
  pub heights : (n : ℕ) → n < length tb.nodes → height tb.nodes n ≤ height_limit
  pub bindings : (x : ℕ) → x < length tb.binds →
      BindingRight (get_or tb.binds x 0) (binders tb.nodes x) (occurs_in_root tb.nodes x)

pub record Readable (bs : List ℕ) : Type 0 where
  pub header : Header bs
  pub records : Records (table_of bs)
