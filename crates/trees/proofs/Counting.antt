-- The fields of a node one by one: what those that pass a test hold, how often a number stands there, and that a child is below its parent.
-- Refusal 7 from the counts.
use Prim.Native.Nat.{ℕ, zero, suc, ◌+◌, ◌*◌, ◌-◌, ◌≤◌, ◌<◌}
use mathlib.Core.Bool.{Bool, true, false, cond, false≢true}
use mathlib.Core.List.{List, [], ◌∷◌}
use mathlib.Core.Option.{Option}
use mathlib.Core.Path.{◌≡◌, refl, sym, ap, ap₂, ◌∙◌}
use native.Mathlib.Omega.{arith}
use native.Mathlib.Numerals.{add-one}
use lib.Dec.{eqb}
use lib.ListN.{length, get_or, take, replicate, length-replicate, get_or-replicate}
use lib.Seq.{take_all}
use borrow.Author.Tests.{eq-eqb, ne_eqb}
use Rattle.rules.specs.Kinds.{Kind, kind_of, predicate}
use Rattle.rules.specs.Kinds.{Field, unused, child, use_of, binder_of, set_number, element_number, any_word, truth_bit, is_child}
use Rattle.rules.specs.Tables.{Node, Table, table_of, node_at, kind_at, last_node, fields_at, fields_if, field_words, kept_if, pick, held, held_in, node_count}
use Rattle.rules.specs.Reading.{category_is, occurrences, parent_good}
use Rattle.rules.specs.Readable.{FieldRight, FieldsRight}
use Rattle.laws.proofs.TableLaws.{binds_length, nodes_length, fields_right}
use Rattle.laws.proofs.TreeLaws.{occurrences_append}
use Rattle.table.specs.declared.NodeField.{NodeField}
use Rattle.table.specs.Codes.{field_of}
use Rattle.rules.proofs.Basics.{absurd01}
use Rattle.table.specs.Layout.{FieldOf, NodeIn, Fielded, holds_at, field_at}
use Rattle.trees.specs.Arrays.{Usable, more, Room, Bumped, child_at, Counted}
use Rattle.table.proofs.Fields.{by_fields}

-- What may be read of a node whose fields are right.
module _ {bs : List ℕ} {at n : ℕ} where
  pub node_in : Fielded bs at → n < node_count bs → NodeIn bs at n
  node_in f h = record { laid = f.laid; below = h }

module _ (p : Field → Bool) (none : p unused ≡ false) where
  -- Three fields, those of an unknown kind not used.
  pub pick_three : (k : Option Kind) (x y z : ℕ) →
      pick p (fields_if k) (x ∷ y ∷ z ∷ []) ≡
      kept_if (p (get_or (fields_if k) 0 unused)) x
      (kept_if (p (get_or (fields_if k) 1 unused)) y (kept_if (p (get_or (fields_if k) 2 unused)) z []))
  pick_three k x y z =
      by_fields
      (λ fs. pick p fs (x ∷ y ∷ z ∷ []) ≡ kept_if (p (get_or fs 0 unused)) x (kept_if (p (get_or fs 1 unused)) y (kept_if (p (get_or fs 2 unused)) z [])))
      (λ f g h eg eh. refl)
      (rw none)
      k

-- What a field holds that is used is right.
field_right : (tb : Table) (n : ℕ) (fs : List Field) (xs : List ℕ) (i : ℕ) → FieldsRight tb n fs xs →
    (get_or fs i unused ≡ unused → ⊥) → FieldRight tb n (get_or fs i unused) (get_or xs i 0)
field_right tb n [] xs i h e = absurd (e refl)
field_right tb n (f ∷ fs) [] i h e = absurd h
field_right tb n (f ∷ fs) (x ∷ xs) zero h e = h.0
field_right tb n (f ∷ fs) (x ∷ xs) (suc i) h e = field_right tb n fs xs i h.1 e

pub field_held : (bs : List ℕ) (at n i : ℕ) → Fielded bs at → n < node_count bs → (holds_at bs n i ≡ unused → ⊥) →
    FieldRight (table_of bs) n (holds_at bs n i) (field_at bs n i)
field_held bs at n i f h e =
    let d : Node = node_at (table_of bs).nodes n in
    field_right (table_of bs) n (fields_at d) (field_words d) i (fields_right (table_of bs) n (kind_of d.kind) (field_words d) (f.fields n h)) e

-- A word in a field that counts is one more.
occurrences_kept : (m : ℕ) (b : Bool) (x : ℕ) (xs : List ℕ) → occurrences m (kept_if b x xs) ≡ more b x m + occurrences m xs
unfolding occurrences
occurrences_kept m true x xs = refl
occurrences_kept m false x xs = omega arith

kept_three : (m : ℕ) (b c d : Bool) (x y z : ℕ) →
    occurrences m (kept_if b x (kept_if c y (kept_if d z []))) ≡ more b x m + more c y m + more d z m
unfolding occurrences
kept_three m b c d x y z =
    omega (arith, occurrences_kept m b x (kept_if c y (kept_if d z [])), occurrences_kept m c y (kept_if d z []), occurrences_kept m d z [])

at_most_one : (b : Bool) → cond b 1 0 ≤ 1
at_most_one true = omega arith
at_most_one false = omega arith

more_one : (b : Bool) (x m : ℕ) → more b x m ≤ 1
more_one true x m = at_most_one (eqb m x)
more_one false x m = omega arith

-- One more at m, if field i of the node passes the test and holds m.
abbrev more_at : (Field → Bool) → Node → ℕ → ℕ → ℕ
more_at p d i m = more (p (get_or (fields_at d) i unused)) (get_or (field_words d) i 0) m

module _ (p : Field → Bool) (none : p unused ≡ false) (m : ℕ) where
  -- How often a number stands in the fields of one node,
  occurrences_held : (d : Node) → occurrences m (held p d) ≡ more_at p d 0 m + more_at p d 1 m + more_at p d 2 m
  unfolding held occurrences
  occurrences_held d =
      ap (occurrences m) (pick_three p none (kind_of d.kind) d.a d.b d.c)
      ∙ kept_three m (p (get_or (fields_at d) 0 unused)) (p (get_or (fields_at d) 1 unused)) (p (get_or (fields_at d) 2 unused)) d.a d.b d.c

  -- with one node more,
  pub occurrences_more : (ns : List Node) (i : ℕ) → i < length ns →
      occurrences m (held_in p (take (suc i) ns)) ≡ occurrences m (held_in p (take i ns)) + occurrences m (held p (node_at ns i))
  unfolding held_in occurrences
  occurrences_more [] i h = absurd (omega arith)
  occurrences_more (d ∷ ns) zero h = omega (arith, occurrences_append m (held p d) [])
  occurrences_more (d ∷ ns) (suc i) h =
      omega (
        arith,
        occurrences_append m (held p d) (held_in p (take (suc i) ns)),
        occurrences_append m (held p d) (held_in p (take i ns)),
        occurrences_more ns i (omega arith),
      )

  -- and at most three times for each node.
  occurrences_most : (ns : List Node) (i : ℕ) → i ≤ length ns → occurrences m (held_in p (take i ns)) ≤ 3 * i
  unfolding held_in occurrences
  occurrences_most ns zero h = omega arith
  occurrences_most ns (suc i) h =
      let d : Node = node_at ns i in
      omega (
        arith,
        occurrences_more ns i h,
        occurrences_held d,
        occurrences_most ns i (omega arith),
        more_one (p (get_or (fields_at d) 0 unused)) d.a m,
        more_one (p (get_or (fields_at d) 1 unused)) d.b m,
        more_one (p (get_or (fields_at d) 2 unused)) d.c m,
      )

-- A child is below its parent.
pub child_lt : (tb : Table) (n : ℕ) (f : Field) (x : ℕ) → is_child f ≡ true → FieldRight tb n f x → x < n
child_lt tb n unused x e h = absurd (false≢true e)
child_lt tb n (child c) x e h = h.0
child_lt tb n use_of x e h = absurd (false≢true e)
child_lt tb n binder_of x e h = absurd (false≢true e)
child_lt tb n set_number x e h = absurd (false≢true e)
child_lt tb n element_number x e h = absurd (false≢true e)
child_lt tb n any_word x e h = absurd (false≢true e)
child_lt tb n truth_bit x e h = absurd (false≢true e)

pub child_at_law : (bs : List ℕ) (at n i : ℕ) → Fielded bs at → n < node_count bs → child_at bs n i ≡ true → field_at bs n i < n
child_at_law bs at n i f h e =
    child_lt (table_of bs) n (holds_at bs n i) (field_at bs n i) e (field_held bs at n i f h (λ u. false≢true (sym (ap is_child u) ∙ e)))

-- A field that names an identifier holds a word below 32.
name_inside : (bs : List ℕ) (at n i y : ℕ) (f : Field) → Fielded bs at → n < node_count bs → f ≡ holds_at bs n i → (f ≡ unused → ⊥) →
    ((x : ℕ) → FieldRight (table_of bs) n f x → x < length (table_of bs).binds) → y ≡ field_at bs n i → y < 32
name_inside bs at n i y f r below held used names word =
    let right = field_held bs at n i r below (λ e. used (held ∙ e)) in
    omega (arith, binds_length bs, r.laid.header.identifiers, names (field_at bs n i) (rw (← held) at right))

-- What a field of a node holds is as large as its table allows.
module _ {bs : List ℕ} {n i : ℕ} {f : NodeField} (h : FieldOf bs n i f) where
  pub usable : {at : ℕ} → Fielded bs at → n < node_count bs → Usable f
  usable {at} r below = record {
    child = λ e. omega (arith, r.laid.header.few_nodes, h.word, child_at_law bs at n i r below (sym (ap is_child h.holds) ∙ e));
    used = λ e. name_inside bs at n i f.word use_of r below (sym e ∙ h.holds) (λ q. absurd01 cc) (λ x k. k) h.word;
    bound = λ e. name_inside bs at n i f.word binder_of r below (sym e ∙ h.holds) (λ q. absurd01 cc) (λ x k. k) h.word;
  }

  -- What is said of it is said of the field of the node.
  pub bumped_here : (c c' : List ℕ) → Bumped c (is_child (field_of f.holds)) f.word c' → Bumped c (child_at bs n i) (field_at bs n i) c'
  bumped_here c c' b m l = rw (← h.holds, ← h.word) (b m l)

  pub height_here : (g : ℕ → ℕ) {p : ℕ} → p ≡ cond (is_child (field_of f.holds)) (g f.word) 0 → p ≡ cond (child_at bs n i) (g (field_at bs n i)) 0
  height_here g e = e ∙ ap₂ (λ k x. cond (is_child k) (g x) 0) h.holds h.word

-- No count is above k.
abbrev pub Low : ℕ → List ℕ → Type 0
Low k c = (m : ℕ) → m < length c → get_or c m 0 ≤ k

pub low_room : (k : ℕ) (c : List ℕ) → k < 65535 → Low k c → Room c
low_room k c few low m l = omega (arith, low m l)

pub counted_low : (bs : List ℕ) (n : ℕ) (c : List ℕ) → node_count bs ≤ 512 → n < node_count bs → Counted bs n c → Low 1536 c
counted_low bs n c few below k m l =
    omega (arith, k m l, occurrences_most is_child refl m (table_of bs).nodes n (omega (arith, nodes_length bs)))

pub bumped_low : (k : ℕ) (c c' : List ℕ) (hit : Bool) (x : ℕ) → length c' ≡ length c → Low k c → Bumped c hit x c' → Low (k + 1) c'
bumped_low k c c' hit x e low b m l = omega (arith, low m (omega arith), b m (omega arith), more_one hit x m)

-- Where each field of node n is counted, the counts are those of one node more.
pub counted_more : (bs : List ℕ) (n : ℕ) (c c₁ c₂ c₃ : List ℕ) →
    n < node_count bs → length c₁ ≡ length c → length c₂ ≡ length c₁ → length c₃ ≡ length c₂ → Counted bs n c →
    Bumped c (child_at bs n 0) (field_at bs n 0) c₁ → Bumped c₁ (child_at bs n 1) (field_at bs n 1) c₂ →
    Bumped c₂ (child_at bs n 2) (field_at bs n 2) c₃ → Counted bs (n + 1) c₃
counted_more bs n c c₁ c₂ c₃ below e₁ e₂ e₃ counted b₁ b₂ b₃ m l =
    let ns : List Node = (table_of bs).nodes in
    rw (add-one n) (omega (
      arith,
      counted m (omega arith),
      b₁ m (omega arith),
      b₂ m (omega arith),
      b₃ m (omega arith),
      occurrences_more is_child refl m ns n (omega (arith, nodes_length bs)),
      occurrences_held is_child refl m (node_at ns n),
    ))

-- No node, and all of them.
pub counted_none : (bs : List ℕ) (k : ℕ) → Counted bs 0 (replicate k 0)
unfolding occurrences held_in
counted_none bs k m l = get_or-replicate k m 0 0 (rw length-replicate at l)

pub counted_all : (bs c : List ℕ) → Counted bs (node_count bs) c → (m : ℕ) → m < length c →
    get_or c m 0 ≡ occurrences m (held_in is_child (table_of bs).nodes)
counted_all bs c counted m l =
    counted m l ∙ ap (λ (ns : List Node). occurrences m (held_in is_child ns)) (take_all (node_count bs) (table_of bs).nodes (omega (arith, nodes_length bs)))

-- Refusal 7 at the last node, and at another.
pub parent_last : (bs : List ℕ) (n : ℕ) → n + 1 ≡ node_count bs → category_is predicate (kind_at (table_of bs).nodes n) ≡ parent_good (table_of bs) n
unfolding parent_good last_node
parent_last bs n e =
    let l : n ≡ length (table_of bs).nodes - 1 = omega (arith, nodes_length bs) in
    rw (eq-eqb n (length (table_of bs).nodes - 1) l) refl

pub parent_other : (bs : List ℕ) (n times : ℕ) → n < node_count bs → (n + 1 ≡ node_count bs → ⊥) →
    times ≡ occurrences n (held_in is_child (table_of bs).nodes) → eqb times 1 ≡ parent_good (table_of bs) n
unfolding parent_good last_node
parent_other bs n times below e f =
    rw (ne_eqb n (length (table_of bs).nodes - 1) (λ l. e (omega (arith, nodes_length bs))), f)
