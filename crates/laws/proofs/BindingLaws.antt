-- Refusal 9 as Reading.antt computes it is refusal 9 as Binding.antt says it, for a table whose nodes pass 6 and 7.
-- Binders: the count over the nodes is 0 where no node binds x, and 1 where exactly one does.
-- Uses: upward from a use, x occurs free in each parent, except in a binder of x above its body; where it does not occur free
-- in the root, such a step was met, and the use stands in that body. Downward from the root, which is in no body: a child in
-- which x occurs free, and through which it does in its parent, is in no body either; at the end stands a use in no body.
use Prim.Native.Nat.{ℕ, zero, suc, ◌-◌, ◌≤◌, ◌<◌}
use mathlib.Core.Bool.{Bool, true, false, ◌||◌}
use mathlib.Core.List.{List, [], ◌∷◌, ◌++◌}
use mathlib.Core.Logic.Iff
use mathlib.Core.Logic.{◌↔◌, ◌⊎◌, inl, inr}
use mathlib.Core.Option.{Option, none as nothing, some}
use mathlib.Core.Path.{◌≡◌, refl, sym, subst, subst₂, ◌∙◌}
use native.Mathlib.Decide.{ℕ_discrete, dec_lt}
use native.Mathlib.Omega.{arith}
use lib.Dec.{T, ltb, ltb→lt, eqb, eqb→eq, eqb_refl}
use lib.ListN.{get_or, length, take}
use Rattle.rules.specs.Kinds.{Kind, join, negation, test, quant, leaf, bool_of, one, two, comprehension}
use Rattle.rules.specs.Kinds.{identifier, given_set, element_of, literal, truth_const, empty_set, bool_set}
use Rattle.rules.specs.Kinds.{Category, predicate, expression, is_child, is_binder}
use Rattle.rules.specs.Kinds.{Field, unused, child, use_of, binder_of, set_number, element_number, any_word, truth_bit}
use Rattle.rules.specs.Tables.{Node, Table, node_at, kind_at, fields_if, fields_at, field_words, pick, held, held_in, last_node}
use Rattle.rules.specs.Tables.{table_of, identifier_count, node_count}
use Rattle.rules.specs.Ends.{End, done, refused, require, unless_found, require_all}
use Rattle.rules.specs.Reading.{headed, limited, laid_out, node_good, parent_good, occurrences, binders}
use Rattle.rules.specs.Reading.{occurs_in, occurs_in_any, binds_here, occurs_free, occurs_in_root, binding, reading}
use Rattle.rules.specs.Readable.{CategoryIs, FieldsRight, NodeRight, BindingRight, Readable}
use Rattle.rules.specs.Binding.{ChildOf, InTree, top, UsesAt, BinderKind, BindsAt, InRangeTree, InBodyTree, InScopeOf}
use Rattle.rules.specs.Binding.{UsedInBody, WrittenFor, BindingWritten}
use Rattle.rules.proofs.Basics.{absurd01}
use Rattle.laws.proofs.EndLaws.{T_true, T_false, t_leb, require_refused, unless_found_refused}
use Rattle.laws.proofs.EndLaws.{require_all_done, require_all_refused, Each, in_turn, in_turn_done, in_turn_passed}
use Rattle.laws.proofs.TableLaws.{nodes_length, fields_right, occurs_free_at, some_root, by_root}
use Rattle.laws.proofs.TreeLaws.{holder, one_held, two_held, only_held, InFields, field_picked, in_right, HasField, held_field, field_held}
use Rattle.laws.proofs.TreeLaws.{tree_above, tree_split, child_lower, one_parent, parent, trees_apart}
use Rattle.laws.proofs.ReadingLaws.{node_good_right, parent_good_right, binding_right, stages, reading_stages, reading_right}
use Rattle.laws.proofs.ReadingLaws.{bad_size, bad_word, bad_node, bad_parent, bad_height, bad_binding}

t_or : (a b : Bool) → T (a || b) ↔ (T a ⊎ T b)
t_or true b = (λ t. inl tt, λ s. tt)
t_or false b = (λ t. inr t, λ s. elim s [ inl t ↦ absurd t | inr t ↦ t ])

-- x occurs free in a node exactly where a field makes it do so.
module _ (x : ℕ) (b : Bool) (occ : ℕ → Bool) where
  field_occurs : (f : Field) (y : ℕ) → T (occurs_in x b occ f y) → (fs : List Field) (ys : List ℕ) → InFields f y fs ys → T (occurs_in_any x b occ fs ys)
  field_occurs f y t [] ys h = absurd h
  field_occurs f y t (g ∷ fs) [] h = absurd h
  field_occurs f y t (g ∷ fs) (z ∷ ys) (inl q) =
      (t_or (occurs_in x b occ g z) (occurs_in_any x b occ fs ys)).1 (inl (subst₂ (λ f y. T (occurs_in x b occ f y)) (sym q.0) (sym q.1) t))
  field_occurs f y t (g ∷ fs) (z ∷ ys) (inr q) =
      (t_or (occurs_in x b occ g z) (occurs_in_any x b occ fs ys)).1 (inr (field_occurs f y t fs ys q))

  occurs_field : (fs : List Field) (ys : List ℕ) → T (occurs_in_any x b occ fs ys) → (f : Field) × (y : ℕ) × InFields f y fs ys × T (occurs_in x b occ f y)
  occurs_field [] ys t = absurd t
  occurs_field (g ∷ fs) [] t = absurd t
  occurs_field (g ∷ fs) (z ∷ ys) t = go ((t_or (occurs_in x b occ g z) (occurs_in_any x b occ fs ys)).0 t) (λ s. occurs_field fs ys s)
    where
      go : T (occurs_in x b occ g z) ⊎ T (occurs_in_any x b occ fs ys) →
          (T (occurs_in_any x b occ fs ys) → (f : Field) × (y : ℕ) × InFields f y fs ys × T (occurs_in x b occ f y)) →
          (f : Field) × (y : ℕ) × InFields f y (g ∷ fs) (z ∷ ys) × T (occurs_in x b occ f y)
      go (inl s) k = (g, z, inl (refl, refl), s)
      go (inr s) k = let r = k s in (r.0, r.1, inr r.2, r.3)

  -- A child makes it do so where x occurs free in the child, unless the node binds x and the child is a predicate.
  passes_up : (c : Category) (y : ℕ) → T (occ y) → T (occurs_in x b occ (child c) y) ⊎ ((b ≡ true) × (c ≡ predicate))
  passes_up c y t = go c b
    where
      go : (c : Category) (b : Bool) → T (occurs_in x b occ (child c) y) ⊎ ((b ≡ true) × (c ≡ predicate))
      go expression b = inl t
      go predicate true = inr (refl, refl)
      go predicate false = inl t

  passes_down : (c : Category) (y : ℕ) → T (occurs_in x b occ (child c) y) → T (occ y) × (b ≡ true → c ≡ predicate → ⊥)
  passes_down c y t = go c b t
    where
      go : (c : Category) (b : Bool) → T (occurs_in x b occ (child c) y) → T (occ y) × (b ≡ true → c ≡ predicate → ⊥)
      go expression b t = (t, λ e q. absurd01 (cc))
      go predicate true t = absurd t
      go predicate false t = (t, λ e q. absurd01 (cc))

-- a field for an identifier that the node uses
is_use : Field → Bool
is_use unused = false
is_use (child c) = false
is_use use_of = true
is_use binder_of = false
is_use set_number = false
is_use element_number = false
is_use any_word = false
is_use truth_bit = false

-- The kinds by what they do with an identifier: kind 20 uses it, three bind it and have a range and a body, the others have no field
-- for one.
abbrev pub binder_fields : List Field
binder_fields = binder_of ∷ child expression ∷ child predicate ∷ []

abbrev NoIdentifier : List Field → Type 0
NoIdentifier fs = (a b c : ℕ) → (pick is_use fs (a ∷ b ∷ c ∷ []) ≡ []) × (pick is_binder fs (a ∷ b ∷ c ∷ []) ≡ [])

abbrev KindCase : Option Kind → Type 0
KindCase k =
    (k ≡ some (leaf identifier)) ⊎ ((BinderKind k × (fields_if k ≡ binder_fields)) ⊎ ((BinderKind k → ⊥) × NoIdentifier (fields_if k)))

kind_case : (k : Option Kind) → KindCase k
unfolding is_use
kind_case nothing = inr (inr (λ h. h, λ a b c. (refl, refl)))
kind_case (some (join j)) = inr (inr (λ h. h, λ a b c. (refl, refl)))
kind_case (some negation) = inr (inr (λ h. h, λ a b c. (refl, refl)))
kind_case (some (test j)) = inr (inr (λ h. h, λ a b c. (refl, refl)))
kind_case (some (quant j)) = inr (inl (tt, refl))
kind_case (some (leaf identifier)) = inl refl
kind_case (some (leaf given_set)) = inr (inr (λ h. h, λ a b c. (refl, refl)))
kind_case (some (leaf element_of)) = inr (inr (λ h. h, λ a b c. (refl, refl)))
kind_case (some (leaf (literal n))) = inr (inr (λ h. h, λ a b c. (refl, refl)))
kind_case (some (leaf truth_const)) = inr (inr (λ h. h, λ a b c. (refl, refl)))
kind_case (some (leaf empty_set)) = inr (inr (λ h. h, λ a b c. (refl, refl)))
kind_case (some (leaf bool_set)) = inr (inr (λ h. h, λ a b c. (refl, refl)))
kind_case (some bool_of) = inr (inr (λ h. h, λ a b c. (refl, refl)))
kind_case (some (one j)) = inr (inr (λ h. h, λ a b c. (refl, refl)))
kind_case (some (two j)) = inr (inr (λ h. h, λ a b c. (refl, refl)))
kind_case (some comprehension) = inr (inl (tt, refl))

first_occurs : (x a : ℕ) → 1 ≤ occurrences x (a ∷ []) → a ≡ x
unfolding occurrences
first_occurs x a h = go (eqb x a) refl
  where
    go : (b : Bool) → eqb x a ≡ b → a ≡ x
    go true e = sym (eqb→eq x a (rw e tt))
    go false e = absurd (omega (arith, rw e at h))

first_once : (a : ℕ) → occurrences a (a ∷ []) ≡ 1
unfolding occurrences
first_once a = rw ((T_true (eqb a a)).0 (eqb_refl a)) refl

binder_fields_law : (k : Option Kind) → BinderKind k → fields_if k ≡ binder_fields
binder_fields_law k h = go (kind_case k)
  where
    go : KindCase k → fields_if k ≡ binder_fields
    go (inl e) = absurd (rw e at h)
    go (inr (inl s)) = s.1
    go (inr (inr s)) = absurd (s.0 h)

-- A node of a kind k with the words a, b and c holds x for use where it is an identifier and a is x,
module _ (k : Option Kind) (a b c : ℕ) where
  use_kind : (x : ℕ) → InFields use_of x (fields_if k) (a ∷ b ∷ c ∷ []) → (k ≡ some (leaf identifier)) × (a ≡ x)
  unfolding is_use occurrences
  use_kind x h = go (kind_case k) (field_picked is_use use_of x refl (fields_if k) (a ∷ b ∷ c ∷ []) h)
    where
      go : KindCase k → 1 ≤ occurrences x (pick is_use (fields_if k) (a ∷ b ∷ c ∷ [])) → (k ≡ some (leaf identifier)) × (a ≡ x)
      go (inl e) h = (e, first_occurs x a (rw e at h))
      go (inr (inl s)) h = absurd (omega (arith, rw s.1 at h))
      go (inr (inr s)) h = absurd (omega (arith, rw (s.1 a b c).0 at h))

  -- and as a binder exactly where its kind binds and a is x.
  binder_kind : (x : ℕ) → 1 ≤ occurrences x (pick is_binder (fields_if k) (a ∷ b ∷ c ∷ [])) → BinderKind k × (a ≡ x)
  unfolding occurrences
  binder_kind x h = go (kind_case k)
    where
      go : KindCase k → BinderKind k × (a ≡ x)
      go (inl e) = absurd (omega (arith, rw e at h))
      go (inr (inl s)) = (s.0, first_occurs x a (rw s.1 at h))
      go (inr (inr s)) = absurd (omega (arith, rw (s.1 a b c).1 at h))

  kind_binds : (x : ℕ) → BinderKind k → a ≡ x → occurrences x (pick is_binder (fields_if k) (a ∷ b ∷ c ∷ [])) ≡ 1
  kind_binds x h e = rw (binder_fields_law k h, ← e) (first_once a)

-- So a node of the table is a binder of x exactly where it holds x as one.
module _ (ns : List Node) (x b : ℕ) where
  held_binds : b < length ns → 1 ≤ occurrences x (held is_binder (node_at ns b)) → BindsAt ns x b
  unfolding held
  held_binds l h = let r = binder_kind (kind_at ns b) (node_at ns b).a (node_at ns b).b (node_at ns b).c x h in (l, r.0, r.1)

  binds_held : BindsAt ns x b → occurrences x (held is_binder (node_at ns b)) ≡ 1
  unfolding held
  binds_held h = kind_binds (kind_at ns b) (node_at ns b).a (node_at ns b).b (node_at ns b).c x h.1 h.2

-- The count is 0 where no node binds x, and 1 where exactly one does.
pub binders_none : (ns : List Node) (x : ℕ) → (binders ns x ≡ 0) ↔ ((b : ℕ) → BindsAt ns x b → ⊥)
unfolding binders
binders_none ns x = (
  λ e b h. omega (arith, binds_held ns x b h, one_held is_binder x ns b h.0),
  λ f. go f (dec_lt 0 (occurrences x (held_in is_binder ns))),
)
  where
    go : ((b : ℕ) → BindsAt ns x b → ⊥) → Dec (0 < occurrences x (held_in is_binder ns)) → occurrences x (held_in is_binder ns) ≡ 0
    go f (yes l) = let r = holder is_binder x ns l in absurd (f r.0 (held_binds ns x r.0 r.1 r.2))
    go f (no l) = omega arith

pub binders_one : (ns : List Node) (x : ℕ) → (binders ns x ≡ 1) ↔ ((b : ℕ) × BindsAt ns x b × ((d : ℕ) → BindsAt ns x d → d ≡ b))
unfolding binders
binders_one ns x = (to, from)
  where
    same : occurrences x (held_in is_binder ns) ≡ 1 → (b d : ℕ) → BindsAt ns x b → BindsAt ns x d → Dec (d ≡ b) → d ≡ b
    same e b d g h (yes q) = q
    same e b d g h (no q) =
        absurd (omega (arith, two_held is_binder x ns d b h.0 g.0 q (omega (arith, binds_held ns x d h)) (omega (arith, binds_held ns x b g))))

    to : occurrences x (held_in is_binder ns) ≡ 1 → (b : ℕ) × BindsAt ns x b × ((d : ℕ) → BindsAt ns x d → d ≡ b)
    to e =
        let r = holder is_binder x ns (omega arith) in
        let g : BindsAt ns x r.0 = held_binds ns x r.0 r.1 r.2 in
        (r.0, g, λ d h. same e r.0 d g h (ℕ_discrete d r.0))

    from : (b : ℕ) × BindsAt ns x b × ((d : ℕ) → BindsAt ns x d → d ≡ b) → occurrences x (held_in is_binder ns) ≡ 1
    from (b, g, f) = only_held is_binder x ns b g.0 (λ j l h. f j (held_binds ns x j l h)) ∙ binds_held ns x b g

-- A binder's child that is a predicate stands in field c.
body_child : (a b c m : ℕ) → InFields (child predicate) m binder_fields (a ∷ b ∷ c ∷ []) → c ≡ m
body_child a b c m (inl q) = absurd01 (cc q.0)
body_child a b c m (inr (inl q)) = absurd01 (cc q.0)
body_child a b c m (inr (inr (inl q))) = q.1
body_child a b c m (inr (inr (inr q))) = absurd q

same_category_law : (k : Option Kind) (c e : Category) → CategoryIs c k → CategoryIs e k → c ≡ e
same_category_law nothing c e p q = absurd p
same_category_law (some k) c e p q = sym p ∙ q

last_in : (ns : List Node) → 0 < length ns → last_node ns < length ns
unfolding last_node
last_in ns l = omega arith

-- A table whose nodes pass 6, and 7 but for the root's category; of the other refusals nothing is asked.
module _ (tb : Table) (right : (n : ℕ) → n < length tb.nodes → NodeRight tb n)
    (once : (n : ℕ) → n < last_node tb.nodes → occurrences n (held_in is_child tb.nodes) ≡ 1) (x : ℕ) where
  abbrev FreeIn : ℕ → Type 0
  FreeIn n = T (occurs_free tb.nodes x n)

  -- The field f of node n, which holds y, makes x occur free in n.
  abbrev FreeBy : ℕ → Field → ℕ → Type 0
  FreeBy n f y = T (occurs_in x (binds_here x (node_at tb.nodes n)) (occurs_free tb.nodes x) f y)

  free_field : (n : ℕ) → n < length tb.nodes → FreeIn n → (f : Field) × (y : ℕ) × HasField tb.nodes n f y × FreeBy n f y
  free_field n l t =
      let d : Node = node_at tb.nodes n in
      occurs_field x (binds_here x d) (occurs_free tb.nodes x) (fields_at d) (field_words d) (rw (occurs_free_at tb right x n l) at t)

  field_free : (n : ℕ) → n < length tb.nodes → (f : Field) (y : ℕ) → HasField tb.nodes n f y → FreeBy n f y → FreeIn n
  field_free n l f y h t =
      let d : Node = node_at tb.nodes n in
      rw (occurs_free_at tb right x n l) (field_occurs x (binds_here x d) (occurs_free tb.nodes x) f y t (fields_at d) (field_words d) h)

  -- x occurs free where it is used.
  free_use : (u : ℕ) → UsesAt tb.nodes x u → FreeIn u
  free_use u h =
      field_free u h.0 use_of x
      (subst (λ k. InFields use_of x (fields_if k) (field_words (node_at tb.nodes u))) (sym h.1) (inl (refl, h.2)))
      (eqb_refl x)

  binds_here_law : (n : ℕ) → BindsAt tb.nodes x n → binds_here x (node_at tb.nodes n) ≡ true
  binds_here_law n h = rw (binds_held tb.nodes x n h) refl

  here_binds : (n : ℕ) → n < length tb.nodes → binds_here x (node_at tb.nodes n) ≡ true → BindsAt tb.nodes x n
  here_binds n l e = held_binds tb.nodes x n l ((t_leb 1 (occurrences x (held is_binder (node_at tb.nodes n)))).0 (rw e tt))

  -- A binder's fields, and its body as a child.
  range_field : (n : ℕ) → BindsAt tb.nodes x n → HasField tb.nodes n (child expression) (node_at tb.nodes n).b
  range_field n h = rw (binder_fields_law (kind_at tb.nodes n) h.1) (inr (inl (refl, refl)))

  body_field : (n : ℕ) → BindsAt tb.nodes x n → HasField tb.nodes n (child predicate) (node_at tb.nodes n).c
  body_field n h = rw (binder_fields_law (kind_at tb.nodes n) h.1) (inr (inr (inl (refl, refl))))

  body_of : (n : ℕ) → BindsAt tb.nodes x n → ChildOf tb.nodes n (node_at tb.nodes n).c
  body_of n h = field_held tb.nodes n (node_at tb.nodes n).c predicate h.0 (body_field n h)

  -- The body is a predicate, so no field for an expression holds it.
  body_category : (n m : ℕ) (c : Category) → BindsAt tb.nodes x n → HasField tb.nodes n (child c) m →
      (node_at tb.nodes n).c ≡ m → c ≡ predicate
  body_category n m c g i e =
      let d : Node = node_at tb.nodes n in
      let w : FieldsRight tb n (fields_at d) (field_words d) = fields_right tb n (kind_at tb.nodes n) (field_words d) (right n g.0) in
      let q = (in_right tb n (child predicate) d.c (fields_at d) (field_words d) w (body_field n g)).1 in
      same_category_law (kind_at tb.nodes m) c predicate (in_right tb n (child c) m (fields_at d) (field_words d) w i).1 (rw e at q)

  -- Range and body have no node in common.
  pub not_in_range : (b u : ℕ) → BindsAt tb.nodes x b → InBodyTree tb.nodes b u → InRangeTree tb.nodes b u → ⊥
  not_in_range b u g s t =
      let d : Node = node_at tb.nodes b in
      trees_apart tb right once b d.c d.b u (body_of b g) (field_held tb.nodes b d.b expression g.0 (range_field b g))
      (λ e. absurd01 (cc (body_category b d.b expression g (range_field b g) e))) s t

  -- The node m is the body of n, a binder of x.
  abbrev BodyHere : ℕ → ℕ → Type 0
  BodyHere n m = BindsAt tb.nodes x n × ((node_at tb.nodes n).c ≡ m)

  -- Upward: where x occurs free in a child it does in the parent, unless the child is the body of a binder of x.
  free_up : (p m : ℕ) → ChildOf tb.nodes p m → FreeIn m → FreeIn p ⊎ BodyHere p m
  free_up p m h t =
      let r = held_field tb.nodes p m h in
      go r.0 r.1 (passes_up x (binds_here x (node_at tb.nodes p)) (occurs_free tb.nodes x) r.0 m t)
    where
      go : (c : Category) → HasField tb.nodes p (child c) m →
          FreeBy p (child c) m ⊎ ((binds_here x (node_at tb.nodes p) ≡ true) × (c ≡ predicate)) → FreeIn p ⊎ BodyHere p m
      go c i (inl s) = inl (field_free p h.0 (child c) m i s)
      go c i (inr (q, e)) =
          let d : Node = node_at tb.nodes p in
          let g : BindsAt tb.nodes x p = here_binds p h.0 q in
          inr (g, body_child d.a d.b d.c m (rw (e, binder_fields_law (kind_at tb.nodes p) g.1) at i))

  -- Downward: where x occurs free in a node, the node uses it, or it occurs free in a child that is no such body.
  abbrev Source : ℕ → Type 0
  Source n = UsesAt tb.nodes x n ⊎ ((m : ℕ) × ChildOf tb.nodes n m × FreeIn m × (BodyHere n m → ⊥))

  free_down : (n : ℕ) → n < length tb.nodes → FreeIn n → Source n
  free_down n l t = let r = free_field n l t in go r.0 r.1 r.2 r.3
    where
      go : (f : Field) (y : ℕ) → HasField tb.nodes n f y → FreeBy n f y → Source n
      go unused y i t = absurd t
      go (child c) y i t =
          let w = passes_down x (binds_here x (node_at tb.nodes n)) (occurs_free tb.nodes x) c y t in
          inr (y, field_held tb.nodes n y c l i, w.0, λ h. w.1 (binds_here_law n h.0) (body_category n y c h.0 i h.1))
      go use_of y i t =
          let d : Node = node_at tb.nodes n in
          let r = use_kind (kind_at tb.nodes n) d.a d.b d.c y i in
          inl (l, r.0, r.1 ∙ sym (eqb→eq x y t))
      go binder_of y i t = absurd t
      go set_number y i t = absurd t
      go element_number y i t = absurd t
      go any_word y i t = absurd t
      go truth_bit y i t = absurd t

  -- The last node, where there is one, is in no body: it is no child.
  root_outside : 0 < length tb.nodes → InScopeOf tb.nodes x (last_node tb.nodes) → ⊥
  root_outside l (b, g, t) = go (tree_split tb.nodes t)
    where
      go : ((node_at tb.nodes b).c ≡ last_node tb.nodes) ⊎ ((p : ℕ) × InBodyTree tb.nodes b p × ChildOf tb.nodes p (last_node tb.nodes)) → ⊥
      go (inl e) = omega (arith, child_lower tb right once b (node_at tb.nodes b).c (body_of b g))
      go (inr (p, s, h)) = omega (arith, child_lower tb right once p (last_node tb.nodes) h)

  -- A child in a body is that body, or its parent is in the same body.
  parent_inside : (n m : ℕ) → ChildOf tb.nodes n m → (BodyHere n m → ⊥) → InScopeOf tb.nodes x m → InScopeOf tb.nodes x n
  parent_inside n m h f (b, g, t) = go (tree_split tb.nodes t)
    where
      go : ((node_at tb.nodes b).c ≡ m) ⊎ ((p : ℕ) × InBodyTree tb.nodes b p × ChildOf tb.nodes p m) → InScopeOf tb.nodes x n
      go (inl e) =
          let q : b ≡ n = one_parent tb right once b n m (rw e at (body_of b g)) h in
          absurd (f (subst (λ n. BodyHere n m) q (g, e)))
      go (inr (p, s, k)) = (b, g, subst (λ n. InBodyTree tb.nodes b n) (one_parent tb right once p n m k h) s)

  -- So where each use of x stands in a body, x occurs free in no node outside the bodies.
  outside_free : UsedInBody tb.nodes x → (k n : ℕ) → n < k → n < length tb.nodes → (InScopeOf tb.nodes x n → ⊥) → FreeIn n → ⊥
  outside_free w zero n q l o t = absurd (omega arith)
  outside_free w (suc k) n q l o t = go (free_down n l t) (outside_free w k)
    where
      go : Source n → ((m : ℕ) → m < k → m < length tb.nodes → (InScopeOf tb.nodes x m → ⊥) → FreeIn m → ⊥) → ⊥
      go (inl u) f = o (w n u)
      go (inr (m, h, s, b)) f =
          let e = child_lower tb right once n m h in f m (omega arith) (omega arith) (λ i. o (parent_inside n m h b i)) s

  -- A node u with x free in a node m above it stands in a body, or x occurs free in the root; k bounds the nodes above m.
  above : (u k m : ℕ) → last_node tb.nodes - m ≤ k → m < length tb.nodes → InTree tb.nodes m u → FreeIn m →
      FreeIn (last_node tb.nodes) ⊎ InScopeOf tb.nodes x u
  unfolding last_node
  above u zero m q l t free = inl (subst FreeIn (omega arith) free)
  above u (suc k) m q l t free = go (ℕ_discrete m (last_node tb.nodes)) (above u k)
    where
      go : Dec (m ≡ last_node tb.nodes) →
          ((p : ℕ) → last_node tb.nodes - p ≤ k → p < length tb.nodes → InTree tb.nodes p u → FreeIn p →
          FreeIn (last_node tb.nodes) ⊎ InScopeOf tb.nodes x u) →
          FreeIn (last_node tb.nodes) ⊎ InScopeOf tb.nodes x u
      go (yes e) f = inl (subst FreeIn e free)
      go (no e) f =
          let r = parent tb right once m (omega arith) in
          let c = child_lower tb right once r.0 m r.1 in
          step r.0 (free_up r.0 m r.1 free) (f r.0 (omega arith) r.1.0 (tree_above tb.nodes r.1 t))
        where
          step : (p : ℕ) → FreeIn p ⊎ BodyHere p m → (FreeIn p → FreeIn (last_node tb.nodes) ⊎ InScopeOf tb.nodes x u) →
              FreeIn (last_node tb.nodes) ⊎ InScopeOf tb.nodes x u
          step p (inl s) f = f s
          step p (inr (g, e)) f = inr (p, g, rw e t)

  -- x does not occur free in the whole condition exactly where each use of x stands in the body of a binder of x.
  pub used_in_body : (occurs_in_root tb.nodes x ≡ false) ↔ UsedInBody tb.nodes x
  used_in_body = (to, from)
    where
      to : occurs_in_root tb.nodes x ≡ false → UsedInBody tb.nodes x
      to e u h = go (above u (last_node tb.nodes) u (omega arith) h.0 top (free_use u h))
        where
          go : FreeIn (last_node tb.nodes) ⊎ InScopeOf tb.nodes x u → InScopeOf tb.nodes x u
          go (inl t) = absurd (rw (← some_root false (occurs_free tb.nodes x) tb.nodes (omega (arith, h.0)), e) at t)
          go (inr r) = r

      from : UsedInBody tb.nodes x → occurs_in_root tb.nodes x ≡ false
      from w =
          by_root false (occurs_free tb.nodes x) (λ b. b ≡ false) tb.nodes refl λ l.
          let i = last_in tb.nodes l in
          (T_false (occurs_free tb.nodes x (last_node tb.nodes))).0 (outside_free w (length tb.nodes) (last_node tb.nodes) i i (root_outside l))

  by_word : (w : ℕ) → BindingRight w (binders tb.nodes x) (occurs_in_root tb.nodes x) ↔ WrittenFor w tb.nodes x
  by_word zero = binders_none tb.nodes x
  by_word (suc w) = (to, from)
    where
      to : BindingRight (suc w) (binders tb.nodes x) (occurs_in_root tb.nodes x) → WrittenFor (suc w) tb.nodes x
      to (e, f) = let r = (binders_one tb.nodes x).0 e in (r.0, r.1, r.2, λ u h. go r.0 r.1 r.2 u (used_in_body.0 f u h))
        where
          go : (b : ℕ) → BindsAt tb.nodes x b → ((d : ℕ) → BindsAt tb.nodes x d → d ≡ b) → (u : ℕ) → InScopeOf tb.nodes x u →
              InBodyTree tb.nodes b u × (InRangeTree tb.nodes b u → ⊥)
          go b g same u (d, h, t) =
              let s : InBodyTree tb.nodes b u = subst (λ b. InBodyTree tb.nodes b u) (same d h) t in (s, not_in_range b u g s)

      from : WrittenFor (suc w) tb.nodes x → BindingRight (suc w) (binders tb.nodes x) (occurs_in_root tb.nodes x)
      from (b, g, same, f) = ((binders_one tb.nodes x).1 (b, g, same), used_in_body.1 (λ u h. (b, g, (f u h).0)))

  -- The test of refusal 9 passes exactly where the binding rules hold.
  pub binding_written : T (binding tb x) ↔ BindingWritten tb x
  binding_written = Iff.trans (binding_right tb x) (by_word (get_or tb.binds x 0))

-- A row of tests ends with a refusal that only its last test gives exactly where those before it go on and the last one refuses.
in_turn_last : {A : Type 0} (ms : List (End (Unit {0}))) (m : End (Unit {0})) (a : A) (r p : ℕ) → Each (λ m. m ≡ refused r p → ⊥) ms →
    (in_turn (ms ++ m ∷ []) a ≡ refused r p) ↔ (Each (λ m. m ≡ done tt) ms × (m ≡ refused r p))
in_turn_last [] (done u) a r p n = (λ e. absurd01 (cc), λ h. absurd01 (cc h.1))
in_turn_last [] (refused s q) a r p n = (λ e. (tt, cc), λ h. cc h.1)
in_turn_last (done u ∷ ms) m a r p n =
    let i = in_turn_last ms m a r p n.1 in (λ e. let t = i.0 e in ((refl, t.0), t.1), λ h. i.1 (h.0.1, h.1))
in_turn_last (refused s q ∷ ms) m a r p n = (λ e. absurd (n.0 (cc)), λ h. absurd01 (cc h.0.0))

each_take : {A : Type 0} (P : A → Type 0) (k : ℕ) (xs : List A) → Each P xs → Each P (take k xs)
each_take P zero xs h = tt
each_take P (suc k) [] h = tt
each_take P (suc k) (x ∷ xs) h = (h.0, each_take P k xs h.1)

each_append : {A : Type 0} (P : A → Type 0) (xs : List A) (y : A) → Each P xs → P y → Each P (xs ++ y ∷ [])
each_append P [] y h q = (q, tt)
each_append P (x ∷ xs) y h q = (h.0, each_append P xs y h.1 q)

module _ (bs : List ℕ) where
  -- The tests of refusals 1 to 8 go on.
  abbrev pub PassesEight : Type 0
  PassesEight = Each (λ m. m ≡ done tt) (take 8 (stages bs))

  eight_others : (x : ℕ) → Each (λ m. m ≡ refused 9 x → ⊥) (take 8 (stages bs))
  eight_others x = (
    single 1 (headed bs) tt,
    (
      single 2 (limited bs) tt,
      (
        single 3 (laid_out bs) tt,
        (least 4 (bad_size bs) tt, (least 5 (bad_word bs) tt, (least 6 (bad_node bs) tt, (least 7 (bad_parent bs) tt, (least 8 (bad_height bs) tt, tt))))),
      ),
    ),
  )
    where
      single : (k : ℕ) (b : Bool) → T (ltb k 9) → require k 0 b ≡ refused 9 x → ⊥
      single k b l e = omega (arith, ltb→lt k 9 l, (require_refused k 0 b 9 x e).0)

      least : (k : ℕ) (o : Option ℕ) → T (ltb k 9) → unless_found k o ≡ refused 9 x → ⊥
      least k o l e = omega (arith, ltb→lt k 9 l, (unless_found_refused k o 9 x e).0)

  -- So the nodes are right, and each but the last is a child once.
  eight_fields : PassesEight → (n : ℕ) → n < length (table_of bs).nodes → NodeRight (table_of bs) n
  unfolding require_all
  eight_fields (_, (_, (_, (_, (_, (h, _)))))) n l =
      let e = (require_all_done 6 (node_good (table_of bs)) (node_count bs)).0 h n (rw (nodes_length bs) at l) in
      (node_good_right (table_of bs) n).0 (rw e tt)

  eight_once : PassesEight → (n : ℕ) → n < last_node (table_of bs).nodes → occurrences n (held_in is_child (table_of bs).nodes) ≡ 1
  unfolding require_all last_node
  eight_once (_, (_, (_, (_, (_, (_, (h, _))))))) n l =
      let e = (require_all_done 7 (parent_good (table_of bs)) (node_count bs)).0 h n (omega (arith, nodes_length bs)) in
      ((parent_good_right (table_of bs) n).0 (rw e tt)).1 (λ q. omega arith)

  eight_written : PassesEight → (x : ℕ) → T (binding (table_of bs) x) ↔ BindingWritten (table_of bs) x
  eight_written h x = binding_written (table_of bs) (eight_fields h) (eight_once h) x

  -- Refusal 9 is given at x exactly where 1 to 8 are not and x is the least identifier that breaks the binding rules.
  pub refused_9_written : (x : ℕ) → (reading bs ≡ refused 9 x) ↔
      (PassesEight × (x < identifier_count bs) × (BindingWritten (table_of bs) x → ⊥) × ((y : ℕ) → y < x → BindingWritten (table_of bs) y))
  unfolding require_all
  refused_9_written x = (to, from)
    where
      last : (in_turn (stages bs) (table_of bs) ≡ refused 9 x) ↔ (PassesEight × (unless_found 9 (bad_binding bs) ≡ refused 9 x))
      last = in_turn_last (take 8 (stages bs)) (unless_found 9 (bad_binding bs)) (table_of bs) 9 x (eight_others x)

      least : (require_all 9 (binding (table_of bs)) (identifier_count bs) ≡ refused 9 x) ↔
          ((x < identifier_count bs) × (binding (table_of bs) x ≡ false) × ((y : ℕ) → y < x → binding (table_of bs) y ≡ true))
      least = require_all_refused 9 (binding (table_of bs)) (identifier_count bs) x

      to : reading bs ≡ refused 9 x →
          PassesEight × (x < identifier_count bs) × (BindingWritten (table_of bs) x → ⊥) × ((y : ℕ) → y < x → BindingWritten (table_of bs) y)
      to e =
          let r = last.0 (sym (reading_stages bs) ∙ e) in
          let b = least.0 r.1 in
          (r.0, b.0, λ w. rw b.1 at ((eight_written r.0 x).1 w), λ y l. (eight_written r.0 y).0 (rw (b.2 y l) tt))

      from : PassesEight × (x < identifier_count bs) × (BindingWritten (table_of bs) x → ⊥) × ((y : ℕ) → y < x → BindingWritten (table_of bs) y) →
          reading bs ≡ refused 9 x
      from (h, l, f, g) =
          let b : binding (table_of bs) x ≡ false = (T_false (binding (table_of bs) x)).0 (λ t. f ((eight_written h x).0 t)) in
          reading_stages bs ∙ last.1 (h, least.1 (l, b, λ y q. (T_true (binding (table_of bs) y)).0 ((eight_written h y).1 (g y q))))

  -- The table is given exactly where 1 to 8 are not and all identifiers keep the binding rules.
  pub reading_written : (reading bs ≡ done (table_of bs)) ↔
      (PassesEight × ((x : ℕ) → x < identifier_count bs → BindingWritten (table_of bs) x))
  unfolding require_all
  reading_written = (to, from)
    where
      all : (require_all 9 (binding (table_of bs)) (identifier_count bs) ≡ done tt) ↔ ((x : ℕ) → x < identifier_count bs → binding (table_of bs) x ≡ true)
      all = require_all_done 9 (binding (table_of bs)) (identifier_count bs)

      to : reading bs ≡ done (table_of bs) → PassesEight × ((x : ℕ) → x < identifier_count bs → BindingWritten (table_of bs) x)
      to e =
          let s = (in_turn_done (stages bs) (table_of bs) (table_of bs) (sym (reading_stages bs) ∙ e)).0 in
          let h : PassesEight = each_take (λ m. m ≡ done tt) 8 (stages bs) s in
          (h, λ x l. (eight_written h x).0 (rw (all.0 s.1.1.1.1.1.1.1.1.0 x l) tt))

      from : PassesEight × ((x : ℕ) → x < identifier_count bs → BindingWritten (table_of bs) x) → reading bs ≡ done (table_of bs)
      from (h, w) =
          reading_stages bs
          ∙ in_turn_passed (stages bs) (table_of bs) (each_append (λ m. m ≡ done tt) (take 8 (stages bs)) (unless_found 9 (bad_binding bs)) h
          (all.1 (λ x l. (T_true (binding (table_of bs) x)).0 ((eight_written h x).1 (w x l)))))

  -- So a readable table keeps them.
  pub readable_written : Readable bs → (x : ℕ) → x < identifier_count bs → BindingWritten (table_of bs) x
  readable_written r = (reading_written.0 ((reading_right bs).1 r)).1
