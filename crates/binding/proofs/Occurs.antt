-- Refusal 9: which identifier a node binds, which occur free there, and what the pass has after n nodes (`Passed`), bit by bit.
-- A node binds by its first field alone, so a binder more is one more at most. At the last node the bits decide the rule.
use Prim.Native.Nat.{ℕ, zero, suc, ◌+◌, ◌<◌}
use mathlib.Core.Bool.{Bool, true, false, not, ◌&&◌, ◌||◌, cond}
use mathlib.Core.List.{List, [], ◌∷◌}
use mathlib.Core.Option.{Option}
use mathlib.Core.Path.{◌≡◌, refl, sym, ap, ap₂, ◌∙◌}
use native.Mathlib.Omega.{arith}
use native.Mathlib.Decide.{ℕ_discrete}
use native.Mathlib.Numerals.{add-one}
use lib.Bits.{bit_and, bit_or}
use lib.Dec.{eqb, leb}
use lib.ListN.{length, get_or, set, take}
use lib.Seq.{get_or-set_same, get_or-set_other, take_all}
use borrow.Author.Tests.{ne_eqb, le-leb}
use Rattle.rules.specs.Kinds.{Kind, kind_of, predicate, expression, is_child, is_binder}
use Rattle.rules.specs.Kinds.{Field, unused, child, use_of, binder_of, set_number, element_number, any_word, truth_bit}
use Rattle.rules.specs.Tables.{Node, table_of, node_at, fields_at, fields_if, field_words, kept_if, pick, held, held_in, of_root, last_node, node_count}
use Rattle.rules.specs.Reading.{occurrences, occurs_in, occurs_in_any, binds_here, occurs_step, occurs_free, occurs_in_root, bound_right, binders, binding}
use Rattle.laws.proofs.TableLaws.{nodes_length, occurs_free_at}
use Rattle.table.specs.declared.Holds.{Holds}
use Rattle.table.specs.declared.Holds.TheVariants.{Nothing, Predicate, Expression, IdentifierUsed, IdentifierBound, GivenSet, Element, AnyWord, Truth}
use Rattle.table.specs.Codes.{field_of}
use Rattle.table.specs.Layout.{FieldOf, Fielded, holds_at, field_at, WordOf}
use Rattle.table.proofs.Fields.{by_fields}
use Rattle.binding.specs.declared.Names.{Names}
use Rattle.table.specs.declared.NodeField.{NodeField}
use Rattle.binding.specs.Words.{has_bit, WordIs, free_in, BoundAt, Named}
use Rattle.trees.proofs.Counting.{child_at_law, occurrences_more}
use Rattle.binding.proofs.Words.{bit_or_law, bit_and_law, bit_none}

-- How often a node binds x: once or not at all, by its first field.
kept_once : (p : Bool) (x y : ℕ) → occurrences x (kept_if p y []) ≡ cond (p && eqb x y) 1 0
unfolding occurrences
kept_once false x y = refl
kept_once true x y = omega arith

binders_first : (d : Node) (x : ℕ) → occurrences x (held is_binder d) ≡ cond (is_binder (get_or (fields_at d) 0 unused) && eqb x d.a) 1 0
unfolding held
binders_first d x =
    by_fields
    (λ fs. occurrences x (pick is_binder fs (field_words d)) ≡ cond (is_binder (get_or fs 0 unused) && eqb x d.a) 1 0)
    (λ f g h eg eh. rw (eg, eh) (kept_once (is_binder f) x d.a))
    (kept_once false x d.a)
    (kind_of d.kind)

some_once : (b : Bool) → leb 1 (cond b 1 0) ≡ b
some_once true = refl
some_once false = refl

binds_first : (d : Node) (x : ℕ) → binds_here x d ≡ (is_binder (get_or (fields_at d) 0 unused) && eqb x d.a)
binds_first d x = ap (leb 1) (binders_first d x) ∙ some_once (is_binder (get_or (fields_at d) 0 unused) && eqb x d.a)

binders_here : (d : Node) (x : ℕ) → occurrences x (held is_binder d) ≡ cond (binds_here x d) 1 0
binders_here d x = rw (binds_first d x) (binders_first d x)

-- The word of what a node binds, by what its first field holds.
not_binder : (h : Holds) → (h ≡ IdentifierBound → ⊥) → is_binder (field_of h) ≡ false
not_binder Nothing n = refl
not_binder Predicate n = refl
not_binder Expression n = refl
not_binder IdentifierUsed n = refl
not_binder IdentifierBound n = absurd (n refl)
not_binder GivenSet n = refl
not_binder Element n = refl
not_binder AnyWord n = refl
not_binder Truth n = refl

pub bound_one : {h : Holds} (y w : ℕ) → h ≡ IdentifierBound → WordIs (λ x. eqb x y) w → WordIs (λ x. is_binder (field_of h) && eqb x y) w
bound_one y w e is x = is x ∙ sym (ap (λ k. is_binder (field_of k) && eqb x y) e)

pub bound_none : (h : Holds) (y : ℕ) → (h ≡ IdentifierBound → ⊥) → WordIs (λ x. is_binder (field_of h) && eqb x y) 0
bound_none h y n x = rw (not_binder h n) (bit_none x)

pub bound_here : {bs : List ℕ} {n : ℕ} {f : NodeField} (w : ℕ) → FieldOf bs n 0 f →
    WordIs (λ x. is_binder (field_of f.holds) && eqb x f.word) w → BoundAt bs n w
bound_here {bs} {n} w h is x = is x ∙ ap₂ (λ k y. is_binder k && eqb x y) h.holds h.word ∙ sym (binds_first (node_at (table_of bs).nodes n) x)

or_three : (p q r : Bool) → (p || (q || (r || false))) ≡ ((p || q) || r)
or_three true q r = refl
or_three false true r = refl
or_three false false true = refl
or_three false false false = refl

-- An identifier occurs free in a node where one of its three fields makes it so.
any_three : (x : ℕ) (h : Bool) (occ : ℕ → Bool) (k : Option Kind) (a b c : ℕ) →
    ((occurs_in x h occ (get_or (fields_if k) 0 unused) a || occurs_in x h occ (get_or (fields_if k) 1 unused) b) ||
    occurs_in x h occ (get_or (fields_if k) 2 unused) c)
    ≡ occurs_in_any x h occ (fields_if k) (a ∷ b ∷ c ∷ [])
any_three x h occ k a b c =
    by_fields
    (λ fs. ((occurs_in x h occ (get_or fs 0 unused) a || occurs_in x h occ (get_or fs 1 unused) b) || occurs_in x h occ (get_or fs 2 unused) c)
    ≡ occurs_in_any x h occ fs (a ∷ b ∷ c ∷ []))
    (λ f g i eg ei. sym (or_three (occurs_in x h occ f a) (occurs_in x h occ g b) (occurs_in x h occ i c)))
    refl
    k

-- What field i of node n makes occur free, where the node binds `here` and `names` are the words of the nodes below.
abbrev pub FieldNames : List ℕ → List ℕ → ℕ → ℕ → ℕ → ℕ → Type 0
FieldNames bs names here n i w = WordIs (λ x. occurs_in x (has_bit here x) (free_in names x) (holds_at bs n i) (field_at bs n i)) w

pub names_three : (bs names : List ℕ) (n here a b c : ℕ) → BoundAt bs n here →
    FieldNames bs names here n 0 a → FieldNames bs names here n 1 b → FieldNames bs names here n 2 c →
    WordIs (λ x. occurs_step (table_of bs).nodes x (free_in names x) n) (bit_or (bit_or a b) c)
names_three bs names n here a b c binds p q r x =
    let d : Node = node_at (table_of bs).nodes n in
    rw (bit_or_law (bit_or a b) c x, bit_or_law a b x, p x, q x, r x, binds x)
    (any_three x (binds_here x d) (free_in names x) (kind_of d.kind) d.a d.b d.c)

-- Free occurrence in a node asks only for the node's children.
occurs_in_same : (x : ℕ) (b : Bool) (h k : ℕ → Bool) (f : Field) (y : ℕ) → (is_child f ≡ true → h y ≡ k y) → occurs_in x b h f y ≡ occurs_in x b k f y
occurs_in_same x b h k unused y e = refl
occurs_in_same x b h k (child predicate) y e = ap (λ (o : Bool). not b && o) (e refl)
occurs_in_same x b h k (child expression) y e = e refl
occurs_in_same x b h k use_of y e = refl
occurs_in_same x b h k binder_of y e = refl
occurs_in_same x b h k set_number y e = refl
occurs_in_same x b h k element_number y e = refl
occurs_in_same x b h k any_word y e = refl
occurs_in_same x b h k truth_bit y e = refl

occurs_in_any_same : (x : ℕ) (b : Bool) (h k : ℕ → Bool) (fs : List Field) (ys : List ℕ) →
    ((i : ℕ) → is_child (get_or fs i unused) ≡ true → h (get_or ys i 0) ≡ k (get_or ys i 0)) → occurs_in_any x b h fs ys ≡ occurs_in_any x b k fs ys
occurs_in_any_same x b h k [] ys e = refl
occurs_in_any_same x b h k (f ∷ fs) [] e = refl
occurs_in_any_same x b h k (f ∷ fs) (y ∷ ys) e =
    ap₂ ◌||◌ (occurs_in_same x b h k f y (e 0)) (occurs_in_any_same x b h k fs ys (λ i. e (suc i)))

-- The fields in which no identifier occurs free.
occurs_none : (x : ℕ) (b : Bool) (occ : ℕ → Bool) (y : ℕ) (h : Holds) → (h ≡ Predicate → ⊥) → (h ≡ Expression → ⊥) → (h ≡ IdentifierUsed → ⊥) →
    false ≡ occurs_in x b occ (field_of h) y
occurs_none x b occ y Nothing k m n = refl
occurs_none x b occ y Predicate k m n = absurd (k refl)
occurs_none x b occ y Expression k m n = absurd (m refl)
occurs_none x b occ y IdentifierUsed k m n = absurd (n refl)
occurs_none x b occ y IdentifierBound k m n = refl
occurs_none x b occ y GivenSet k m n = refl
occurs_none x b occ y Element k m n = refl
occurs_none x b occ y AnyWord k m n = refl
occurs_none x b occ y Truth k m n = refl

pub names_none : (names : List ℕ) (here y : ℕ) (h : Holds) → (h ≡ Predicate → ⊥) → (h ≡ Expression → ⊥) → (h ≡ IdentifierUsed → ⊥) →
    WordIs (λ x. occurs_in x (has_bit here x) (free_in names x) (field_of h) y) 0
names_none names here y h o p q x = bit_none x ∙ occurs_none x (has_bit here x) (free_in names x) y h o p q

pub names_here : {bs : List ℕ} (names : List ℕ) (here : ℕ) {n i : ℕ} (w : ℕ) {f : NodeField} → FieldOf bs n i f →
    WordIs (λ x. occurs_in x (has_bit here x) (free_in names x) (field_of f.holds) f.word) w → FieldNames bs names here n i w
names_here names here w h is x = is x ∙ ap₂ (occurs_in x (has_bit here x) (free_in names x)) h.holds h.word

-- What is said of the last of n nodes; false where there are none.
abbrev of_last : ℕ → (ℕ → Bool) → Bool
of_last zero f = false
of_last (suc n) f = f n

last_root : (ns : List Node) (f : ℕ → Bool) → of_last (length ns) f ≡ of_root ns false f
unfolding last_node
last_root [] f = refl
last_root (d ∷ ns) f = ap f (omega arith)

-- After n nodes: the words of these nodes, the identifiers that one and that two of them bind, and the word of the last.
pub record Passed (bs names : List ℕ) (n b t f : ℕ) : Type 0 where
  pub words : (m : ℕ) → m < n → WordIs (λ x. occurs_free (table_of bs).nodes x m) (get_or names m 0)
  pub bound : WordIs (λ x. leb 1 (binders (take n (table_of bs).nodes) x)) b
  pub twice : WordIs (λ x. leb 2 (binders (take n (table_of bs).nodes) x)) t
  pub free : WordIs (λ x. of_last n (occurs_free (table_of bs).nodes x)) f

pub passed_none : (bs names : List ℕ) → Passed bs names 0 0 0 0
unfolding binders held_in occurrences
passed_none bs names = record { words = λ m h. absurd (omega arith); bound = bit_none; twice = bit_none; free = bit_none }

-- One node more binds x once more or not.
binders_more : (ns : List Node) (n x : ℕ) → n < length ns → binders (take (suc n) ns) x ≡ binders (take n ns) x + cond (binds_here x (node_at ns n)) 1 0
unfolding binders
binders_more ns n x h = occurrences_more is_binder refl x ns n h ∙ ap (λ (k : ℕ). occurrences x (held_in is_binder (take n ns)) + k)
    (binders_here (node_at ns n) x)

one_more : (t : ℕ) (b : Bool) → (leb 1 t || b) ≡ leb 1 (t + cond b 1 0)
one_more zero true = refl
one_more zero false = refl
one_more (suc t) b = rw (le-leb 1 (suc t) (omega arith)) (sym (le-leb 1 (suc t + cond b 1 0) (omega arith)))

two_more : (t : ℕ) (b : Bool) → (leb 2 t || (leb 1 t && b)) ≡ leb 2 (t + cond b 1 0)
two_more zero true = refl
two_more zero false = refl
two_more (suc zero) true = refl
two_more (suc zero) false = refl
two_more (suc (suc t)) b = rw (le-leb 2 (suc (suc t)) (omega arith)) (sym (le-leb 2 (suc (suc t) + cond b 1 0) (omega arith)))

-- One turn of the pass.
module _ (bs names : List ℕ) (at n b t f here w : ℕ) (fielded : Fielded bs at) (below : n < node_count bs) (s : Passed bs names n b t f)
    (binds : BoundAt bs n here) (is : WordIs (λ x. occurs_step (table_of bs).nodes x (free_in names x) n) w) where
  free_here : (x : ℕ) → has_bit w x ≡ occurs_free (table_of bs).nodes x n
  free_here x =
      let d : Node = node_at (table_of bs).nodes n in
      is x
      ∙ occurs_in_any_same x (binds_here x d) (free_in names x) (occurs_free (table_of bs).nodes x) (fields_at d) (field_words d)
      (λ i q. s.words (get_or (field_words d) i 0) (child_at_law bs at n i fielded below q) x)
      ∙ sym (occurs_free_at (table_of bs) (λ k q. fielded.fields k (omega (arith, nodes_length bs))) x n (omega (arith, nodes_length bs)))

  words_more : n < length names → (m : ℕ) → m < n + 1 → WordIs (λ x. occurs_free (table_of bs).nodes x m) (get_or (set names n w) m 0)
  words_more l m k = go (ℕ_discrete m n)
    where
      go : Dec (m ≡ n) → WordIs (λ x. occurs_free (table_of bs).nodes x m) (get_or (set names n w) m 0)
      go (yes e) x = rw (e, get_or-set_same names n w 0 l) (free_here x)
      go (no e) x = rw (get_or-set_other names n m w 0 e) (s.words m (omega arith) x)

  binders_next : (x : ℕ) → binders (take (n + 1) (table_of bs).nodes) x ≡ binders (take n (table_of bs).nodes) x + cond (has_bit here x) 1 0
  binders_next x = rw (add-one n, binds x) (binders_more (table_of bs).nodes n x (omega (arith, nodes_length bs)))

  pub passed_more : n < length names → Passed bs (set names n w) (n + 1) (bit_or b here) (bit_or t (bit_and b here)) w
  passed_more l = record {
    words = words_more l;
    bound = λ x. rw (bit_or_law b here x, s.bound x, binders_next x) (one_more (binders (take n (table_of bs).nodes) x) (has_bit here x));
    twice = λ x. rw (bit_or_law t (bit_and b here) x, bit_and_law b here x, s.bound x, s.twice x, binders_next x)
        (two_more (binders (take n (table_of bs).nodes) x) (has_bit here x));
    free = λ x. rw (add-one n) (free_here x);
  }

-- After all nodes.
pub passed_all : (bs names : List ℕ) (n b t f : ℕ) → n ≡ node_count bs → Passed bs names n b t f → Named bs (record { bound = b; twice = t; free = f })
passed_all bs names n b t f e s =
    let ns : List Node = (table_of bs).nodes in
    let all : take n ns ≡ ns = take_all n ns (omega (arith, nodes_length bs)) in
    record {
      bound = λ x. rw all at (s.bound x);
      twice = λ x. rw all at (s.twice x);
      free = λ x. s.free x ∙ ap (λ (k : ℕ). of_last k (occurs_free ns x)) (e ∙ sym (nodes_length bs)) ∙ last_root ns (occurs_free ns x);
    }

-- The rule for an identifier from the bits.
none_bound : (t : ℕ) → not (leb 1 t) ≡ eqb t 0
none_bound zero = refl
none_bound (suc t) = rw (le-leb 1 (suc t) (omega arith)) (sym (ne_eqb (suc t) 0 (λ e. omega arith)))

one_bound : (t : ℕ) → (leb 1 t && not (leb 2 t)) ≡ eqb t 1
one_bound zero = refl
one_bound (suc zero) = refl
one_bound (suc (suc t)) =
    rw (le-leb 1 (suc (suc t)) (omega arith), le-leb 2 (suc (suc t)) (omega arith)) (sym (ne_eqb (suc (suc t)) 1 (λ e. omega arith)))

right_free : (w t : ℕ) (o : Bool) → w ≡ 0 → eqb t 0 ≡ bound_right w t o
right_free zero t o e = refl
right_free (suc w) t o e = absurd (omega arith)

right_bound : (w t : ℕ) (o : Bool) → (w ≡ 0 → ⊥) → (eqb t 1 && not o) ≡ bound_right w t o
right_bound zero t o e = absurd (e refl)
right_bound (suc w) t o e = refl

module _ (bs : List ℕ) (x w : ℕ) (names : Names) (word : WordOf bs x w) (named : Named bs names) where
  pub binding_free : (b : Bool) → b ≡ has_bit names.bound x → w ≡ 0 → not b ≡ binding (table_of bs) x
  unfolding binding
  binding_free b eb e =
      let t = binders (table_of bs).nodes x in
      rw (eb, named.bound x, none_bound t, ← word 0) (right_free w t (occurs_in_root (table_of bs).nodes x) e)

  pub binding_bound : (b t o once r : Bool) → b ≡ has_bit names.bound x → t ≡ has_bit names.twice x → o ≡ has_bit names.free x →
      once ≡ (b && not t) → r ≡ (once && not o) → (w ≡ 0 → ⊥) → r ≡ binding (table_of bs) x
  unfolding binding
  binding_bound b t o once r eb et eo e q ne =
      let k = binders (table_of bs).nodes x in
      rw (q, e, eb, et, eo, named.bound x, named.twice x, named.free x, one_bound k, ← word 0)
      (right_bound w k (occurs_in_root (table_of bs).nodes x) ne)
