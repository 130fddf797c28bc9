-- Document 01, "Table of a condition" and refusals 1 to 9: which bytes are a readable table, and what is wrong with others.
use Rattle.std.specs.Prelude.{ℕ, zero, suc, ◌+◌, max, Bool, true, false, not, ◌&&◌, ◌||◌, cond, List, [], ◌∷◌, eqb, leb, ltb, get_or, length}
use Rattle.std.proofs.Math.Option.{Option, none as nothing, some}
use Rattle.rules.specs.Kinds.{Kind, kind_of, Category, predicate, expression, category_of, is_predicate, is_expression}
use Rattle.rules.specs.Kinds.{Field, unused, child, use_of, binder_of, set_number, element_number, any_word, truth_bit, is_child, is_binder}
use Rattle.rules.specs.Tables.{word_at, Node, Table, table_of, node_at, kind_at, fields_at, field_words, held, held_in, last_node, of_root}
use Rattle.rules.specs.Tables.{given_count, identifier_count, node_count, givens_at, identifiers_at, nodes_at, whole_length}
use Rattle.rules.specs.Ends.{End, done, ◌>>=◌, require, require_all}

-- 1: 32 bytes at least, and form 1.
unfoldable pub headed : List ℕ → Bool
headed bs = leb 32 (length bs) && eqb (word_at bs 0) 1

-- 2: the limits of G, I and N; N may be 0 (document 02, N1).
unfoldable pub limited : List ℕ → Bool
limited bs = leb (given_count bs) 16 && leb (identifier_count bs) 32 && leb (node_count bs) 512

-- 3: the offset words, the length word and the length itself.
unfoldable pub laid_out : List ℕ → Bool
laid_out bs =
    eqb (word_at bs 16) givens_at && eqb (word_at bs 20) (identifiers_at bs) && eqb (word_at bs 24) (nodes_at bs)
    && eqb (word_at bs 28) (whole_length bs) && eqb (length bs) (whole_length bs)

-- 4: a given set has 1 to 32 elements.
unfoldable pub size_good : Table → ℕ → Bool
size_good tb g = leb 1 (get_or tb.sizes g 0) && leb (get_or tb.sizes g 0) 32

-- 5: an identifier's word is 0 or 1.
unfoldable pub bind_good : Table → ℕ → Bool
bind_good tb x = leb (get_or tb.binds x 2) 1

-- 6: a known kind, and in each field what the kind says.
abbrev pub category_is : Category → Option Kind → Bool
category_is c nothing = false
category_is predicate (some k) = is_predicate (category_of k)
category_is expression (some k) = is_expression (category_of k)

abbrev pub field_good : Table → ℕ → Field → ℕ → Bool
field_good tb n unused x = eqb x 0
field_good tb n (child c) x = ltb x n && category_is c (kind_at tb.nodes x)
field_good tb n use_of x = ltb x (length tb.binds)
field_good tb n binder_of x = ltb x (length tb.binds)
field_good tb n set_number x = ltb x (length tb.sizes)
field_good tb n element_number x = ltb x (get_or tb.sizes (node_at tb.nodes n).a 0)
field_good tb n any_word x = true
field_good tb n truth_bit x = ltb x 2

abbrev pub fields_good : Table → ℕ → List Field → List ℕ → Bool
fields_good tb n [] xs = true
fields_good tb n (f ∷ fs) [] = false
fields_good tb n (f ∷ fs) (x ∷ xs) = field_good tb n f x && fields_good tb n fs xs

abbrev pub known : Option Kind → Bool
known nothing = false
known (some k) = true

unfoldable pub node_good : Table → ℕ → Bool
unfolding kind_of
node_good tb n = known (kind_at tb.nodes n) && fields_good tb n (fields_at (node_at tb.nodes n)) (field_words (node_at tb.nodes n))

-- 7: each node but the last is a child once; the last is a predicate.
unfoldable pub occurrences : ℕ → List ℕ → ℕ
occurrences x [] = 0
occurrences x (y ∷ ys) = cond (eqb x y) 1 0 + occurrences x ys

unfoldable pub parent_good : Table → ℕ → Bool
unfolding kind_of last_node occurrences held_in
parent_good tb n =
    cond (eqb n (last_node tb.nodes)) (category_is predicate (kind_at tb.nodes n))
    (eqb (occurrences n (held_in is_child tb.nodes)) 1)

-- What a node has by way of nodes with lower numbers; f bounds the depth.
unfoldable pub upward : {A : Type 0} → A → ((ℕ → A) → ℕ → A) → ℕ → ℕ → A
upward z step zero n = z
upward z step (suc f) n = step (λ m. upward z step f m) n

-- 8: no height is above the limit, which document 02, N11 sets to 27.
abbrev pub height_limit : ℕ
height_limit = 27

unfoldable pub tallest : (ℕ → ℕ) → List ℕ → ℕ
tallest h [] = 0
tallest h (m ∷ ms) = max (h m) (tallest h ms)

abbrev pub height_step : List Node → (ℕ → ℕ) → ℕ → ℕ
height_step ns h n = 1 + tallest h (held is_child (node_at ns n))

unfoldable pub height : List Node → ℕ → ℕ
unfolding upward tallest held
height ns n = upward 0 (height_step ns) (suc n) n

unfoldable pub height_good : Table → ℕ → Bool
unfolding height
height_good tb n = leb (height tb.nodes n) height_limit

-- 9: how often an identifier is bound, and whether it occurs free in a node: used there, outside the body of its binder.
unfoldable pub binders : List Node → ℕ → ℕ
unfolding held_in occurrences
binders ns x = occurrences x (held_in is_binder ns)

-- Whether a field makes x occur free; b tells that the node binds x.
abbrev pub occurs_in : ℕ → Bool → (ℕ → Bool) → Field → ℕ → Bool
occurs_in x b occ unused y = false
occurs_in x b occ (child predicate) y = not b && occ y
occurs_in x b occ (child expression) y = occ y
occurs_in x b occ use_of y = eqb x y
occurs_in x b occ binder_of y = false
occurs_in x b occ set_number y = false
occurs_in x b occ element_number y = false
occurs_in x b occ any_word y = false
occurs_in x b occ truth_bit y = false

abbrev pub occurs_in_any : ℕ → Bool → (ℕ → Bool) → List Field → List ℕ → Bool
occurs_in_any x b occ [] ys = false
occurs_in_any x b occ (f ∷ fs) [] = false
occurs_in_any x b occ (f ∷ fs) (y ∷ ys) = occurs_in x b occ f y || occurs_in_any x b occ fs ys

abbrev pub binds_here : ℕ → Node → Bool
binds_here x d = leb 1 (occurrences x (held is_binder d))

abbrev pub occurs_step : List Node → ℕ → (ℕ → Bool) → ℕ → Bool
occurs_step ns x occ n = occurs_in_any x (binds_here x (node_at ns n)) occ (fields_at (node_at ns n)) (field_words (node_at ns n))

unfoldable pub occurs_free : List Node → ℕ → ℕ → Bool
unfolding upward held kind_of occurrences
occurs_free ns x n = upward false (occurs_step ns x) (suc n) n

-- Whether x occurs free in the whole condition, which is its root's tree.
abbrev pub occurs_in_root : List Node → ℕ → Bool
occurs_in_root ns x = of_root ns false (occurs_free ns x)

-- A free identifier has no binder; a bound one has one, and does not occur free in the whole condition.
abbrev pub bound_right : ℕ → ℕ → Bool → Bool
bound_right zero n occ = eqb n 0
bound_right (suc w) n occ = eqb n 1 && not occ

unfoldable pub binding : Table → ℕ → Bool
unfolding binders occurs_free last_node
binding tb x = bound_right (get_or tb.binds x 0) (binders tb.nodes x) (occurs_in_root tb.nodes x)

-- Refusals 1 to 9 in order, or the table. A table that passes is readable.
unfoldable pub reading : List ℕ → End Table
unfolding headed limited laid_out table_of size_good bind_good node_good parent_good height_good binding require_all
reading bs = do
  _ ← require 1 0 (headed bs)
  _ ← require 2 0 (limited bs)
  _ ← require 3 0 (laid_out bs)
  _ ← require_all 4 (size_good (table_of bs)) (given_count bs)
  _ ← require_all 5 (bind_good (table_of bs)) (identifier_count bs)
  _ ← require_all 6 (node_good (table_of bs)) (node_count bs)
  _ ← require_all 7 (parent_good (table_of bs)) (node_count bs)
  _ ← require_all 8 (height_good (table_of bs)) (node_count bs)
  _ ← require_all 9 (binding (table_of bs)) (identifier_count bs)
  done (table_of bs)
