-- Laws of Tables.antt and of `upward`: how many records a table has and where each stands in the bytes; the children of
-- a right node are below it; height and free occurrence at a node, by those of its children; the root, where there is one.
use Prim.Native.Nat.{ℕ, zero, suc, ◌+◌, ◌*◌, ◌≤◌, ◌<◌, max}
use mathlib.Core.Bool.{Bool, true, false, ◌||◌, cond}
use mathlib.Core.List.{List, [], ◌∷◌}
use mathlib.Core.Option.{Option, none as nothing, some}
use mathlib.Core.Path.{◌≡◌, refl, ap, ap₂, ◌∙◌}
use native.Mathlib.Omega.{arith}
use lib.Dec.{eqb, eqb→eq}
use lib.ListN.{get_or, length}
use Rattle.rules.specs.Kinds.{Kind, predicate, expression, is_child}
use Rattle.rules.specs.Kinds.{Field, unused, child, use_of, binder_of, set_number, element_number, any_word, truth_bit}
use Rattle.rules.specs.Tables.{word_at, words_from, Node, node_from, nodes_from, Table, table_of, node_at, kind_at, no_node}
use Rattle.rules.specs.Tables.{given_count, identifier_count, node_count, identifiers_at, nodes_at}
use Rattle.rules.specs.Tables.{fields_at, fields_if, field_words, kept_if, pick, held, Pred, pred_at, last_node, of_root, condition_of}
use Rattle.rules.specs.Reading.{occurrences, upward, tallest, height_step, height}
use Rattle.rules.specs.Reading.{occurs_in, occurs_in_any, binds_here, occurs_step, occurs_free}
use Rattle.rules.specs.Readable.{FieldRight, FieldsRight, KindRight, NodeRight}
use Rattle.laws.proofs.EndLaws.{Each}

words_from_length : (bs : List ℕ) (i n : ℕ) → length (words_from bs i n) ≡ n
unfolding words_from
words_from_length bs i zero = refl
words_from_length bs i (suc n) = ap suc (words_from_length bs (4 + i) n)

nodes_from_length : (bs : List ℕ) (i n : ℕ) → length (nodes_from bs i n) ≡ n
unfolding nodes_from
nodes_from_length bs i zero = refl
nodes_from_length bs i (suc n) = ap suc (nodes_from_length bs (16 + i) n)

-- A table has as many given sets, identifiers and nodes as its header says.
pub sizes_length : (bs : List ℕ) → length (table_of bs).sizes ≡ given_count bs
unfolding table_of
sizes_length bs = words_from_length bs 32 (given_count bs)

pub binds_length : (bs : List ℕ) → length (table_of bs).binds ≡ identifier_count bs
unfolding table_of
binds_length bs = words_from_length bs (identifiers_at bs) (identifier_count bs)

pub nodes_length : (bs : List ℕ) → length (table_of bs).nodes ≡ node_count bs
unfolding table_of
nodes_length bs = nodes_from_length bs (nodes_at bs) (node_count bs)

-- The word at a place of a run of words, and the node at a place of a run of nodes.
pub words_from_entry : (bs : List ℕ) (i n g d : ℕ) → g < n → get_or (words_from bs i n) g d ≡ word_at bs (i + 4 * g)
unfolding words_from
words_from_entry bs i zero g d h = absurd (omega arith)
words_from_entry bs i (suc n) zero d h = ap (word_at bs) (omega arith)
words_from_entry bs i (suc n) (suc g) d h = words_from_entry bs (4 + i) n g d (omega arith) ∙ ap (word_at bs) (omega arith)

pub nodes_from_entry : (bs : List ℕ) (i n k : ℕ) (d : Node) → k < n → get_or (nodes_from bs i n) k d ≡ node_from bs (i + 16 * k)
unfolding nodes_from
nodes_from_entry bs i zero k d h = absurd (omega arith)
nodes_from_entry bs i (suc n) zero d h = ap (node_from bs) (omega arith)
nodes_from_entry bs i (suc n) (suc k) d h = nodes_from_entry bs (16 + i) n k d (omega arith) ∙ ap (node_from bs) (omega arith)

-- Where each record of a table stands in the bytes.
pub sizes_entry : (bs : List ℕ) (g d : ℕ) → g < given_count bs → get_or (table_of bs).sizes g d ≡ word_at bs (32 + 4 * g)
unfolding table_of
sizes_entry bs g d h = words_from_entry bs 32 (given_count bs) g d h

pub binds_entry : (bs : List ℕ) (x d : ℕ) → x < identifier_count bs → get_or (table_of bs).binds x d ≡ word_at bs (identifiers_at bs + 4 * x)
unfolding table_of
binds_entry bs x d h = words_from_entry bs (identifiers_at bs) (identifier_count bs) x d h

pub nodes_entry : (bs : List ℕ) (n : ℕ) → n < node_count bs → node_at (table_of bs).nodes n ≡ node_from bs (nodes_at bs + 16 * n)
unfolding table_of
nodes_entry bs n h = nodes_from_entry bs (nodes_at bs) (node_count bs) n no_node h

-- What `upward` gives does not depend on a depth above n, where a step at a node below N asks only for nodes below that node.
pub upward_depth : {A : Type 0} (z : A) (step : (ℕ → A) → ℕ → A) (N : ℕ) →
    ((n : ℕ) → n < N → (h k : ℕ → A) → ((m : ℕ) → m < n → h m ≡ k m) → step h n ≡ step k n) →
    (f g n : ℕ) → n < N → n < f → n < g → upward z step f n ≡ upward z step g n
unfolding upward
upward_depth z step N local zero g n p q r = absurd (omega arith)
upward_depth z step N local (suc f) zero n p q r = absurd (omega arith)
upward_depth z step N local (suc f) (suc g) n p q r =
    local n p (λ m. upward z step f m) (λ m. upward z step g m)
    (λ m s. upward_depth z step N local f g m (omega arith) (omega arith) (omega arith))

-- So the value at a node is one step from the values below it.
pub upward_at : {A : Type 0} (z : A) (step : (ℕ → A) → ℕ → A) (N : ℕ) →
    ((n : ℕ) → n < N → (h k : ℕ → A) → ((m : ℕ) → m < n → h m ≡ k m) → step h n ≡ step k n) →
    (n : ℕ) → n < N → upward z step (suc n) n ≡ step (λ m. upward z step (suc m) m) n
unfolding upward
upward_at z step N local n p =
    local n p (λ m. upward z step n m) (λ m. upward z step (suc m) m)
    (λ m s. upward_depth z step N local n (suc m) m (omega arith) s (omega arith))

children_below : (tb : Table) (n : ℕ) (fs : List Field) (xs : List ℕ) → FieldsRight tb n fs xs → Each (λ m. m < n) (pick is_child fs xs)
children_below tb n [] xs h = tt
children_below tb n (f ∷ fs) [] h = absurd h
children_below tb n (unused ∷ fs) (x ∷ xs) h = children_below tb n fs xs h.1
children_below tb n (child c ∷ fs) (x ∷ xs) h = (h.0.0, children_below tb n fs xs h.1)
children_below tb n (use_of ∷ fs) (x ∷ xs) h = children_below tb n fs xs h.1
children_below tb n (binder_of ∷ fs) (x ∷ xs) h = children_below tb n fs xs h.1
children_below tb n (set_number ∷ fs) (x ∷ xs) h = children_below tb n fs xs h.1
children_below tb n (element_number ∷ fs) (x ∷ xs) h = children_below tb n fs xs h.1
children_below tb n (any_word ∷ fs) (x ∷ xs) h = children_below tb n fs xs h.1
children_below tb n (truth_bit ∷ fs) (x ∷ xs) h = children_below tb n fs xs h.1

-- A right node has a known kind, and its fields hold what that kind says.
pub fields_right : (tb : Table) (n : ℕ) (k : Option Kind) (xs : List ℕ) → KindRight tb n k xs → FieldsRight tb n (fields_if k) xs
fields_right tb n nothing xs h = absurd h
fields_right tb n (some k) xs h = h

-- Its children have lower numbers.
pub held_below : (tb : Table) (n : ℕ) → NodeRight tb n → Each (λ m. m < n) (held is_child (node_at tb.nodes n))
unfolding held
held_below tb n h =
    let d : Node = node_at tb.nodes n in
    children_below tb n (fields_at d) (field_words d) (fields_right tb n (kind_at tb.nodes n) (field_words d) h)

-- What each entry has, an entry that occurs has.
pub each_occurs : (P : ℕ → Type 0) (m : ℕ) (ms : List ℕ) → Each P ms → 1 ≤ occurrences m ms → P m
unfolding occurrences
each_occurs P m [] h o = absurd (omega arith)
each_occurs P m (y ∷ ms) h o = go (eqb m y) refl (λ q. each_occurs P m ms h.1 q)
  where
    go : (b : Bool) → eqb m y ≡ b → (1 ≤ occurrences m ms → P m) → P m
    go true e f = rw (eqb→eq m y (rw e tt)) h.0
    go false e f = f (omega (arith, rw e at o))

-- A child that occurs in a right node, by its number.
pub child_below : (tb : Table) (n m : ℕ) → NodeRight tb n → 1 ≤ occurrences m (held is_child (node_at tb.nodes n)) → m < n
child_below tb n m h o = each_occurs (λ m. m < n) m (held is_child (node_at tb.nodes n)) (held_below tb n h) o

pub tallest_kept : (h : ℕ → ℕ) (b : Bool) (x : ℕ) (xs : List ℕ) → tallest h (kept_if b x xs) ≡ max (cond b (h x) 0) (tallest h xs)
unfolding tallest
tallest_kept h true x xs = refl
tallest_kept h false x xs = omega arith

pub tallest_below : (n : ℕ) (h k : ℕ → ℕ) → ((m : ℕ) → m < n → h m ≡ k m) → (ms : List ℕ) → Each (λ m. m < n) ms → tallest h ms ≡ tallest k ms
unfolding tallest
tallest_below n h k e [] b = refl
tallest_below n h k e (m ∷ ms) b = ap₂ max (e m b.0) (tallest_below n h k e ms b.1)

occurs_in_below : (tb : Table) (n x : ℕ) (b : Bool) (h k : ℕ → Bool) → ((m : ℕ) → m < n → h m ≡ k m) →
    (f : Field) (y : ℕ) → FieldRight tb n f y → occurs_in x b h f y ≡ occurs_in x b k f y
occurs_in_below tb n x b h k e unused y r = refl
occurs_in_below tb n x b h k e (child predicate) y r = rw (e y r.0)
occurs_in_below tb n x b h k e (child expression) y r = rw (e y r.0)
occurs_in_below tb n x b h k e use_of y r = refl
occurs_in_below tb n x b h k e binder_of y r = refl
occurs_in_below tb n x b h k e set_number y r = refl
occurs_in_below tb n x b h k e element_number y r = refl
occurs_in_below tb n x b h k e any_word y r = refl
occurs_in_below tb n x b h k e truth_bit y r = refl

occurs_in_any_below : (tb : Table) (n x : ℕ) (b : Bool) (h k : ℕ → Bool) → ((m : ℕ) → m < n → h m ≡ k m) →
    (fs : List Field) (ys : List ℕ) → FieldsRight tb n fs ys → occurs_in_any x b h fs ys ≡ occurs_in_any x b k fs ys
occurs_in_any_below tb n x b h k e [] ys r = refl
occurs_in_any_below tb n x b h k e (f ∷ fs) [] r = refl
occurs_in_any_below tb n x b h k e (f ∷ fs) (y ∷ ys) r =
    ap₂ ◌||◌ (occurs_in_below tb n x b h k e f y r.0) (occurs_in_any_below tb n x b h k e fs ys r.1)

module _ (tb : Table) (right : (n : ℕ) → n < length tb.nodes → NodeRight tb n) where
  -- The height of a node of a table of right nodes, by those of its children.
  pub height_at : (n : ℕ) → n < length tb.nodes →
      height tb.nodes n ≡ 1 + tallest (height tb.nodes) (held is_child (node_at tb.nodes n))
  unfolding height
  height_at n p = upward_at 0 (height_step tb.nodes) (length tb.nodes)
      (λ n p h k e. ap (λ t. 1 + t) (tallest_below n h k e (held is_child (node_at tb.nodes n)) (held_below tb n (right n p)))) n p

  -- Whether an identifier occurs free in a node, by whether it does in the node's children.
  pub occurs_free_at : (x n : ℕ) → n < length tb.nodes →
      occurs_free tb.nodes x n ≡ occurs_step tb.nodes x (occurs_free tb.nodes x) n
  unfolding occurs_free
  occurs_free_at x n p = upward_at false (occurs_step tb.nodes x) (length tb.nodes) local n p
    where
      local : (n : ℕ) → n < length tb.nodes → (h k : ℕ → Bool) → ((m : ℕ) → m < n → h m ≡ k m) →
          occurs_step tb.nodes x h n ≡ occurs_step tb.nodes x k n
      local n p h k e =
          let d : Node = node_at tb.nodes n in
          occurs_in_any_below tb n x (binds_here x d) h k e (fields_at d) (field_words d)
          (fields_right tb n (kind_at tb.nodes n) (field_words d) (right n p))

-- What is said of the root: z without nodes, otherwise what f says of the last node.
module _ {A : Type 0} (z : A) (f : ℕ → A) where
  pub no_root : (ns : List Node) → length ns ≡ 0 → of_root ns z f ≡ z
  no_root [] e = refl
  no_root (d ∷ ns) e = absurd (omega arith)

  pub some_root : (ns : List Node) → 0 < length ns → of_root ns z f ≡ f (last_node ns)
  some_root [] l = absurd (omega arith)
  some_root (d ∷ ns) l = refl

  pub by_root : (P : A → Type 0) (ns : List Node) → P z → (0 < length ns → P (f (last_node ns))) → P (of_root ns z f)
  by_root P [] h k = h
  by_root P (d ∷ ns) h k = k (omega arith)

-- A property of what may be absent, where it is there.
abbrev pub IfSome : {A : Type 0} → (A → Type 0) → Option A → Type 0
IfSome P nothing = Unit {0}
IfSome P (some a) = P a

-- So too of the condition, which is the root's tree.
module _ (tb : Table) where
  abbrev tree_at : ℕ → Pred
  tree_at n = pred_at (length tb.nodes) tb.nodes n

  abbrev pub root_tree : Pred
  root_tree = tree_at (last_node tb.nodes)

  pub no_condition : length tb.nodes ≡ 0 → condition_of tb ≡ nothing
  unfolding condition_of
  no_condition = no_root nothing (λ n. some (tree_at n)) tb.nodes

  pub some_condition : 0 < length tb.nodes → condition_of tb ≡ some root_tree
  unfolding condition_of
  some_condition = some_root nothing (λ n. some (tree_at n)) tb.nodes

  pub condition_has : (P : Pred → Type 0) → (0 < length tb.nodes → P root_tree) → IfSome P (condition_of tb)
  unfolding condition_of
  condition_has P h = by_root nothing (λ n. some (tree_at n)) (IfSome P) tb.nodes tt h
