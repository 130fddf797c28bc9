-- The tree that the nodes of a table make, as Binding.antt says it of places: which node holds a word, by the count over all
-- nodes; a child by the field that holds it; and, where each node but the last is a child once (7) and below its parent (6),
-- one parent for each of them and no node common to the trees of two children.
use Prim.Native.Nat.{ℕ, zero, suc, ◌+◌, ◌≤◌, ◌<◌}
use mathlib.Core.Bool.{Bool, true, false}
use mathlib.Core.List.{List, [], ◌∷◌, ◌++◌}
use mathlib.Core.Logic.{◌⊎◌, inl, inr}
use mathlib.Core.Path.{◌≡◌, refl, sym, subst, subst₂}
use native.Mathlib.Decide.{ℕ_discrete, dec_lt}
use native.Mathlib.Omega.{arith}
use lib.Dec.{eqb, eqb→eq, eqb_refl}
use lib.ListN.{length}
use Rattle.rules.specs.Kinds.{Category, is_child}
use Rattle.rules.specs.Kinds.{Field, unused, child, use_of, binder_of, set_number, element_number, any_word, truth_bit}
use Rattle.rules.specs.Tables.{Node, Table, node_at, fields_at, field_words, kept_if, pick, held, held_in, last_node}
use Rattle.rules.specs.Reading.{occurrences}
use Rattle.rules.specs.Readable.{FieldRight, FieldsRight, NodeRight}
use Rattle.rules.specs.Binding.{ChildOf, InTree, top, under}
use Rattle.rules.proofs.Basics.{absurd01}
use Rattle.laws.proofs.EndLaws.{T_true}
use Rattle.laws.proofs.TableLaws.{child_below}

pub occurrences_append : (m : ℕ) (xs ys : List ℕ) → occurrences m (xs ++ ys) ≡ occurrences m xs + occurrences m ys
unfolding occurrences
occurrences_append m [] ys = omega arith
occurrences_append m (x ∷ xs) ys = omega (arith, occurrences_append m xs ys)

-- How often the nodes hold a word in fields of a sort, by how often each does.
module _ (p : Field → Bool) (m : ℕ) where
  -- A word that occurs stands in some node.
  pub holder : (ns : List Node) → 1 ≤ occurrences m (held_in p ns) → (i : ℕ) × (i < length ns) × (1 ≤ occurrences m (held p (node_at ns i)))
  unfolding held_in occurrences
  holder [] h = absurd (omega arith)
  holder (d ∷ ns) h = go (dec_lt 0 (occurrences m (held p d))) (λ q. holder ns q)
    where
      go : Dec (0 < occurrences m (held p d)) →
          (1 ≤ occurrences m (held_in p ns) → (i : ℕ) × (i < length ns) × (1 ≤ occurrences m (held p (node_at ns i)))) →
          (i : ℕ) × (i < length (d ∷ ns)) × (1 ≤ occurrences m (held p (node_at (d ∷ ns) i)))
      go (yes l) f = (0, omega arith, l)
      go (no l) f = let r = f (omega (arith, occurrences_append m (held p d) (held_in p ns))) in (suc r.0, omega arith, r.2)

  -- No node holds it more often than all together,
  pub one_held : (ns : List Node) (i : ℕ) → i < length ns → occurrences m (held p (node_at ns i)) ≤ occurrences m (held_in p ns)
  unfolding held_in
  one_held [] i h = absurd (omega arith)
  one_held (d ∷ ns) zero h = omega (arith, occurrences_append m (held p d) (held_in p ns))
  one_held (d ∷ ns) (suc i) h = omega (arith, occurrences_append m (held p d) (held_in p ns), one_held ns i (omega arith))

  -- two nodes that hold it make two occurrences,
  pub two_held : (ns : List Node) (i j : ℕ) → i < length ns → j < length ns → (i ≡ j → ⊥) →
      1 ≤ occurrences m (held p (node_at ns i)) → 1 ≤ occurrences m (held p (node_at ns j)) → 2 ≤ occurrences m (held_in p ns)
  unfolding held_in
  two_held [] i j k l e g h = absurd (omega arith)
  two_held (d ∷ ns) zero zero k l e g h = absurd (e refl)
  two_held (d ∷ ns) zero (suc j) k l e g h = omega (arith, occurrences_append m (held p d) (held_in p ns), one_held ns j (omega arith))
  two_held (d ∷ ns) (suc i) zero k l e g h = omega (arith, occurrences_append m (held p d) (held_in p ns), one_held ns i (omega arith))
  two_held (d ∷ ns) (suc i) (suc j) k l e g h =
      omega (arith, occurrences_append m (held p d) (held_in p ns), two_held ns i j (omega arith) (omega arith) (λ q. e (omega arith)) g h)

  -- and where one node alone holds it, its occurrences are all.
  pub only_held : (ns : List Node) (i : ℕ) → i < length ns →
      ((j : ℕ) → j < length ns → 1 ≤ occurrences m (held p (node_at ns j)) → j ≡ i) →
      occurrences m (held_in p ns) ≡ occurrences m (held p (node_at ns i))
  unfolding held_in
  only_held [] i h f = absurd (omega arith)
  only_held (d ∷ ns) zero h f = go (dec_lt 0 (occurrences m (held_in p ns)))
    where
      go : Dec (0 < occurrences m (held_in p ns)) → occurrences m (held p d ++ held_in p ns) ≡ occurrences m (held p d)
      go (yes l) = let r = holder ns l in absurd (omega (arith, f (suc r.0) (omega arith) r.2))
      go (no l) = omega (arith, occurrences_append m (held p d) (held_in p ns))
  only_held (d ∷ ns) (suc i) h f =
      go (dec_lt 0 (occurrences m (held p d))) (only_held ns i (omega arith) (λ j l k. omega (arith, f (suc j) (omega arith) k)))
    where
      go : Dec (0 < occurrences m (held p d)) → occurrences m (held_in p ns) ≡ occurrences m (held p (node_at ns i)) →
          occurrences m (held p d ++ held_in p ns) ≡ occurrences m (held p (node_at ns i))
      go (yes l) e = absurd (omega (arith, f 0 (omega arith) l))
      go (no l) e = omega (arith, occurrences_append m (held p d) (held_in p ns))

-- A field f among fs holds the word y of ys.
abbrev pub InFields : Field → ℕ → List Field → List ℕ → Type 0
InFields f y [] ys = ⊥
InFields f y (g ∷ fs) [] = ⊥
InFields f y (g ∷ fs) (z ∷ ys) = ((g ≡ f) × (z ≡ y)) ⊎ InFields f y fs ys

kept_least : (m : ℕ) (b : Bool) (x : ℕ) (xs : List ℕ) → occurrences m xs ≤ occurrences m (kept_if b x xs)
unfolding occurrences
kept_least m true x xs = omega arith
kept_least m false x xs = omega arith

-- It is among the words of a sort exactly where it is in a field of that sort.
pub field_picked : (p : Field → Bool) (f : Field) (y : ℕ) → p f ≡ true → (fs : List Field) (ys : List ℕ) → InFields f y fs ys →
    1 ≤ occurrences y (pick p fs ys)
unfolding occurrences
field_picked p f y e [] ys h = absurd h
field_picked p f y e (g ∷ fs) [] h = absurd h
field_picked p f y e (g ∷ fs) (z ∷ ys) (inl q) = rw (q.0, e, q.1, (T_true (eqb y y)).0 (eqb_refl y)) (omega arith)
field_picked p f y e (g ∷ fs) (z ∷ ys) (inr q) = omega (arith, field_picked p f y e fs ys q, kept_least y (p g) z (pick p fs ys))

pub picked_field : (p : Field → Bool) (y : ℕ) (fs : List Field) (ys : List ℕ) → 1 ≤ occurrences y (pick p fs ys) →
    (f : Field) × (p f ≡ true) × InFields f y fs ys
unfolding occurrences
picked_field p y [] ys h = absurd (omega arith)
picked_field p y (g ∷ fs) [] h = absurd (omega arith)
picked_field p y (g ∷ fs) (z ∷ ys) h = go (p g) refl (eqb y z) refl (λ q. picked_field p y fs ys q)
  where
    later : ((f : Field) × (p f ≡ true) × InFields f y fs ys) → (f : Field) × (p f ≡ true) × InFields f y (g ∷ fs) (z ∷ ys)
    later r = (r.0, r.1, inr r.2)

    go : (b : Bool) → p g ≡ b → (c : Bool) → eqb y z ≡ c →
        (1 ≤ occurrences y (pick p fs ys) → (f : Field) × (p f ≡ true) × InFields f y fs ys) →
        (f : Field) × (p f ≡ true) × InFields f y (g ∷ fs) (z ∷ ys)
    go false e c q k = later (k (rw e at h))
    go true e true q k = (g, e, inl (refl, sym (eqb→eq y z (rw q tt))))
    go true e false q k = later (k (omega (arith, rw (e, q) at h)))

-- Among right fields it is right.
pub in_right : (tb : Table) (n : ℕ) (f : Field) (y : ℕ) (fs : List Field) (ys : List ℕ) → FieldsRight tb n fs ys → InFields f y fs ys → FieldRight tb n f y
in_right tb n f y [] ys r h = absurd h
in_right tb n f y (g ∷ fs) [] r h = absurd h
in_right tb n f y (g ∷ fs) (z ∷ ys) r (inl q) = subst₂ (FieldRight tb n) q.0 q.1 r.0
in_right tb n f y (g ∷ fs) (z ∷ ys) r (inr q) = in_right tb n f y fs ys r.1 q

-- The field f of node n holds y.
abbrev pub HasField : List Node → ℕ → Field → ℕ → Type 0
HasField ns n f y = InFields f y (fields_at (node_at ns n)) (field_words (node_at ns n))

-- A child is what a field for a child holds.
module _ (ns : List Node) (n m : ℕ) where
  pub held_field : ChildOf ns n m → (c : Category) × HasField ns n (child c) m
  unfolding held
  held_field h = let r = picked_field is_child m (fields_at (node_at ns n)) (field_words (node_at ns n)) h.1 in go r.0 r.1 r.2
    where
      go : (f : Field) → is_child f ≡ true → HasField ns n f m → (c : Category) × HasField ns n (child c) m
      go unused e i = absurd01 (cc)
      go (child c) e i = (c, i)
      go use_of e i = absurd01 (cc)
      go binder_of e i = absurd01 (cc)
      go set_number e i = absurd01 (cc)
      go element_number e i = absurd01 (cc)
      go any_word e i = absurd01 (cc)
      go truth_bit e i = absurd01 (cc)

  pub field_held : (c : Category) → n < length ns → HasField ns n (child c) m → ChildOf ns n m
  unfolding held
  field_held c l i = (l, field_picked is_child (child c) m refl (fields_at (node_at ns n)) (field_words (node_at ns n)) i)

-- A tree grows at its top.
pub tree_above : (ns : List Node) {p n m : ℕ} → ChildOf ns p n → InTree ns n m → InTree ns p m
tree_above ns h top = under top h
tree_above ns h (under t k) = under (tree_above ns h t) k

-- A node in a tree is its top or a child in it.
pub tree_split : (ns : List Node) {n m : ℕ} → InTree ns n m → (n ≡ m) ⊎ ((p : ℕ) × InTree ns n p × ChildOf ns p m)
tree_split ns top = inl refl
tree_split ns (under {p} t k) = inr (p, t, k)

-- A table whose nodes pass 6, and 7 but for the root's category.
module _ (tb : Table) (right : (n : ℕ) → n < length tb.nodes → NodeRight tb n)
    (once : (n : ℕ) → n < last_node tb.nodes → occurrences n (held_in is_child tb.nodes) ≡ 1) where
  -- A child is below its parent, so it is not the last node,
  pub child_lower : (p m : ℕ) → ChildOf tb.nodes p m → (m < p) × (m < last_node tb.nodes)
  unfolding last_node
  child_lower p m h = let l : m < p = child_below tb p m (right p h.0) h.1 in (l, omega arith)

  -- it has one parent,
  pub one_parent : (p q m : ℕ) → ChildOf tb.nodes p m → ChildOf tb.nodes q m → p ≡ q
  one_parent p q m g h = go (ℕ_discrete p q)
    where
      go : Dec (p ≡ q) → p ≡ q
      go (yes e) = e
      go (no e) =
          absurd (omega (arith, two_held is_child m tb.nodes p q g.0 h.0 e g.1 h.1, once m (child_lower p m g).1))

  -- and every node but the last has one.
  pub parent : (m : ℕ) → m < last_node tb.nodes → (p : ℕ) × ChildOf tb.nodes p m
  parent m l = let r = holder is_child m tb.nodes (omega (arith, once m l)) in (r.0, (r.1, r.2))

  -- A tree holds no node above its top, and the trees of two children of a node have no node in common.
  tree_lower : (n m : ℕ) → InTree tb.nodes n m → m ≤ n
  tree_lower n m top = omega arith
  tree_lower n m (under {p} t k) = omega (arith, tree_lower n p t, child_lower p m k)

  pub trees_apart : (n i j u : ℕ) → ChildOf tb.nodes n i → ChildOf tb.nodes n j → (i ≡ j → ⊥) →
      InTree tb.nodes i u → InTree tb.nodes j u → ⊥
  trees_apart n i j u g h e top t = go (tree_split tb.nodes t)
    where
      go : (j ≡ i) ⊎ ((p : ℕ) × InTree tb.nodes j p × ChildOf tb.nodes p i) → ⊥
      go (inl q) = e (sym q)
      go (inr (p, s, k)) = omega (arith, tree_lower j p s, one_parent p n i k g, child_lower n j h)
  trees_apart n i j u g h e (under {p} s k) t = go (tree_split tb.nodes t) (trees_apart n i j p g h e s)
    where
      go : (j ≡ u) ⊎ ((q : ℕ) × InTree tb.nodes j q × ChildOf tb.nodes q u) → (InTree tb.nodes j p → ⊥) → ⊥
      go (inl q) f = omega (arith, tree_lower i p s, one_parent p n j (rw q k) h, child_lower n i g)
      go (inr (q, r, l)) f = f (subst (λ q. InTree tb.nodes j q) (one_parent q p u l k) r)
