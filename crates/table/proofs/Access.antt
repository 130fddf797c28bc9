-- What the words of a table are, at the offsets where the code reads them.
use Prim.Native.Nat.{ℕ, zero, suc, ◌+◌, ◌*◌, ◌≤◌, ◌<◌}
use mathlib.Core.Bool.{Bool, ◌&&◌, cond}
use mathlib.Core.List.{List, map}
use mathlib.Core.Option.{Option, none as nothing, some}
use mathlib.Core.Path.{◌≡◌, refl, sym, ap, ◌∙◌}
use native.Mathlib.Omega.{arith}
use native.Mathlib.Decide.{dec_lt}
use lib.Dec.{eqb, leb, eqb→eq}
use lib.ListN.{length, get_or, get_or-eq_default, get_or-map}
use borrow.Author.Tests.{le-leb, lt-leb}
use Rattle.rules.specs.Kinds.{Kind, kinds, kind_of, Category, category_of, predicate, expression}
use Rattle.rules.specs.Tables.{word_at, node_from, table_of, node_at, field_words, given_count, identifier_count, node_count, nodes_at}
use Rattle.laws.proofs.TableLaws.{sizes_length, binds_entry, nodes_entry}
use Rattle.laws.proofs.EndLaws.{t_all_below}
use Rattle.table.specs.Layout.{NodeIn, WordOf}
use Rattle.std.specs.Prelude.{Option as Found, None, Some}
use Rattle.table.specs.declared.NodeCategory.{NodeCategory}
use Rattle.table.specs.declared.NodeCategory.TheVariants.{Predicate, Expression}
use Rattle.table.specs.Codes.{code_of, row_of, category_code, category_in_code, category_if}

pub size_none : (bs : List ℕ) (g n : ℕ) → n ≡ given_count bs → n ≤ g → 0 ≡ get_or (table_of bs).sizes g 0
size_none bs g n e h = sym (get_or-eq_default (table_of bs).sizes 0 (omega (arith, sizes_length bs)))

pub kind_read : (bs : List ℕ) (at n w : ℕ) → at ≡ nodes_at bs → n < node_count bs → w ≡ word_at bs (at + 16 * n) → w ≡ (node_at (table_of bs).nodes n).kind
unfolding node_from
kind_read bs at n w e h r = rw (nodes_entry bs n h, ← e) r

-- The offset that has been read off the header.
pub node_here : {bs : List ℕ} {at n : ℕ} → NodeIn bs (nodes_at bs) n → at ≡ word_at bs 24 → NodeIn bs at n
node_here h e = record { laid = record { header = h.laid.header; base = e ∙ h.laid.header.nodes_placed }; below = h.below }

pub bind_read : (bs : List ℕ) (x g w : ℕ) → g ≡ given_count bs → x < identifier_count bs → w ≡ word_at bs (32 + 4 * g + 4 * x) → WordOf bs x w
bind_read bs x g w e h r d = rw e at r ∙ sym (binds_entry bs x d h)

word_four : (bs : List ℕ) (at n w : ℕ) (i : ℕ) → w ≡ word_at bs (at + 16 * n + 4 + 4 * i) → (o : ℕ) → o ≡ 4 + 4 * i + (at + 16 * n) → w ≡ word_at bs o
word_four bs at n w i r o e = let x : at + 16 * n + 4 + 4 * i ≡ o = omega arith in rw x at r

pub field_read : (bs : List ℕ) (at n i w : ℕ) → at ≡ nodes_at bs → n < node_count bs → i < 3 → w ≡ word_at bs (at + 16 * n + 4 + 4 * i) →
    w ≡ get_or (field_words (node_at (table_of bs).nodes n)) i 0
unfolding node_from
field_read bs at n zero w e h l r = rw (nodes_entry bs n h, ← e) (word_four bs at n w 0 r (4 + (at + 16 * n)) (omega arith))
field_read bs at n (suc zero) w e h l r = rw (nodes_entry bs n h, ← e) (word_four bs at n w 1 r (8 + (at + 16 * n)) (omega arith))
field_read bs at n (suc (suc zero)) w e h l r = rw (nodes_entry bs n h, ← e) (word_four bs at n w 2 r (12 + (at + 16 * n)) (omega arith))
field_read bs at n (suc (suc (suc i))) w e h l r = absurd (omega arith)

-- The category of a kind code by the ranges of the codes.
abbrev pub by_range : ℕ → ℕ
by_range k = cond (leb 1 k && leb k 11) 1 (cond (leb 20 k && leb k 43) 2 0)

same_category : ℕ → Bool
unfolding kind_of
same_category k = eqb (by_range k) (category_code (kind_of k))

far_kind : (k : ℕ) → length kinds ≤ k → kind_of k ≡ nothing
unfolding kind_of
far_kind k h = get_or-eq_default kinds nothing {n = k} h

pub by_range_law : (k : ℕ) → by_range k ≡ category_code (kind_of k)
unfolding same_category kind_of
by_range_law k = go (dec_lt k (length kinds))
  where
    go : Dec (k < length kinds) → by_range k ≡ category_code (kind_of k)
    go (yes h) = eqb→eq (by_range k) (category_code (kind_of k)) ((t_all_below same_category (length kinds)).0 tt k h)
    go (no h) = rw (far_kind k (omega arith), lt-leb k 11 (omega arith), lt-leb k 43 (omega arith), le-leb 1 k (omega arith), le-leb 20 k (omega arith))

-- So the category that each range of kind codes has.
abbrev named : ℕ → Found NodeCategory
named zero = None
named (suc zero) = Some Predicate
named (suc (suc c)) = Some Expression

by_code : (o : Option Kind) (c : ℕ) → c ≡ category_code o → named c ≡ category_if o
by_code nothing c e = ap named e
by_code (some k) c e = ap named e ∙ go (category_of k)
  where
    go : (d : Category) → named (code_of d) ≡ Some (category_in_code d)
    go predicate = refl
    go expression = refl

module _ (k : ℕ) where
  pub category_predicate : 1 ≤ k → k ≤ 11 → Some Predicate ≡ category_if (kind_of k)
  category_predicate l h = by_code (kind_of k) 1 (rw (← by_range_law k, le-leb 1 k l, le-leb k 11 h))

  pub category_expression : 20 ≤ k → k ≤ 43 → Some Expression ≡ category_if (kind_of k)
  category_expression l h = by_code (kind_of k) 2 (rw (← by_range_law k, lt-leb k 11 (omega arith), le-leb 1 k (omega arith), le-leb 20 k l, le-leb k 43 h))

  pub category_below : k < 1 → None ≡ category_if (kind_of k)
  category_below h = by_code (kind_of k) 0 (rw (← by_range_law k, lt-leb 1 k h, lt-leb 20 k (omega arith)))

  pub category_between : 11 < k → k < 20 → None ≡ category_if (kind_of k)
  category_between l h = by_code (kind_of k) 0 (rw (← by_range_law k, lt-leb k 11 l, le-leb 1 k (omega arith), lt-leb 20 k h))

  pub category_above : 43 < k → None ≡ category_if (kind_of k)
  category_above h =
      by_code (kind_of k) 0 (rw (← by_range_law k, lt-leb k 11 (omega arith), lt-leb k 43 h, le-leb 1 k (omega arith), le-leb 20 k (omega arith)))

-- The rows of all kinds: the code's constant table is this list.
pub row_known : (k : ℕ) → get_or (map row_of kinds) k 0 ≡ row_of (kind_of k)
unfolding kind_of
row_known k = get_or-map row_of kinds k nothing

pub row_unknown : (k : ℕ) → length kinds ≤ k → 0 ≡ row_of (kind_of k)
row_unknown k h = rw (far_kind k h)
