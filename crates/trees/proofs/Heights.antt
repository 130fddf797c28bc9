-- The height of a node by the heights that the code has for the nodes below it.
use Prim.Native.Nat.{ℕ, ◌+◌, ◌-◌, ◌≤◌, ◌<◌, max}
use mathlib.Core.Bool.{Bool, true, false, cond}
use mathlib.Core.List.{List, []}
use mathlib.Core.Logic.{◌≢◌}
use mathlib.Core.Path.{◌≡◌, refl, sym, ap, ◌∙◌}
use native.Mathlib.Decide.{ℕ_discrete}
use native.Mathlib.Omega.{arith}
use lib.ListN.{length, get_or, set}
use lib.Seq.{get_or-set_same, get_or-set_other}
use borrow.Author.Tests.{le-leb, lt-leb}
use Rattle.rules.specs.Kinds.{unused, is_child, kind_of}
use Rattle.rules.specs.Tables.{Node, table_of, node_at, fields_at, kept_if, held, node_count, last_node}
use Rattle.rules.specs.Reading.{tallest, height, height_limit, height_good}
use Rattle.rules.specs.Readable.{NodeRight}
use Rattle.laws.proofs.TableLaws.{tallest_kept, nodes_length, held_below, height_at, tallest_below, no_root, some_root}
use Rattle.table.specs.Layout.{Fielded, field_at}
use Rattle.trees.specs.Arrays.{child_at, Heights, root_height}
use Rattle.trees.proofs.Counting.{pick_three}

kept_three : (h : ℕ → ℕ) (b c d : Bool) (x y z : ℕ) →
    tallest h (kept_if b x (kept_if c y (kept_if d z []))) ≡ max (cond b (h x) 0) (max (cond c (h y) 0) (cond d (h z) 0))
unfolding tallest
kept_three h b c d x y z =
    omega (arith, tallest_kept h b x (kept_if c y (kept_if d z [])), tallest_kept h c y (kept_if d z []), tallest_kept h d z [])

-- The tallest child is the tallest of those in the three fields.
pub tallest_held : (h : ℕ → ℕ) (bs : List ℕ) (n p q r s t : ℕ) →
    p ≡ cond (child_at bs n 0) (h (field_at bs n 0)) 0 → q ≡ cond (child_at bs n 1) (h (field_at bs n 1)) 0 →
    r ≡ cond (child_at bs n 2) (h (field_at bs n 2)) 0 → s ≡ max q r → t ≡ max p s →
    t ≡ tallest h (held is_child (node_at (table_of bs).nodes n))
unfolding held
tallest_held h bs n p q r s t ep eq er es et =
    let d : Node = node_at (table_of bs).nodes n in
    omega (
      arith,
      ap (tallest h) (pick_three is_child refl (kind_of d.kind) d.a d.b d.c),
      kept_three h (is_child (get_or (fields_at d) 0 unused)) (is_child (get_or (fields_at d) 1 unused)) (is_child (get_or (fields_at d) 2 unused)) d.a d.b d.c,
    )

module _ (bs : List ℕ) (at n : ℕ) (f : Fielded bs at) (below : n < node_count bs) (hs : List ℕ) (heights : Heights bs n hs) (t : ℕ)
    (is : t ≡ tallest (λ m. get_or hs m 0) (held is_child (node_at (table_of bs).nodes n))) where
  -- The height of the next node,
  pub height_next : height (table_of bs).nodes n ≡ t + 1
  height_next =
      let ns = (table_of bs).nodes in
      let d : Node = node_at ns n in
      let r : (m : ℕ) → m < length ns → NodeRight (table_of bs) m = λ m l. f.fields m (omega (arith, nodes_length bs)) in
      omega (
        arith,
        is,
        height_at (table_of bs) r n (omega (arith, nodes_length bs)),
        tallest_below n (λ m. get_or hs m 0) (height ns) heights (held is_child d) (held_below (table_of bs) n (f.fields n below)),
      )

  -- whether it is good,
  pub height_high : height_limit ≤ t → height_good (table_of bs) n ≡ false
  unfolding height_good
  height_high l = lt-leb (height (table_of bs).nodes n) height_limit (omega (arith, height_next))

  pub height_low : t < height_limit → height_good (table_of bs) n ≡ true
  unfolding height_good
  height_low l = le-leb (height (table_of bs).nodes n) height_limit (omega (arith, height_next))

  -- and the heights with it.
  pub heights_more : n < length hs → Heights bs (n + 1) (set hs n (t + 1))
  heights_more long m l = go (ℕ_discrete m n)
    where
      go : Dec (m ≡ n) → get_or (set hs n (t + 1)) m 0 ≡ height (table_of bs).nodes m
      go (yes e) = rw (e, get_or-set_same hs n (t + 1) 0 long) (sym height_next)
      go (no e) = get_or-set_other hs n m (t + 1) 0 e ∙ heights m (omega arith)

-- Where all nodes have their heights, so has the root, if there is one.
module _ (bs : List ℕ) (count : ℕ) (is : count ≡ node_count bs) where
  pub root_height_law : (hs : List ℕ) → Heights bs (node_count bs) hs → count ≢ 0 → get_or hs (count - 1) 0 ≡ root_height (table_of bs)
  unfolding last_node
  root_height_law hs heights some =
      let ns = (table_of bs).nodes in
      let last : count - 1 ≡ length ns - 1 = omega (arith, nodes_length bs) in
      heights (count - 1) (omega (arith, some)) ∙ ap (height ns) last ∙ sym (some_root 0 (height ns) ns (omega (arith, nodes_length bs, some)))

  pub no_height : count ≡ 0 → 0 ≡ root_height (table_of bs)
  no_height none = sym (no_root 0 (height (table_of bs).nodes) (table_of bs).nodes (omega (arith, nodes_length bs)))
