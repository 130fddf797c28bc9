-- Merges of rows of cells.
use Rattle.std.specs.Prelude.{ℕ, ◌+◌, ◌*◌, ◌-◌, ◌≤◌, ◌<◌, Bool, List, ◌⊎◌, ◌≡◌, leb, length, get_or}
use mir.Val.{bool_byte}
use Rattle.sets.specs.Rows.{TwoRows}
use Rattle.merging.specs.Walks.{Walking}
use Rattle.merging.specs.declared.CellTurn.{CellTurn}
use Rattle.merging.specs.declared.Place.{Place}

-- k is 1 where the lesser of the first cells x and y is kept, 0 where it is not.
pub record Kept (l e r : Bool) (x y k : ℕ) : Type 0 where
  pub less : x < y → k ≡ bool_byte l
  pub equal : x ≡ y → k ≡ bool_byte e
  pub greater : y < x → k ≡ bool_byte r

-- A turn of a walk over both: the lesser of the first cells, whether it is kept, and by how many cells both rows move on.
pub record CellTurned (l e r : Bool) (x y : ℕ) (t : CellTurn) : Type 0 where
  pub lesser : (x ≤ y → t.cell ≡ x) × (y < x → t.cell ≡ y)
  pub kept : Kept l e r x y t.keep
  pub left : t.left ≡ bool_byte (leb x y)
  pub right : t.right ≡ bool_byte (leb y x)

-- They are merged above `top`.
pub record RowsBelow (s : List ℕ) (a m b n top : ℕ) : Type 0 where
  pub rows : TwoRows s a m b n top
  pub room : top + 514 ≤ length s

-- r of m cells from a on come before the first of n from b on.
pub record Ahead (s : List ℕ) (a m b n r : ℕ) : Type 0 where
  pub few : r ≤ m
  pub some : 0 < r → 0 < n
  pub less : (i : ℕ) → i < r → get_or s (a + 1 * i) 0 < get_or s b 0

-- A merge of m cells from a on and n from b on that has come to i and j; `count` have been built in so many turns.
pub record RowMerge (l e r : Bool) (s₀ : List ℕ) (a m b n top : ℕ) (s : List ℕ) (i j to turns : ℕ) : Type 0 where
  pub below : RowsBelow s₀ a m b n top
  pub on_left : (a ≤ i) × (i ≤ a + m)
  pub on_right : (b ≤ j) × (j ≤ b + n)
  pub count : ℕ
  pub count_is : to ≡ top + 1 + count
  pub few : count ≤ (i - a) + (j - b)
  pub few_turns : turns ≤ (i - a) + (j - b)
  pub walking : Walking l e r s₀ a m b n top s (record {
    fronts = record { a = i; m = a + m - i; b = j; n = b + n - j };
    out = record { to = to; count = count };
    turns = turns;
  })

-- The merge with which `merge_cells` goes on from w, whether it keeps cells of both sets or not.
abbrev pub FrontsMerge : Bool → Bool → List ℕ → ℕ → ℕ → ℕ → ℕ → ℕ → List ℕ → Place → Type 0
FrontsMerge l r s a m b n top s' w = (e : Bool) → RowMerge l e r s a m b n top s' w.a w.b w.to w.turns

-- Some merge has come to w; its rows end at `end` and `end2`.
pub record SomeRowMerge (l e r : Bool) (s : List ℕ) (w : Place) (end end2 : ℕ) : Type 0 where
  pub start : List ℕ
  pub a : ℕ
  pub m : ℕ
  pub b : ℕ
  pub n : ℕ
  pub top : ℕ
  pub merge : RowMerge l e r start a m b n top s w.a w.b w.to w.turns
  pub ends : end ≡ a + m
  pub ends2 : end2 ≡ b + n

-- Each merge that had come to w has come to w', and one of its rows is exhausted.
pub record RowsWalked (l e r : Bool) (s : List ℕ) (w : Place) (end end2 : ℕ) (s' : List ℕ) (w' : Place) : Type 0 where
  pub kept : length s' ≡ length s
  pub on : (s₀ : List ℕ) (a m b n top : ℕ) → RowMerge l e r s₀ a m b n top s w.a w.b w.to w.turns → end ≡ a + m → end2 ≡ b + n →
      RowMerge l e r s₀ a m b n top s' w'.a w'.b w'.to w'.turns × ((a + m ≤ w'.a) ⊎ (b + n ≤ w'.b))
