-- A cell at a place of the buffer, and its form in the arena.
use Prim.Native.Nat.{ℕ, zero, suc, ◌+◌, ◌*◌, ◌-◌, ◌/◌, ◌%◌, ◌≤◌, ◌<◌}
use mathlib.Core.Bool.{Bool, true, false}
use mathlib.Core.Logic.Iff
use mathlib.Core.Logic.{◌↔◌}
use mathlib.Core.List.{List}
use mathlib.Core.Path.{◌≡◌, refl, sym, ap, ◌∙◌}
use native.Mathlib.Omega.{arith}
use native.Mathlib.Decide.{dec_lt, ℕ_discrete}
use native.Mathlib.Nat.{add-zero}
use lib.Dec.{T, eqb, leb}
use lib.ListN.{length, get_or, drop, length-drop}
use lib.Seq.{get_or-drop}
use borrow.Author.Tests.{eq-eqb, ne_eqb, lt-leb, le-leb}
use Rattle.rules.specs.Tables.{word_at}
use Rattle.std.proofs.Common.{None}
use Rattle.laws.proofs.EndLaws.{T_true, T_false, T_and, t_leb, t_eqb}
use Rattle.buffer.specs.Buffer.{cell_first, first_cell, arena_cell, tag_good, cell_good, GoodCell, StepTakes}

word_drop : (bs : List ℕ) (at k : ℕ) → word_at bs (at + k) ≡ word_at (drop at bs) k
word_drop bs at k =
    let e₁ : 1 + (at + k) ≡ at + (1 + k) = omega arith in
    let e₂ : 2 + (at + k) ≡ at + (2 + k) = omega arith in
    let e₃ : 3 + (at + k) ≡ at + (3 + k) = omega arith in
    rw (e₁, e₂, e₃) (omega (arith, get_or-drop at bs k 0, get_or-drop at bs (1 + k) 0, get_or-drop at bs (2 + k) 0, get_or-drop at bs (3 + k) 0))

-- A cell: there are eight bytes, and the last three are zero.
pub first_right : (ds : List ℕ) → T (cell_first ds) ↔ ((8 ≤ length ds) × (get_or ds 5 0 + get_or ds 6 0 + get_or ds 7 0 ≡ 0))
first_right ds = simp (T_and, t_leb, t_eqb) Iff.rfl

pub cell_held : (bs : List ℕ) (at : ℕ) → T (cell_first (drop at bs)) → 8 ≤ length bs - at
cell_held bs at h = omega (arith, ((first_right (drop at bs)).0 h).0, length-drop at bs)

pub cell_short : (gs bs : List ℕ) (at : ℕ) → length bs < at + 8 → StepTakes gs bs at None
cell_short gs bs at l h k = omega (arith, cell_held bs at h)

-- Good cells, by the tag.
pub good_by : (gs : List ℕ) (x t p k : ℕ) → t ≡ x / 4294967296 → p ≡ x % 4294967296 → t ≡ k → tag_good gs k p ≡ cell_good gs x
unfolding cell_good
good_by gs x t p k e f g = rw (← g, e, f)

-- A number's cell, or one with no tag; and a pair's.
pub good_number : (gs : List ℕ) (x : ℕ) → x < 8589934592 → leb 4294967296 x ≡ cell_good gs x
good_number gs x h = go (dec_lt x 4294967296)
  where
    go : Dec (x < 4294967296) → leb 4294967296 x ≡ cell_good gs x
    go (yes l) = lt-leb 4294967296 x l ∙ good_by gs x _ _ 0 refl refl (omega (arith, l))
    go (no l) = le-leb 4294967296 x (omega (arith, l)) ∙ good_by gs x _ _ 1 refl refl (omega (arith, l, h))

pub good_pair : (gs : List ℕ) (x : ℕ) → x ≡ 17179869184 → true ≡ cell_good gs x
good_pair gs x h =
    let p : x % 4294967296 ≡ 0 = omega (arith, h) in
    sym (eq-eqb (x % 4294967296) 0 p) ∙ good_by gs x _ _ 4 refl refl (omega (arith, h))

-- The others.
pub good_last : (gs : List ℕ) (t p : ℕ) → 1 < t → (t ≡ 2 → ⊥) → (t ≡ 3 → ⊥) → (t ≡ 4 → p ≡ 0 → ⊥) → eqb t 5 ≡ tag_good gs t p
good_last gs zero p a b c d = absurd (omega (arith, a))
good_last gs (suc zero) p a b c d = absurd (omega (arith, a))
good_last gs (suc (suc zero)) p a b c d = absurd (b refl)
good_last gs (suc (suc (suc zero))) p a b c d = absurd (c refl)
good_last gs (suc (suc (suc (suc zero)))) p a b c d = sym (ne_eqb p 0 (d refl))
good_last gs (suc (suc (suc (suc (suc zero))))) p a b c d = refl
good_last gs (suc (suc (suc (suc (suc (suc n)))))) p a b c d = ne_eqb (suc (suc (suc (suc (suc (suc n)))))) 5 (λ e. omega arith)

-- The cell of two words, good or not; and one that is none.
module _ (gs bs : List ℕ) (at p q : ℕ) (low : p ≡ word_at bs at) (high : q ≡ word_at bs (at + 4)) where
  -- the second is the tag, and the three bytes that are to be zero
  words : (p ≡ word_at (drop at bs) 0) × (q ≡ word_at (drop at bs) 4)
  words = (low ∙ ap (word_at bs) (sym (add-zero at)) ∙ word_drop bs at 0, high ∙ word_drop bs at 4)

  cell_number : T (cell_first (drop at bs)) → p + 4294967296 * q ≡ first_cell (drop at bs)
  cell_number h = omega (arith, ((first_right (drop at bs)).0 h).1, words)

  pub cell_bad : {r : Bool} → r ≡ cell_good gs (p + 4294967296 * q) → r ≡ false → StepTakes gs bs at None
  cell_bad e f h k = (T_false (cell_good gs (p + 4294967296 * q))).1 (sym e ∙ f) (rw (cell_number h) k)

  pub cell_marked : get_or bs (at + 4) 0 < 256 → 256 ≤ q → StepTakes gs bs at None
  cell_marked l h k g = omega (arith, ((first_right (drop at bs)).0 k).1, words, get_or-drop at bs 4 0)

  pub cell_good_law : {r : Bool} → at + 8 ≤ length bs → q < 256 → r ≡ cell_good gs (p + 4294967296 * q) → r ≡ true →
      GoodCell gs bs at (p + 4294967296 * q) (at + 8)
  cell_good_law l z e f =
      let w = words in
      let h = (first_right (drop at bs)).1 (omega (arith, length-drop at bs), omega arith) in
      record { here = h; number = cell_number h; good = (T_true (cell_good gs (p + 4294967296 * q))).1 (sym e ∙ f); behind = refl }

pub code_number : (x t l : ℕ) → t ≡ x / 4294967296 → t ≡ 1 → l ≡ x % 4294967296 → 4294967296 + (l + 2147483648) % 4294967296 ≡ arena_cell x
unfolding arena_cell
code_number x t l e f g = rw (eq-eqb (x / 4294967296) 1 (sym e ∙ f), g)

pub code_other : (x t : ℕ) → t ≡ x / 4294967296 → (t ≡ 1 → ⊥) → x ≡ arena_cell x
unfolding arena_cell
code_other x t e n = rw (ne_eqb (x / 4294967296) 1 (λ f. n (e ∙ f)))

-- So numbers go from one form to the other and back.
pub arena_cell_twice : (x : ℕ) → arena_cell (arena_cell x) ≡ x
arena_cell_twice x = go (ℕ_discrete (x / 4294967296) 1)
  where
    y : ℕ
    y = 4294967296 + (x % 4294967296 + 2147483648) % 4294967296

    go : Dec (x / 4294967296 ≡ 1) → arena_cell (arena_cell x) ≡ x
    go (yes e) = ap arena_cell (sym (code_number x _ _ refl e refl)) ∙ sym (code_number y _ _ refl (omega arith) refl) ∙ omega arith
    go (no n) = let e = sym (code_other x _ refl n) in ap arena_cell e ∙ e
