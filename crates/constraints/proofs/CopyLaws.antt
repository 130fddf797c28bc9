-- Words put into an array from a place on: those that stand below the place are kept.
use Prim.Native.Nat.{ℕ, ◌+◌, ◌-◌, ◌≤◌, ◌<◌}
use mathlib.Core.List.{List, ◌++◌}
use mathlib.Core.Path.{◌≡◌, ap, subst, ◌∙◌}
use native.Mathlib.Omega.{arith}
use borrow.Rule.Slice.PartMut.{put_mid, post_of}
use lib.ListN.{get_or, length, take, drop, length-append, replicate, length-drop, get_or-append, length-replicate, get_or-replicate}
use lib.Seq.{get_or-take, get_or-append-add, length-take-le}
use Rattle.constraints.specs.Rules.{WordsCopied}

module _ (m : ℕ) (ws out part : List ℕ) (v k : ℕ) (e : k ≡ m) (same : part ≡ ws) (long : length ws ≡ m) (h : v + m ≤ length out) where
  before : length (take v out) ≡ v
  before = length-take-le v out (omega arith)

  part_long : length part ≡ m
  part_long = ap length same ∙ long

  after : length (post_of v k out) ≡ length out - v - k
  after = length-drop k (drop v out) ∙ ap (λ i. i - k) (length-drop v out)

  pub words_copied : WordsCopied m ws out (put_mid v k out part) v
  words_copied = record {
    out_length = omega (arith, part_long, before, after, length-append (take v out) (part ++ post_of v k out), length-append part (post_of v k out));
    kept_below = λ u l. get_or-append (take v out) (part ++ post_of v k out) 0 u (omega (arith, before)) ∙ get_or-take v out u 0 l;
    copied = λ i l. subst (λ j. get_or (put_mid v k out part) (j + i) 0 ≡ get_or ws i 0) before
        (get_or-append-add (take v out) (part ++ post_of v k out) i 0 ∙ get_or-append part (post_of v k out) 0 i (omega (arith, part_long))
        ∙ ap (λ x. get_or x i 0) same);
  }

-- Zeros put at the front.
pub opened : {zeros : List ℕ} {n : ℕ} (rest : List ℕ) → zeros ≡ replicate n 0 → {m : ℕ} → n ≡ m → (i : ℕ) → i < m → get_or (zeros ++ rest) i 0 ≡ 0
opened {zeros} {n} rest e q i l =
    let z : length zeros ≡ n = ap length e ∙ length-replicate n 0 in
    get_or-append zeros rest 0 i (omega arith) ∙ ap (λ x. get_or x i 0) e ∙ get_or-replicate n i 0 0 (omega arith)
