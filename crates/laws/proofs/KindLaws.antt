-- Kind codes: a code has one kind, and a kind one code.
use Prim.Native.Nat.{ℕ, zero, suc, ◌+◌}
use mathlib.Core.Bool.{Bool, true, ◌&&◌}
use mathlib.Core.List.{List, [], ◌∷◌}
use mathlib.Core.Option.{Option, none as nothing, some}
use mathlib.Core.Path.{◌≡◌, refl, ap, sym, ◌∙◌}
use native.Mathlib.Omega.{arith}
use lib.Dec.{T, eqb, eqb→eq}
use lib.ListN.{get_or}
use Rattle.rules.specs.Types.{whole}
unfoldable use Rattle.rules.specs.Kinds.{kind_of}
use Rattle.rules.specs.Kinds.{Join, and, or, implies, iff, equal, member, subset, at_most, Quant, for_all, for_some, Leaf, identifier, given_set, element_of, literal, truth_const, empty_set, bool_set, singleton, power, dom, ran, card, choice, pairing, union, inter, diff, product, apply, plus, minus, interval, Kind, join, negation, test, quant, leaf, bool_of, one, two, comprehension, kinds}
use Rattle.rules.proofs.Basics.{absurd01}
use Rattle.laws.proofs.OrderLaws.{and_left, and_right}

-- Each kind with its code.
abbrev pub coded : (x : Kind) → (k : ℕ) × (get_or kinds k nothing ≡ some x)
coded (join and) = (1, refl)
coded (join or) = (2, refl)
coded (join implies) = (3, refl)
coded (join iff) = (5, refl)
coded negation = (4, refl)
coded (test equal) = (6, refl)
coded (test member) = (7, refl)
coded (test subset) = (8, refl)
coded (test (at_most whole)) = (9, refl)
coded (quant for_all) = (10, refl)
coded (quant for_some) = (11, refl)
coded (leaf identifier) = (20, refl)
coded (leaf given_set) = (21, refl)
coded (leaf element_of) = (22, refl)
coded (leaf (literal whole)) = (23, refl)
coded (leaf truth_const) = (24, refl)
coded (leaf empty_set) = (26, refl)
coded (leaf bool_set) = (42, refl)
coded bool_of = (25, refl)
coded (one singleton) = (27, refl)
coded (one power) = (33, refl)
coded (one dom) = (35, refl)
coded (one ran) = (36, refl)
coded (one card) = (38, refl)
coded (one choice) = (43, refl)
coded (two pairing) = (28, refl)
coded (two union) = (29, refl)
coded (two inter) = (30, refl)
coded (two diff) = (31, refl)
coded (two product) = (32, refl)
coded (two apply) = (37, refl)
coded (two (plus whole)) = (39, refl)
coded (two (minus whole)) = (40, refl)
coded (two interval) = (41, refl)
coded comprehension = (34, refl)

abbrev pub code_of : Kind → ℕ
code_of x = (coded x).0

abbrev pub join_code : Join → ℕ
join_code j = code_of (join j)

abbrev pub quant_code : Quant → ℕ
quant_code j = code_of (quant j)

-- The kinds of a list have the codes from i on.
abbrev listed : ℕ → List (Option Kind) → Bool
listed i [] = true
listed i (nothing ∷ ks) = listed (suc i) ks
listed i (some x ∷ ks) = eqb i (code_of x) && listed (suc i) ks

listed_at : (i : ℕ) (ks : List (Option Kind)) → T (listed i ks) → (n : ℕ) (x : Kind) → get_or ks n nothing ≡ some x → i + n ≡ code_of x
listed_at i [] t n x e = absurd01 (cc)
listed_at i (nothing ∷ ks) t zero x e = absurd01 (cc)
listed_at i (nothing ∷ ks) t (suc n) x e = let c = listed_at (suc i) ks t n x e in omega arith
listed_at i (some y ∷ ks) t zero x e =
    let d : y ≡ x = cc in omega (arith, ap code_of d, eqb→eq i (code_of y) (and_left (eqb i (code_of y)) (listed (suc i) ks) t))
listed_at i (some y ∷ ks) t (suc n) x e = let c = listed_at (suc i) ks (and_right (eqb i (code_of y)) (listed (suc i) ks) t) n x e in omega arith

-- The code of a kind, and the kind of a code.
pub code_of_law : (k : ℕ) (x : Kind) → kind_of k ≡ some x → k ≡ code_of x
unfolding kind_of
code_of_law k x e = let c = listed_at 0 kinds tt k x e in omega arith

pub kind_of_law : (k : ℕ) (x : Kind) → k ≡ code_of x → kind_of k ≡ some x
unfolding kind_of
kind_of_law k x e = ap kind_of e ∙ (coded x).1

-- A code has one kind.
pub same_kind : (k : ℕ) (x y : Kind) → k ≡ code_of x → kind_of k ≡ some y → x ≡ y
same_kind k x y e f = let d : some x ≡ some y = sym (kind_of_law k x e) ∙ f in cc

pub same_join : (k : ℕ) (i j : Join) → k ≡ join_code i → kind_of k ≡ some (join j) → i ≡ j
same_join k i j e f = cc (same_kind k (join i) (join j) e f)

pub same_leaf : (k : ℕ) (i j : Leaf) → k ≡ code_of (leaf i) → kind_of k ≡ some (leaf j) → i ≡ j
same_leaf k i j e f = cc (same_kind k (leaf i) (leaf j) e f)
