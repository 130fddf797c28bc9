-- Document 02, N2: when the test `is_function` of 37 passes. It fails exactly where two different members of f share a first part, so
-- it passes exactly where members that share one are equal.
use mathlib.Core.Bool.{Bool, true, false, not}
use mathlib.Core.Logic.{◌↔◌}
use mathlib.Core.Path.{◌≡◌, refl, subst}
use lib.Dec.{T, T_not, not_T}
use Rattle.rules.specs.Values.{Value, same}
use Rattle.rules.specs.Operations.{left, elems, any_of, shares_first, is_function}
use Rattle.rules.proofs.Basics.{and_of, and_split}
use Rattle.laws.proofs.OrderLaws.{Small, same_eq, same_refl}
use Rattle.laws.proofs.SetOrder.{All}
use Rattle.laws.proofs.Membership.{In, all_in_law, left_small, any_of_right}

shares_right : (x y : Value) → Small x → Small y → T (shares_first x y) ↔ ((x ≡ y → ⊥) × (left x ≡ left y))
unfolding shares_first
shares_right x y h k = (
  λ t. let q = and_split (not (same x y)) (same (left x) (left y)) t in (
    λ e. T_not (same x y) q.0 (subst (λ (z : Value). T (same x z)) e (same_refl x)),
    same_eq (left x) (left y) (left_small x h) (left_small y k) q.1,
  ),
  λ q. and_of (not (same x y)) (same (left x) (left y)) (not_T (same x y) (λ t. q.0 (same_eq x y h k t)))
      (subst (λ (z : Value). T (same (left x) z)) q.1 (same_refl (left x))),
)

-- Two different members of f share a first part.
abbrev pub SharedFirst : Value → Type 0
SharedFirst f = (x : Value) × (y : Value) × In x (elems f) × In y (elems f) × (x ≡ y → ⊥) × (left x ≡ left y)

module _ (f : Value) (small : All Small (elems f)) where
  -- What `is_function` denies.
  abbrev some_shared : Bool
  some_shared = any_of (λ x. any_of (shares_first x) (elems f)) (elems f)

  member_small : (x : Value) → In x (elems f) → Small x
  member_small x i = all_in_law Small x (elems f) small i

  shared_right : T some_shared ↔ SharedFirst f
  shared_right = (λ t. there t, λ s. back s)
    where
      there : T some_shared → SharedFirst f
      there t =
          let m = (any_of_right (λ x. any_of (shares_first x) (elems f)) (elems f)).0 t in
          let n = (any_of_right (shares_first m.0) (elems f)).0 m.2 in
          let s = (shares_right m.0 n.0 (member_small m.0 m.1) (member_small n.0 n.1)).0 n.2 in
          (m.0, n.0, m.1, n.1, s.0, s.1)

      back : SharedFirst f → T some_shared
      back (x, y, i, j, d, e) =
          let s = (shares_right x y (member_small x i) (member_small y j)).1 (d, e) in
          (any_of_right (λ z. any_of (shares_first z) (elems f)) (elems f)).1 (x, i, (any_of_right (shares_first x) (elems f)).1 (y, j, s))

  pub no_function_right : T (not (is_function f)) ↔ SharedFirst f
  unfolding is_function
  no_function_right = let r = twice some_shared in (λ t. shared_right.0 (r.0 t), λ s. r.1 (shared_right.1 s))
    where
      twice : (b : Bool) → T (not (not b)) ↔ T b
      twice true = (λ t. t, λ t. t)
      twice false = (λ t. t, λ t. t)

  pub function_right : T (is_function f) ↔ ((x y : Value) → In x (elems f) → In y (elems f) → left x ≡ left y → x ≡ y)
  unfolding is_function
  function_right = (
    λ t x y i j e. there t x y i j e (same x y) refl,
    λ g. not_T some_shared (λ t. let s = shared_right.0 t in s.4 (g s.0 s.1 s.2 s.3 s.5)),
  )
    where
      there : T (not some_shared) → (x y : Value) → In x (elems f) → In y (elems f) → left x ≡ left y → (b : Bool) → same x y ≡ b → x ≡ y
      there t x y i j e true q = same_eq x y (member_small x i) (member_small y j) (rw q tt)
      there t x y i j e false q =
          let d : x ≡ y → ⊥ = λ z. subst T q (subst (λ (w : Value). T (same x w)) z (same_refl x)) in
          absurd (T_not some_shared t (shared_right.1 (x, y, i, j, d, e)))
