-- Places and their variables: a place below I + k has a variable below base k, and its type is that variable's.
use Prim.Native.Nat.{ℕ, ◌+◌, ◌-◌, ◌<◌}
use mathlib.Core.Bool.{false}
use mathlib.Core.Logic.{inl, inr}
use mathlib.Core.Path.{◌≡◌, refl, sym, ap, ◌∙◌, subst}
use native.Mathlib.Decide.{dec_lt}
use native.Mathlib.Omega.{arith}
use lib.Dec.{T, ltb}
use lib.ListN.{length}
use Rattle.rules.specs.Types.{Ty}
use Rattle.rules.specs.Kinds.{expression}
use Rattle.rules.specs.Tables.{Table, kind_at}
use Rattle.rules.specs.Verdict.{node_place, Place}
use Rattle.laws.proofs.ReadingLaws.{category_is_right}
use Rattle.typing.specs.Equations.{base, back}
use Rattle.typing.specs.Model.{is_place}
use Rattle.typing.specs.Places.{place_count, place_var}
use Rattle.typing.proofs.VariableLaws.{base_mono, base_below}
use Rattle.typing.proofs.EquationsLaws.{less, not_less, back_name, back_node}

-- A place below I + k is an identifier or a node below k.
pub each_place : (tb : Table) (P : ℕ → Type 0) (k : ℕ) → ((x : ℕ) → x < length tb.binds → P x) →
    ((n : ℕ) → n < k → P (node_place tb n)) → (p : ℕ) → p < length tb.binds + k → P p
each_place tb P k names nodes p h = go (dec_lt p (length tb.binds))
  where
    go : Dec (p < length tb.binds) → P p
    go (yes l) = names p l
    go (no g) =
        let e : node_place tb (p - length tb.binds) ≡ p = omega arith in
        subst P e (nodes (p - length tb.binds) (omega arith))

pub place_below : (tb : Table) (p : ℕ) → Place tb p → p < place_count tb
place_below tb p (inl h) = omega arith
place_below tb p (inr h) = omega (arith, h.1, h.3)

pub var_name : (tb : Table) (x : ℕ) → x < length tb.binds → place_var tb x ≡ x
var_name tb x h = rw (less x (length tb.binds) h) refl

pub var_node : (tb : Table) (n : ℕ) → place_var tb (node_place tb n) ≡ base tb n
var_node tb n =
    let e : node_place tb n - length tb.binds ≡ n = omega arith in
    rw (not_less (node_place tb n) (length tb.binds) (omega arith), e) refl

name_below : (tb : Table) (k x : ℕ) → x < length tb.binds → x < base tb k
unfolding base
name_below tb k x h = omega (arith, base_mono tb {n = 0} k (omega arith))

pub var_below : (tb : Table) (k p : ℕ) → p < length tb.binds + k → place_var tb p < base tb k
var_below tb k = each_place tb (λ p. place_var tb p < base tb k) k
    (λ x h. rw (var_name tb x h) (name_below tb k x h)) (λ n h. rw (var_node tb n) (omega (arith, base_below tb h)))

-- The type of a place is that of its variable.
pub back_at : (tb : Table) (k : ℕ) (σ : ℕ → Ty) (p : ℕ) → p < length tb.binds + k → back tb k σ p ≡ σ (place_var tb p)
back_at tb k σ = each_place tb (λ p. back tb k σ p ≡ σ (place_var tb p)) k
    (λ x h. back_name tb k σ x h ∙ ap σ (sym (var_name tb x h))) (λ n h. back_node tb k σ n h ∙ ap σ (sym (var_node tb n)))

pub types_at_law : (tb : Table) (k : ℕ) (σ θ : ℕ → Ty) → ((x : ℕ) → x < length tb.binds → σ x ≡ θ x) →
    ((n : ℕ) → n < k → σ (base tb n) ≡ θ (node_place tb n)) → (p : ℕ) → p < length tb.binds + k → σ (place_var tb p) ≡ θ p
types_at_law tb k σ θ names nodes = each_place tb (λ p. σ (place_var tb p) ≡ θ p) k
    (λ x h. ap σ (var_name tb x h) ∙ names x h) (λ n h. ap σ (var_node tb n) ∙ nodes n h)

-- `is_place` decides which of the table's places have a type.
module _ (tb : Table) where
  pub is_place_place : (p : ℕ) → p < place_count tb → T (is_place tb p) → Place tb p
  unfolding is_place
  is_place_place p h t = go (dec_lt p (length tb.binds))
    where
      go : Dec (p < length tb.binds) → Place tb p
      go (yes l) = inl l
      go (no g) =
          let e : ltb p (length tb.binds) ≡ false = not_less p (length tb.binds) (omega arith) in
          let n = p - length tb.binds in
          inr (n, omega arith, (category_is_right expression (kind_at tb.nodes n)).0 (rw e at t), omega arith)

  pub place_is_place : (p : ℕ) → Place tb p → T (is_place tb p)
  unfolding is_place
  place_is_place p (inl l) = rw (less p (length tb.binds) l) tt
  place_is_place p (inr (n, h, k, e)) =
      let m : p - length tb.binds ≡ n = omega arith in
      rw (not_less p (length tb.binds) (omega arith), m) ((category_is_right expression (kind_at tb.nodes n)).1 k)
