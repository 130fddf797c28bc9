-- The leaves that are built: what the functions below have built is their value.
use Rattle.operations.proofs.Base.{ℕ, zero, suc, ◌+◌, ◌≤◌, ◌<◌, true, false, List, [], ◌∷◌, Some, ◌≢◌, ◌≡◌, refl, sym, subst, arith, length}
use mathlib.Core.Option.{some}
use Rattle.operations.proofs.Terms.{Value, truth_value, values, weight, weights, Leaf, identifier, given_set, element_of, literal, truth_const, empty_set, bool_set, leaf, kind_of, gives, Env, set_of, elements_from, leaf_value, Made, BuiltAt, LeafFits, LeafReady, LeafDone}
use Rattle.arena.proofs.MadeLaws.{made_ends}
use Rattle.laws.proofs.KindLaws.{code_of_law, same_leaf}

-- What is asked for a given set.
pub elements_ready : {k a size : ℕ} {s : List ℕ} {top : ℕ} → LeafReady k a size s top → k ≡ 21 →
    (a < 16777216) × (size ≤ 32) × (top + 1 + size ≤ length s)
elements_ready {k} {a} {size} p e =
    let f : LeafFits given_set a size = subst (λ (i : Leaf). LeafFits i a size) (sym (same_leaf k given_set p.kind e p.is)) p.fits in
    (omega (arith, f.0), f.1, omega (arith, f.1, p.room))

built_made : {top r : ℕ} {s s' : List ℕ} {v : Value} → Made top s s' v (Some r) → BuiltAt s' top (gives v) r
built_made {v = v} m = let e = made_ends m in record { value = v; is = refl; stands = e.2; ends = e.1; light = e.0 }

elements_weight : (g k n : ℕ) → weights (values (elements_from g k n)) ≡ n
unfolding elements_from
elements_weight g k zero = refl
elements_weight g k (suc n) = omega (arith, elements_weight g (suc k) n)

-- A given set by its code, and BOOL by any other.
module _ {k a size top r : ℕ} {s s' : List ℕ} where
  pub elements_done : LeafReady k a size s top → k ≡ 21 → Made top s s' (set_of (elements_from a 0 size)) (Some r) → LeafDone k a size s top s' r
  unfolding leaf_value
  elements_done p e m =
      let w : weight (set_of (elements_from a 0 size)) ≤ 33 = omega (arith, (elements_ready p e).1, elements_weight a 0 size) in
      record {
        frame = m.frame;
        near = omega (arith, (made_ends m).1);
        answer = λ j gs b ρ f h g.
            subst (λ (i : Leaf). BuiltAt s' top (gives (leaf_value gs i a b ρ)) r) (same_leaf k given_set j e f)
            (subst (λ (n : ℕ). BuiltAt s' top (gives (set_of (elements_from a 0 n))) r) (sym g) (built_made m));
      }

  pub booleans_done : k ≢ 21 → Made top s s' (set_of (truth_value false ∷ truth_value true ∷ [])) (Some r) → LeafDone k a size s top s' r
  unfolding leaf_value
  booleans_done n m = record { frame = m.frame; near = omega (arith, (made_ends m).1); answer = λ j gs b ρ e f g. here j gs b ρ e f }
    where
      here : (j : Leaf) (gs : List ℕ) (b : ℕ) (ρ : Env) → kind_of k ≡ some (leaf j) → LeafFits j a size →
          BuiltAt s' top (gives (leaf_value gs j a b ρ)) r
      here identifier gs b ρ e f = absurd f
      here given_set gs b ρ e f = absurd (n (code_of_law k (leaf given_set) e))
      here element_of gs b ρ e f = absurd f
      here (literal i) gs b ρ e f = absurd f
      here truth_const gs b ρ e f = absurd f
      here empty_set gs b ρ e f = absurd f
      here bool_set gs b ρ e f = built_made m
