-- The join of two shapes: what their being one class says of the parts, by cases on both.
use mathlib.Core.Path.{◌≡◌, refl}
use mathlib.Core.Logic.{◌↔◌}
use mathlib.Core.Bool.{Bool, true, false}
use mathlib.Core.List.{[]}
use Prim.Native.Nat.{ℕ}
use lib.Dec.{T, eqb→eq, eqb_refl}
use Rattle.rules.specs.Types.{Atom, Ty, atom_code}
use Rattle.unification.specs.Problem.{Shape, unknown, leaf, power, product, Matches, Holds}
use Rattle.unification.specs.Model.{ShapeJoin, clash, joined, same_code, join_leaf, join}
use Rattle.rules.proofs.TypeLaws.{atom_code_injective}
use Rattle.rules.proofs.Basics.{absurd01}

-- the shape of the joined class: b's, unless that is unknown
abbrev pub top : Shape → Shape → Shape
top a unknown = a
top a (leaf j) = leaf j
top a (power v) = power v
top a (product v w) = product v w

-- what an outcome of a join says: both shapes together are the top shape with the new equations; a clash has no solution
abbrev pub JoinOk : (ℕ → Ty) → Shape → Shape → Ty → ShapeJoin → Type 0
JoinOk θ a b t clash = Matches θ a t → Matches θ b t → ⊥
JoinOk θ a b t (joined es) = (Matches θ a t × Matches θ b t) ↔ (Matches θ (top a b) t × Holds θ es)

join_leaf_ok : (θ : ℕ → Ty) (a b : Atom) (t : Ty) (d : Bool) → same_code a b ≡ d → JoinOk θ (leaf a) (leaf b) t (join_leaf d)
join_leaf_ok θ a b t true e =
    let ab : a ≡ b = atom_code_injective a b (eqb→eq (atom_code a) (atom_code b) (rw e tt)) in ((λ h. (h.1, tt)), (λ h. (cc, h.0)))
join_leaf_ok θ a b t false e = λ p q. let ab : a ≡ b = cc in let w : T (same_code a b) = rw ab (eqb_refl (atom_code b)) in rw e at w

join_unknown_ok : (θ : ℕ → Ty) (b : Shape) (t : Ty) → JoinOk θ unknown b t (joined [])
join_unknown_ok θ unknown t = ((λ h. h), (λ h. h))
join_unknown_ok θ (leaf i) t = ((λ h. (h.1, tt)), (λ h. (tt, h.0)))
join_unknown_ok θ (power v) t = ((λ h. (h.1, tt)), (λ h. (tt, h.0)))
join_unknown_ok θ (product v w) t = ((λ h. (h.1, tt)), (λ h. (tt, h.0)))

pub join_ok : (θ : ℕ → Ty) (a b : Shape) (t : Ty) → JoinOk θ a b t (join a b)
join_ok θ unknown b t = join_unknown_ok θ b t
join_ok θ (leaf i) unknown t = ((λ h. h), (λ h. h))
join_ok θ (leaf i) (leaf j) t = join_leaf_ok θ i j t (same_code i j) refl
join_ok θ (leaf i) (power v) t = λ p q. absurd01 (cc)
join_ok θ (leaf i) (product v w) t = λ p q. absurd01 (cc)
join_ok θ (power v) unknown t = ((λ h. h), (λ h. h))
join_ok θ (power v) (leaf j) t = λ p q. absurd01 (cc)
join_ok θ (power v) (power w) t = ((λ h. (h.1, (cc, tt))), (λ h. (cc, h.0)))
join_ok θ (power v) (product w x) t = λ p q. absurd01 (cc)
join_ok θ (product v w) unknown t = ((λ h. h), (λ h. h))
join_ok θ (product v w) (leaf j) t = λ p q. absurd01 (cc)
join_ok θ (product v w) (power x) t = λ p q. absurd01 (cc)
join_ok θ (product v w) (product x y) t = ((λ h. (h.1, (cc, (cc, tt)))), (λ h. (cc, h.0)))
