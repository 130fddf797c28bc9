-- The equations of a table's nodes: how many there are, and that later nodes leave them as they are.
use Prim.Native.Nat.{ℕ, zero, suc, ◌+◌, ◌*◌, ◌≤◌, ◌<◌}
use mathlib.Core.Path.{◌≡◌, refl, ◌∙◌}
use native.Mathlib.Decide.{dec_lt}
use native.Mathlib.Omega.{arith}
use lib.ListN.{get_or, length, length-append, length-map, get_or-append}
use Rattle.rules.specs.Tables.{Table, node_at}
use Rattle.unification.specs.Problem.{eqn}
use Rattle.typing.specs.Equations.{plan_at, var_of, eqn_from, node_equations, equations}
use Rattle.typing.proofs.RefLaws.{few_equations}

pub length_equations : (tb : Table) (k : ℕ) → length (equations tb (suc k)) ≡ length (equations tb k) + length (plan_at tb k).equations
unfolding equations
length_equations tb k =
    omega (arith, length-append (equations tb k) (node_equations tb k), length-map (plan_at tb k).equations (eqn_from (var_of tb k)))

pub equations_bound : (tb : Table) (k : ℕ) → length (equations tb k) ≤ 2 * k
unfolding equations
equations_bound tb zero = omega arith
equations_bound tb (suc k) =
    omega (arith, equations_bound tb k, length_equations tb k, few_equations (node_at tb.nodes k).kind (node_at tb.nodes k).a)

pub equations_mono : (tb : Table) {k : ℕ} (m : ℕ) → k ≤ m → length (equations tb k) ≤ length (equations tb m)
unfolding equations
equations_mono tb {k} zero h = let e : k ≡ 0 = omega arith in rw e (omega arith)
equations_mono tb {k} (suc m) h = go (dec_lt k (suc m)) (λ g. equations_mono tb m g)
  where
    go : Dec (k < suc m) → (k ≤ m → length (equations tb k) ≤ length (equations tb m)) → length (equations tb k) ≤ length (equations tb (suc m))
    go (yes g) ih = omega (arith, ih (omega arith), length_equations tb m)
    go (no g) ih = let e : k ≡ suc m = omega arith in rw e (omega arith)

pub equations_grow : (tb : Table) {k : ℕ} (m i : ℕ) → k ≤ m → i < length (equations tb k) →
    get_or (equations tb m) i (eqn 0 0) ≡ get_or (equations tb k) i (eqn 0 0)
unfolding equations
equations_grow tb {k} zero i h l = let e : k ≡ 0 = omega arith in rw e refl
equations_grow tb {k} (suc m) i h l = go (dec_lt k (suc m)) (λ g. equations_grow tb m i g l)
  where
    go : Dec (k < suc m) → (k ≤ m → get_or (equations tb m) i (eqn 0 0) ≡ get_or (equations tb k) i (eqn 0 0)) →
        get_or (equations tb (suc m)) i (eqn 0 0) ≡ get_or (equations tb k) i (eqn 0 0)
    go (yes g) ih =
        get_or-append (equations tb m) (node_equations tb m) (eqn 0 0) i (omega (arith, equations_mono tb {k = k} m (omega arith)))
        ∙ ih (omega arith)
    go (no g) ih = let e : k ≡ suc m = omega arith in rw e refl
