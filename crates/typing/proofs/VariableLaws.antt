-- The variables of a table's problem: they are numbered in the order of the nodes, and each has the shape that its node's
-- plan says.
use Prim.Native.Nat.{ℕ, zero, suc, ◌+◌, ◌*◌, ◌-◌, ◌≤◌, ◌<◌}
use mathlib.Core.List.{List, ◌++◌}
use mathlib.Core.Path.{◌≡◌, refl, ◌∙◌}
use native.Mathlib.Decide.{dec_lt, ℕ_discrete}
use native.Mathlib.Nat.{add-zero}
use native.Mathlib.Omega.{arith}
use lib.ListN.{get_or, length, length-append, length-map, length-replicate, get_or-replicate, get_or-append, get_or-map}
use lib.Seq.{get_or-append-add}
use Rattle.rules.specs.Tables.{Table, node_at}
use Rattle.unification.specs.Problem.{Shape, unknown}
use Rattle.typing.specs.Plan.{Ref, self, first, second, name, slot, openᶠ}
use Rattle.typing.specs.Equations.{plan_at, slot_count, base, var_of, shape_from, node_shapes, shapes, shape_at}
use Rattle.typing.proofs.RefLaws.{few_slots, RefRight}

-- The variables of the nodes below m are below those of node m.
pub base_mono : (tb : Table) {n : ℕ} (m : ℕ) → n ≤ m → base tb n ≤ base tb m
unfolding base
base_mono tb {n} zero h = let e : n ≡ 0 = omega arith in rw e (omega arith)
base_mono tb {n} (suc m) h = go (dec_lt n (suc m)) (λ l. base_mono tb m l)
  where
    go : Dec (n < suc m) → (n ≤ m → base tb n ≤ base tb m) → base tb n ≤ base tb (suc m)
    go (yes l) ih = omega (arith, ih (omega arith))
    go (no g) ih = let e : n ≡ suc m = omega arith in rw e (omega arith)

-- So are its slots.
pub base_below : (tb : Table) {n m : ℕ} → n < m → base tb n + 1 + slot_count tb n ≤ base tb m
unfolding base
base_below tb {n} {m} h = base_mono tb {n = suc n} m h

pub base_bound : (tb : Table) (k : ℕ) → base tb k ≤ length tb.binds + 6 * k
unfolding base
base_bound tb zero = omega arith
base_bound tb (suc k) = omega (arith, base_bound tb k, few_slots (node_at tb.nodes k).kind (node_at tb.nodes k).a)

-- One shape for each variable.
pub length_shapes : (tb : Table) (k : ℕ) → length (shapes tb k) ≡ base tb k
unfolding base shapes
length_shapes tb zero = length-replicate _ _
length_shapes tb (suc k) =
    omega (
      arith,
      length-append (shapes tb k) (node_shapes tb k),
      length_shapes tb k,
      length-map (plan_at tb k).slots (shape_from (var_of tb k)),
    )

-- Later nodes leave the shapes as they are.
pub shapes_grow : (tb : Table) {k : ℕ} (m v : ℕ) → k ≤ m → v < base tb k → get_or (shapes tb m) v unknown ≡ get_or (shapes tb k) v unknown
unfolding shapes
shapes_grow tb {k} zero v h l = let e : k ≡ 0 = omega arith in rw e refl
shapes_grow tb {k} (suc m) v h l = go (dec_lt k (suc m)) (λ g. shapes_grow tb m v g l)
  where
    go : Dec (k < suc m) → (k ≤ m → get_or (shapes tb m) v unknown ≡ get_or (shapes tb k) v unknown) →
        get_or (shapes tb (suc m)) v unknown ≡ get_or (shapes tb k) v unknown
    go (yes g) ih =
        get_or-append (shapes tb m) (node_shapes tb m) unknown v (omega (arith, length_shapes tb m, base_mono tb {n = k} m (omega arith)))
        ∙ ih (omega arith)
    go (no g) ih = let e : k ≡ suc m = omega arith in rw e refl

-- The shape of an identifier's variable, of a node's, and of a slot's.
pub shape_name : (tb : Table) {x : ℕ} → x < length tb.binds → shape_at tb x ≡ unknown
unfolding shape_at shapes base
shape_name tb {x} h =
    shapes_grow tb {k = 0} (length tb.nodes) x (omega arith) h ∙ get_or-replicate (length tb.binds) x unknown unknown h

at_end : (xs ys : List Shape) (b i : ℕ) → length xs ≡ b → get_or (xs ++ ys) (b + i) unknown ≡ get_or ys i unknown
at_end xs ys b i e = rw (← e) (get_or-append-add xs ys i unknown)

pub shape_node : (tb : Table) {n : ℕ} → n < length tb.nodes → (i : ℕ) → i < suc (slot_count tb n) →
    shape_at tb (base tb n + i) ≡ get_or (node_shapes tb n) i unknown
unfolding shape_at shapes
shape_node tb {n} h i l =
    shapes_grow tb {k = suc n} (length tb.nodes) (base tb n + i) h (omega (arith, base_below tb {n = n} {m = suc n} (omega arith)))
    ∙ at_end (shapes tb n) (node_shapes tb n) (base tb n) i (length_shapes tb n)

pub shape_self : (tb : Table) {n : ℕ} → n < length tb.nodes → shape_at tb (base tb n) ≡ shape_from (var_of tb n) (plan_at tb n).self_form
shape_self tb {n} h = rw add-zero at (shape_node tb {n = n} h 0 (omega arith))

pub shape_slot : (tb : Table) {n j : ℕ} → n < length tb.nodes → j < slot_count tb n →
    shape_at tb (base tb n + 1 + j) ≡ shape_from (var_of tb n) (get_or (plan_at tb n).slots j openᶠ)
shape_slot tb {n} {j} h l =
    let e : base tb n + 1 + j ≡ base tb n + suc j = omega arith in
    rw e (shape_node tb {n = n} h (suc j) (omega arith) ∙ get_or-map (shape_from (var_of tb n)) (plan_at tb n).slots j openᶠ)

-- What holds of the identifiers, of the nodes below k and of their slots holds of every variable of the nodes below k.
module _ (tb : Table) (P : ℕ → Type 0) (names : (x : ℕ) → x < length tb.binds → P x) where
  pub each_variable : (k : ℕ) → ((n : ℕ) → n < k → P (base tb n)) →
      ((n j : ℕ) → n < k → j < slot_count tb n → P (base tb n + 1 + j)) → (v : ℕ) → v < base tb k → P v
  unfolding base
  each_variable zero nodes slots v h = names v h
  each_variable (suc k) nodes slots v h =
      go (dec_lt v (base tb k)) (ℕ_discrete v (base tb k))
      (each_variable k (λ n l. nodes n (omega arith)) (λ n j l. slots n j (omega arith)) v)
    where
      go : Dec (v < base tb k) → Dec (v ≡ base tb k) → (v < base tb k → P v) → P v
      go (yes l) e ih = ih l
      go (no g) (yes e) ih = rw e (nodes k (omega arith))
      go (no g) (no d) ih =
          let e : base tb k + 1 + (v - (base tb k + 1)) ≡ v = omega arith in
          rw e at (slots k (v - (base tb k + 1)) (omega arith) (omega arith))

-- A reference of a readable node n below k is a variable below base k.
pub ref_below : (tb : Table) {n k : ℕ} → n < k → (r : Ref) → RefRight tb n (node_at tb.nodes n) (slot_count tb n) r →
    var_of tb n r < base tb k
unfolding var_of base
ref_below tb {n} {k} h self w = omega (arith, base_below tb h)
ref_below tb {n} {k} h first w = omega (arith, base_below tb {n = (node_at tb.nodes n).a} {m = k} (omega arith))
ref_below tb {n} {k} h second w = omega (arith, base_below tb {n = (node_at tb.nodes n).b} {m = k} (omega arith))
ref_below tb {n} {k} h name w = omega (arith, base_mono tb {n = 0} k (omega arith))
ref_below tb {n} {k} h (slot i) w = omega (arith, base_below tb h)
