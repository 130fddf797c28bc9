-- Resolved, open and ground classes: the solutions built from them; no solution where a class is never resolved. Each claim by a lemma on shapes,
-- then by induction on the rounds (on the type's weight where a solution is given).
use mathlib.Core.Path.{◌≡◌, refl, sym, ap, ap₂, ◌∙◌, subst}
use mathlib.Core.Logic.{◌≢◌}
use Prim.Native.Nat.{ℕ, zero, suc, ◌≤◌, ◌<◌}
use native.Mathlib.Nat.{not-suc-le-zero}
use native.Mathlib.Omega.{arith}
use native.Mathlib.Decide.{dec_lt}
use Rattle.rules.specs.Types.{Ty, POW, ◌⊗◌, weightᵀ, Declared}
use Rattle.unification.specs.Problem.{Shape, unknown, leaf, power, product, Matches}
use Rattle.unification.specs.Classes.{Graph, Sat, Idem}
use Rattle.unification.specs.Marks.{status_of, status_after, Stalled}
use Rattle.unification.specs.Solved.{LeafDeclared}
use Rattle.unification.specs.Model.{build, val}
use Rattle.unification.proofs.Merging.{fits_at}

-- ---- a resolved class keeps its value
build_stable : (m : ℕ → ℕ) (f f' : ℕ → Ty) (t : Ty) (s : Shape) → ((w : ℕ) → 0 < m w → f w ≡ f' w) → 0 < status_of m s → build f t s ≡ build f' t s
build_stable m f f' t unknown h p = refl
build_stable m f f' t (leaf k) h p = refl
build_stable m f f' t (power v) h p = ap POW (h v p)
build_stable m f f' t (product v w) h p = ap₂ ◌⊗◌ (h v (omega arith)) (h w (omega arith))

stable : (g : Graph) (ρ : ℕ → Ty) (k v : ℕ) → 0 < status_after g k v → val g ρ (suc k) v ≡ val g ρ k v
stable g ρ zero v p = absurd (not-suc-le-zero p)
stable g ρ (suc k) v p = build_stable (status_after g k) (val g ρ (suc k)) (val g ρ k) (ρ (g.cls v)) (g.sh (g.cls v)) (stable g ρ k) p

build_matches : (f : ℕ → Ty) (t : Ty) (s : Shape) → Matches f s (build f t s)
build_matches f t unknown = tt
build_matches f t (leaf k) = refl
build_matches f t (power v) = refl
build_matches f t (product v w) = refl

val_same : (g : Graph) → Idem g → (ρ : ℕ → Ty) (k v : ℕ) → val g ρ k v ≡ val g ρ k (g.cls v)
val_same g i ρ zero v = refl
val_same g i ρ (suc k) v = rw (i v)

-- all resolved: a solution for every choice of types for the unknown classes
pub solution : (g : Graph) → Idem g → (N : ℕ) → ((v : ℕ) → 0 < status_after g N v) → (ρ : ℕ → Ty) → Sat (val g ρ N) g
solution g i N all ρ = record {
  same = val_same g i ρ N;
  fits = λ v e.
      let m : Matches (val g ρ N) (g.sh (g.cls v)) (val g ρ (suc N) v) = build_matches (val g ρ N) (ρ (g.cls v)) (g.sh (g.cls v)) in
      subst (λ x. Matches (val g ρ N) (g.sh x) (val g ρ N v)) e (subst (λ x. Matches (val g ρ N) (g.sh (g.cls v)) x) (stable g ρ N v (all v)) m);
}

-- a stalled marking with an unmarked class: no solution
status_pos : (θ : ℕ → Ty) (m : ℕ → ℕ) (s : Shape) (t : Ty) → Matches θ s t → ((w : ℕ) → weightᵀ (θ w) < weightᵀ t → 0 < m w) → 0 < status_of m s
status_pos θ m unknown t e h = omega arith
status_pos θ m (leaf k) t e h = omega arith
status_pos θ m (power v) t e h = h v (rw e (omega arith))
status_pos θ m (product v w) t e h = omega (arith, h v (rw e (omega arith)), h w (rw e (omega arith)))

pub all_marked : (θ : ℕ → Ty) (g : Graph) (m : ℕ → ℕ) → Idem g → Stalled g m → Sat θ g → (v : ℕ) → 0 < m v
all_marked θ g m i stalled s v = go (suc (weightᵀ (θ v))) v (omega arith)
  where
    go : (k w : ℕ) → weightᵀ (θ w) < k → 0 < m w
    go zero w l = absurd (not-suc-le-zero l)
    go (suc k) w l = stalled w (status_pos θ m (g.sh (g.cls w)) (θ w) (fits_at i s w) (λ x lx. go k x (omega arith)))

-- ground: every two solutions agree
agree_shape : (θ θ' : ℕ → Ty) (m : ℕ → ℕ) (s : Shape) (t t' : Ty) → Matches θ s t → Matches θ' s t' →
    ((w : ℕ) → 2 ≤ m w → θ w ≡ θ' w) → 2 ≤ status_of m s → t ≡ t'
agree_shape θ θ' m unknown t t' e e' h p = absurd (omega arith)
agree_shape θ θ' m (leaf k) t t' e e' h p = e ∙ sym e'
agree_shape θ θ' m (power v) t t' e e' h p = cc (h v p)
agree_shape θ θ' m (product v w) t t' e e' h p = cc (h v (omega arith), h w (omega arith))

pub ground_agree : (g : Graph) → Idem g → (θ θ' : ℕ → Ty) → Sat θ g → Sat θ' g → (k v : ℕ) → 2 ≤ status_after g k v → θ v ≡ θ' v
ground_agree g i θ θ' s s' zero v p = absurd (not-suc-le-zero p)
ground_agree g i θ θ' s s' (suc k) v p =
    agree_shape θ θ' (status_after g k) (g.sh (g.cls v)) (θ v) (θ' v) (fits_at i s v) (fits_at i s' v) (ground_agree g i θ θ' s s' k) p

-- resolved and not ground: the solutions from two choices that differ everywhere differ there
differ_shape : (m : ℕ → ℕ) (f f' : ℕ → Ty) (t t' : Ty) → t ≢ t' → (s : Shape) →
    ((w : ℕ) → 0 < m w → m w < 2 → f w ≢ f' w) → 0 < status_of m s → status_of m s < 2 → build f t s ≢ build f' t' s
differ_shape m f f' t t' ne unknown h p q e = ne e
differ_shape m f f' t t' ne (leaf k) h p q e = omega arith
differ_shape m f f' t t' ne (power v) h p q e = h v p q (cc)
differ_shape m f f' t t' ne (product v w) h p q e = go (dec_lt (m v) 2)
  where
    go : Dec (m v < 2) → ⊥
    go (yes y) = h v (omega arith) y (cc)
    go (no n) = h w (omega arith) (omega arith) (cc)

pub open_differ : (g : Graph) (ρ ρ' : ℕ → Ty) → ((r : ℕ) → ρ r ≢ ρ' r) →
    (k v : ℕ) → 0 < status_after g k v → status_after g k v < 2 → val g ρ k v ≢ val g ρ' k v
open_differ g ρ ρ' ne zero v p q = absurd (not-suc-le-zero p)
open_differ g ρ ρ' ne (suc k) v p q =
    differ_shape (status_after g k) (val g ρ k) (val g ρ' k) (ρ (g.cls v)) (ρ' (g.cls v)) (ne (g.cls v)) (g.sh (g.cls v)) (open_differ g ρ ρ' ne k) p q

-- ---- marks: two markings that agree where the second is marked
pub status_same : (m m' : ℕ → ℕ) (s : Shape) → ((w : ℕ) → 0 < m' w → m w ≡ m' w) → 0 < status_of m' s → status_of m s ≡ status_of m' s
status_same m m' unknown h p = refl
status_same m m' (leaf k) h p = refl
status_same m m' (power v) h p = h v p
status_same m m' (product v w) h p = omega (arith, h v (omega arith), h w (omega arith))

pub status_grow : (m m' : ℕ → ℕ) (s : Shape) → ((w : ℕ) → 0 < m w → 0 < m' w) → 0 < status_of m s → 0 < status_of m' s
status_grow m m' unknown h p = omega arith
status_grow m m' (leaf k) h p = omega arith
status_grow m m' (power v) h p = h v p
status_grow m m' (product v w) h p = omega (arith, h v (omega arith), h w (omega arith))

-- one more sweep keeps what is resolved
pub status_keep : (g : Graph) (k v : ℕ) → 0 < status_after g k v → status_after g (suc k) v ≡ status_after g k v
status_keep g zero v p = absurd (not-suc-le-zero p)
status_keep g (suc k) v p = status_same (status_after g (suc k)) (status_after g k) (g.sh (g.cls v)) (status_keep g k) p

-- the types built are of a table whose given sets the shapes name
build_declared : (G : ℕ) (f : ℕ → Ty) (t : Ty) (s : Shape) → LeafDeclared G s → ((w : ℕ) → Declared G (f w)) → Declared G t → Declared G (build f t s)
build_declared G f t unknown l h d = d
build_declared G f t (leaf a) l h d = l
build_declared G f t (power v) l h d = h v
build_declared G f t (product v w) l h d = (h v, h w)

pub val_declared : (G : ℕ) (g : Graph) (ρ : ℕ → Ty) → ((v : ℕ) → LeafDeclared G (g.sh (g.cls v))) →
    ((r : ℕ) → Declared G (ρ r)) → (k v : ℕ) → Declared G (val g ρ k v)
val_declared G g ρ l d zero v = tt
val_declared G g ρ l d (suc k) v = build_declared G (val g ρ k) (ρ (g.cls v)) (g.sh (g.cls v)) (l v) (val_declared G g ρ l d k) (d (g.cls v))

-- what is ground after k rounds has ground parts after k rounds
ground_parts : (m m' : ℕ → ℕ) (s : Shape) → ((w : ℕ) → 2 ≤ m w → 2 ≤ m' w) → 2 ≤ status_of m s → 2 ≤ status_of m' s
ground_parts m m' unknown h p = p
ground_parts m m' (leaf a) h p = p
ground_parts m m' (power v) h p = h v p
ground_parts m m' (product v w) h p = omega (arith, h v (omega arith), h w (omega arith))

pub ground_kept : (g : Graph) (m : ℕ → ℕ) (k : ℕ) → ((w : ℕ) → 2 ≤ status_after g k w → 2 ≤ m w) →
    (v : ℕ) → 2 ≤ status_after g k v → 2 ≤ status_of m (g.sh (g.cls v))
ground_kept g m zero h v p = absurd (not-suc-le-zero p)
ground_kept g m (suc k) h v p = ground_parts (status_after g k) m (g.sh (g.cls v)) (λ w q. h w (rw (status_keep g k w (omega arith)) q)) p
