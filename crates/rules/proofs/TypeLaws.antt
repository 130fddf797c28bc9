-- Types and their rows: a row is 64 bytes long, tells its type and is read back as it, no type is a proper part of itself, and
-- equality of types is decided.
use Prim.Native.Nat.{ℕ, zero, suc, ◌+◌, ◌-◌, ◌≤◌}
use mathlib.Core.Bool.{Bool, true, false, cond}
use mathlib.Core.List.{List, [], ◌∷◌, ◌++◌, append_assoc, append-nil}
use mathlib.Core.Logic.{◌↔◌}
use mathlib.Core.Option.{Option, none as nothing, some, bind}
use mathlib.Core.Path.{◌≡◌, refl, ap, ◌∙◌, sym}
use native.Mathlib.Omega.{arith}
use native.Mathlib.Decide.{ℕ_discrete}
use lib.Dec.{T, leb, leb→le, le→leb}
use lib.ListN.{length, length-append, replicate, length-replicate}
use Rattle.rules.specs.Types.{whole, Atom, number, bool, given, Ty, atom, POW, ◌⊗◌}
use Rattle.rules.specs.Types.{INTEGER, G, weightᵀ, atom_code, prefix, row, empty_row, code_before, types_in, only_type, type_of_row}
use Rattle.rules.proofs.Basics.{absurd01}

-- Each type weighs something.
pub weight_positive : (t : Ty) → 1 ≤ weightᵀ t
weight_positive (atom a) = omega arith
weight_positive (POW t) = omega arith
weight_positive (t ⊗ u) = omega arith

-- A code for each constructor.
pub prefix_length : (t : Ty) → length (prefix t) ≡ weightᵀ t
prefix_length (atom a) = refl
prefix_length (POW t) = omega (arith, prefix_length t)
prefix_length (t ⊗ u) = simp length-append (omega (arith, prefix_length t, prefix_length u))

-- A type that weighs at most 64 has a row of 64 bytes.
pub row_length : (t : Ty) → weightᵀ t ≤ 64 → length (row t) ≡ 64
unfolding row
row_length t h =
    omega (arith, length-append (prefix t) (replicate (64 - weightᵀ t) 0), prefix_length t, length-replicate {A = ℕ} (64 - weightᵀ t) 0)

-- The row of a predicate is as long.
pub empty_row_length : length empty_row ≡ 64
unfolding empty_row
empty_row_length = refl

-- The codes are all different, and none is 0.
pub atom_code_injective : (a b : Atom) → atom_code a ≡ atom_code b → a ≡ b
atom_code_injective (number whole) (number whole) e = refl
atom_code_injective (number whole) bool e = absurd (omega (arith, e))
atom_code_injective (number whole) (given g) e = absurd (omega (arith, e))
atom_code_injective bool (number whole) e = absurd (omega (arith, e))
atom_code_injective bool bool e = refl
atom_code_injective bool (given g) e = absurd (omega (arith, e))
atom_code_injective (given g) (number whole) e = absurd (omega (arith, e))
atom_code_injective (given g) bool e = absurd (omega (arith, e))
atom_code_injective (given g) (given h) e = ap given (omega (arith, e))

atom_code_other : (a : Atom) → (atom_code a ≡ 0 → ⊥) × (atom_code a ≡ 3 → ⊥) × (atom_code a ≡ 4 → ⊥)
atom_code_other (number whole) = omega arith
atom_code_other bool = omega arith
atom_code_other (given g) = omega arith

head_path : {x y : ℕ} {xs ys : List ℕ} → x ∷ xs ≡ y ∷ ys → x ≡ y
head_path e = cc

tail_path : {x y : ℕ} {xs ys : List ℕ} → x ∷ xs ≡ y ∷ ys → xs ≡ ys
tail_path e = cc

-- The types of (a,(b,c)) and ((a,b),c), here of integers, have different rows.
pub nested_pairs : row (INTEGER ⊗ (INTEGER ⊗ INTEGER)) ≡ row ((INTEGER ⊗ INTEGER) ⊗ INTEGER) → ⊥
unfolding row
nested_pairs e = omega (arith, head_path (tail_path e))

-- What follows a type's codes does not change how they are read.
pub prefix_injective : (t u : Ty) (x y : List ℕ) → prefix t ++ x ≡ prefix u ++ y → (t ≡ u) × (x ≡ y)
prefix_injective (atom a) (atom b) x y e = (ap atom (atom_code_injective a b (head_path e)), tail_path e)
prefix_injective (atom a) (POW u) x y e = absurd ((atom_code_other a).1 (head_path e))
prefix_injective (atom a) (u ⊗ w) x y e = absurd ((atom_code_other a).2 (head_path e))
prefix_injective (POW t) (atom b) x y e = absurd ((atom_code_other b).1 (sym (head_path e)))
prefix_injective (POW t) (POW u) x y e = let r = prefix_injective t u x y (tail_path e) in (ap POW r.0, r.1)
prefix_injective (POW t) (u ⊗ w) x y e = absurd (omega (arith, head_path e))
prefix_injective (t ⊗ s) (atom b) x y e = absurd ((atom_code_other b).2 (sym (head_path e)))
prefix_injective (t ⊗ s) (POW u) x y e = absurd (omega (arith, head_path e))
prefix_injective (t ⊗ s) (u ⊗ w) x y e =
    let f : prefix t ++ (prefix s ++ x) ≡ prefix u ++ (prefix w ++ y)
    = sym (append_assoc (prefix t) (prefix s) x) ∙ tail_path e ∙ append_assoc (prefix u) (prefix w) y in
    let r = prefix_injective t u (prefix s ++ x) (prefix w ++ y) f in
    let q = prefix_injective s w x y r.1 in
    (cc (r.0, q.0), q.1)

-- A row tells its type.
pub row_injective : (t u : Ty) → row t ≡ row u → t ≡ u
unfolding row
row_injective t u e = (prefix_injective t u _ _ e).0

-- No type has the row of a predicate.
pub row_not_empty : (t : Ty) → row t ≡ empty_row → ⊥
unfolding row empty_row
row_not_empty (atom a) e = (atom_code_other a).0 (head_path e)
row_not_empty (POW t) e = omega (arith, head_path e)
row_not_empty (t ⊗ u) e = omega (arith, head_path e)

-- No type is a proper part of itself.
pub no_cycle : (t : Ty) → t ≡ POW t → ⊥
no_cycle t e = omega (arith, ap weightᵀ e)

pub no_cycle_left : (t u : Ty) → t ≡ t ⊗ u → ⊥
no_cycle_left t u e = omega (arith, ap weightᵀ e)

pub no_cycle_right : (t u : Ty) → t ≡ u ⊗ t → ⊥
no_cycle_right t u e = omega (arith, ap weightᵀ e)

atom_discrete : (a b : Atom) → Dec (a ≡ b)
atom_discrete a b = go (ℕ_discrete (atom_code a) (atom_code b))
  where
    go : Dec (atom_code a ≡ atom_code b) → Dec (a ≡ b)
    go (yes e) = yes (atom_code_injective a b e)
    go (no n) = no (λ e. n (ap atom_code e))

-- Types are equal or not.
pub ty_discrete : (t u : Ty) → Dec (t ≡ u)
ty_discrete (atom a) (atom b) = go (atom_discrete a b)
  where
    go : Dec (a ≡ b) → Dec (atom a ≡ atom b)
    go (yes e) = yes (ap atom e)
    go (no n) = no (λ e. n (cc))
ty_discrete (atom a) (POW u) = no (λ e. absurd01 (cc))
ty_discrete (atom a) (u ⊗ w) = no (λ e. absurd01 (cc))
ty_discrete (POW t) (atom b) = no (λ e. absurd01 (cc))
ty_discrete (POW t) (POW u) = go (ty_discrete t u)
  where
    go : Dec (t ≡ u) → Dec (POW t ≡ POW u)
    go (yes e) = yes (ap POW e)
    go (no n) = no (λ e. n (cc))
ty_discrete (POW t) (u ⊗ w) = no (λ e. absurd01 (cc))
ty_discrete (t ⊗ s) (atom b) = no (λ e. absurd01 (cc))
ty_discrete (t ⊗ s) (POW u) = no (λ e. absurd01 (cc))
ty_discrete (t ⊗ s) (u ⊗ w) = go (ty_discrete t u) (ty_discrete s w)
  where
    go : Dec (t ≡ u) → Dec (s ≡ w) → Dec (t ⊗ s ≡ u ⊗ w)
    go (yes e) (yes f) = yes (cc)
    go (yes e) (no n) = no (λ g. n (cc))
    go (no n) (yes f) = no (λ g. n (cc))
    go (no n) (no m) = no (λ g. n (cc))

-- The codes of types one after the other.
unfoldable pub prefixes : List Ty → List ℕ
prefixes [] = []
prefixes (t ∷ ts) = prefix t ++ prefixes ts

-- A list is the codes of types one after the other, and then zeros.
abbrev Filled : List ℕ → List Ty → Type 0
Filled cs ts = (n : ℕ) × (cs ≡ prefixes ts ++ replicate n 0)

given_before : (c g : ℕ) (ts : List Ty) → c ≡ 16 + g → cond (leb 16 c) (some (G (c - 16) ∷ ts)) nothing ≡ some (G g ∷ ts)
given_before c g ts e = go (leb 16 c) (le→leb 16 c (omega arith))
  where
    go : (b : Bool) → T b → cond b (some (G (c - 16) ∷ ts)) nothing ≡ some (G g ∷ ts)
    go true t = let d : c - 16 ≡ g = omega arith in rw d
    go false t = absurd t

-- A code without parts makes its type.
atom_before : (a : Atom) (ts : List Ty) → code_before (atom_code a) ts ≡ some (atom a ∷ ts)
atom_before (number whole) ts = refl
atom_before bool ts = refl
atom_before (given g) ts =
    let e : 16 + g ≡ suc (suc (suc (suc (suc (11 + g))))) = omega arith in
    rw e (given_before (5 + (11 + g)) g ts (omega arith))

-- The codes of a type before others are read as that type.
types_prefix : (t : Ty) (cs : List ℕ) (ts : List Ty) → types_in cs ≡ some ts → types_in (prefix t ++ cs) ≡ some (t ∷ ts)
unfolding types_in
types_prefix (atom a) cs ts e = rw e (atom_before a ts)
types_prefix (POW t) cs ts e = rw (types_prefix t cs ts e)
types_prefix (t ⊗ u) cs ts e = rw (append_assoc (prefix t) (prefix u) cs, types_prefix t (prefix u ++ cs) (u ∷ ts) (types_prefix u cs ts e))

types_fill : (n : ℕ) → types_in (replicate n 0) ≡ some []
unfolding types_in
types_fill zero = refl
types_fill (suc n) = rw (types_fill n)

-- A type's row is read as that type.
pub row_read : (t : Ty) → type_of_row (row t) ≡ some t
unfolding row type_of_row
row_read t = rw (types_prefix t (replicate (64 - weightᵀ t) 0) [] (types_fill (64 - weightᵀ t)))

-- What a code before types makes of them stands there with the code in front.
filled_code : (c : ℕ) (us ts : List Ty) (cs : List ℕ) → code_before c us ≡ some ts → Filled cs us → Filled (c ∷ cs) ts
unfolding prefixes
filled_code zero [] ts cs e f = (suc f.0, cc f.1)
filled_code zero (t ∷ us) ts cs e f = absurd (absurd01 (cc))
filled_code (suc zero) us ts cs e f = (f.0, cc f.1)
filled_code (suc (suc zero)) us ts cs e f = (f.0, cc f.1)
filled_code (suc (suc (suc zero))) [] ts cs e f = absurd (absurd01 (cc))
filled_code (suc (suc (suc zero))) (t ∷ us) ts cs e f = (f.0, cc f.1)
filled_code (suc (suc (suc (suc zero)))) [] ts cs e f = absurd (absurd01 (cc))
filled_code (suc (suc (suc (suc zero)))) (t ∷ []) ts cs e f = absurd (absurd01 (cc))
filled_code (suc (suc (suc (suc zero)))) (t ∷ u ∷ us) ts cs e f = (f.0, cc (f.1, append_assoc (prefix t) (prefix u) (prefixes us)))
filled_code (suc (suc (suc (suc (suc k))))) us ts cs e f = go (leb 16 (5 + k)) (leb→le 16 (5 + k)) e
  where
    go : (b : Bool) → (T b → 16 ≤ 5 + k) → cond b (some (G (5 + k - 16) ∷ us)) nothing ≡ some ts → Filled (suc (suc (suc (suc (suc k)))) ∷ cs) ts
    go true l d = let c : suc (suc (suc (suc (suc k)))) ≡ 16 + (5 + k - 16) = omega (arith, l tt) in (f.0, cc f.1)
    go false l d = absurd (absurd01 (cc))

types_filled : (cs : List ℕ) (ts : List Ty) → types_in cs ≡ some ts → Filled cs ts
unfolding types_in prefixes
types_filled [] ts e = (0, cc)
types_filled (c ∷ cs) ts e = go (types_in cs) (types_filled cs) e
  where
    go : (o : Option (List Ty)) → ((us : List Ty) → o ≡ some us → Filled cs us) → bind o (code_before c) ≡ some ts → Filled (c ∷ cs) ts
    go nothing f d = absurd (absurd01 (cc))
    go (some us) f d = filled_code c us ts cs d (f us refl)

-- 64 bytes that begin with a type, with zeros behind, are its row.
row_filled : (bs : List ℕ) (t : Ty) → length bs ≡ 64 → Filled bs (t ∷ []) → (bs ≡ row t) × (weightᵀ t ≤ 64)
unfolding row prefixes
row_filled bs t l f =
    let h : bs ≡ prefix t ++ replicate f.0 0 = cc (f.1, append-nil (prefix t)) in
    let m : weightᵀ t + f.0 ≡ 64 =
    omega (arith, ap length h, length-append (prefix t) (replicate f.0 0), prefix_length t, length-replicate {A = ℕ} f.0 0) in
    let n : f.0 ≡ 64 - weightᵀ t = omega arith in
    (rw n at h, omega arith)

-- 64 bytes are read as a type exactly where they are the row of that type, which then weighs at most 64.
pub type_of_row_right : (bs : List ℕ) (t : Ty) → length bs ≡ 64 → (type_of_row bs ≡ some t) ↔ ((bs ≡ row t) × (weightᵀ t ≤ 64))
unfolding type_of_row
type_of_row_right bs t l = (λ e. go (types_in bs) (types_filled bs) e, λ x. ap type_of_row x.0 ∙ row_read t)
  where
    go : (o : Option (List Ty)) → ((us : List Ty) → o ≡ some us → Filled bs us) → only_type o ≡ some t → (bs ≡ row t) × (weightᵀ t ≤ 64)
    go nothing f d = absurd (absurd01 (cc))
    go (some []) f d = absurd (absurd01 (cc))
    go (some (u ∷ [])) f d = row_filled bs t l (f (t ∷ []) (cc))
    go (some (u ∷ v ∷ us)) f d = absurd (absurd01 (cc))
