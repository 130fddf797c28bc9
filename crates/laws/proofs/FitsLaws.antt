-- The tests on values are right: `typed v` says that v has a type, `fits ps vs` (refusal 15) that some t and u fit, `has_type v t`
-- that v has t.
use mathlib.Core.List.{List, [], ◌∷◌}
use mathlib.Core.Bool.{Bool, true, false, cond}
use mathlib.Core.Path.{◌≡◌, refl, ap, ap₂, ◌∙◌, subst, subst⁻¹}
use mathlib.Core.Logic.{◌↔◌}
use lib.Dec.{T, eqb→eq, eqb_refl}
use Rattle.rules.specs.Types.{whole, Atom, number, bool, given, Ty, atom, POW, ◌⊗◌, INTEGER}
use Rattle.rules.specs.Values.{Value, scalar, pair, set, Values, none, ◌▸◌}
use Rattle.rules.specs.Rules.{Pattern, t̂, û, atom̂, P̂, ◌×̂◌, inst}
use Rattle.rules.specs.Fits.{IfPow, IfProduct, HasType, HaveType, FitAt, Fits, same_atom, TypeSet, every, no_type, atomˢ, powˢ, ◌×ˢ◌, ◌⊓◌}
use Rattle.rules.specs.Fits.{types_of, shared_types, inhabited, typed, Asked, anything, nothing_fits, ask_atom, asked, asked_all, fits, exactly, has_type}
use Rattle.rules.proofs.Basics.{and_of, and_split}

infix 30 ◌⊑◌
-- A type is in a set of types.
abbrev pub ◌⊑◌ : TypeSet → Ty → Type 0
every ⊑ t = Unit {0}
no_type ⊑ t = ⊥
atomˢ a ⊑ t = t ≡ atom a
powˢ p ⊑ t = IfPow (λ t₁. p ⊑ t₁) t
(p ×ˢ q) ⊑ t = IfProduct (λ t₁ t₂. p ⊑ t₁ × q ⊑ t₂) t

-- Two of the three forms of a type exclude each other.
atom_pow : (a : Atom) (F : Ty → Type 0) (t : Ty) → t ≡ atom a → IfPow F t → ⊥
atom_pow a F t e h = rw e at h

atom_product : (a : Atom) (F : Ty → Ty → Type 0) (t : Ty) → t ≡ atom a → IfProduct F t → ⊥
atom_product a F t e h = rw e at h

pow_product : (F : Ty → Type 0) (H : Ty → Ty → Type 0) (t : Ty) → IfPow F t → IfProduct H t → ⊥
pow_product F H (atom a) h k = h
pow_product F H (POW t) h k = k
pow_product F H (t ⊗ u) h k = h

-- `same_atom` is equality: there and back.
pub same_atom_law : (a b : Atom) → T (same_atom a b) → a ≡ b
same_atom_law (number whole) (number whole) h = refl
same_atom_law (number whole) bool h = absurd h
same_atom_law (number whole) (given g) h = absurd h
same_atom_law bool (number whole) h = absurd h
same_atom_law bool bool h = refl
same_atom_law bool (given g) h = absurd h
same_atom_law (given g) (number whole) h = absurd h
same_atom_law (given g) bool h = absurd h
same_atom_law (given g) (given k) h = ap given (eqb→eq g k h)

pub atom_same : (a : Atom) → T (same_atom a a)
atom_same (number whole) = tt
atom_same bool = tt
atom_same (given g) = eqb_refl g

cond_true : {A : Type 0} (b : Bool) (x y : A) → T b → cond b x y ≡ x
cond_true true x y h = refl
cond_true false x y h = absurd h

-- What depends on the test of two atoms that are the types of one value.
cond_atoms : {A : Type 0} (a b : Atom) (t : Ty) (x y : A) → t ≡ atom a → t ≡ atom b → cond (same_atom a b) x y ≡ x
cond_atoms a b t x y h k =
    let e : a ≡ b = cc in
    cond_true (same_atom a b) x y (subst (λ (c : Atom). T (same_atom a c)) e (atom_same a))

-- A type of both p and q is one of p ⊓ q.
pub ⊓_join : (p q : TypeSet) (t : Ty) → p ⊑ t → q ⊑ t → p ⊓ q ⊑ t
⊓_join every q t h k = k
⊓_join no_type q t h k = h
⊓_join (atomˢ a) every t h k = h
⊓_join (atomˢ a) no_type t h k = k
⊓_join (atomˢ a) (atomˢ b) t h k = rw (cond_atoms a b t (atomˢ a) no_type h k) h
⊓_join (atomˢ a) (powˢ q) t h k = atom_pow a _ t h k
⊓_join (atomˢ a) (q₁ ×ˢ q₂) t h k = atom_product a _ t h k
⊓_join (powˢ p) every t h k = h
⊓_join (powˢ p) no_type t h k = k
⊓_join (powˢ p) (atomˢ b) t h k = atom_pow b _ t k h
⊓_join (powˢ p) (powˢ q) (atom a) h k = h
⊓_join (powˢ p) (powˢ q) (POW t) h k = ⊓_join p q t h k
⊓_join (powˢ p) (powˢ q) (t ⊗ u) h k = h
⊓_join (powˢ p) (q₁ ×ˢ q₂) t h k = pow_product _ _ t h k
⊓_join (p₁ ×ˢ p₂) every t h k = h
⊓_join (p₁ ×ˢ p₂) no_type t h k = k
⊓_join (p₁ ×ˢ p₂) (atomˢ b) t h k = atom_product b _ t k h
⊓_join (p₁ ×ˢ p₂) (powˢ q) t h k = pow_product _ _ t k h
⊓_join (p₁ ×ˢ p₂) (q₁ ×ˢ q₂) (atom a) h k = h
⊓_join (p₁ ×ˢ p₂) (q₁ ×ˢ q₂) (POW t) h k = h
⊓_join (p₁ ×ˢ p₂) (q₁ ×ˢ q₂) (t ⊗ u) h k = (⊓_join p₁ q₁ t h.0 k.0, ⊓_join p₂ q₂ u h.1 k.1)

-- A type of p ⊓ q is one of p and one of q.
pub ⊓_split : (p q : TypeSet) (t : Ty) → p ⊓ q ⊑ t → p ⊑ t × q ⊑ t
⊓_split every q t h = (tt, h)
⊓_split no_type q t h = absurd h
⊓_split (atomˢ a) every t h = (h, tt)
⊓_split (atomˢ a) no_type t h = absurd h
⊓_split (atomˢ a) (atomˢ b) t h = go (same_atom a b) (same_atom_law a b) h
  where
    go : (c : Bool) → (T c → a ≡ b) → cond c (atomˢ a) no_type ⊑ t → (t ≡ atom a) × (t ≡ atom b)
    go true e k = (k, k ∙ ap atom (e tt))
    go false e k = absurd k
⊓_split (atomˢ a) (powˢ q) t h = absurd h
⊓_split (atomˢ a) (q₁ ×ˢ q₂) t h = absurd h
⊓_split (powˢ p) every t h = (h, tt)
⊓_split (powˢ p) no_type t h = absurd h
⊓_split (powˢ p) (atomˢ b) t h = absurd h
⊓_split (powˢ p) (powˢ q) (atom a) h = absurd h
⊓_split (powˢ p) (powˢ q) (POW t) h = ⊓_split p q t h
⊓_split (powˢ p) (powˢ q) (t ⊗ u) h = absurd h
⊓_split (powˢ p) (q₁ ×ˢ q₂) t h = absurd h
⊓_split (p₁ ×ˢ p₂) every t h = (h, tt)
⊓_split (p₁ ×ˢ p₂) no_type t h = absurd h
⊓_split (p₁ ×ˢ p₂) (atomˢ b) t h = absurd h
⊓_split (p₁ ×ˢ p₂) (powˢ q) t h = absurd h
⊓_split (p₁ ×ˢ p₂) (q₁ ×ˢ q₂) (atom a) h = absurd h
⊓_split (p₁ ×ˢ p₂) (q₁ ×ˢ q₂) (POW t) h = absurd h
⊓_split (p₁ ×ˢ p₂) (q₁ ×ˢ q₂) (t ⊗ u) h =
    let a = ⊓_split p₁ q₁ t h.0 in
    let b = ⊓_split p₂ q₂ u h.1 in
    ((a.0, b.0), (a.1, b.1))

-- The types of a value are in its set of types.
mutual
  pub has→types : (v : Value) (t : Ty) → HasType v t → types_of v ⊑ t
  has→types (scalar s) t h = h
  has→types (pair v w) (atom a) h = h
  has→types (pair v w) (POW t) h = h
  has→types (pair v w) (t ⊗ u) h = (has→types v t h.0, has→types w u h.1)
  has→types (set s) (atom a) h = h
  has→types (set s) (POW t) h = have→shared_types s t h
  has→types (set s) (t ⊗ u) h = h

  pub have→shared_types : (s : Values) (t : Ty) → HaveType s t → shared_types s ⊑ t
  have→shared_types none t h = tt
  have→shared_types (v ▸ vs) t h = ⊓_join (types_of v) (shared_types vs) t (has→types v t h.0) (have→shared_types vs t h.1)

-- The types in its set are the value's.
mutual
  pub types→has : (v : Value) (t : Ty) → types_of v ⊑ t → HasType v t
  types→has (scalar s) t h = h
  types→has (pair v w) (atom a) h = h
  types→has (pair v w) (POW t) h = h
  types→has (pair v w) (t ⊗ u) h = (types→has v t h.0, types→has w u h.1)
  types→has (set s) (atom a) h = h
  types→has (set s) (POW t) h = shared_types→have s t h
  types→has (set s) (t ⊗ u) h = h

  pub shared_types→have : (s : Values) (t : Ty) → shared_types s ⊑ t → HaveType s t
  shared_types→have none t h = tt
  shared_types→have (v ▸ vs) t h =
      let k = ⊓_split (types_of v) (shared_types vs) t h in
      (types→has v t k.0, shared_types→have vs t k.1)

-- An inhabited set has a type.
pub inhabited→some : (p : TypeSet) → T (inhabited p) → (t : Ty) × p ⊑ t
inhabited→some every h = (INTEGER, tt)
inhabited→some no_type h = absurd h
inhabited→some (atomˢ a) h = (atom a, refl)
inhabited→some (powˢ p) h = let r = inhabited→some p h in (POW r.0, r.1)
inhabited→some (p ×ˢ q) h =
    let k = and_split (inhabited p) (inhabited q) h in
    let r = inhabited→some p k.0 in
    let s = inhabited→some q k.1 in
    (r.0 ⊗ s.0, (r.1, s.1))

-- A set with a type is inhabited.
pub some→inhabited : (p : TypeSet) (t : Ty) → p ⊑ t → T (inhabited p)
some→inhabited every t h = tt
some→inhabited no_type t h = h
some→inhabited (atomˢ a) t h = tt
some→inhabited (powˢ p) (atom a) h = absurd h
some→inhabited (powˢ p) (POW t) h = some→inhabited p t h
some→inhabited (powˢ p) (t ⊗ u) h = absurd h
some→inhabited (p ×ˢ q) (atom a) h = absurd h
some→inhabited (p ×ˢ q) (POW t) h = absurd h
some→inhabited (p ×ˢ q) (t ⊗ u) h = and_of (inhabited p) (inhabited q) (some→inhabited p t h.0) (some→inhabited q u h.1)

-- `typed` (a part of refusal 14) says that a value has a type.
pub typed_right : (v : Value) → T (typed v) ↔ ((t : Ty) × HasType v t)
unfolding typed
typed_right v = (
  (λ h. let r = inhabited→some (types_of v) h in (r.0, types→has v r.0 r.1)),
  (λ x. some→inhabited (types_of v) x.0 (has→types v x.0 x.1)),
)

-- A pair of types is among those left for t and u.
abbrev pub Leaves : Asked → Ty → Ty → Type 0
Leaves a t u = (a.0 ⊑ t) × (a.1 ⊑ u)

ask_atom_law : (a : Atom) (s : TypeSet) (t u : Ty) → s ⊑ atom a → Leaves (ask_atom a s) t u
ask_atom_law a every t u h = (tt, tt)
ask_atom_law a no_type t u h = absurd h
ask_atom_law a (atomˢ b) t u h = rw (cond_atoms a b (atom a) anything nothing_fits refl h) (tt, tt)
ask_atom_law a (powˢ q) t u h = absurd h
ask_atom_law a (q₁ ×ˢ q₂) t u h = absurd h

atom_ask : (a : Atom) (s : TypeSet) (t u : Ty) → Leaves (ask_atom a s) t u → s ⊑ atom a
atom_ask a every t u h = tt
atom_ask a no_type t u h = h.0
atom_ask a (atomˢ b) t u h = go (same_atom a b) (same_atom_law a b) h
  where
    go : (c : Bool) → (T c → a ≡ b) → Leaves (cond c anything nothing_fits) t u → atom a ≡ atom b
    go true e k = ap atom (e tt)
    go false e k = absurd k.0
atom_ask a (powˢ q) t u h = absurd h.0
atom_ask a (q₁ ×ˢ q₂) t u h = absurd h.0

both : (a b : Asked) (t u : Ty) → Leaves a t u → Leaves b t u → Leaves (a.0 ⊓ b.0, a.1 ⊓ b.1) t u
both a b t u h k = (⊓_join a.0 b.0 t h.0 k.0, ⊓_join a.1 b.1 u h.1 k.1)

each : (a b : Asked) (t u : Ty) → Leaves (a.0 ⊓ b.0, a.1 ⊓ b.1) t u → Leaves a t u × Leaves b t u
each a b t u h =
    let k = ⊓_split a.0 b.0 t h.0 in
    let l = ⊓_split a.1 b.1 u h.1 in
    ((k.0, l.0), (k.1, l.1))

-- Where a pattern is at t and u in the set, t and u are as it asks.
pub asked_of : (p : Pattern) (s : TypeSet) (t u : Ty) → s ⊑ inst p t u → Leaves (asked p s) t u
asked_of t̂ s t u h = (h, tt)
asked_of û s t u h = (tt, h)
asked_of (atom̂ a) s t u h = ask_atom_law a s t u h
asked_of (P̂ p) every t u h = (tt, tt)
asked_of (P̂ p) no_type t u h = absurd h
asked_of (P̂ p) (atomˢ a) t u h = absurd (atom_pow a (λ _. Unit {0}) _ h tt)
asked_of (P̂ p) (powˢ q) t u h = asked_of p q t u h
asked_of (P̂ p) (q₁ ×ˢ q₂) t u h = absurd h
asked_of (p₁ ×̂ p₂) every t u h = (tt, tt)
asked_of (p₁ ×̂ p₂) no_type t u h = absurd h
asked_of (p₁ ×̂ p₂) (atomˢ a) t u h = absurd (atom_product a (λ _ _. Unit {0}) _ h tt)
asked_of (p₁ ×̂ p₂) (powˢ q) t u h = absurd h
asked_of (p₁ ×̂ p₂) (q₁ ×ˢ q₂) t u h = both (asked p₁ q₁) (asked p₂ q₂) t u (asked_of p₁ q₁ t u h.0) (asked_of p₂ q₂ t u h.1)

-- Where t and u are as a pattern asks, it is at t and u in the set.
pub of_asked : (p : Pattern) (s : TypeSet) (t u : Ty) → Leaves (asked p s) t u → s ⊑ inst p t u
of_asked t̂ s t u h = h.0
of_asked û s t u h = h.1
of_asked (atom̂ a) s t u h = atom_ask a s t u h
of_asked (P̂ p) every t u h = tt
of_asked (P̂ p) no_type t u h = h.0
of_asked (P̂ p) (atomˢ a) t u h = absurd h.0
of_asked (P̂ p) (powˢ q) t u h = of_asked p q t u h
of_asked (P̂ p) (q₁ ×ˢ q₂) t u h = absurd h.0
of_asked (p₁ ×̂ p₂) every t u h = tt
of_asked (p₁ ×̂ p₂) no_type t u h = h.0
of_asked (p₁ ×̂ p₂) (atomˢ a) t u h = absurd h.0
of_asked (p₁ ×̂ p₂) (powˢ q) t u h = absurd h.0
of_asked (p₁ ×̂ p₂) (q₁ ×ˢ q₂) t u h =
    let k = each (asked p₁ q₁) (asked p₂ q₂) t u h in
    (of_asked p₁ q₁ t u k.0, of_asked p₂ q₂ t u k.1)

fit_asked : (ps : List Pattern) (vs : List Value) (t u : Ty) → FitAt ps vs t u → Leaves (asked_all ps vs) t u
fit_asked [] vs t u h = (tt, tt)
fit_asked (p ∷ ps) [] t u h = absurd h
fit_asked (p ∷ ps) (v ∷ vs) t u h =
    both (asked p (types_of v)) (asked_all ps vs) t u (asked_of p (types_of v) t u (has→types v (inst p t u) h.0)) (fit_asked ps vs t u h.1)

asked_fit : (ps : List Pattern) (vs : List Value) (t u : Ty) → Leaves (asked_all ps vs) t u → FitAt ps vs t u
asked_fit [] vs t u h = tt
asked_fit (p ∷ ps) [] t u h = h.0
asked_fit (p ∷ ps) (v ∷ vs) t u h =
    let k = each (asked p (types_of v)) (asked_all ps vs) t u h in
    (types→has v (inst p t u) (of_asked p (types_of v) t u k.0), asked_fit ps vs t u k.1)

-- The test of refusal 15 says for every rule that some t and u fit.
pub fits_right : (ps : List Pattern) (vs : List Value) → T (fits ps vs) ↔ Fits ps vs
unfolding fits
fits_right ps vs = (there, back)
  where
    there : T (fits ps vs) → Fits ps vs
    there h =
        let k = and_split (inhabited (asked_all ps vs).0) (inhabited (asked_all ps vs).1) h in
        let r = inhabited→some (asked_all ps vs).0 k.0 in
        let s = inhabited→some (asked_all ps vs).1 k.1 in
        (r.0, s.0, asked_fit ps vs r.0 s.0 (r.1, s.1))

    back : Fits ps vs → T (fits ps vs)
    back x =
        let a = fit_asked ps vs x.0 x.1 x.2 in
        and_of (inhabited (asked_all ps vs).0) (inhabited (asked_all ps vs).1)
        (some→inhabited (asked_all ps vs).0 x.0 a.0) (some→inhabited (asked_all ps vs).1 x.1 a.1)

-- The pattern of a type is that type at every t and u.
exactly_inst : (t a b : Ty) → inst (exactly t) a b ≡ t
exactly_inst (atom x) a b = refl
exactly_inst (POW t) a b = ap POW (exactly_inst t a b)
exactly_inst (t ⊗ u) a b = ap₂ ◌⊗◌ (exactly_inst t a b) (exactly_inst u a b)

-- `has_type` says that a value has a type.
pub has_type_right : (v : Value) (t : Ty) → T (has_type v t) ↔ HasType v t
unfolding has_type
has_type_right v t = (
  (λ h. let x = (fits_right (exactly t ∷ []) (v ∷ [])).0 h in subst (HasType v) (exactly_inst t x.0 x.1) x.2.0),
  (λ h. (fits_right (exactly t ∷ []) (v ∷ [])).1 (t, t, (subst⁻¹ (HasType v) (exactly_inst t t t) h, tt))),
)
