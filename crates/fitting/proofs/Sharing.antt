-- Sharing a type: consistency of sets of types is pairwise, and a value without empty sets has one type only.
use Prim.Native.Nat.{ℕ}
use mathlib.Core.Bool.{false, ◌&&◌}
use mathlib.Core.Path.{◌≡◌, refl, sym, ap, ◌∙◌, subst}
use mathlib.Core.Logic.{◌≢◌}
use lib.Dec.{T}
use Rattle.rules.specs.Types.{whole, number, bool, given, Ty, atom, POW, ◌⊗◌}
use Rattle.rules.specs.Values.{num, truth, element, tag, Value, scalar, pair, set, Values, none, ◌▸◌}
use Rattle.rules.specs.Fits.{TypeSet, every, no_type, atomˢ, powˢ, ◌×ˢ◌, ◌⊓◌, types_of, shared_types, inhabited}
use Rattle.laws.proofs.FitsLaws.{◌⊑◌, ⊓_join, ⊓_split, inhabited→some, some→inhabited}
use Rattle.fitting.specs.Agree.{meets, agree, Full, FullSet}
use Rattle.rules.proofs.Basics.{and_of, and_split, bool_eq}

-- Two sets of types that have one in common.
abbrev pub Share : TypeSet → TypeSet → Type 0
Share p q = (t : Ty) × (p ⊑ t) × (q ⊑ t)

pub meets→share : (p q : TypeSet) → T (meets p q) → Share p q
unfolding meets
meets→share p q h = let (t, k) = inhabited→some (p ⊓ q) h in let (x, y) = ⊓_split p q t k in (t, x, y)

pub share→meets : (p q : TypeSet) → Share p q → T (meets p q)
unfolding meets
share→meets p q x = some→inhabited (p ⊓ q) x.0 (⊓_join p q x.0 x.1 x.2)

pub no_meet : (p q : TypeSet) → (Share p q → ⊥) → meets p q ≡ false
no_meet p q n = bool_eq (meets p q) false (λ h. n (meets→share p q h)) (λ h. absurd h)

-- Where each two of three sets of types have one in common, all three have.
pub pairwise : (p q r : TypeSet) → T (inhabited (p ⊓ q)) → T (inhabited (p ⊓ r)) → T (inhabited (q ⊓ r)) → T (inhabited ((p ⊓ q) ⊓ r))
pairwise every q r h k l = l
pairwise no_type q r h k l = h
pairwise (atomˢ a) q r h k l =
    let (t, x) = inhabited→some (atomˢ a ⊓ q) h in
    let (u, y) = inhabited→some (atomˢ a ⊓ r) k in
    let (e, z) = ⊓_split (atomˢ a) r u y in
    some→inhabited ((atomˢ a ⊓ q) ⊓ r) t (⊓_join (atomˢ a ⊓ q) r t x (subst (λ (v : Ty). r ⊑ v) (e ∙ sym (⊓_split (atomˢ a) q t x).0) z))
pairwise (powˢ p) every r h k l = k
pairwise (powˢ p) no_type r h k l = absurd h
pairwise (powˢ p) (atomˢ b) r h k l = absurd h
pairwise (powˢ p) (powˢ q) every h k l = h
pairwise (powˢ p) (powˢ q) no_type h k l = k
pairwise (powˢ p) (powˢ q) (atomˢ c) h k l = k
pairwise (powˢ p) (powˢ q) (powˢ r) h k l = pairwise p q r h k l
pairwise (powˢ p) (powˢ q) (r₁ ×ˢ r₂) h k l = k
pairwise (powˢ p) (q₁ ×ˢ q₂) r h k l = absurd h
pairwise (p₁ ×ˢ p₂) every r h k l = k
pairwise (p₁ ×ˢ p₂) no_type r h k l = absurd h
pairwise (p₁ ×ˢ p₂) (atomˢ b) r h k l = absurd h
pairwise (p₁ ×ˢ p₂) (powˢ q) r h k l = absurd h
pairwise (p₁ ×ˢ p₂) (q₁ ×ˢ q₂) every h k l = h
pairwise (p₁ ×ˢ p₂) (q₁ ×ˢ q₂) no_type h k l = k
pairwise (p₁ ×ˢ p₂) (q₁ ×ˢ q₂) (atomˢ c) h k l = k
pairwise (p₁ ×ˢ p₂) (q₁ ×ˢ q₂) (powˢ r) h k l = k
pairwise (p₁ ×ˢ p₂) (q₁ ×ˢ q₂) (r₁ ×ˢ r₂) h k l =
    let a = and_split (inhabited (p₁ ⊓ q₁)) (inhabited (p₂ ⊓ q₂)) h in
    let b = and_split (inhabited (p₁ ⊓ r₁)) (inhabited (p₂ ⊓ r₂)) k in
    let c = and_split (inhabited (q₁ ⊓ r₁)) (inhabited (q₂ ⊓ r₂)) l in
    and_of (inhabited ((p₁ ⊓ q₁) ⊓ r₁)) (inhabited ((p₂ ⊓ q₂) ⊓ r₂))
    (pairwise p₁ q₁ r₁ a.0 b.0 c.0) (pairwise p₂ q₂ r₂ a.1 b.1 c.1)

-- So what meets two sets of types that have one in common meets each of them.
pub meets_first : (q r p : TypeSet) → T (inhabited (q ⊓ r)) → meets (q ⊓ r) p ≡ (meets q p && meets r p)
unfolding meets
meets_first q r p l =
    bool_eq (meets (q ⊓ r) p) (meets q p && meets r p)
    (λ h. let x = meets→share (q ⊓ r) p h in
    let k = ⊓_split q r x.0 x.1 in
    and_of (meets q p) (meets r p) (share→meets q p (x.0, k.0, x.2)) (share→meets r p (x.0, k.1, x.2)))
    (λ h. let k = and_split (meets q p) (meets r p) h in pairwise q r p l k.0 k.1)

pub meets_sym : (p q : TypeSet) → meets p q ≡ meets q p
meets_sym p q =
    bool_eq (meets p q) (meets q p)
    (λ h. let x = meets→share p q h in share→meets q p (x.0, x.2, x.1))
    (λ h. let x = meets→share q p h in share→meets p q (x.0, x.2, x.1))

-- The types of sets and of pairs.
pub as_power : (p : TypeSet) (t : Ty) → powˢ p ⊑ t → (u : Ty) × (t ≡ POW u) × (p ⊑ u)
as_power p (atom a) h = absurd h
as_power p (POW t) h = (t, refl, h)
as_power p (t ⊗ u) h = absurd h

pub as_product : (p q : TypeSet) (t : Ty) → (p ×ˢ q) ⊑ t → (u : Ty) × (w : Ty) × (t ≡ u ⊗ w) × (p ⊑ u) × (q ⊑ w)
as_product p q (atom a) h = absurd h
as_product p q (POW t) h = absurd h
as_product p q (t ⊗ u) h = (t, u, refl, h.0, h.1)

-- The tag of the values of a type.
abbrev pub tag_of : Ty → ℕ
tag_of (atom (number whole)) = 1
tag_of (atom bool) = 2
tag_of (atom (given g)) = 3
tag_of (t ⊗ u) = 4
tag_of (POW t) = 5

pub tag_type : (v : Value) (t : Ty) → types_of v ⊑ t → tag v ≡ tag_of t
tag_type (scalar (num whole i)) t h = sym (ap tag_of h)
tag_type (scalar (truth b)) t h = sym (ap tag_of h)
tag_type (scalar (element g k)) t h = sym (ap tag_of h)
tag_type (pair v w) t h = sym (ap tag_of (as_product (types_of v) (types_of w) t h).2)
tag_type (set s) t h = sym (ap tag_of (as_power (shared_types s) t h).1)

-- Values of different tags share no type.
pub tags_differ : (v w : Value) → tag v ≢ tag w → agree v w ≡ false
unfolding agree
tags_differ v w n = no_meet (types_of v) (types_of w) (λ x. n (tag_type v x.0 x.1 ∙ sym (tag_type w x.0 x.2)))

-- The parts of two sets of types that have one in common.
pub left_typed : (p q : TypeSet) → T (inhabited (p ⊓ q)) → T (inhabited p)
left_typed p q h = let r = inhabited→some (p ⊓ q) h in some→inhabited p r.0 (⊓_split p q r.0 r.1).0

pub right_typed : (p q : TypeSet) → T (inhabited (p ⊓ q)) → T (inhabited q)
right_typed p q h = let r = inhabited→some (p ⊓ q) h in some→inhabited q r.0 (⊓_split p q r.0 r.1).1

pub ⊓_every : (p : TypeSet) → p ⊓ every ≡ p
⊓_every every = refl
⊓_every no_type = refl
⊓_every (atomˢ a) = refl
⊓_every (powˢ q) = refl
⊓_every (q ×ˢ r) = refl

pub with_every : (p : TypeSet) → T (inhabited p) → T (inhabited (p ⊓ every))
with_every p h = rw (⊓_every p) h

-- A full value has at most one type.
mutual
  pub ground : (v : Value) (t u : Ty) → Full v → types_of v ⊑ t → types_of v ⊑ u → t ≡ u
  ground (scalar x) t u f h k = h ∙ sym k
  ground (pair v w) t u f h k =
      let x = as_product (types_of v) (types_of w) t h in
      let y = as_product (types_of v) (types_of w) u k in
      cc (x.2, y.2, ground v x.0 y.0 f.0 x.3 y.3, ground w x.1 y.1 f.1 x.4 y.4)
  ground (set vs) t u f h k =
      let x = as_power (shared_types vs) t h in
      let y = as_power (shared_types vs) u k in
      cc (x.1, y.1, ground_set vs x.0 y.0 f x.2 y.2)

  ground_set : (s : Values) (t u : Ty) → FullSet s → shared_types s ⊑ t → shared_types s ⊑ u → t ≡ u
  ground_set none t u f h k = absurd f
  ground_set (v ▸ vs) t u f h k = ground v t u f.0 (⊓_split (types_of v) (shared_types vs) t h).0 (⊓_split (types_of v) (shared_types vs) u k).0

-- Types of p that all or none are in q: what meets p meets those of them that are in r.
pub narrowed : (p r q : TypeSet) → T (inhabited (p ⊓ r)) → ((t u : Ty) → p ⊑ t → p ⊑ u → q ⊑ t → q ⊑ u) → meets p q ≡ meets (p ⊓ r) q
narrowed p r q l f =
    bool_eq (meets p q) (meets (p ⊓ r) q)
    (λ h. let x = meets→share p q h in
    let y = inhabited→some (p ⊓ r) l in
    share→meets (p ⊓ r) q (y.0, y.1, f x.0 y.0 x.1 (⊓_split p r y.0 y.1).0 x.2))
    (λ h. let x = meets→share (p ⊓ r) q h in share→meets p q (x.0, (⊓_split p r x.0 x.1).0, x.2))

-- The types of a full value that has a type are that one: what meets it meets all that share its type.
pub full_first : (v : Value) (r q : TypeSet) → Full v → T (inhabited (types_of v ⊓ r)) → meets (types_of v) q ≡ meets (types_of v ⊓ r) q
full_first v r q f l = narrowed (types_of v) r q l (λ t u h k j. subst (λ (z : Ty). q ⊑ z) (ground v t u f h k) j)

-- Sets of types that stand for others.
pub meets_same : (p p' q q' : TypeSet) → ((x : TypeSet) → meets p x ≡ meets p' x) → ((x : TypeSet) → meets q x ≡ meets q' x) → meets p q ≡ meets p' q'
meets_same p p' q q' f g = f q ∙ meets_sym p' q ∙ g p' ∙ meets_sym q' p'
