-- Document 01: the types of a value ("Values and evaluation", first paragraph), and refusal 15 as a test on values.
use Rattle.std.specs.Prelude.{List, [], ◌∷◌, Bool, true, false, ◌&&◌, cond, ◌≡◌, eqb}
use Rattle.rules.specs.Types.{Number, whole, Atom, number, bool, given, Ty, atom, POW, ◌⊗◌}
use Rattle.rules.specs.Values.{Scalar, num, truth, element, Value, scalar, pair, set, Values, none, ◌▸◌}
use Rattle.rules.specs.Rules.{Pattern, t̂, û, atom̂, P̂, ◌×̂◌, inst}

-- A type is POW(u) with F u.
abbrev pub IfPow : (Ty → Type 0) → Ty → Type 0
IfPow F (atom a) = ⊥
IfPow F (POW u) = F u
IfPow F (u ⊗ w) = ⊥

-- A type is u × w with F u w.
abbrev pub IfProduct : (Ty → Ty → Type 0) → Ty → Type 0
IfProduct F (atom a) = ⊥
IfProduct F (POW u) = ⊥
IfProduct F (u ⊗ w) = F u w

abbrev pub atom_of : Scalar → Atom
atom_of (num n i) = number n
atom_of (truth b) = bool
atom_of (element g k) = given g

-- The types of a value: a value of one cell has its own, a pair the product of its parts' types, a set POW(t) where
-- all its members have t. So the empty set has every POW(t).
abbrev mutual
  pub HasType : Value → Ty → Type 0
  HasType (scalar s) t = t ≡ atom (atom_of s)
  HasType (pair v w) t = IfProduct (λ t₁ t₂. HasType v t₁ × HasType w t₂) t
  HasType (set s) t = IfPow (λ t₁. HaveType s t₁) t

  pub HaveType : Values → Ty → Type 0
  HaveType none t = Unit {0}
  HaveType (v ▸ vs) t = HasType v t × HaveType vs t

-- Operand values have the types that a rule takes, at t and u.
abbrev pub FitAt : List Pattern → List Value → Ty → Ty → Type 0
FitAt [] vs t u = Unit {0}
FitAt (p ∷ ps) [] t u = ⊥
FitAt (p ∷ ps) (v ∷ vs) t u = HasType v (inst p t u) × FitAt ps vs t u

-- Some instance of a rule fits the operand values: what refusal 15 denies.
abbrev pub Fits : List Pattern → List Value → Type 0
Fits ps vs = (t : Ty) × (u : Ty) × FitAt ps vs t u

-- What follows computes `Fits`; `fits_right` in proofs/FitsLaws.antt says that it does.

abbrev pub same_number : Number → Number → Bool
same_number whole m = elim m [ whole ↦ true ]

abbrev pub same_atom : Atom → Atom → Bool
same_atom (number n) a = elim a [ number m ↦ same_number n m | bool ↦ false | given h ↦ false ]
same_atom bool a = elim a [ number m ↦ false | bool ↦ true | given h ↦ false ]
same_atom (given g) a = elim a [ number m ↦ false | bool ↦ false | given h ↦ eqb g h ]

infixr 60 ◌×ˢ◌
-- A set of types: all, none, one without parts, the powers of a set's types, the products of two sets' types.
pub data TypeSet : Type 0 where
  every no_type : TypeSet
  atomˢ : Atom → TypeSet
  powˢ : TypeSet → TypeSet
  ◌×ˢ◌ : TypeSet → TypeSet → TypeSet

infixr 50 ◌⊓◌
-- The types in both of two sets.
abbrev pub ◌⊓◌ : TypeSet → TypeSet → TypeSet
every ⊓ q = q
no_type ⊓ q = no_type
atomˢ a ⊓ q = elim q [ every ↦ atomˢ a | no_type ↦ no_type | atomˢ b ↦ cond (same_atom a b) (atomˢ a) no_type | powˢ q₁ ↦ no_type | q₁ ×ˢ q₂ ↦ no_type ]
powˢ p ⊓ q = elim q [ every ↦ powˢ p | no_type ↦ no_type | atomˢ b ↦ no_type | powˢ q₁ ↦ powˢ (p ⊓ q₁) | q₁ ×ˢ q₂ ↦ no_type ]
(p₁ ×ˢ p₂) ⊓ q = elim q [ every ↦ p₁ ×ˢ p₂ | no_type ↦ no_type | atomˢ b ↦ no_type | powˢ q₁ ↦ no_type | q₁ ×ˢ q₂ ↦ (p₁ ⊓ q₁) ×ˢ (p₂ ⊓ q₂) ]

-- The types of a value.
abbrev mutual
  pub types_of : Value → TypeSet
  types_of (scalar s) = atomˢ (atom_of s)
  types_of (pair v w) = types_of v ×ˢ types_of w
  types_of (set s) = powˢ (shared_types s)

  pub shared_types : Values → TypeSet
  shared_types none = every
  shared_types (v ▸ vs) = types_of v ⊓ shared_types vs

-- A set has a type in it.
abbrev pub inhabited : TypeSet → Bool
inhabited every = true
inhabited no_type = false
inhabited (atomˢ a) = true
inhabited (powˢ p) = inhabited p
inhabited (p ×ˢ q) = inhabited p && inhabited q

-- A value has a type: at no depth do the members of a set share none.
unfoldable pub typed : Value → Bool
typed v = inhabited (types_of v)

-- The types that are left for t and for u.
abbrev pub Asked : Type 0
Asked = TypeSet × TypeSet

infixr 50 ◌⊓ᵃ◌
abbrev pub ◌⊓ᵃ◌ : Asked → Asked → Asked
a ⊓ᵃ b = (a.0 ⊓ b.0, a.1 ⊓ b.1)

abbrev pub anything : Asked
anything = (every, every)

abbrev pub nothing_fits : Asked
nothing_fits = (no_type, every)

abbrev pub ask_atom : Atom → TypeSet → Asked
ask_atom a every = anything
ask_atom a no_type = nothing_fits
ask_atom a (atomˢ b) = cond (same_atom a b) anything nothing_fits
ask_atom a (powˢ q) = nothing_fits
ask_atom a (q₁ ×ˢ q₂) = nothing_fits

-- What a pattern asks of t and u where the value's types are those of a set.
abbrev pub asked : Pattern → TypeSet → Asked
asked t̂ s = (s, every)
asked û s = (every, s)
asked (atom̂ a) s = ask_atom a s
asked (P̂ p) s = elim s [ every ↦ anything | no_type ↦ nothing_fits | atomˢ a ↦ nothing_fits | powˢ q ↦ asked p q | q₁ ×ˢ q₂ ↦ nothing_fits ]
asked (p₁ ×̂ p₂) s =
    elim s [ every ↦ anything | no_type ↦ nothing_fits | atomˢ a ↦ nothing_fits | powˢ q ↦ nothing_fits | q₁ ×ˢ q₂ ↦ asked p₁ q₁ ⊓ᵃ asked p₂ q₂ ]

abbrev pub asked_all : List Pattern → List Value → Asked
asked_all [] vs = anything
asked_all (p ∷ ps) [] = nothing_fits
asked_all (p ∷ ps) (v ∷ vs) = asked p (types_of v) ⊓ᵃ asked_all ps vs

-- The test of refusal 15.
unfoldable pub fits : List Pattern → List Value → Bool
fits ps vs = let a = asked_all ps vs in inhabited a.0 && inhabited a.1

-- The pattern that one type fits, and no other.
abbrev pub exactly : Ty → Pattern
exactly (atom a) = atom̂ a
exactly (POW t) = P̂ (exactly t)
exactly (t ⊗ u) = exactly t ×̂ exactly u

-- Whether a value has a type: the test of refusal 15 at this type alone.
unfoldable pub has_type : Value → Ty → Bool
unfolding fits
has_type v t = fits (exactly t ∷ []) (v ∷ [])
