-- Document 01, "Kinds and typing rules", second paragraph: types, their weight and their row in a sheet.
use Rattle.std.specs.Prelude.{ℕ, zero, suc, ◌+◌, ◌-◌, ◌<◌, cond, List, [], ◌∷◌, ◌++◌, leb, replicate}
use Rattle.std.proofs.Math.Option.{Option, none as nothing, some, bind}

-- The number types. There is one so far; what speaks of numbers takes the type as a parameter.
pub data Number : Type 0 where
  whole : Number

-- Types without parts: a number type, BOOL, the given set with a number.
pub data Atom : Type 0 where
  number : Number → Atom
  bool : Atom
  given : ℕ → Atom

infixr 60 ◌⊗◌
-- The types of the paper: those without parts, POW(t), and t × u, here t ⊗ u.
pub data Ty : Type 0 where
  atom : Atom → Ty
  POW : Ty → Ty
  ◌⊗◌ : Ty → Ty → Ty

abbrev pub INTEGER : Ty
INTEGER = atom (number whole)

abbrev pub BOOL : Ty
BOOL = atom bool

-- The type of the given set g.
abbrev pub G : ℕ → Ty
G g = atom (given g)

-- Weight of a type: 1 for each of its constructors.
abbrev pub weightᵀ : Ty → ℕ
weightᵀ (atom a) = 1
weightᵀ (POW t) = 1 + weightᵀ t
weightᵀ (t ⊗ u) = 1 + (weightᵀ t + weightᵀ u)

abbrev pub DeclaredAtom : ℕ → Atom → Type 0
DeclaredAtom n (number k) = Unit {0}
DeclaredAtom n bool = Unit {0}
DeclaredAtom n (given g) = g < n

-- A type of a table with n given sets: each given set in it has a number below n.
abbrev pub Declared : ℕ → Ty → Type 0
Declared n (atom a) = DeclaredAtom n a
Declared n (POW t) = Declared n t
Declared n (t ⊗ u) = Declared n t × Declared n u

abbrev pub atom_code : Atom → ℕ
atom_code (number whole) = 1
atom_code bool = 2
atom_code (given g) = 16 + g

-- The codes of a type in prefix order: 3 is POW, 4 is ×.
abbrev pub prefix : Ty → List ℕ
prefix (atom a) = atom_code a ∷ []
prefix (POW t) = 3 ∷ prefix t
prefix (t ⊗ u) = 4 ∷ (prefix t ++ prefix u)

-- A row of the sheet: the codes, then zeros up to 64 bytes.
unfoldable pub row : Ty → List ℕ
row t = prefix t ++ replicate (64 - weightᵀ t) 0

unfoldable pub empty_row : List ℕ
empty_row = replicate 64 0

-- A row read back, from its last byte on: what a code makes of the types behind it. A type without parts comes before them, POW
-- takes the first of them as its part, × the first two; a zero has only zeros behind it.
abbrev pub code_before : ℕ → List Ty → Option (List Ty)
code_before zero [] = some []
code_before zero (t ∷ ts) = nothing
code_before (suc zero) ts = some (INTEGER ∷ ts)
code_before (suc (suc zero)) ts = some (BOOL ∷ ts)
code_before (suc (suc (suc zero))) [] = nothing
code_before (suc (suc (suc zero))) (t ∷ ts) = some (POW t ∷ ts)
code_before (suc (suc (suc (suc zero)))) [] = nothing
code_before (suc (suc (suc (suc zero)))) (t ∷ []) = nothing
code_before (suc (suc (suc (suc zero)))) (t ∷ u ∷ ts) = some ((t ⊗ u) ∷ ts)
code_before (suc (suc (suc (suc (suc c))))) ts = let code = 5 + c in cond (leb 16 code) (some (G (code - 16) ∷ ts)) nothing

-- The types whose codes follow one another in a list, with zeros behind the last; nothing where it is no such list.
unfoldable pub types_in : List ℕ → Option (List Ty)
unfolding bind
types_in [] = some []
types_in (c ∷ cs) = bind (types_in cs) (code_before c)

abbrev pub only_type : Option (List Ty) → Option Ty
only_type nothing = nothing
only_type (some []) = nothing
only_type (some (t ∷ [])) = some t
only_type (some (t ∷ u ∷ ts)) = nothing

-- The type whose row these 64 bytes are; nothing where they are the row of none. `type_of_row_right` in proofs/TypeLaws.antt says
-- that it is so.
unfoldable pub type_of_row : List ℕ → Option Ty
unfolding types_in
type_of_row bs = only_type (types_in bs)
