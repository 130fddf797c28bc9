-- What the steps of the scan and of the sheet take for granted and ensure.
use Rattle.std.specs.Prelude.{ℕ, zero, suc, ◌+◌, ◌*◌, ◌-◌, ◌%◌, ◌≤◌, ◌<◌, Bool, true, false, cond, List, ◌≡◌, ltb, get_or, length, take, drop, set}
use Rattle.std.proofs.lemmas.List.Edits.{sets}
use Rattle.std.proofs.Math.Seq.{paste}
use Rattle.rules.specs.Types.{Ty, weightᵀ, prefix, row, empty_row}
use Rattle.rules.specs.Kinds.{kind_of}
use Rattle.rules.specs.Tables.{Table, table_of, kind_at, identifier_count}
use Rattle.rules.specs.Verdict.{Place, kind_row, rows_from}
use Rattle.terms.specs.Terms.{Terms, Satisfies, class_in}
use Rattle.terms.specs.Decided.{Closed, Decided}
use Rattle.typing.specs.Places.{place_var, place_count}

-- i is the number of identifiers, and p is a place.
pub record PlaceOf (bs : List ℕ) (i p : ℕ) : Type 0 where
  pub names : i ≡ identifier_count bs
  pub below : p < place_count (table_of bs)

-- Whether a place has a type.
abbrev pub TypedIf : Table → ℕ → Bool → Type 0
TypedIf tb p true = Place tb p
TypedIf tb p false = Place tb p → ⊥

-- Whether a place has a type and P fails there.
abbrev pub FailsIf : Table → (ℕ → Type 0) → ℕ → Bool → Type 0
FailsIf tb P p true = Place tb p × (P p → ⊥)
FailsIf tb P p false = Place tb p → P p

-- The variable of a place, by the number of identifiers and the list of the nodes' variables.
abbrev pub start_var : ℕ → List ℕ → ℕ → ℕ
start_var i starts p = cond (ltb p i) p (get_or starts (p - i) 0 % 4096)

-- The form is not that of POW nor that of a product.
abbrev pub LeafIf : ℕ → Bool → Type 0
LeafIf f true = (f ≡ 2 → ⊥) × (f ≡ 3 → ⊥)
LeafIf f false = (2 ≤ f) × (f ≤ 3)

-- The code of a word's outermost constructor, by its form and its left number.
abbrev pub word_code : ℕ → ℕ → ℕ
word_code zero l = l % 256
word_code (suc zero) l = l % 256
word_code (suc (suc zero)) l = 3
word_code (suc (suc (suc f))) l = 4

-- A type is written at a place: where there is room for its codes before end they stand there, r is the place after them,
-- and nothing else is changed.
abbrev pub CodesPut : (sheet : List ℕ) (at end r : ℕ) (after : List ℕ) (t : Ty) → Type 0
CodesPut sheet at end r after t = at + weightᵀ t ≤ end → (r ≡ at + weightᵀ t) × (after ≡ sets sheet at (prefix t))

-- So is the type of a closed variable, whatever types satisfy the terms.
pub record TypePut (ts : List ℕ) (v : ℕ) (sheet : List ℕ) (at end r : ℕ) (after : List ℕ) : Type 0 where
  pub onward : at ≤ r
  pub exact : (marks : List ℕ) (σ : ℕ → Ty) → Satisfies σ (length ts) ts → Decided (length ts) ts marks → Closed ts marks v →
      CodesPut sheet at end r after (σ v)

-- A class whose codes have room in row p, and whose first row, where it has one, is above.
pub record ClassFits (ts marks firsts sheet : List ℕ) (c p : ℕ) : Type 0 where
  pub terms : Terms (length ts) ts
  pub below : c < length ts
  pub marked : length marks ≡ length ts
  pub room : length firsts ≡ length ts
  pub light : get_or marks c 0 ≤ 64
  pub fits : 64 * p + 64 ≤ length sheet
  pub few : p < 1024
  pub above : get_or firsts c 0 ≤ p

-- The codes of class c in row p, by what stood in the list of first rows: 0, or 1 and the first row.
abbrev pub ClassPut : (ts marks firsts sheet : List ℕ) (c p : ℕ) (firsts' sheet' : List ℕ) → ℕ → Type 0
ClassPut ts marks firsts sheet c p firsts' sheet' zero =
    (firsts' ≡ set firsts c (p + 1)) × ((r : ℕ) × TypePut ts c sheet (64 * p) (64 * p + 64) r sheet')
ClassPut ts marks firsts sheet c p firsts' sheet' (suc q) =
    (firsts' ≡ firsts) × (sheet' ≡ paste sheet (64 * p) (drop (64 * q) sheet) (get_or marks c 0))

-- The 64 bytes from at on are those of the row.
abbrev pub with_row : List ℕ → ℕ → List ℕ → List ℕ
with_row sheet at bytes = paste sheet at bytes 64

-- The types of the places from those of the variables.
abbrev pub types_at : Table → (ℕ → Ty) → ℕ → Ty
types_at tb σ p = σ (place_var tb p)

-- The row of a place in the sheet.
unfoldable pub place_bytes : Table → (ℕ → Ty) → ℕ → List ℕ
unfolding row empty_row kind_of
place_bytes tb θ p = cond (ltb p (length tb.binds)) (row (θ p)) (kind_row (kind_at tb.nodes (p - length tb.binds)) (θ p))

-- q is a place below p that has a type, and its class is c.
pub record FirstOf (tb : Table) (ts : List ℕ) (c q p : ℕ) : Type 0 where
  pub below : q < p
  pub typed : Place tb q
  pub class : class_in ts (place_var tb q) ≡ c

-- The rows of the places below p are written, and firsts tells where the codes of classes stand among them.
pub record RowsTo (tb : Table) (ts marks firsts sheet : List ℕ) (p : ℕ) : Type 0 where
  pub filled : (σ : ℕ → Ty) → Satisfies σ (length ts) ts → Decided (length ts) ts marks →
      take (64 * p) sheet ≡ rows_from (place_bytes tb (types_at tb σ)) 0 p
  pub first : (c q : ℕ) → c < length firsts → get_or firsts c 0 ≡ suc q → FirstOf tb ts c q p

-- Nothing but zeros.
abbrev pub AllZero : List ℕ → Type 0
AllZero l = (c : ℕ) → c < length l → get_or l c 0 ≡ 0
