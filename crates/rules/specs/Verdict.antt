-- Document 01, "Kinds and typing rules" and refusals 10 to 13: typings, the sheet, and Check's answer.
use Rattle.std.specs.Prelude.{ℕ, zero, suc, ◌+◌, ◌*◌, ◌<◌, ◌≤◌, List, [], ◌++◌, map, ◌≡◌, ◌⊎◌, length}
use Rattle.std.proofs.Math.Option.{Option, none as nothing, some}
use Rattle.rules.specs.Types.{Ty, weightᵀ, Declared, row, empty_row}
use Rattle.rules.specs.Kinds.{Kind, kind_of, Category, predicate, expression, category_of}
use Rattle.rules.specs.Rules.{rule, Obeys}
use Rattle.rules.specs.Tables.{Table, node_at, kind_at, operands}
use Rattle.rules.specs.Ends.{End, done, refused}
use Rattle.rules.specs.Readable.{CategoryIs}
use Rattle.rules.specs.Reading.{reading}

-- Places: identifiers first, then nodes.
abbrev pub node_place : Table → ℕ → ℕ
node_place tb n = length tb.binds + n

-- The places that have a type: identifiers, and nodes that are expressions.
abbrev pub Place : Table → ℕ → Type 0
Place tb p =
    (p < length tb.binds) ⊎
    ((n : ℕ) × (n < length tb.nodes) × CategoryIs expression (kind_at tb.nodes n) × (p ≡ node_place tb n))

-- The rule of node n, of kind k, at the types θ of the places.
abbrev pub ObeysKind : Table → (ℕ → Ty) → ℕ → Option Kind → Type 0
ObeysKind tb θ n nothing = ⊥
ObeysKind tb θ n (some k) =
    let d = node_at tb.nodes n in
    Obeys (rule k d.a) (θ d.a) (map (λ m. θ (node_place tb m)) (operands k d)) (θ (node_place tb n))

-- θ gives each place a type of the table, and the nodes below k obey their rules.
pub record Typing (tb : Table) (k : ℕ) (θ : ℕ → Ty) : Type 0 where
  pub declared : (p : ℕ) → Place tb p → Declared (length tb.sizes) (θ p)
  pub obeyed : (n : ℕ) → n < k → ObeysKind tb θ n (kind_at tb.nodes n)

-- A typing of the whole table.
abbrev pub Whole : Table → (ℕ → Ty) → Type 0
Whole tb θ = Typing tb (length tb.nodes) θ

-- Two typings are the same at a place.
abbrev pub AgreeAt : Table → ℕ → Type 0
AgreeAt tb p = (θ κ : ℕ → Ty) → Whole tb θ → Whole tb κ → θ p ≡ κ p

-- θ is the only typing.
pub record Only (tb : Table) (θ : ℕ → Ty) : Type 0 where
  pub typing : Whole tb θ
  pub alone : (κ : ℕ → Ty) → Whole tb κ → (p : ℕ) → Place tb p → κ p ≡ θ p

-- No type weighs more.
abbrev pub type_limit : ℕ
type_limit = 64

abbrev pub Light : Table → (ℕ → Ty) → ℕ → Type 0
Light tb θ p = Place tb p → weightᵀ (θ p) ≤ type_limit

-- The sheet: a row for each identifier, then for each node; a predicate's row is zero.
abbrev pub category_row : Category → Ty → List ℕ
category_row predicate t = empty_row
category_row expression t = row t

abbrev pub kind_row : Option Kind → Ty → List ℕ
kind_row nothing t = empty_row
kind_row (some k) t = category_row (category_of k) t

-- n rows from the number i on
unfoldable pub rows_from : (ℕ → List ℕ) → ℕ → ℕ → List ℕ
rows_from r i zero = []
rows_from r i (suc n) = r i ++ rows_from r (suc i) n

unfoldable pub sheet_of : Table → (ℕ → Ty) → List ℕ
unfolding rows_from row empty_row kind_of
sheet_of tb θ =
    rows_from (λ x. row (θ x)) 0 (length tb.binds) ++
    rows_from (λ n. kind_row (kind_at tb.nodes n) (θ (node_place tb n))) 0 (length tb.nodes)

abbrev pub sheet_length : Table → ℕ
sheet_length tb = 64 * (length tb.binds + length tb.nodes)

-- Check's answer for a table and the length of the sheet lent: the sheet that it writes, or a refusal.
pub data Verdict (bs : List ℕ) (room : ℕ) : End (List ℕ) → Type 0 where
  -- 1 to 9
  unreadable : {r p : ℕ} → reading bs ≡ refused r p → Verdict bs room (refused r p)
  -- 10
  misfit : {tb : Table} → reading bs ≡ done tb → (room ≡ sheet_length tb → ⊥) → Verdict bs room (refused 10 0)
  -- 11: the rules of the nodes below k have a typing, those with k have none
  clash : {tb : Table} {θ : ℕ → Ty} {k : ℕ} → reading bs ≡ done tb → room ≡ sheet_length tb → k < length tb.nodes →
      Typing tb k θ → ((κ : ℕ → Ty) → Typing tb (suc k) κ → ⊥) → Verdict bs room (refused 11 k)
  -- 12: two typings differ at p, and none differ at a place below
  several : {tb : Table} {θ κ : ℕ → Ty} {p : ℕ} → reading bs ≡ done tb → room ≡ sheet_length tb → Place tb p →
      Whole tb θ → Whole tb κ → (θ p ≡ κ p → ⊥) → ((q : ℕ) → q < p → Place tb q → AgreeAt tb q) → Verdict bs room (refused 12 p)
  -- 13: the only typing is too heavy at p, and at no place below
  heavy : {tb : Table} {θ : ℕ → Ty} {p : ℕ} → reading bs ≡ done tb → room ≡ sheet_length tb → Place tb p →
      Only tb θ → type_limit < weightᵀ (θ p) → ((q : ℕ) → q < p → Light tb θ q) → Verdict bs room (refused 13 p)
  -- accepted: the only typing, light everywhere, is what the sheet holds
  accepts : {tb : Table} {θ : ℕ → Ty} → reading bs ≡ done tb → room ≡ sheet_length tb →
      Only tb θ → ((p : ℕ) → Light tb θ p) → Verdict bs room (done (sheet_of tb θ))

-- The sheet at exit: what Check writes where it accepts, else what was lent.
abbrev pub sheet_after : End (List ℕ) → List ℕ → List ℕ
sheet_after (done rows) sheet = rows
sheet_after (refused r p) sheet = sheet
