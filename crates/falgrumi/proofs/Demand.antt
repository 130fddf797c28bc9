-- Demand 3 of document 01 as one claim, `guarantee`, and what it says of the calls.
use Prim.Native.Nat.{ℕ}
use mathlib.Core.Bool.{true}
use mathlib.Core.List.{List}
use mathlib.Core.Path.{◌≡◌, refl, sym, ap, subst, ◌∙◌}
use mathlib.Core.Logic.{inl, inr}
use native.Mathlib.Omega.{arith}
use lib.ListN.{get_or, length}
use Rattle.rules.specs.Types.{Ty, row}
use Rattle.rules.specs.Values.{Value}
use Rattle.rules.specs.Fits.{HasType}
use Rattle.rules.specs.Cells.{no_value}
use Rattle.rules.specs.Tables.{Table}
use Rattle.rules.specs.Reading.{reading}
use Rattle.rules.specs.Ends.{End, done, refused}
use Rattle.rules.specs.Verdict.{node_place, Place, Whole, sheet_length, Verdict, accepts, sheet_after}
use Rattle.rules.specs.Evaluation.{evaluation}
use Rattle.rules.specs.Safety.{Any}
use Rattle.laws.proofs.ReadingLaws.{reading_table}
use Rattle.rules.proofs.TypeLaws.{row_injective}
use Rattle.laws.proofs.SetOrder.{all_imp}
use Rattle.laws.proofs.TypedTree.{IsExpression}
use Rattle.laws.proofs.Soundness.{AtNode, not_15, evaluation_sound}
use Rattle.typing.specs.Model.{verdict}
use Rattle.typing.proofs.VerdictRight.{verdict_right}
use Rattle.sheets.proofs.Sheet.{sheet_row_law, sheet_of_length}
use Rattle.reports.specs.Told.{number_of}
use Rattle.conforms.specs.Conforming.{row_at, HasWritten, Conforming, conforming}
use Rattle.conforms.specs.Rows.{SheetFits}
use Rattle.conforms.proofs.ConformingLaws.{conforming_right}
use Rattle.falgrumi.specs.Guarantee.{Guaranteed}
use Rattle.falgrumi.proofs.EndNumbers.{NumberFrom, verdict_numbers}
use Rattle.laws.proofs.VerdictLaws.{one_table}

-- The rows are those of a typing of the table.
record RowsOfTyping (bs rows : List ℕ) : Type 0 where
  table : Table
  reads : reading bs ≡ done table
  θ : ℕ → Ty
  typing : Whole table θ
  shown : (p : ℕ) → Place table p → row_at rows p ≡ row (θ p)
  long : length rows ≡ sheet_length table

-- So it is where Check accepts.
rows_of_typing : {bs rows : List ℕ} {room : ℕ} → Verdict bs room (done rows) → RowsOfTyping bs rows
rows_of_typing (accepts {tb} {θ} e fits only light) = record {
  table = tb;
  reads = e;
  θ = θ;
  typing = only.typing;
  shown = λ p h. sheet_row_law tb θ light p h;
  long = sheet_of_length tb θ light;
}

accepted_rows : (bs rows : List ℕ) (room : ℕ) → verdict bs room ≡ done rows → RowsOfTyping bs rows
accepted_rows bs rows room e = rows_of_typing (subst (Verdict bs room) e (verdict_right bs room))

-- The rows that Check has written are a sheet of the table's length.
pub accepted_fits : (bs rows : List ℕ) (room : ℕ) → verdict bs room ≡ done rows → SheetFits bs rows
accepted_fits bs rows room e =
    let w = accepted_rows bs rows room e in
    record { rows = w.long ∙ ap sheet_length (reading_table bs w.table w.reads) }

module _ {bs rows : List ℕ} (w : RowsOfTyping bs rows) where
  -- A value has its node's type, and the type written for its node.
  abbrev Typed : ℕ × Value → Type 0
  Typed x = AtNode (IsExpression w.table) (λ n. w.θ (node_place w.table n)) x

  abbrev TypedAsWritten : ℕ × Value → Type 0
  TypedAsWritten x = HasWritten rows (node_place w.table x.0) x.1

  -- The type written at a place is the place's type, since a row tells its type.
  has_type_law : (p : ℕ) (v : Value) → Place w.table p → HasWritten rows p v → HasType v (w.θ p)
  has_type_law p v h (t, e, k) = subst (λ (u : Ty). HasType v u) (row_injective t (w.θ p) (sym e ∙ w.shown p h)) k

  has_written_law : (x : ℕ × Value) → Typed x → TypedAsWritten x
  has_written_law (n, v) (i, k) =
      let p = node_place w.table n in
      let h : Place w.table p = inr (n, i.0, i.1, refl) in
      (w.θ p, w.shown p h, k)

  guaranteed : {buffer : List ℕ} (c : Conforming bs rows buffer) (budget : ℕ) → w.table ≡ c.table → Guaranteed bs rows buffer budget
  guaranteed {buffer} c budget q =
      let s = evaluation_sound bs buffer budget w.table w.θ c.values w.reads (rw q c.loads) w.typing
      (λ x f. has_type_law x (get_or c.values x no_value) (inl f.0) (c.types x (rw q at f))) in
      record {
        table = w.table;
        reads = w.reads;
        ends = s.0;
        formed = all_imp Typed TypedAsWritten has_written_law (evaluation bs buffer budget).formed s.1;
      }

-- Where Check accepts a table and writes these rows, and the values of its free identifiers have the types written for them,
-- no evaluation ends in 15, and each forms only values of the types written for their nodes.
pub guarantee : (bs buffer rows : List ℕ) (room budget : ℕ) → verdict bs room ≡ done rows →
    Conforming bs rows buffer → Guaranteed bs rows buffer budget
guarantee bs buffer rows room budget e c =
    let w = accepted_rows bs rows room e in
    guaranteed w c budget (one_table c.reads w.reads)

-- So it never ends in 15.
pub never_15 : (bs rows buffer : List ℕ) (budget n : ℕ) → Guaranteed bs rows buffer budget →
    (evaluation bs buffer budget).end ≡ refused 15 n → ⊥
never_15 bs rows buffer budget n g e = not_15 Any (evaluation bs buffer budget).end n g.ends e

-- Only acceptance has the number 0, and then the sheet at exit is the rows.
zero_accepts : (a : End (List ℕ)) (sheet : List ℕ) → NumberFrom 1 13 a → number_of a ≡ 0 → a ≡ done (sheet_after a sheet)
zero_accepts (done rows) sheet h z = refl
zero_accepts (refused r p) sheet h z = absurd (omega (arith, h.0))

-- The claim in the terms of the calls' contracts: the number that Check answers, the sheet at its exit, and the truth that
-- `conforms` answers for that sheet.
pub guarantee_calls : (bs sheet buffer : List ℕ) (budget : ℕ) → number_of (verdict bs (length sheet)) ≡ 0 →
    conforming bs (sheet_after (verdict bs (length sheet)) sheet) buffer ≡ true →
    Guaranteed bs (sheet_after (verdict bs (length sheet)) sheet) buffer budget
guarantee_calls bs sheet buffer budget z c =
    guarantee bs buffer (sheet_after (verdict bs (length sheet)) sheet) (length sheet) budget
    (zero_accepts _ sheet (verdict_numbers bs (length sheet)) z) ((conforming_right bs _ buffer).sound c).1
