-- `conforming` is true exactly where the sheet has the table's length and `Conforming` holds.
use Prim.Native.Nat.{ℕ, zero, suc, ◌+◌, ◌*◌, ◌≤◌}
use mathlib.Core.Bool.{Bool, ◌&&◌}
use mathlib.Core.List.{List}
use mathlib.Core.Logic.{◌↔◌}
use mathlib.Core.Option.{Option, none as nothing, some}
use mathlib.Core.Path.{◌≡◌, refl, sym, ap, ◌∙◌}
use native.Mathlib.Omega.{arith}
use lib.Dec.{T, eqb}
use lib.ListN.{length, get_or}
use Rattle.rules.specs.Types.{Ty, type_of_row}
use Rattle.rules.specs.Values.{Value}
use Rattle.rules.specs.Fits.{HasType}
use Rattle.rules.specs.Cells.{no_value, values_in}
use Rattle.rules.specs.Tables.{Table}
use Rattle.rules.specs.Reading.{reading}
use Rattle.rules.specs.Ends.{all_below, done_with}
use Rattle.rules.specs.Verdict.{sheet_length}
use Rattle.rules.specs.Safety.{Free}
use Rattle.laws.proofs.EndLaws.{T_true, T_and, t_eqb, t_all_below, t_done_with}
use Rattle.rules.proofs.TypeLaws.{type_of_row_right, row_read}
use Rattle.laws.proofs.FitsLaws.{has_type_right}
use Rattle.laws.proofs.ReadingLaws.{reading_table}
use Rattle.fitting.specs.Types.{Decides}
use Rattle.conforms.specs.Conforming.{row_at, HasWritten, Conforming, has_type_read, has_written, if_free, free_has, conforming}
use Rattle.conforms.specs.Rows.{SheetFits}
use Rattle.conforms.proofs.RowLaws.{row_long}
use Rattle.rules.proofs.Basics.{absurd01}

-- A row that is read as a type which the value has.
pub type_read : (o : Option Ty) (v : Value) → T (has_type_read o v) ↔ ((t : Ty) × (o ≡ some t) × HasType v t)
type_read nothing v = (λ h. absurd h, λ x. absurd01 (cc x.1))
type_read (some t) v = (
  λ h. (t, refl, (has_type_right v t).0 h),
  λ x. let e : t ≡ x.0 = cc x.1 in (has_type_right v t).1 (rw e x.2),
)

-- A value of the type that is written at a place.
written : (sheet : List ℕ) (p : ℕ) (v : Value) → 64 * p + 64 ≤ length sheet → T (has_written sheet p v) ↔ HasWritten sheet p v
written sheet p v room =
    let r = type_read (type_of_row (row_at sheet p)) v in (
      λ h. let (t, e, f) = r.0 h in (t, ((type_of_row_right (row_at sheet p) t (row_long sheet p room)).0 e).0, f),
      λ (t, e, f). r.1 (t, ap type_of_row e ∙ row_read t, f),
    )

if_free_law : (w : ℕ) (b : Bool) → T (if_free w b) ↔ (w ≡ 0 → T b)
if_free_law zero b = (λ t e. t, λ f. f refl)
if_free_law (suc w) b = (λ t e. absurd (omega arith), λ f. tt)

-- The values of the free identifiers.
all_written : (tb : Table) (sheet : List ℕ) (vs : List Value) → length sheet ≡ sheet_length tb →
    T (all_below (free_has tb sheet vs) (length tb.binds)) ↔ ((x : ℕ) → Free tb x → HasWritten sheet x (get_or vs x no_value))
all_written tb sheet vs fits =
    let all = t_all_below (free_has tb sheet vs) (length tb.binds) in (
      λ h x (l, e). (written sheet x _ (omega arith)).0 ((if_free_law (get_or tb.binds x 1) _).0 (all.0 h x l) e),
      λ h. all.1 (λ x l. (if_free_law (get_or tb.binds x 1) _).1 (λ e. (written sheet x _ (omega arith)).1 (h x (l, e)))),
    )

module _ (bs sheet buffer : List ℕ) where
  -- What `conforming` tests of the table: the sheet's length, and the values.
  abbrev sized : Table → Bool
  sized tb = eqb (length sheet) (sheet_length tb)

  abbrev loaded : Table → Bool
  loaded tb = done_with (values_in tb buffer) λ vs. all_below (free_has tb sheet vs) (length tb.binds)

  conforming_tests : T (conforming bs sheet buffer) ↔ (SheetFits bs sheet × Conforming bs sheet buffer)
  unfolding conforming
  conforming_tests = (
    λ h. let (tb, e, t) = (t_done_with (reading bs) (λ tb. sized tb && loaded tb)).0 h in
        let (l, v) = (T_and (sized tb) (loaded tb)).0 t in
        let f = (t_eqb _ _).0 l in
        let (vs, d, k) = (t_done_with (values_in tb buffer) (λ vs. all_below (free_has tb sheet vs) (length tb.binds))).0 v in (
          record { rows = f ∙ ap sheet_length (reading_table bs tb e) },
          record { table = tb; reads = e; values = vs; loads = d; types = (all_written tb sheet vs f).0 k },
        ),
    λ (f, k). let tb = k.table in
        let e = f.rows ∙ sym (ap sheet_length (reading_table bs tb k.reads)) in
        let v = (t_done_with (values_in tb buffer) (λ vs. all_below (free_has tb sheet vs) (length tb.binds))).1
        (k.values, k.loads, (all_written tb sheet k.values e).1 k.types) in
        (t_done_with (reading bs) (λ tb. sized tb && loaded tb)).1 (tb, k.reads, (T_and (sized tb) (loaded tb)).1 ((t_eqb _ _).1 e, v)),
  )

  -- The computing definition says what the other does, and that the sheet has the table's length.
  pub conforming_right : Decides (conforming bs sheet buffer) (SheetFits bs sheet × Conforming bs sheet buffer)
  conforming_right = record {
    sound = λ e. conforming_tests.0 ((T_true (conforming bs sheet buffer)).1 e);
    complete = λ k. (T_true (conforming bs sheet buffer)).0 (conforming_tests.1 k);
  }
