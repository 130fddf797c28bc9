-- Values against the rows of a sheet, by the functions that `conforming` is made of: one value, that of an identifier, those of all,
-- and the answer of `conforms`.
use Prim.Native.Nat.{ℕ, ◌+◌, ◌*◌, ◌≤◌, ◌<◌}
use mathlib.Core.Bool.{Bool, true, false, ◌&&◌, and-false, false≢true}
use mathlib.Core.List.{List}
use mathlib.Core.Logic.{◌≢◌}
use mathlib.Core.Path.{◌≡◌, refl, sym, ◌∙◌, subst}
use native.Mathlib.Omega.{arith}
use native.Mathlib.Numerals.{add-one}
use lib.Dec.{eqb}
use lib.ListN.{length, get_or}
use borrow.Author.Tests.{eq-eqb, ne_eqb}
use Rattle.rules.specs.Types.{type_of_row}
use Rattle.rules.specs.Cells.{no_value, values_in, values_from}
use Rattle.rules.specs.Ends.{all_below, done_with, refused}
use Rattle.rules.specs.Tables.{table_of, identifier_count}
use Rattle.rules.specs.Reading.{reading}
use Rattle.rules.specs.Readable.{Readable}
use Rattle.rules.specs.Verdict.{sheet_length}
use Rattle.rules.proofs.Basics.{bool_eq}
use Rattle.laws.proofs.EndLaws.{T_true, T_false, t_all_below}
use Rattle.laws.proofs.FitsLaws.{has_type_right}
use Rattle.laws.proofs.ReadingLaws.{reading_right}
use Rattle.laws.proofs.TableLaws.{binds_length}
use Rattle.reading.specs.declared.Refusal.{Refusal}
use Rattle.std.specs.Prelude.{Result, Err}
use Rattle.reading.specs.Answers.{reading_of}
use Rattle.table.specs.Layout.{WordOf}
use Rattle.fitting.specs.Types.{OfType, Decides}
use Rattle.conforms.specs.Conforming.{row_at, free_has, conforming}
use Rattle.conforms.specs.Rows.{TypeRow, NameReady, NameHas, SheetFits, LoadedFrom, ValuesLoaded, LoadedConform}
use Rattle.conforms.proofs.RowLaws.{some_left, type_there}
use Rattle.conforms.proofs.ConformingLaws.{type_read}

-- The value of the identifier x, by its word w and its row: q says whether that is the row of a type.
module _ (bs s : List ℕ) (at : ℕ) (sheet : List ℕ) (x w : ℕ) (word : WordOf bs x w) where
  pub name_bound : w ≢ 0 → NameHas bs s at sheet x true
  name_bound n v h f = rw (← word 1, some_left w n)

  module _ (e : w ≡ 0) where
    pub name_no : {q : Bool} → Decides q (TypeRow sheet x) → q ≡ false → NameHas bs s at sheet x false
    name_no d n v h f = rw (← word 1, e) (sym ((T_false _).0 (λ k.
        let (t, g, _) = (type_read (type_of_row (row_at sheet x)) v).0 k in false≢true (sym n ∙ d.complete (record { type = t; read = g })))))

    pub name_yes : {r : Bool} → 64 * x + 64 ≤ length sheet → TypeRow sheet x → OfType s at sheet (64 * x) r → NameHas bs s at sheet x r
    name_yes {r} room y o v h f =
        let k = o v y.type h f (type_there room y) in
        let t = has_type_right v y.type in
        rw (← word 1, e, y.read) (bool_eq r _ (λ z. t.1 (k.sound ((T_true r).0 z))) (λ z. (T_true r).1 (k.complete (t.0 z))))

-- r says whether the identifiers below x have values of their types.
abbrev pub HaveBelow : List ℕ → List ℕ → List ℕ → List ℕ → ℕ → Bool → Type 0
HaveBelow bs s env sheet x r =
    (buffer : List ℕ) (top end : ℕ) (b : LoadedFrom bs buffer s env top end) → r ≡ all_below (free_has (table_of bs) sheet b.values) x

-- The answer for a readable table: the sheet's length, and the values where refusal 14 passes them.
module _ {bs : List ℕ} (readable : Readable bs) (sheet : List ℕ) where
  abbrev sized : Bool
  sized = eqb (length sheet) (sheet_length (table_of bs))

  table_read : (buffer : List ℕ) → conforming bs sheet buffer ≡
      (sized && done_with (values_in (table_of bs) buffer) λ vs. all_below (free_has (table_of bs) sheet vs) (length (table_of bs).binds))
  unfolding conforming
  table_read buffer = rw ((reading_right bs).1 readable)

  pub refused_not : (buffer : List ℕ) {x : ℕ} → values_from (table_of bs).sizes (table_of bs).binds 0 buffer ≡ refused 14 x →
      false ≡ conforming bs sheet buffer
  unfolding values_in
  refused_not buffer e = rw (table_read buffer, e) (sym (and-false sized))

  pub misfit_not : {s env : List ℕ} → length sheet ≢ sheet_length (table_of bs) → LoadedConform bs s env sheet false
  misfit_not n buffer top end b = rw (table_read buffer, ne_eqb (length sheet) (sheet_length (table_of bs)) n) refl

  pub have_all : {s env : List ℕ} {r : Bool} → SheetFits bs sheet → HaveBelow bs s env sheet (identifier_count bs) r → LoadedConform bs s env sheet r
  unfolding values_in
  have_all fits a buffer top end b =
      rw (table_read buffer, eq-eqb (length sheet) (sheet_length (table_of bs)) fits.rows, b.reads, binds_length bs) (a buffer top end b)

-- x is an identifier of a readable table, whose value is read from the place `at`; the sheet has the table's length.
pub record Named (bs env sheet : List ℕ) (x at : ℕ) : Type 0 where
  pub readable : Readable bs
  pub fits : SheetFits bs sheet
  pub below : x < identifier_count bs
  pub place : at ≡ get_or env x 0

name_low : {bs env sheet : List ℕ} {x at : ℕ} → Named bs env sheet x at → x < 32
name_low h = omega (arith, h.below, h.readable.header.identifiers)

module _ {bs s env sheet : List ℕ} {x at : ℕ} (h : Named bs env sheet x at) where
  pub name_ready : ValuesLoaded bs s env → NameReady bs s at sheet x
  name_ready l =
      let v = l.bound.at x (name_low h) in
      record {
        header = h.readable.header;
        below = h.below;
        value = rw h.place (record { value = get_or l.bound.values x no_value; stands = v.stands; fits = v.fits });
        inside = omega (arith, h.below, h.fits.rows, binds_length bs);
      }

  module _ {q : Bool} (n : NameHas bs s at sheet x q) where
    -- the answer for x
    name_of : {buffer : List ℕ} {top end : ℕ} (b : LoadedFrom bs buffer s env top end) → q ≡ free_has (table_of bs) sheet b.values x
    name_of b = let v = b.at x (name_low h) in n (get_or b.values x no_value) (rw h.place v.stands) v.fits

    pub have_no : q ≡ false → LoadedConform bs s env sheet false
    have_no f = have_all h.readable sheet h.fits (λ buffer top end b. sym ((T_false _).0 (λ t.
        (T_false _).1 (sym (name_of b) ∙ f) ((t_all_below (free_has (table_of bs) sheet b.values) (identifier_count bs)).0 t x h.below))))

    pub have_more : q ≡ true → HaveBelow bs s env sheet x true → HaveBelow bs s env sheet (x + 1) true
    have_more f g buffer top end b = rw (add-one x, ← name_of b, f) (g buffer top end b)

-- A table that is not readable.
pub unread_not : (bs sheet buffer : List ℕ) (a : Result (Unit {0}) Refusal) {x : Refusal} → reading_of bs a ≡ reading bs → a ≡ Err x →
    false ≡ conforming bs sheet buffer
unfolding conforming
unread_not bs sheet buffer a e f = rw (← subst (λ (b : Result (Unit {0}) Refusal). reading_of bs b ≡ reading bs) f e) refl
