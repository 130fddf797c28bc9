-- From what the entry's functions find to the verdict that document 01 describes, and from that to the computed one.
use Prim.Native.Nat.{ℕ, ◌+◌, ◌*◌, ◌≤◌, ◌<◌, min}
use mathlib.Core.List.{List}
use mathlib.Core.Path.{◌≡◌, refl, sym, ap, ◌∙◌, subst}
use native.Mathlib.Omega.{arith}
use lib.ListN.{length}
use Rattle.std.specs.Prelude.{Some, None, Result, Ok, Err}
use Rattle.rules.specs.Types.{Ty, weightᵀ}
use Rattle.rules.specs.Ends.{End, done, refused}
use Rattle.rules.specs.Tables.{table_of, identifier_count, node_count}
use Rattle.rules.specs.Reading.{reading}
use Rattle.rules.specs.Readable.{Readable}
use Rattle.rules.specs.Verdict.{Verdict, unreadable, misfit, clash, Place, sheet_after, sheet_length, type_limit}
use Rattle.laws.proofs.VerdictLaws.{verdict_only}
use Rattle.laws.proofs.ReadingLaws.{reading_right}
use Rattle.laws.proofs.TableLaws.{binds_length, nodes_length}
use Rattle.reading.specs.declared.Refusal.{Refusal}
use Rattle.terms.specs.Terms.{Satisfies}
use Rattle.terms.specs.Decided.{class_mark, Closed, Decided}
use Rattle.typing.specs.Equations.{base}
use Rattle.typing.specs.Places.{place_var}
use Rattle.typing.specs.Model.{verdict}
use Rattle.typing.proofs.Places.{place_below, var_below}
use Rattle.typing.proofs.Verdicts.{SolutionsBelow, FixedPlaces, several_verdict, heavy_verdict, accepts_verdict}
use Rattle.typing.proofs.VerdictRight.{verdict_right}
use Rattle.sheets.specs.Rows.{MarkBelow, FirstPlace, RowsFit, RowsWritten}
use Rattle.sheets.proofs.Scan.{all_places}
use Rattle.checker.specs.Solving.{FirstClash}
use Rattle.checker.specs.Answers.{answer_of, answered, Told, Answerable, Checkable}

-- The computed verdict is the one that was told.
pub told_final : (bs sheet : List ℕ) (r : Result (Unit {0}) Refusal) (after : List ℕ) → Told bs sheet r after →
    (answer_of r ≡ answered (verdict bs (length sheet))) × (after ≡ sheet_after (verdict bs (length sheet)) sheet)
told_final bs sheet r after t =
    let e : t.verdict ≡ verdict bs (length sheet) =
    verdict_only bs (length sheet) t.verdict (verdict bs (length sheet)) t.described (verdict_right bs (length sheet)) in
    (t.answer ∙ ap answered e, t.exit ∙ ap (λ (a : End (List ℕ)). sheet_after a sheet) e)

-- A refusal with its verdict leaves the sheet as it was.
pub told_refused : (bs sheet : List ℕ) (q : Refusal) → Verdict bs (length sheet) (refused q.number q.place) → Told bs sheet (Err q) sheet
told_refused bs sheet q v = record { verdict = refused q.number q.place; described = v; answer = refl; exit = refl }

-- What reading refuses, Check refuses alike.
pub unread_final : (bs sheet : List ℕ) (q : Refusal) → reading bs ≡ refused q.number q.place →
    (answer_of (Err q) ≡ answered (verdict bs (length sheet))) × (sheet ≡ sheet_after (verdict bs (length sheet)) sheet)
unread_final bs sheet q e = told_final bs sheet (Err q) sheet (told_refused bs sheet q (unreadable e))

-- Refusal 11.
pub told_clash : (bs sheet : List ℕ) (k : ℕ) → Checkable bs sheet → FirstClash (table_of bs) (node_count bs) k →
    Told bs sheet (Err (record { number = 11; place = k })) sheet
told_clash bs sheet k c f =
    told_refused bs sheet (record { number = 11; place = k })
    (clash {tb = table_of bs} {θ = f.typing.0} {k = k} c.reads c.fits (omega (arith, f.below, nodes_length bs)) f.typing.1 f.none)

-- The mark of a closed class and the weight of its type.
mark_heavy : (m w : ℕ) → m ≡ min w 65 → (m < 65 → ⊥) → type_limit < w
mark_heavy m w e f = omega arith

mark_light : (m w : ℕ) → m ≡ min w 65 → m < 65 → w ≤ type_limit
mark_light m w e h = omega arith

-- What the scans find on the solved table.
module _ {bs : List ℕ} {at : ℕ} {ts starts marks firsts sheet : List ℕ} (a : Answerable bs at ts starts marks firsts sheet) where
  abbrev n : ℕ
  n = length (table_of bs).nodes

  abbrev d : Decided (base (table_of bs) n) ts marks
  d = a.solved.decided

  abbrev solutions : SolutionsBelow (table_of bs) n (Closed ts marks)
  solutions = record {
    first = d.first;
    second = d.second;
    first_solves = (a.solved.iff d.first).1 d.first_fits;
    second_solves = (a.solved.iff d.second).1 d.second_fits;
    declared = λ G h v. d.declared G (a.solved.leaves G h) v;
    agree = λ v l c θ κ p q. d.agree v l c θ κ ((a.solved.iff θ).0 p) ((a.solved.iff κ).0 q);
    differ = λ v l f. d.differ v l (omega (arith, f));
  }

  pub told_open : (p : ℕ) → FirstPlace (table_of bs) (MarkBelow (table_of bs) ts marks 128) (Some p) →
      Told bs sheet (Err (record { number = 12; place = p })) sheet
  told_open p l =
      let w = l.1.here l.0 in
      told_refused bs sheet (record { number = 12; place = p })
      (several_verdict a.checkable.reads a.checkable.fits (Closed ts marks) solutions p w.0 w.1 l.1.below)

  module _ (open_none : FirstPlace (table_of bs) (MarkBelow (table_of bs) ts marks 128) None) where
    closed : FixedPlaces (table_of bs) (Closed ts marks)
    closed = all_places (table_of bs) (MarkBelow (table_of bs) ts marks 128) open_none

    abbrev weight : ℕ → ℕ
    weight q = weightᵀ (d.first (place_var (table_of bs) q))

    weighs : (q : ℕ) → Place (table_of bs) q → class_mark ts marks (place_var (table_of bs) q) ≡ min (weight q) 65
    weighs q w =
        d.weighs (place_var (table_of bs) q) (var_below (table_of bs) n q (place_below (table_of bs) q w)) (closed q w) d.first d.first_fits

    light_at : (q : ℕ) → Place (table_of bs) q → MarkBelow (table_of bs) ts marks 65 q → weight q ≤ type_limit
    light_at q w h = mark_light _ (weight q) (weighs q w) h

    pub told_heavy : (q : ℕ) → FirstPlace (table_of bs) (MarkBelow (table_of bs) ts marks 65) (Some q) →
        Told bs sheet (Err (record { number = 13; place = q })) sheet
    told_heavy q l =
        let w = l.1.here l.0 in
        told_refused bs sheet (record { number = 13; place = q })
        (heavy_verdict a.checkable.reads a.checkable.fits (Closed ts marks) solutions closed q w.0
        (mark_heavy _ (weight q) (weighs q w.0) w.1) (λ x g v. light_at x v (l.1.below x g v)))

    module _ (heavy_none : FirstPlace (table_of bs) (MarkBelow (table_of bs) ts marks 65) None) where
      low : (x : ℕ) → Place (table_of bs) x → MarkBelow (table_of bs) ts marks 65 x
      low = all_places (table_of bs) (MarkBelow (table_of bs) ts marks 65) heavy_none

      pub rows_fit : RowsFit bs ts marks firsts sheet
      rows_fit = record { room = a.room; fits = a.checkable.fits; light = low }

      abbrev types : ℕ → Ty
      types x = d.first (place_var (table_of bs) x)

      pub told_accepted : (after : List ℕ) → RowsWritten (table_of bs) ts marks after → Told bs sheet (Ok tt) after
      told_accepted after h =
          let len : length ts ≡ base (table_of bs) n = a.solved.terms.len in
          record {
            verdict = done _;
            described = accepts_verdict a.checkable.reads a.checkable.fits (Closed ts marks) solutions closed
                (λ x w. light_at x w (low x w)) types (λ x w. refl);
            answer = refl;
            exit = h d.first (subst (λ j. Satisfies d.first j ts) (sym len) d.first_fits) (subst (λ j. Decided j ts marks) (sym len) d);
          }

-- A readable table, with the counts that the code has computed.
module _ {bs : List ℕ} (readable : Readable bs) {i n : ℕ} (p : i ≡ identifier_count bs) (q : n ≡ node_count bs) where
  reads : reading bs ≡ done (table_of bs)
  reads = (reading_right bs).1 readable

  pub few_places : i + n ≤ 544
  few_places = omega (arith, p, q, readable.header.identifiers, readable.header.few_nodes)

  sheet_length_law : 64 * (i + n) ≡ sheet_length (table_of bs)
  sheet_length_law = omega (arith, p, q, binds_length bs, nodes_length bs)

  pub told_misfit : (sheet : List ℕ) → (length sheet ≡ 64 * (i + n) → ⊥) → Told bs sheet (Err (record { number = 10; place = 0 })) sheet
  told_misfit sheet h = told_refused bs sheet (record { number = 10; place = 0 }) (misfit reads (λ k. h (k ∙ sym sheet_length_law)))

  pub checkable : (sheet : List ℕ) → length sheet ≡ 64 * (i + n) → Checkable bs sheet
  checkable sheet h = record { reads = reads; fits = h ∙ sheet_length_law }
