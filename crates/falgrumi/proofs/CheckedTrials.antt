-- `checked_evaluation` at small cases, by computation.
use Prim.Native.Nat.{ℕ}
use mathlib.Core.Bool.{Bool, true, false}
use mathlib.Core.List.{List, [], ◌∷◌, map}
use mathlib.Core.Path.{◌≡◌, refl}
use Rattle.rules.specs.Ends.{End, done, refused}
use Rattle.rules.specs.Tables.{Table}
use Rattle.rules.specs.Verdict.{sheet_length}
use Rattle.rules.proofs.Rows.{to_bytes, words_of, no_clauses, p1, p2, p4, p8}
use Rattle.falgrumi.specs.Guarantee.{Report, checked_evaluation}

-- A table, the length of the sheet lent, the words of the values' cells, and the answer; the budget is 100.
record Trial : Type 0 where
  table : Table
  room : ℕ
  cells : List ℕ
  answer : End Report

abbrev trial : Table → List ℕ → End Report → Trial
trial tb ws a = record { table = tb; room = sheet_length tb; cells = ws; answer = a }

abbrev report : End Bool → ℕ → Bool → End Report
report e s c = done (record { end = e; steps = s; conforms = c })

abbrev trials : List Trial
trials =
    -- P1 at element 1 of G0, at the integer 1, with no value, with a cell too many
    trial p1 (1 ∷ 3 ∷ []) (report (done true) 3 true) ∷ trial p1 (1 ∷ 1 ∷ []) (report (refused 15 2) 3 false) ∷
    trial p1 [] (report (refused 14 0) 0 false) ∷ trial p1 (1 ∷ 3 ∷ 1 ∷ 3 ∷ []) (report (refused 14 1) 0 false) ∷
    -- P8 is accepted, and its own refusal is told; there are no values that could be unlike
    trial p8 [] (report (refused 16 1) 3 true) ∷
    -- Check's refusals: P2, P4, and P1 with a sheet of another length
    trial p2 [] (refused 12 0) ∷ trial p4 [] (refused 11 2) ∷
    record { table = p1; room = 255; cells = 1 ∷ 3 ∷ []; answer = refused 10 0 } ∷
    -- no nodes (document 02, N1): without identifiers, with a cell too many, with a sheet of another length; with an identifier
    trial (no_clauses []) [] (report (done true) 0 true) ∷ trial (no_clauses []) (1 ∷ 3 ∷ []) (report (refused 14 0) 0 false) ∷
    record { table = no_clauses []; room = 64; cells = []; answer = refused 10 0 } ∷ trial (no_clauses (0 ∷ [])) (1 ∷ 3 ∷ []) (refused 12 0) ∷ []

trials_right : map (λ t. checked_evaluation (to_bytes (words_of t.table)) t.room (to_bytes t.cells) 100) trials ≡ map (λ t. t.answer) trials
unfolding checked_evaluation
trials_right = refl
