-- `conforming` at small cases, by computation.
use Prim.Native.Nat.{ℕ}
use mathlib.Core.Bool.{Bool, true, false}
use mathlib.Core.List.{List, [], ◌∷◌, ◌++◌, map}
use mathlib.Core.Path.{◌≡◌, refl}
use lib.ListN.{replicate}
use Rattle.rules.specs.Tables.{Table}
use Rattle.rules.proofs.Rows.{to_bytes, words_of, sheet, table, no_clauses, node₁, node₂, p1, p10}
use Rattle.conforms.specs.Conforming.{conforming}

-- The bytes of a table, a sheet and values, and the answer.
record Trial : Type 0 where
  words : List ℕ
  rows : List ℕ
  buffer : List ℕ
  answer : Bool

abbrev trial : Table → List ℕ → List ℕ → Bool → Trial
trial tb s ws b = record { words = words_of tb; rows = s; buffer = to_bytes ws; answer = b }

-- P1 with the codes r in the row of x, and the words ws of x's cells
abbrev p1_row : List ℕ → List ℕ → Bool → Trial
p1_row r ws b = trial p1 (sheet (r ∷ (16 ∷ []) ∷ (3 ∷ 16 ∷ []) ∷ [] ∷ [])) ws b

-- x≤y
abbrev at_most : Table
at_most = table [] (0 ∷ 0 ∷ []) (node₁ 20 0 ∷ node₁ 20 1 ∷ node₂ 9 0 1 ∷ [])

abbrev at_most_sheet : List ℕ
at_most_sheet = sheet ((1 ∷ []) ∷ (1 ∷ []) ∷ (1 ∷ []) ∷ (1 ∷ []) ∷ [] ∷ [])

abbrev trials : List Trial
trials =
    -- element 1 of G0, as Check writes it; as an integer; an integer as an element
    p1_row (16 ∷ []) (1 ∷ 3 ∷ []) true ∷ p1_row (1 ∷ []) (1 ∷ 3 ∷ []) false ∷ p1_row (16 ∷ []) (1 ∷ 1 ∷ []) false ∷
    -- the empty set has every POW(t), and no other type
    p1_row (3 ∷ 16 ∷ []) (0 ∷ 5 ∷ []) true ∷ p1_row (3 ∷ 4 ∷ 1 ∷ 3 ∷ 2 ∷ []) (0 ∷ 5 ∷ []) true ∷ p1_row (4 ∷ 1 ∷ 2 ∷ []) (0 ∷ 5 ∷ []) false ∷
    -- {(1,TRUE)} as a set of pairs, and with the parts changed
    p1_row (3 ∷ 4 ∷ 1 ∷ 2 ∷ []) (1 ∷ 5 ∷ 0 ∷ 4 ∷ 1 ∷ 1 ∷ 1 ∷ 2 ∷ []) true ∷ p1_row (3 ∷ 4 ∷ 2 ∷ 1 ∷ []) (1 ∷ 5 ∷ 0 ∷ 4 ∷ 1 ∷ 1 ∷ 1 ∷ 2 ∷ []) false ∷
    -- rows of no type: none, one cut short, an unknown code, two types, something behind the fill
    p1_row [] (0 ∷ 5 ∷ []) false ∷ p1_row (3 ∷ []) (0 ∷ 5 ∷ []) false ∷ p1_row (3 ∷ 5 ∷ []) (0 ∷ 5 ∷ []) false ∷
    p1_row (1 ∷ 1 ∷ []) (1 ∷ 1 ∷ []) false ∷ p1_row (1 ∷ 0 ∷ 1 ∷ []) (1 ∷ 1 ∷ []) false ∷
    -- a type of weight 64, and the beginning of one of weight 65
    p1_row (replicate 63 3 ++ (1 ∷ [])) (0 ∷ 5 ∷ []) true ∷ p1_row (replicate 64 3) (0 ∷ 5 ∷ []) false ∷
    -- no value, a sheet of another length, a table that is not readable
    p1_row (16 ∷ []) [] false ∷ trial p1 (sheet ((16 ∷ []) ∷ [] ∷ [] ∷ [])) (1 ∷ 3 ∷ []) false ∷
    record { words = []; rows = []; buffer = []; answer = false } ∷
    -- two identifiers, of which the second has another type; one that is bound, whatever its row
    trial at_most at_most_sheet (1 ∷ 1 ∷ 2 ∷ 1 ∷ []) true ∷ trial at_most at_most_sheet (1 ∷ 1 ∷ 1 ∷ 2 ∷ []) false ∷
    trial p10 (replicate 512 7) [] true ∷
    -- no nodes: without identifiers, with the integer x, without its value (document 02, N1)
    trial (no_clauses []) [] [] true ∷ trial (no_clauses (0 ∷ [])) (sheet ((1 ∷ []) ∷ [])) (1 ∷ 1 ∷ []) true ∷
    trial (no_clauses (0 ∷ [])) (sheet ((1 ∷ []) ∷ [])) [] false ∷ []

trials_right : map (λ t. conforming (to_bytes t.words) t.rows t.buffer) trials ≡ map (λ t. t.answer) trials
unfolding conforming
trials_right = refl
