-- Check's side of the cases of the typing rules, and the types of weight 64 and 65, by computing `verdict`.
use Prim.Native.Nat.{ℕ, zero, suc, ◌+◌}
use mathlib.Core.List.{List, [], ◌∷◌, ◌++◌, map}
use mathlib.Core.Path.{◌≡◌, refl}
use lib.ListN.{length}
use Rattle.rules.specs.Ends.{End, done, refused}
use Rattle.rules.specs.Tables.{Node, Table}
use Rattle.rules.specs.Verdict.{sheet_length}
use Rattle.rules.proofs.Rows.{to_bytes, words_of, node₁, node₂, table, sheet, z}
use Rattle.rules.proofs.Cases.{rule_cases}
use Rattle.typing.specs.Equations.{shapes}
use Rattle.typing.specs.Model.{checked, verdict}

-- Check's answer for a table, where the sheet has the length that it asks for.
abbrev pub verdict_on : Table → End (List ℕ)
unfolding verdict
verdict_on tb = verdict (to_bytes (words_of tb)) (sheet_length tb)

-- The same once the table has been read and the sheet's length tested.
abbrev pub types_on : Table → End (List ℕ)
unfolding shapes checked
types_on tb = checked (shapes tb (length tb.nodes)) tb

-- Check says of each case what its row tells.
pub rule_cases_checked : map (λ r. types_on r.condition) rule_cases ≡ map (λ r. r.checks) rule_cases
unfolding shapes checked
rule_cases_checked = refl

-- x=(e,f), from node n on, for leaves e and f.
abbrev is_pair : ℕ → ℕ → Node → Node → List Node
is_pair n x e f = node₁ 20 x ∷ e ∷ f ∷ node₂ 28 (1 + n) (2 + n) ∷ node₂ 6 n (3 + n) ∷ []

-- A balanced pairing of 16 integers, a name for each level: a=(1,1), b=(a,a), c=(b,b), d=(c,c), all four. Then x, in the fifth
-- place, and (d,d), a pairing of 32.
abbrev up_to_pair : List Node
up_to_pair =
    is_pair 0 0 (node₁ 23 1) (node₁ 23 1) ++ (is_pair 5 1 (node₁ 20 0) (node₁ 20 0) ++ (is_pair 10 2 (node₁ 20 1) (node₁ 20 1) ++
    (is_pair 15 3 (node₁ 20 2) (node₁ 20 2) ++ (node₂ 1 4 9 ∷ node₂ 1 14 19 ∷ node₂ 1 20 21 ∷
    node₁ 20 4 ∷ node₁ 20 3 ∷ node₁ 20 3 ∷ node₂ 28 24 25 ∷ []))))

abbrev five_free : List Node → Table
five_free ns = table [] (0 ∷ 0 ∷ 0 ∷ 0 ∷ 0 ∷ []) (up_to_pair ++ ns)

-- x={(d,d)} and x={{(d,d)}}
abbrev pub in_one : Table
in_one = five_free (node₁ 27 26 ∷ node₂ 6 23 27 ∷ node₂ 1 22 28 ∷ [])

abbrev pub in_two : Table
in_two = five_free (node₁ 27 26 ∷ node₁ 27 27 ∷ node₂ 6 23 28 ∷ node₂ 1 22 29 ∷ [])

-- The codes of the type of a balanced pairing of 2ⁿ integers, and the rows of the nodes x=(e,f) where it is that of x.
abbrev pairing_codes : ℕ → List ℕ
pairing_codes zero = z
pairing_codes (suc n) = 4 ∷ (pairing_codes n ++ pairing_codes n)

abbrev is_pair_rows : ℕ → List (List ℕ)
is_pair_rows n = pairing_codes (suc n) ∷ pairing_codes n ∷ pairing_codes n ∷ pairing_codes (suc n) ∷ [] ∷ []

abbrev in_one_rows : List (List ℕ)
in_one_rows =
    pairing_codes 1 ∷ pairing_codes 2 ∷ pairing_codes 3 ∷ pairing_codes 4 ∷ (3 ∷ pairing_codes 5) ∷
    (is_pair_rows 0 ++ (is_pair_rows 1 ++ (is_pair_rows 2 ++ (is_pair_rows 3 ++ ([] ∷ [] ∷ [] ∷
    (3 ∷ pairing_codes 5) ∷ pairing_codes 4 ∷ pairing_codes 4 ∷ pairing_codes 5 ∷ (3 ∷ pairing_codes 5) ∷ [] ∷ [] ∷ [])))))

-- In one singleton the pairing is accepted, with a row that has no fill; in two x has a type above weight 64.
pub in_one_accepted : verdict_on in_one ≡ done (sheet in_one_rows)
unfolding verdict
in_one_accepted = refl

pub in_two_refused : verdict_on in_two ≡ refused 13 4
unfolding verdict
in_two_refused = refl
