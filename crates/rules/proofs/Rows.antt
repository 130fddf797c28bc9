-- Document 01, "Conditions tried": P1 to P12 as the rows of one table, with what Check and Evaluate say of them: Check's answer
-- with the sheet, the end, the steps, and the values formed in their order. `conditions_right` in Tried.antt is the theorem over
-- these rows; its part for Evaluate is computed here. What builds tables serves the further cases of Cases.antt too.
use Prim.Native.Nat.{ℕ, ◌+◌, ◌*◌, ◌-◌}
use mathlib.Core.List.{List, [], ◌∷◌, ◌++◌, map}
use mathlib.Core.Bool.{Bool, true}
use mathlib.Core.Path.{◌≡◌, refl}
use lib.IntN.{pos}
use lib.ListN.{length, replicate}
use Rattle.rules.specs.Values.{Value, scalar, element, pair, set, values, int, truth_value}
use Rattle.rules.specs.Tables.{Node, Table}
use Rattle.rules.specs.Ends.{End, done, refused}
use Rattle.rules.specs.Cells.{bytes4}
use Rattle.rules.specs.Runs.{Trace, Run}
use Rattle.rules.specs.Evaluation.{evaluation}
use Rattle.rules.specs.Safety.{All}

-- The bytes of words.
abbrev pub to_bytes : List ℕ → List ℕ
to_bytes [] = []
to_bytes (w ∷ ws) = bytes4 w ++ to_bytes ws

-- A node of a kind, with its used fields.
abbrev pub node₃ : ℕ → ℕ → ℕ → ℕ → Node
node₃ k a b c = record { kind = k; a = a; b = b; c = c }

abbrev pub node₂ : ℕ → ℕ → ℕ → Node
node₂ k a b = node₃ k a b 0

abbrev pub node₁ : ℕ → ℕ → Node
node₁ k a = node₃ k a 0 0

abbrev pub node : ℕ → Node
node k = node₃ k 0 0 0

-- A table of the given sets' sizes, the identifiers' words and the nodes; one of nodes only.
abbrev pub table : List ℕ → List ℕ → List Node → Table
table gs is ns = record { sizes = gs; binds = is; nodes = ns }

abbrev pub closed : List Node → Table
closed ns = table [] [] ns

-- A gate with no clauses yet (document 02, N1): a given set of two elements, and identifiers by their words.
abbrev pub no_clauses : List ℕ → Table
no_clauses is = table (2 ∷ []) is []

abbrev pub node_words : List Node → List ℕ
node_words [] = []
node_words (d ∷ ds) = d.kind ∷ d.a ∷ d.b ∷ d.c ∷ node_words ds

-- The words of a table: the header, then the sections.
abbrev pub words_of : Table → List ℕ
words_of tb =
    let g = length tb.sizes in
    let i = length tb.binds in
    let n = length tb.nodes in
    (1 ∷ g ∷ i ∷ n ∷ 32 ∷ (32 + 4 * g) ∷ (32 + 4 * g + 4 * i) ∷ (32 + 4 * g + 4 * i + 16 * n) ∷ []) ++
    (tb.sizes ++ (tb.binds ++ node_words tb.nodes))

-- x∈G0, G0 of size 2; the document gives its words
abbrev pub p1 : Table
p1 = table (2 ∷ []) (0 ∷ []) (node₁ 20 0 ∷ node₁ 21 0 ∷ node₂ 7 0 1 ∷ [])

abbrev pub p1_words : List ℕ
p1_words = 1 ∷ 1 ∷ 1 ∷ 3 ∷ 32 ∷ 36 ∷ 40 ∷ 88 ∷ 2 ∷ 0 ∷ 20 ∷ 0 ∷ 0 ∷ 0 ∷ 21 ∷ 0 ∷ 0 ∷ 0 ∷ 7 ∷ 0 ∷ 1 ∷ 0 ∷ []

words_of_p1 : words_of p1 ≡ p1_words
words_of_p1 = refl

-- ∅=∅
abbrev pub p2 : Table
p2 = closed (node 26 ∷ node 26 ∷ node₂ 6 0 1 ∷ [])

-- x={x}
abbrev pub p3 : Table
p3 = table [] (0 ∷ []) (node₁ 20 0 ∷ node₁ 20 0 ∷ node₁ 27 1 ∷ node₂ 6 0 2 ∷ [])

-- 1=TRUE
abbrev pub p4 : Table
p4 = closed (node₁ 23 1 ∷ node₁ 24 1 ∷ node₂ 6 0 1 ∷ [])

-- 1=1 ∨ 1=TRUE
abbrev pub p5 : Table
p5 = closed (node₁ 23 1 ∷ node₁ 23 1 ∷ node₂ 6 0 1 ∷ node₁ 23 1 ∷ node₁ 24 1 ∷ node₂ 6 3 4 ∷ node₂ 2 2 5 ∷ [])

-- card(POW(1..n))=32
abbrev pub card_power : ℕ → Table
card_power n = closed (node₁ 23 1 ∷ node₁ 23 n ∷ node₂ 41 0 1 ∷ node₁ 33 2 ∷ node₁ 38 3 ∷ node₁ 23 32 ∷ node₂ 6 4 5 ∷ [])

abbrev pub p6 : Table
p6 = card_power 5

abbrev pub p7 : Table
p7 = card_power 6

-- choice(∅)=1
abbrev pub p8 : Table
p8 = closed (node 26 ∷ node₁ 43 0 ∷ node₁ 23 1 ∷ node₂ 6 1 2 ∷ [])

-- 2147483647+1=0
abbrev pub p9 : Table
p9 = closed (node₁ 23 2147483647 ∷ node₁ 23 1 ∷ node₂ 39 0 1 ∷ node₁ 23 0 ∷ node₂ 6 2 3 ∷ [])

-- ∀x∈2..1·x=x
abbrev pub p10 : Table
p10 = table [] (1 ∷ [])
    (node₁ 23 2 ∷ node₁ 23 1 ∷ node₂ 41 0 1 ∷ node₁ 20 0 ∷ node₁ 20 0 ∷ node₂ 6 3 4 ∷ node₃ 10 0 2 5 ∷ [])

-- ({(1,m)}∪{(1,n)})(1)=2
abbrev pub union_at_one : ℕ → ℕ → Table
union_at_one m n = closed
    (node₁ 23 1 ∷ node₁ 23 m ∷ node₂ 28 0 1 ∷ node₁ 27 2 ∷ node₁ 23 1 ∷ node₁ 23 n ∷ node₂ 28 4 5 ∷ node₁ 27 6 ∷
    node₂ 29 3 7 ∷ node₁ 23 1 ∷ node₂ 37 8 9 ∷ node₁ 23 2 ∷ node₂ 6 10 11 ∷ [])

abbrev pub p12 : Table
p12 = union_at_one 3 2

-- A cell as two words is its payload, then its tag: element 1 of G0, and the integer 1.
abbrev pub element1 : List ℕ
element1 = to_bytes (1 ∷ 3 ∷ [])

abbrev integer1 : List ℕ
integer1 = to_bytes (1 ∷ 1 ∷ [])

-- A sheet from the codes in its rows; a predicate has none.
abbrev pub sheet : List (List ℕ) → List ℕ
sheet [] = []
sheet (r ∷ rs) = (r ++ replicate (64 - length r) 0) ++ sheet rs

-- The codes of INTEGER, POW(INTEGER), POW(POW(INTEGER)), INTEGER × INTEGER and POW(INTEGER × INTEGER).
abbrev pub z : List ℕ
z = 1 ∷ []

abbrev pub pz : List ℕ
pz = 3 ∷ 1 ∷ []

abbrev pub ppz : List ℕ
ppz = 3 ∷ 3 ∷ 1 ∷ []

abbrev pub zz : List ℕ
zz = 4 ∷ 1 ∷ 1 ∷ []

abbrev pub pzz : List ℕ
pzz = 3 ∷ 4 ∷ 1 ∷ 1 ∷ []

-- Values: an integer that is not negative, a set of values, and one of such integers, their members in rising order.
abbrev pub integer : ℕ → Value
integer n = int (pos n)

abbrev pub set_with : List Value → Value
set_with vs = set (values vs)

abbrev pub integers_in : List ℕ → Value
integers_in ns = set_with (map integer ns)

-- POW(1..5): the fewer members, the earlier, then by the greatest member that differs.
abbrev subsets_to5 : List (List ℕ)
subsets_to5 =
    [] ∷
    (1 ∷ []) ∷ (2 ∷ []) ∷ (3 ∷ []) ∷ (4 ∷ []) ∷ (5 ∷ []) ∷
    (1 ∷ 2 ∷ []) ∷ (1 ∷ 3 ∷ []) ∷ (2 ∷ 3 ∷ []) ∷ (1 ∷ 4 ∷ []) ∷ (2 ∷ 4 ∷ []) ∷ (3 ∷ 4 ∷ []) ∷
    (1 ∷ 5 ∷ []) ∷ (2 ∷ 5 ∷ []) ∷ (3 ∷ 5 ∷ []) ∷ (4 ∷ 5 ∷ []) ∷
    (1 ∷ 2 ∷ 3 ∷ []) ∷ (1 ∷ 2 ∷ 4 ∷ []) ∷ (1 ∷ 3 ∷ 4 ∷ []) ∷ (2 ∷ 3 ∷ 4 ∷ []) ∷ (1 ∷ 2 ∷ 5 ∷ []) ∷
    (1 ∷ 3 ∷ 5 ∷ []) ∷ (2 ∷ 3 ∷ 5 ∷ []) ∷ (1 ∷ 4 ∷ 5 ∷ []) ∷ (2 ∷ 4 ∷ 5 ∷ []) ∷ (3 ∷ 4 ∷ 5 ∷ []) ∷
    (1 ∷ 2 ∷ 3 ∷ 4 ∷ []) ∷ (1 ∷ 2 ∷ 3 ∷ 5 ∷ []) ∷ (1 ∷ 2 ∷ 4 ∷ 5 ∷ []) ∷ (1 ∷ 3 ∷ 4 ∷ 5 ∷ []) ∷ (2 ∷ 3 ∷ 4 ∷ 5 ∷ []) ∷
    (1 ∷ 2 ∷ 3 ∷ 4 ∷ 5 ∷ []) ∷ []

-- 1..6, whose power set P7 asks for, and (1,n), of which P12 has two.
abbrev pub one_to_six : Value
one_to_six = integers_in (1 ∷ 2 ∷ 3 ∷ 4 ∷ 5 ∷ 6 ∷ [])

abbrev one_with : ℕ → Value
one_with n = pair (integer 1) (integer n)

-- A row: the words of a table, the bytes of the values buffer, the budget and the length of the sheet lent; what Check says, and
-- the run: its end, the steps, and the values formed, each with its node.
pub record Condition : Type 0 where
  pub words : List ℕ
  pub buffer : List ℕ
  pub budget : ℕ
  pub room : ℕ
  pub checks : End (List ℕ)
  pub runs : Run Bool

-- A row with a budget and values; one without values, with the budget 100.
abbrev tried : Table → ℕ → List ℕ → ℕ → End (List ℕ) → End Bool → ℕ → Trace → Condition
tried tb n vs l a e s f = record {
  words = words_of tb;
  buffer = vs;
  budget = n;
  room = l;
  checks = a;
  runs = record { end = e; steps = s; formed = f };
}

abbrev plainly : Table → ℕ → End (List ℕ) → End Bool → ℕ → Trace → Condition
plainly tb l a e s f = tried tb 100 [] l a e s f

-- P1 to P12, the last as document 02, N2 has it. The documents give no evaluation of P2 and P3, no check of P6, P7, P9 to P12,
-- and no values formed: these are what the rules give.
abbrev pub conditions : List Condition
conditions =
    tried p1 100 element1 256 (done (sheet ((16 ∷ []) ∷ (16 ∷ []) ∷ (3 ∷ 16 ∷ []) ∷ [] ∷ []))) (done true) 3
    ((0, scalar (element 0 1)) ∷ (1, set_with (scalar (element 0 0) ∷ scalar (element 0 1) ∷ [])) ∷ []) ∷
    plainly p2 192 (refused 12 0) (done true) 3 ((0, set_with []) ∷ (1, set_with []) ∷ []) ∷
    tried p3 100 integer1 320 (refused 11 3) (refused 15 3) 4 ((0, integer 1) ∷ (1, integer 1) ∷ (2, integers_in (1 ∷ [])) ∷ []) ∷
    plainly p4 192 (refused 11 2) (refused 15 2) 3 ((0, integer 1) ∷ (1, truth_value true) ∷ []) ∷
    plainly p5 448 (refused 11 5) (done true) 4 ((0, integer 1) ∷ (1, integer 1) ∷ []) ∷
    plainly p6 448 (done (sheet (z ∷ z ∷ pz ∷ ppz ∷ z ∷ z ∷ [] ∷ []))) (done true) 7
    ((0, integer 1) ∷ (1, integer 5) ∷ (2, integers_in (1 ∷ 2 ∷ 3 ∷ 4 ∷ 5 ∷ [])) ∷ (3, set_with (map integers_in subsets_to5)) ∷
    (4, integer 32) ∷ (5, integer 32) ∷ []) ∷
    plainly p7 448 (done (sheet (z ∷ z ∷ pz ∷ ppz ∷ z ∷ z ∷ [] ∷ []))) (refused 18 3) 6
    ((0, integer 1) ∷ (1, integer 6) ∷ (2, one_to_six) ∷ []) ∷
    plainly p8 256 (done (sheet (pz ∷ z ∷ z ∷ [] ∷ []))) (refused 16 1) 3 ((0, set_with []) ∷ []) ∷
    plainly p9 320 (done (sheet (z ∷ z ∷ z ∷ z ∷ [] ∷ []))) (refused 17 2) 4 ((0, integer 2147483647) ∷ (1, integer 1) ∷ []) ∷
    plainly p10 512 (done (sheet (z ∷ z ∷ z ∷ pz ∷ z ∷ z ∷ [] ∷ [] ∷ []))) (done true) 4
    ((0, integer 2) ∷ (1, integer 1) ∷ (2, set_with []) ∷ []) ∷
    tried p10 3 [] 512 (done (sheet (z ∷ z ∷ z ∷ pz ∷ z ∷ z ∷ [] ∷ [] ∷ []))) (refused 19 1) 3 ((0, integer 2) ∷ []) ∷
    plainly p12 832 (done (sheet (z ∷ z ∷ zz ∷ pzz ∷ z ∷ z ∷ zz ∷ pzz ∷ pzz ∷ z ∷ z ∷ z ∷ [] ∷ []))) (refused 16 10) 12
    ((0, integer 1) ∷ (1, integer 3) ∷ (2, one_with 3) ∷ (3, set_with (one_with 3 ∷ [])) ∷
    (4, integer 1) ∷ (5, integer 2) ∷ (6, one_with 2) ∷ (7, set_with (one_with 2 ∷ [])) ∷
    (8, set_with (one_with 2 ∷ one_with 3 ∷ [])) ∷ (9, integer 1) ∷ []) ∷ []

-- Evaluate's run of a condition is what its row tells. One by one, so that a wrong definition is refused at the row that it gets wrong.
abbrev pub RunsAsTold : Condition → Type 0
RunsAsTold c = evaluation (to_bytes c.words) c.buffer c.budget ≡ c.runs

pub conditions_run : All RunsAsTold conditions
unfolding evaluation
conditions_run = (refl, (refl, (refl, (refl, (refl, (refl, (refl, (refl, (refl, (refl, (refl, (refl, tt))))))))))))
