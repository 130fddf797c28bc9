-- Further cases, each of which keeps a wrong definition out that P1 to P12 let through. First the cases of the typing rules, with
-- what Check says of them too: Evaluate's side is proved here by computation, Check's side over the same list in `typing`
-- (proofs/RuleChecks.antt). Then cases of Evaluate only. All other cases go through the program `answers`.
use Prim.Native.Nat.{ℕ, zero, suc, ◌+◌}
use mathlib.Core.List.{List, [], ◌∷◌, ◌++◌, map}
use mathlib.Core.Bool.{Bool, true, false}
use mathlib.Core.Option.{Option, none as nothing, some}
use mathlib.Core.Path.{◌≡◌, refl}
use lib.ListN.{set}
use Rattle.rules.specs.Kinds.{Kind, kinds, Field, unused, child, use_of, binder_of, set_number, element_number, any_word, truth_bit, fields_of}
use Rattle.rules.specs.Tables.{Node, Table}
use Rattle.rules.specs.Ends.{End, done, refused}
use Rattle.rules.specs.Evaluation.{run, evaluation}
use Rattle.rules.specs.Safety.{All}
use Rattle.rules.specs.Values.{Value, pair}
use Rattle.rules.specs.Operations.{is_function}
use Rattle.rules.specs.Merges.{merged, united, comparisons}
use Rattle.rules.proofs.Rows.{to_bytes, node₃, node₂, node₁, node, table, closed, no_clauses, words_of, p1, p1_words, union_at_one}
use Rattle.rules.proofs.Rows.{element1, sheet, z, pz, integer, set_with}

-- A condition without free identifiers, what Check says of it, and how Evaluate ends with the budget 100, with the steps.
pub record RuleCase : Type 0 where
  pub condition : Table
  pub checks : End (List ℕ)
  pub ends : End Bool
  pub steps : ℕ

-- Accepted with these codes in the rows of the sheet.
abbrev accepted_with : Table → List (List ℕ) → Bool → ℕ → RuleCase
accepted_with tb rs t s = record { condition = tb; checks = done (sheet rs); ends = done t; steps = s }

-- Only the rule of node n refuses: 11 and 15 there.
abbrev refused_at : ℕ → Table → ℕ → RuleCase
refused_at n tb s = record { condition = tb; checks = refused 11 n; ends = refused 15 n; steps = s }

-- The codes of BOOL, POW(BOOL), POW(POW(BOOL)), G0, the products of INTEGER and BOOL, and their powers.
abbrev b : List ℕ
b = 2 ∷ []

abbrev pb : List ℕ
pb = 3 ∷ 2 ∷ []

abbrev ppb : List ℕ
ppb = 3 ∷ 3 ∷ 2 ∷ []

abbrev g0 : List ℕ
g0 = 16 ∷ []

abbrev zb : List ℕ
zb = 4 ∷ 1 ∷ 2 ∷ []

abbrev bz : List ℕ
bz = 4 ∷ 2 ∷ 1 ∷ []

abbrev pzb : List ℕ
pzb = 3 ∷ 4 ∷ 1 ∷ 2 ∷ []

abbrev pbz : List ℕ
pbz = 3 ∷ 4 ∷ 2 ∷ 1 ∷ []

-- Leaves: an integer by its word, an identifier, TRUE, FALSE, ∅, the sets BOOL and G0.
abbrev lit : ℕ → Node
lit w = node₁ 23 w

abbrev x₀ : Node
x₀ = node₁ 20 0

abbrev TRUE : Node
TRUE = node₁ 24 1

abbrev FALSE : Node
FALSE = node₁ 24 0

abbrev empty : Node
empty = node 26

abbrev truths : Node
truths = node 42

abbrev given0 : Node
given0 = node₁ 21 0

-- The test k of two leaves; the operation k of a leaf, or of two, is a third leaf. G0 has one element.
abbrev test_leaves : ℕ → Node → Node → Table
test_leaves k e f = table (1 ∷ []) [] (e ∷ f ∷ node₂ k 0 1 ∷ [])

abbrev of_leaf : ℕ → Node → Node → Table
of_leaf k e f = table (1 ∷ []) [] (e ∷ node₁ k 0 ∷ f ∷ node₂ 6 1 2 ∷ [])

abbrev of_leaves : ℕ → Node → Node → Node → Table
of_leaves k e f g = table (1 ∷ []) [] (e ∷ f ∷ node₂ k 0 1 ∷ g ∷ node₂ 6 2 3 ∷ [])

-- The binder k of x over a leaf, with the body e=f for leaves e and f; and a comprehension so, which is a leaf g.
abbrev binding_over : ℕ → Node → Node → Node → List Node
binding_over k r e f = r ∷ e ∷ f ∷ node₂ 6 1 2 ∷ node₃ k 0 0 3 ∷ []

abbrev quantified : ℕ → Node → Node → Node → Table
quantified k r e f = table [] (1 ∷ []) (binding_over k r e f)

abbrev comprehended : Node → Node → Node → Node → Table
comprehended r e f g = table [] (1 ∷ []) (binding_over 34 r e f ++ (g ∷ node₂ 6 4 5 ∷ []))

-- The name of a binder has the type of the range's members: over BOOL, x=1 fits no x, and Check refuses the binder.
abbrev unlike_name : Table → ℕ → RuleCase
unlike_name tb s = record { condition = tb; checks = refused 11 4; ends = refused 15 3; steps = s }

-- The test k of 1..m and 1..n; the operation k of 1..3 and 2..4 is m..n.
abbrev test_ranges : ℕ → ℕ → ℕ → Table
test_ranges k m n = closed (lit 1 ∷ lit m ∷ node₂ 41 0 1 ∷ lit 1 ∷ lit n ∷ node₂ 41 3 4 ∷ node₂ k 2 5 ∷ [])

abbrev join_ranges : ℕ → ℕ → ℕ → Table
join_ranges k m n = closed
    (lit 1 ∷ lit 3 ∷ node₂ 41 0 1 ∷ lit 2 ∷ lit 4 ∷ node₂ 41 3 4 ∷ node₂ k 2 5 ∷ lit m ∷ lit n ∷ node₂ 41 7 8 ∷ node₂ 6 6 9 ∷ [])

-- The operation k of m..n is i.
abbrev of_range : ℕ → ℕ → ℕ → ℕ → Table
of_range k m n i = closed (lit m ∷ lit n ∷ node₂ 41 0 1 ∷ node₁ k 2 ∷ lit i ∷ node₂ 6 3 4 ∷ [])

-- (1,TRUE)∈(1..2)×BOOL, (TRUE,3)∈BOOL×(1..2)
abbrev number_first : Table
number_first = closed
    (lit 1 ∷ TRUE ∷ node₂ 28 0 1 ∷ lit 1 ∷ lit 2 ∷ node₂ 41 3 4 ∷ truths ∷ node₂ 32 5 6 ∷ node₂ 7 2 7 ∷ [])

abbrev truth_first : Table
truth_first = closed
    (TRUE ∷ lit 3 ∷ node₂ 28 0 1 ∷ truths ∷ lit 1 ∷ lit 2 ∷ node₂ 41 4 5 ∷ node₂ 32 3 6 ∷ node₂ 7 2 7 ∷ [])

-- The binder k over x∈1..3 with the test j of x and n; {x∈1..3|x≤2}=1..2.
abbrev over_range : ℕ → ℕ → ℕ → List Node
over_range k j n = lit 1 ∷ lit 3 ∷ node₂ 41 0 1 ∷ x₀ ∷ lit n ∷ node₂ j 3 4 ∷ node₃ k 0 2 5 ∷ []

abbrev quantified_range : ℕ → ℕ → ℕ → Table
quantified_range k j n = table [] (1 ∷ []) (over_range k j n)

abbrev low_two : Table
low_two = table [] (1 ∷ []) (over_range 34 9 2 ++ (lit 1 ∷ lit 2 ∷ node₂ 41 7 8 ∷ node₂ 6 6 9 ∷ []))

-- {(e,f)}; its dom or ran is {g}, its value at g is h, for leaves
abbrev one_pair : Node → Node → List Node
one_pair e f = e ∷ f ∷ node₂ 28 0 1 ∷ node₁ 27 2 ∷ []

abbrev half_of : ℕ → Node → Node → Node → Table
half_of k e f g = closed (one_pair e f ++ (node₁ k 3 ∷ g ∷ node₁ 27 5 ∷ node₂ 6 4 6 ∷ []))

abbrev applied_to : Node → Node → Node → Node → Table
applied_to e f g h = closed (one_pair e f ++ (g ∷ node₂ 37 3 4 ∷ h ∷ node₂ 6 5 6 ∷ []))

-- For each rule, conditions that it accepts, whose truth and sheet also tell what the kind gives, at types that have no more in
-- common than the rule says, so that a narrower rule fails; and conditions that it alone refuses, one for each way in which a
-- rule can be wider. P4 is the one that 6 refuses; P1 and P8 have 21 and 26 accepted. The leaves, 25, 27 and 28 take whatever
-- they are given.
abbrev pub rule_cases : List RuleCase
rule_cases =
    -- 7: 1∈BOOL
    refused_at 2 (test_leaves 7 (lit 1) truths) 3 ∷
    -- 8: BOOL⊆G0, 1⊆1; 1..2⊆1..3, 1..3⊆1..2, BOOL⊆BOOL
    refused_at 2 (test_leaves 8 truths given0) 3 ∷ refused_at 2 (test_leaves 8 (lit 1) (lit 1)) 3 ∷
    accepted_with (test_ranges 8 2 3) (z ∷ z ∷ pz ∷ z ∷ z ∷ pz ∷ [] ∷ []) true 7 ∷
    accepted_with (test_ranges 8 3 2) (z ∷ z ∷ pz ∷ z ∷ z ∷ pz ∷ [] ∷ []) false 7 ∷
    accepted_with (test_leaves 8 truths truths) (pb ∷ pb ∷ [] ∷ []) true 3 ∷
    -- 9: TRUE≤TRUE, TRUE≤1, 1≤TRUE; 0≤−1
    refused_at 2 (test_leaves 9 TRUE TRUE) 3 ∷ refused_at 2 (test_leaves 9 TRUE (lit 1)) 3 ∷ refused_at 2 (test_leaves 9 (lit 1) TRUE) 3 ∷
    accepted_with (test_leaves 9 (lit 0) (lit 4294967295)) (z ∷ z ∷ [] ∷ []) false 3 ∷
    -- 10 and 11: a range that is no set, and x=1 over BOOL
    refused_at 4 (quantified 10 (lit 1) (lit 1) (lit 1)) 2 ∷ unlike_name (quantified 10 truths x₀ (lit 1)) 5 ∷
    refused_at 4 (quantified 11 (lit 1) (lit 1) (lit 1)) 2 ∷ unlike_name (quantified 11 truths x₀ (lit 1)) 5 ∷
    -- ∀x∈1..3·x=2 stops at the first member, ∀x∈1..3·x≤3 at none; ∃x∈1..3·x=1 and ∃x∈1..3·x=4 likewise; x=TRUE over BOOL
    accepted_with (quantified_range 10 6 2) (z ∷ z ∷ z ∷ pz ∷ z ∷ z ∷ [] ∷ [] ∷ []) false 7 ∷
    accepted_with (quantified_range 10 9 3) (z ∷ z ∷ z ∷ pz ∷ z ∷ z ∷ [] ∷ [] ∷ []) true 13 ∷
    accepted_with (quantified_range 11 6 1) (z ∷ z ∷ z ∷ pz ∷ z ∷ z ∷ [] ∷ [] ∷ []) true 7 ∷
    accepted_with (quantified_range 11 6 4) (z ∷ z ∷ z ∷ pz ∷ z ∷ z ∷ [] ∷ [] ∷ []) false 13 ∷
    accepted_with (quantified 10 truths x₀ TRUE) (b ∷ pb ∷ b ∷ b ∷ [] ∷ [] ∷ []) false 5 ∷
    accepted_with (quantified 11 truths x₀ TRUE) (b ∷ pb ∷ b ∷ b ∷ [] ∷ [] ∷ []) true 8 ∷
    -- 22: elements 0 and 1 of G0 differ; 24 and 25: bool(1=2)=FALSE; 33, 38 and 42: card(BOOL)=2, card(POW(BOOL))=4
    accepted_with (table (2 ∷ []) [] (node₂ 22 0 0 ∷ node₂ 22 0 1 ∷ node₂ 6 0 1 ∷ [])) (g0 ∷ g0 ∷ [] ∷ []) false 3 ∷
    accepted_with (closed (lit 1 ∷ lit 2 ∷ node₂ 6 0 1 ∷ node₁ 25 2 ∷ FALSE ∷ node₂ 6 3 4 ∷ [])) (z ∷ z ∷ [] ∷ b ∷ b ∷ [] ∷ []) true 6 ∷
    accepted_with (closed (truths ∷ node₁ 38 0 ∷ lit 2 ∷ node₂ 6 1 2 ∷ [])) (pb ∷ z ∷ z ∷ [] ∷ []) true 4 ∷
    accepted_with (closed (truths ∷ node₁ 33 0 ∷ node₁ 38 1 ∷ lit 4 ∷ node₂ 6 2 3 ∷ [])) (pb ∷ ppb ∷ z ∷ z ∷ [] ∷ []) true 5 ∷
    -- 29 to 31: BOOL and G0, 1 and 1; 1..3 and 2..4, BOOL and BOOL
    refused_at 2 (of_leaves 29 truths given0 empty) 4 ∷ refused_at 2 (of_leaves 29 (lit 1) (lit 1) empty) 4 ∷
    refused_at 2 (of_leaves 30 truths given0 empty) 4 ∷ refused_at 2 (of_leaves 30 (lit 1) (lit 1) empty) 4 ∷
    refused_at 2 (of_leaves 31 truths given0 empty) 4 ∷ refused_at 2 (of_leaves 31 (lit 1) (lit 1) empty) 4 ∷
    accepted_with (join_ranges 29 1 4) (z ∷ z ∷ pz ∷ z ∷ z ∷ pz ∷ pz ∷ z ∷ z ∷ pz ∷ [] ∷ []) true 11 ∷
    accepted_with (join_ranges 30 2 3) (z ∷ z ∷ pz ∷ z ∷ z ∷ pz ∷ pz ∷ z ∷ z ∷ pz ∷ [] ∷ []) true 11 ∷
    accepted_with (join_ranges 31 1 1) (z ∷ z ∷ pz ∷ z ∷ z ∷ pz ∷ pz ∷ z ∷ z ∷ pz ∷ [] ∷ []) true 11 ∷
    accepted_with (of_leaves 29 truths truths truths) (pb ∷ pb ∷ pb ∷ pb ∷ [] ∷ []) true 5 ∷
    accepted_with (of_leaves 30 truths truths truths) (pb ∷ pb ∷ pb ∷ pb ∷ [] ∷ []) true 5 ∷
    accepted_with (of_leaves 31 truths truths empty) (pb ∷ pb ∷ pb ∷ pb ∷ [] ∷ []) true 5 ∷
    -- 32, and 7 and 28: 1 and BOOL, BOOL and 1; (1,TRUE)∈(1..2)×BOOL, (TRUE,3)∈BOOL×(1..2)
    refused_at 2 (of_leaves 32 (lit 1) truths empty) 4 ∷ refused_at 2 (of_leaves 32 truths (lit 1) empty) 4 ∷
    accepted_with number_first (z ∷ b ∷ zb ∷ z ∷ z ∷ pz ∷ pb ∷ pzb ∷ [] ∷ []) true 9 ∷
    accepted_with truth_first (b ∷ z ∷ bz ∷ pb ∷ z ∷ z ∷ pz ∷ pbz ∷ [] ∷ []) false 9 ∷
    -- 33: of 1; 35 and 36: of BOOL, of {(1,TRUE)}, of {(TRUE,1)}
    refused_at 1 (of_leaf 33 (lit 1) empty) 3 ∷ refused_at 1 (of_leaf 35 truths empty) 3 ∷ refused_at 1 (of_leaf 36 truths empty) 3 ∷
    accepted_with (half_of 35 (lit 1) TRUE (lit 1)) (z ∷ b ∷ zb ∷ pzb ∷ pz ∷ z ∷ pz ∷ [] ∷ []) true 8 ∷
    accepted_with (half_of 35 TRUE (lit 1) TRUE) (b ∷ z ∷ bz ∷ pbz ∷ pb ∷ b ∷ pb ∷ [] ∷ []) true 8 ∷
    accepted_with (half_of 36 (lit 1) TRUE TRUE) (z ∷ b ∷ zb ∷ pzb ∷ pb ∷ b ∷ pb ∷ [] ∷ []) true 8 ∷
    accepted_with (half_of 36 TRUE (lit 1) (lit 1)) (b ∷ z ∷ bz ∷ pbz ∷ pz ∷ z ∷ pz ∷ [] ∷ []) true 8 ∷
    -- 34: as 10; {x∈1..3|x≤2}=1..2 goes on to the last member; {x∈BOOL|x=x}=BOOL
    refused_at 4 (comprehended (lit 1) (lit 1) (lit 1) empty) 3 ∷ unlike_name (comprehended truths x₀ (lit 1) empty) 6 ∷
    accepted_with low_two (z ∷ z ∷ z ∷ pz ∷ z ∷ z ∷ [] ∷ pz ∷ z ∷ z ∷ pz ∷ [] ∷ []) true 17 ∷
    accepted_with (comprehended truths x₀ x₀ truths) (b ∷ pb ∷ b ∷ b ∷ [] ∷ pb ∷ pb ∷ [] ∷ []) true 10 ∷
    -- 37: {(1,TRUE)} at TRUE, BOOL at TRUE; {(1,TRUE)} at 1, {(TRUE,1)} at TRUE
    refused_at 5 (applied_to (lit 1) TRUE TRUE TRUE) 7 ∷ refused_at 2 (of_leaves 37 truths TRUE TRUE) 4 ∷
    accepted_with (applied_to (lit 1) TRUE (lit 1) TRUE) (z ∷ b ∷ zb ∷ pzb ∷ z ∷ b ∷ b ∷ [] ∷ []) true 8 ∷
    accepted_with (applied_to TRUE (lit 1) TRUE (lit 1)) (b ∷ z ∷ bz ∷ pbz ∷ b ∷ z ∷ z ∷ [] ∷ []) true 8 ∷
    -- 38 and 43: of 1; card(3..1)=0, as an interval may end more than one below its start; choice(1..2)=1, choice(BOOL)=FALSE
    refused_at 1 (of_leaf 38 (lit 1) (lit 1)) 3 ∷ refused_at 1 (of_leaf 43 (lit 1) (lit 1)) 3 ∷
    accepted_with (of_range 38 3 1 0) (z ∷ z ∷ pz ∷ z ∷ z ∷ [] ∷ []) true 6 ∷
    accepted_with (of_range 43 1 2 1) (z ∷ z ∷ pz ∷ z ∷ z ∷ [] ∷ []) true 6 ∷
    accepted_with (of_leaf 43 truths FALSE) (pb ∷ b ∷ b ∷ [] ∷ []) true 4 ∷
    -- 39 to 41: TRUE and TRUE, TRUE and 1, 1 and TRUE, of which 2147483647+TRUE is tested before its sum; 1+2=3, 2−3=−1
    refused_at 2 (of_leaves 39 TRUE TRUE (lit 1)) 4 ∷ refused_at 2 (of_leaves 39 TRUE (lit 1) (lit 1)) 4 ∷
    refused_at 2 (of_leaves 39 (lit 2147483647) TRUE (lit 1)) 4 ∷
    refused_at 2 (of_leaves 40 TRUE TRUE (lit 1)) 4 ∷ refused_at 2 (of_leaves 40 TRUE (lit 1) (lit 1)) 4 ∷
    refused_at 2 (of_leaves 40 (lit 1) TRUE (lit 1)) 4 ∷
    refused_at 2 (of_leaves 41 TRUE TRUE empty) 4 ∷ refused_at 2 (of_leaves 41 TRUE (lit 1) empty) 4 ∷
    refused_at 2 (of_leaves 41 (lit 1) TRUE empty) 4 ∷
    accepted_with (of_leaves 39 (lit 1) (lit 2) (lit 3)) (z ∷ z ∷ z ∷ z ∷ [] ∷ []) true 5 ∷
    accepted_with (of_leaves 40 (lit 2) (lit 3) (lit 4294967295)) (z ∷ z ∷ z ∷ z ∷ [] ∷ []) true 5 ∷ []

-- Each ends as the rules say: the run of its table.
abbrev pub ran : RuleCase → End Bool × ℕ
unfolding run
ran r = let x = run r.condition [] 100 in (x.end, x.steps)

pub rule_cases_right : map ran rule_cases ≡ map (λ r. (r.ends, r.steps)) rule_cases
unfolding run
rule_cases_right = refl

-- A case of Evaluate: the words of a table, the bytes of the values buffer, the budget, the end, and the steps.
pub record Case : Type 0 where
  pub words : List ℕ
  pub buffer : List ℕ
  pub budget : ℕ
  pub ends : End Bool
  pub steps : ℕ

-- A table with values, at a budget and at 100, and one without values.
abbrev at_budget : ℕ → Table → List ℕ → End Bool → ℕ → Case
at_budget n tb vs e s = record { words = words_of tb; buffer = vs; budget = n; ends = e; steps = s }

abbrev valued : Table → List ℕ → End Bool → ℕ → Case
valued tb vs e s = at_budget 100 tb vs e s

abbrev plain : Table → End Bool → ℕ → Case
plain tb e s = valued tb [] e s

-- n negations from node i on, each over the node before; n negations over 1=1
abbrev negations : ℕ → ℕ → List Node
negations i zero = []
negations i (suc n) = node₁ 4 i ∷ negations (suc i) n

abbrev pub negated : ℕ → Table
negated n = closed ((lit 1 ∷ lit 1 ∷ node₂ 6 0 1 ∷ []) ++ negations 2 n)

-- ∀x∈{x}·1=1
abbrev used_in_range : Table
used_in_range = table [] (1 ∷ []) (x₀ ∷ node₁ 27 0 ∷ lit 1 ∷ lit 1 ∷ node₂ 6 2 3 ∷ node₃ 10 0 1 4 ∷ [])

abbrev unreadable_cases : List Case
unreadable_cases =
    -- `occurrences` that counts a child once however often it stands: x∈x with one node for both
    record { words = set p1_words 20 0; buffer = element1; budget = 100; ends = refused 7 0; steps = 0 } ∷
    -- `occurs_in` that takes a binder's range for its scope
    plain used_in_range (refused 9 0) 0 ∷
    -- another `height_limit`, a `height` that is off by one: heights 27 and 28 (document 02, N11)
    plain (negated 25) (done false) 28 ∷ plain (negated 26) (refused 8 28) 0 ∷ []

-- Document 02, N1
abbrev no_clauses_cases : List Case
no_clauses_cases =
    -- `limited` that asks for a node, `holdsᶜ` that is false or takes a visit where the condition is absent; first a table of nothing
    at_budget 0 (closed []) [] (done true) 0 ∷ at_budget 0 (no_clauses []) [] (done true) 0 ∷
    at_budget 4294967295 (no_clauses (0 ∷ [])) element1 (done true) 0 ∷
    -- a run that does not wait for 14, or for 9 at a bound identifier
    at_budget 0 (no_clauses (0 ∷ [])) [] (refused 14 0) 0 ∷ at_budget 0 (no_clauses []) element1 (refused 14 0) 0 ∷
    at_budget 0 (no_clauses (0 ∷ 1 ∷ [])) element1 (refused 9 1) 0 ∷
    -- `laid_out` that does not look at the length: a word too many
    record { words = words_of (no_clauses []) ++ (0 ∷ []); buffer = []; budget = 0; ends = refused 3 0; steps = 0 } ∷ []

-- The cells of n integers from i on.
abbrev integer_cells : ℕ → ℕ → List ℕ
integer_cells i zero = []
integer_cells i (suc n) = i ∷ 1 ∷ integer_cells (suc i) n

-- x≤y, and ∀x∈1..2·y≤x
abbrev two_free : Table
two_free = table [] (0 ∷ 0 ∷ []) (node₁ 20 0 ∷ node₁ 20 1 ∷ node₂ 9 0 1 ∷ [])

abbrev bound_first : Table
bound_first = table [] (1 ∷ 0 ∷ []) (lit 1 ∷ lit 2 ∷ node₂ 41 0 1 ∷ node₁ 20 1 ∷ node₁ 20 0 ∷ node₂ 9 3 4 ∷ node₃ 10 0 2 5 ∷ [])

-- P1 at values that pass 14 is refused with 15 where they are no elements.
abbrev buffer_cases : List Case
buffer_cases =
    -- `nothing_left` that lets a byte too many through, or has another place
    valued p1 (element1 ++ (0 ∷ [])) (refused 14 1) 0 ∷
    -- `values_from` with another order or place: x≤y at 1 and 2, and y cut short
    valued two_free (to_bytes (1 ∷ 1 ∷ 2 ∷ 1 ∷ [])) (done true) 3 ∷ valued two_free (to_bytes (1 ∷ 1 ∷ [])) (refused 14 1) 0 ∷
    -- `value_for` that takes a value for a bound identifier, `◌with◌≔◌` that changes the others: ∀x∈1..2·y≤x at 2
    valued bound_first (to_bytes (2 ∷ 1 ∷ [])) (done false) 7 ∷
    -- `scalar_good` that has an element for the size, or for a set beyond G
    valued p1 (to_bytes (2 ∷ 3 ∷ [])) (refused 14 0) 0 ∷ valued p1 (to_bytes (256 ∷ 3 ∷ [])) (refused 14 0) 0 ∷
    -- `good` that refuses the weight 256
    valued p1 (to_bytes (255 ∷ 5 ∷ integer_cells 0 255)) (refused 15 2) 3 ∷ []

-- (1=m) with kind k and (1=n); (1=m) with kind k and (1=TRUE), which is not reached
abbrev joined_tests : ℕ → ℕ → ℕ → Table
joined_tests k m n = closed (lit 1 ∷ lit m ∷ node₂ 6 0 1 ∷ lit 1 ∷ lit n ∷ node₂ 6 3 4 ∷ node₂ k 2 5 ∷ [])

abbrev skipped : ℕ → ℕ → Table
skipped k m = closed (lit 1 ∷ lit m ∷ node₂ 6 0 1 ∷ lit 1 ∷ TRUE ∷ node₂ 6 3 4 ∷ node₂ k 2 5 ∷ [])

-- Cells as words: an integer, a pair, a set of one or two members.
abbrev integer_cell : ℕ → List ℕ
integer_cell n = n ∷ 1 ∷ []

abbrev pair_cells : List ℕ → List ℕ → List ℕ
pair_cells v w = 0 ∷ 4 ∷ (v ++ w)

abbrev one_in_set : List ℕ → List ℕ
one_in_set v = 1 ∷ 5 ∷ v

-- Two and three pairs, by their first parts and the integers that these stand with.
abbrev two_pairs : List ℕ → ℕ → List ℕ → ℕ → List ℕ
two_pairs v m w n = 2 ∷ 5 ∷ (pair_cells v (integer_cell m) ++ pair_cells w (integer_cell n))

abbrev three_pairs : ℕ → ℕ → ℕ → ℕ → ℕ → ℕ → List ℕ
three_pairs a m b n c k = set (two_pairs (integer_cell a) m (integer_cell b) n) 0 3 ++ pair_cells (integer_cell c) (integer_cell k)

-- f(e)=6, for the cells of f and e
abbrev applied_at : List ℕ → List ℕ → End Bool → ℕ → Case
applied_at f e =
    valued (table [] (0 ∷ 0 ∷ []) (node₁ 20 0 ∷ node₁ 20 1 ∷ node₂ 37 0 1 ∷ lit 6 ∷ node₂ 6 2 3 ∷ [])) (to_bytes (f ++ e))

-- Document 02, N2
abbrev application_cases : List Case
application_cases =
    -- `paired_with` that takes any first part; equal second parts, as any function may have
    applied_at (two_pairs (integer_cell 1) 5 (integer_cell 2) 6) (integer_cell 2) (done true) 5 ∷
    applied_at (two_pairs (integer_cell 1) 6 (integer_cell 2) 6) (integer_cell 1) (done true) 5 ∷
    -- outside the domain of a function, and of one that has no pairs
    applied_at (two_pairs (integer_cell 1) 5 (integer_cell 2) 6) (integer_cell 3) (refused 16 2) 4 ∷
    applied_at (0 ∷ 5 ∷ []) (integer_cell 3) (refused 16 2) 4 ∷
    -- `applied` that looks at the pairs of e only: {(1,6),(2,5),(2,7)}(1) and {(1,5),(1,7),(2,6)}(2)
    applied_at (three_pairs 1 6 2 5 2 7) (integer_cell 1) (refused 16 2) 4 ∷
    applied_at (three_pairs 1 5 1 7 2 6) (integer_cell 2) (refused 16 2) 4 ∷
    -- `applied` that gives a value outside the domain of a relation that is no function; 15 comes first
    applied_at (two_pairs (integer_cell 1) 5 (integer_cell 1) 6) (integer_cell 2) (refused 16 2) 4 ∷
    applied_at (two_pairs (integer_cell 1) 5 (integer_cell 1) 6) (1 ∷ 2 ∷ []) (refused 15 2) 4 ∷
    -- `shares_first` that compares less than the whole first part: (1,2) and (1,3), ∅ and {1}; the same first part twice
    applied_at (two_pairs (pair_cells (integer_cell 1) (integer_cell 2)) 5 (pair_cells (integer_cell 1) (integer_cell 3)) 6)
    (pair_cells (integer_cell 1) (integer_cell 3)) (done true) 5 ∷
    applied_at (two_pairs (pair_cells (integer_cell 1) (integer_cell 2)) 5 (pair_cells (integer_cell 1) (integer_cell 2)) 6)
    (pair_cells (integer_cell 1) (integer_cell 2)) (refused 16 2) 4 ∷
    applied_at (two_pairs (0 ∷ 5 ∷ []) 5 (one_in_set (integer_cell 1)) 6) (one_in_set (integer_cell 1)) (done true) 5 ∷
    applied_at (two_pairs (one_in_set (integer_cell 1)) 5 (one_in_set (integer_cell 1)) 6) (one_in_set (integer_cell 1)) (refused 16 2) 4 ∷
    -- a pair that both sides of a union have is one pair: ({(1,2)}∪{(1,2)})(1)=2
    plain (union_at_one 2 2) (done true) 13 ∷ []

-- choice(x)=y, for the cells of x and y
abbrev least_is : List ℕ → List ℕ → End Bool → ℕ → Case
least_is x y = valued (table [] (0 ∷ 0 ∷ []) (node₁ 20 0 ∷ node₁ 43 0 ∷ node₁ 20 1 ∷ node₂ 6 1 2 ∷ [])) (to_bytes (x ++ y))

abbrev two_in_set : List ℕ → List ℕ → List ℕ
two_in_set v w = 2 ∷ 5 ∷ (v ++ w)

abbrev of_two : ℕ → ℕ → List ℕ
of_two m n = two_in_set (integer_cell m) (integer_cell n)

-- Document 02, N6
abbrev order_cases : List Case
order_cases =
    -- members from the least up: {2,3} precedes {1,4}; the other way round is malformed now, and was good
    least_is (two_in_set (of_two 2 3) (of_two 1 4)) (of_two 2 3) (done true) 4 ∷
    least_is (two_in_set (of_two 1 4) (of_two 2 3)) (of_two 1 4) (refused 14 0) 0 ∷
    -- the count ignored: {4} precedes {1,2}
    least_is (two_in_set (one_in_set (integer_cell 4)) (of_two 1 2)) (one_in_set (integer_cell 4)) (done true) 4 ∷
    -- the greatest only: {1,4} precedes {2,4}, and the two are not the same
    least_is (two_in_set (of_two 1 4) (of_two 2 4)) (of_two 1 4) (done true) 4 ∷
    least_is (two_in_set (of_two 1 4) (of_two 2 4)) (of_two 2 4) (done false) 4 ∷
    -- one level only: sets of sets of sets, and of pairs of sets
    least_is (two_in_set (one_in_set (of_two 2 3)) (one_in_set (of_two 1 4))) (one_in_set (of_two 2 3)) (done true) 4 ∷
    least_is (two_in_set (one_in_set (of_two 1 4)) (one_in_set (of_two 2 3))) (one_in_set (of_two 1 4)) (refused 14 0) 0 ∷
    least_is (two_in_set (pair_cells (of_two 2 3) (integer_cell 9)) (pair_cells (of_two 1 4) (integer_cell 0))) (pair_cells (of_two 2 3) (integer_cell 9))
    (done true) 4 ∷
    -- pairs from right to left: (1,{1,4}) precedes (2,{2,3})
    least_is (two_in_set (pair_cells (integer_cell 1) (of_two 1 4)) (pair_cells (integer_cell 2) (of_two 2 3)))
    (pair_cells (integer_cell 1) (of_two 1 4)) (done true) 4 ∷ []

abbrev run_cases : List Case
run_cases =
    -- `decides` and `joined` with another truth: ∧ and ⇒ skip (∨ does in P5), and the truths where nothing is skipped
    plain (skipped 1 2) (done false) 4 ∷ plain (skipped 3 2) (done true) 4 ∷
    plain (joined_tests 1 1 1) (done true) 7 ∷ plain (joined_tests 1 1 2) (done false) 7 ∷
    plain (joined_tests 2 2 1) (done true) 7 ∷ plain (joined_tests 2 2 2) (done false) 7 ∷
    plain (joined_tests 3 1 1) (done true) 7 ∷ plain (joined_tests 3 1 2) (done false) 7 ∷
    plain (joined_tests 5 1 1) (done true) 7 ∷ plain (joined_tests 5 1 2) (done false) 7 ∷
    plain (joined_tests 5 2 1) (done false) 7 ∷ plain (joined_tests 5 2 2) (done true) 7 ∷
    -- a negation that hands its operand on
    plain (negated 1) (done false) 4 ∷
    -- `weight_limit` below 256: 1..255 weighs 256
    plain (test_ranges 6 255 1) (done false) 7 ∷ []

abbrev pub cases : List Case
cases = unreadable_cases ++ (buffer_cases ++ run_cases)

abbrev pub evaluated : Case → End Bool × ℕ
unfolding evaluation
evaluated c = let r = evaluation (to_bytes c.words) c.buffer c.budget in (r.end, r.steps)

-- Each case ends as the rules say.
pub cases_right : map evaluated cases ≡ map (λ c. (c.ends, c.steps)) cases
unfolding evaluation
cases_right = refl

pub no_clauses_right : map evaluated no_clauses_cases ≡ map (λ c. (c.ends, c.steps)) no_clauses_cases
unfolding evaluation
no_clauses_right = refl

-- These one by one, so that a wrong definition is refused at the case that it gets wrong.
abbrev EndsAsTold : Case → Type 0
EndsAsTold c = evaluated c ≡ (c.ends, c.steps)

pub application_right : All EndsAsTold application_cases
unfolding evaluation
application_right = (refl, (refl, (refl, (refl, (refl, (refl, (refl, (refl, (refl, (refl, (refl, (refl, (refl, tt)))))))))))))

pub order_right : All EndsAsTold order_cases
unfolding evaluation
order_right = (refl, (refl, (refl, (refl, (refl, (refl, (refl, (refl, (refl, tt)))))))))

-- N12: two lists of integers, what they are merged into, and the comparisons. One with itself: equal fronts are one comparison; in turns; all of one
-- before the other: the rest takes none; one in common; with the empty list.
abbrev integers : List ℕ → List Value
integers xs = map integer xs

pub merges_right :
    (united (integers (1 ∷ 2 ∷ 3 ∷ [])) (integers (1 ∷ 2 ∷ 3 ∷ [])) ≡ integers (1 ∷ 2 ∷ 3 ∷ [])) ×
    (comparisons (integers (1 ∷ 2 ∷ 3 ∷ [])) (integers (1 ∷ 2 ∷ 3 ∷ [])) ≡ 3) ×
    (united (integers (1 ∷ 3 ∷ 5 ∷ [])) (integers (2 ∷ 4 ∷ 6 ∷ [])) ≡ integers (1 ∷ 2 ∷ 3 ∷ 4 ∷ 5 ∷ 6 ∷ [])) ×
    (comparisons (integers (1 ∷ 3 ∷ 5 ∷ [])) (integers (2 ∷ 4 ∷ 6 ∷ [])) ≡ 5) ×
    (comparisons (integers (1 ∷ [])) (integers (2 ∷ 3 ∷ 4 ∷ [])) ≡ 1) ×
    (comparisons (integers (2 ∷ 3 ∷ 4 ∷ [])) (integers (1 ∷ [])) ≡ 1) ×
    (united (integers (1 ∷ 2 ∷ [])) (integers (2 ∷ 3 ∷ [])) ≡ integers (1 ∷ 2 ∷ 3 ∷ [])) ×
    (comparisons (integers (1 ∷ 2 ∷ [])) (integers (2 ∷ 3 ∷ [])) ≡ 2) ×
    (comparisons (integers (1 ∷ 2 ∷ [])) [] ≡ 0) × (comparisons [] (integers (1 ∷ 2 ∷ [])) ≡ 0)
unfolding merged comparisons
merges_right = (refl, refl, refl, refl, refl, refl, refl, refl, refl, refl)

-- `is_function` does not rely on the order of the members: here the pairs that share a first part are no neighbours.
pub apart_no_function :
    is_function (set_with (pair (integer 2) (integer 5) ∷ pair (integer 1) (integer 6) ∷ pair (integer 2) (integer 7) ∷ [])) ≡ false
unfolding is_function
apart_no_function = refl

abbrev unused_in : List Field → ℕ
unused_in [] = 0
unused_in (f ∷ fs) =
    elim f [ unused ↦ 1 | child c ↦ 0 | use_of ↦ 0 | binder_of ↦ 0 | set_number ↦ 0 | element_number ↦ 0 | any_word ↦ 0 | truth_bit ↦ 0 ] +
    unused_in fs

-- How many fields a node of a kind leaves unused; 4 where the code has no kind.
abbrev pub unused_fields : Option Kind → ℕ
unused_fields nothing = 4
unused_fields (some k) = unused_in (fields_of k)

-- The codes from 0 on that have a kind, 1 to 11 and 20 to 43, with the fields that must be 0. No law refuses a kind more, or a
-- field of any word where it should be unused.
pub kinds_right : map unused_fields kinds ≡
    4 ∷ 1 ∷ 1 ∷ 1 ∷ 2 ∷ 1 ∷ 1 ∷ 1 ∷ 1 ∷ 1 ∷ 0 ∷ 0 ∷ 4 ∷ 4 ∷ 4 ∷ 4 ∷ 4 ∷ 4 ∷ 4 ∷ 4 ∷
    2 ∷ 2 ∷ 1 ∷ 2 ∷ 2 ∷ 2 ∷ 3 ∷ 2 ∷ 1 ∷ 1 ∷ 1 ∷ 1 ∷ 1 ∷ 2 ∷ 0 ∷ 2 ∷ 2 ∷ 1 ∷ 2 ∷ 1 ∷ 1 ∷ 1 ∷ 3 ∷ 2 ∷ []
kinds_right = refl
