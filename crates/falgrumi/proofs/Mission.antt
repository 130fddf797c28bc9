-- The mission's three demands as theorems: first the statements, each a named type, then the theorems, which cite the laws that prove them.
--
-- The statements speak of what the calls' contracts equate their answers with, for any bytes (crates/checker/src/lib.rt and
-- crates/evaluate/src/lib.rt). For the bytes bs of a table and a sheet of room bytes, `verdict bs room` is Check's answer, `done rows`
-- or `refused r p`, refusal r at place p, and `sheet_after` is the sheet at exit. `evaluation bs buffer budget` has Evaluate's end,
-- `done` with a truth or `refused r p`, its steps, and the values that it forms. `reading bs` is `done tb` where bs is a readable table.
-- What the statements name stands in crates/rules/specs (Ends, Refusals, Reading, Verdict, Evaluation, Visits), `verdict` computed in
-- crates/typing/specs/Model.antt, `HasWritten` in crates/conforms/specs/Conforming.antt.
use Prim.Native.Nat.{ℕ, ◌≤◌, ◌<◌}
use mathlib.Core.List.{List}
use mathlib.Core.Logic.{◌⊎◌, ◌↔◌}
use mathlib.Core.Path.{◌≡◌, ap}
use lib.ListN.{length, get_or}
use Rattle.rules.specs.Types.{Ty}
use Rattle.rules.specs.Values.{Value}
use Rattle.rules.specs.Tables.{Table}
use Rattle.rules.specs.Ends.{End, done, refused}
use Rattle.rules.specs.Reading.{reading}
use Rattle.rules.specs.Cells.{no_value, values_in}
use Rattle.rules.specs.Evaluation.{evaluation}
use Rattle.rules.specs.Visits.{Completes, evaluation_visits}
use Rattle.rules.specs.Verdict.{node_place, Whole, Only, Light, sheet_of, sheet_length, sheet_after}
use Rattle.rules.specs.Merges.{union_in}
use Rattle.rules.specs.Refusals.{PlaceInRange, RefusesOnly, ClashesAt, DifferAt, TooHeavyAt, IsLeast}
use Rattle.rules.specs.Safety.{Free, Any, All}
use Rattle.typing.specs.Model.{verdict}
use Rattle.conforms.specs.Conforming.{HasWritten}
use Rattle.unions.specs.Answers.{cells_after}
use Rattle.falgrumi.specs.Answers.{merge_end}
use Rattle.laws.proofs.EndLaws.{refuses_imp}
use Rattle.laws.proofs.VerdictLaws.{one_table, accepted_where, rows_where, untyped_where, different_where, heavy_where, clash_at, different_at, heavy_at}
use Rattle.laws.proofs.RefusalLaws.{verdict_refuses, evaluation_refuses, union_refuses, safe_refuses}
use Rattle.laws.proofs.TraceLaws.{completed_have}
use Rattle.typing.proofs.VerdictRight.{verdict_right}
use Rattle.falgrumi.proofs.MergeLaws.{untouched}
use Rattle.falgrumi.proofs.Demand.{guarantee}

-- DEMAND 1. Every answer of Check is acceptance or one of the refusals 1 to 13, and its place is one that this refusal may name.
abbrev pub Demand1Check : Type 0
Demand1Check = (bs : List ℕ) (room : ℕ) → RefusesOnly (λ r p. (1 ≤ r) × (r ≤ 13) × PlaceInRange bs r p) (verdict bs room)

-- Every answer of Evaluate is a truth or one of the refusals 1 to 9 and 14 to 19, and its place is one that this refusal may name; the
-- steps are at most the budget.
abbrev pub Demand1Evaluate : Type 0
Demand1Evaluate = (bs buffer : List ℕ) (budget : ℕ) →
    let x = evaluation bs buffer budget in
    RefusesOnly (λ r p. (((1 ≤ r) × (r ≤ 9)) ⊎ ((14 ≤ r) × (r ≤ 19))) × PlaceInRange bs r p) x.end × (x.steps ≤ budget)

-- A refusal before 15 comes with no steps, and 19 with all steps of the budget.
abbrev pub Demand1Steps : Type 0
Demand1Steps = (bs buffer : List ℕ) (budget : ℕ) →
    let x = evaluation bs buffer budget in
    RefusesOnly (λ r p. (r < 15 → x.steps ≡ 0) × (r ≡ 19 → x.steps ≡ budget)) x.end

-- A refusal by Check leaves every byte of the sheet as it was lent.
abbrev pub Demand1Sheet : Type 0
Demand1Sheet = (bs sheet : List ℕ) (r p : ℕ) → verdict bs (length sheet) ≡ refused r p → sheet_after (verdict bs (length sheet)) sheet ≡ sheet

-- Every answer of a merge (document 02, N12) is a union, that it is too heavy, that the values do not fit, or one of the refusals 1 to 9 and 14, and
-- its place is one that this refusal may name.
abbrev pub Demand1Merge : Type 0
Demand1Merge = (bs buffer : List ℕ) → RefusesOnly (λ r p. (((1 ≤ r) × (r ≤ 9)) ⊎ (r ≡ 14)) × PlaceInRange bs r p) (union_in bs buffer)

-- A refusal, 15 and 18 included, leaves every byte that was lent for the union as it was.
abbrev pub Demand1Cells : Type 0
Demand1Cells = (bs buffer out : List ℕ) (r p : ℕ) → merge_end (union_in bs buffer) ≡ refused r p → cells_after (union_in bs buffer) out ≡ out

-- DEMAND 2 speaks of Check's answer on a readable table with a sheet of the right length.
abbrev pub OnReadable : (End (List ℕ) → Table → Type 0) → Type 0
OnReadable Claim = (bs : List ℕ) (room : ℕ) (tb : Table) → reading bs ≡ done tb → room ≡ sheet_length tb → Claim (verdict bs room) tb

-- It accepts exactly where one and only one typing exists and none of its types weighs over 64. `Only tb θ` says "one and only one": θ is a
-- typing of the whole table, and any other is the same at each identifier and each expression, which are all that a typing gives a type to.
abbrev pub Demand2Accepted : Type 0
Demand2Accepted = OnReadable λ answer tb. ((rows : List ℕ) × (answer ≡ done rows)) ↔ ((θ : ℕ → Ty) × Only tb θ × ((p : ℕ) → Light tb θ p))

-- What it writes are the rows of that typing.
abbrev pub Demand2Rows : Type 0
Demand2Rows = OnReadable λ answer tb. (rows : List ℕ) (θ : ℕ → Ty) → answer ≡ done rows → Only tb θ → rows ≡ sheet_of tb θ

-- It refuses by 11 exactly where no typing exists,
abbrev pub Demand2None : Type 0
Demand2None = OnReadable λ answer tb. ((k : ℕ) × (answer ≡ refused 11 k)) ↔ ((θ : ℕ → Ty) → Whole tb θ → ⊥)

-- by 12 exactly where several do: two typings that differ at a place that has a type,
abbrev pub Demand2Several : Type 0
Demand2Several = OnReadable λ answer tb. ((p : ℕ) × (answer ≡ refused 12 p)) ↔ ((p : ℕ) × DifferAt tb p)

-- by 13 exactly where one and only one exists and one of its types weighs over 64.
abbrev pub Demand2Heavy : Type 0
Demand2Heavy = OnReadable λ answer tb. ((p : ℕ) × (answer ≡ refused 13 p)) ↔ ((p : ℕ) × TooHeavyAt tb p)

-- The places: the least node with which the rules have no typing, the least place where typings differ, the least that is too heavy.
abbrev pub Demand2Places : Type 0
Demand2Places = OnReadable λ answer tb. (p : ℕ) →
    ((answer ≡ refused 11 p) ↔ IsLeast (ClashesAt tb) p)
    × ((answer ≡ refused 12 p) ↔ IsLeast (DifferAt tb) p)
    × ((answer ≡ refused 13 p) ↔ IsLeast (TooHeavyAt tb) p)

-- DEMAND 3. Where Check accepts a table and writes rows, the values pass 14, and the value of each free identifier has the type in its row,
-- every evaluation ends in a truth or one of 16 to 19, so never in 15; every value that it forms at a node has the type written for that
-- node; and so has the value of every visit to an expression that is not refused, so that no value is left out (`evaluation_visits`).
abbrev pub Demand3 : Type 0
Demand3 = (bs buffer rows : List ℕ) (room budget : ℕ) (tb : Table) (vs : List Value) → verdict bs room ≡ done rows → reading bs ≡ done tb →
    values_in tb buffer ≡ done vs → ((x : ℕ) → Free tb x → HasWritten rows x (get_or vs x no_value)) →
    let AsWritten : ℕ × Value → Type 0 = λ x. HasWritten rows (node_place tb x.0) x.1 in
    RefusesOnly (λ r n. (16 ≤ r) × (r ≤ 19)) (evaluation bs buffer budget).end
    × All AsWritten (evaluation bs buffer budget).formed
    × All (Completes AsWritten) (evaluation_visits bs buffer budget)

-- The theorems.

pub demand1_check : Demand1Check
demand1_check bs room = verdict_refuses (verdict_right bs room)

pub demand1_evaluate : Demand1Evaluate
demand1_evaluate bs buffer budget =
    let h = evaluation_refuses bs buffer budget in
    (refuses_imp _ _ (λ r p k. (k.0, k.1)) (evaluation bs buffer budget).end h.1, h.0)

pub demand1_steps : Demand1Steps
demand1_steps bs buffer budget =
    refuses_imp _ _ (λ r p k. (k.2, k.3)) (evaluation bs buffer budget).end (evaluation_refuses bs buffer budget).1

pub demand1_sheet : Demand1Sheet
demand1_sheet bs sheet r p e = ap (λ (a : End (List ℕ)). sheet_after a sheet) e

pub demand1_merge : Demand1Merge
demand1_merge = union_refuses

pub demand1_cells : Demand1Cells
demand1_cells bs buffer out r p e = untouched (union_in bs buffer) out e

pub demand2_accepted : Demand2Accepted
demand2_accepted bs room tb e fit = accepted_where bs (verdict_right bs room) e fit

pub demand2_rows : Demand2Rows
demand2_rows bs room tb e fit = rows_where bs (verdict_right bs room) e fit

pub demand2_none : Demand2None
demand2_none bs room tb e fit = untyped_where bs (verdict_right bs room) e fit

pub demand2_several : Demand2Several
demand2_several bs room tb e fit = different_where bs (verdict_right bs room) e fit

pub demand2_heavy : Demand2Heavy
demand2_heavy bs room tb e fit = heavy_where bs (verdict_right bs room) e fit

pub demand2_places : Demand2Places
demand2_places bs room tb e fit p =
    let v = verdict_right bs room in (clash_at bs v e fit p, different_at bs v e fit p, heavy_at bs v e fit p)

pub demand3 : Demand3
demand3 bs buffer rows room budget tb vs accepted reads loads types =
    let g = guarantee bs buffer rows room budget accepted (record { table = tb; reads = reads; values = vs; loads = loads; types = types }) in
    let formed : All (λ x. HasWritten rows (node_place tb x.0) x.1) (evaluation bs buffer budget).formed =
    rw (one_table g.reads reads) g.formed in
    (safe_refuses Any (evaluation bs buffer budget).end g.ends, formed, completed_have bs buffer budget _ formed)
