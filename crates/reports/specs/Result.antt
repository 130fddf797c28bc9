-- What an evaluation reports, in the terms of document 01.
use Rattle.std.specs.Prelude.{ℕ, ◌≤◌, Bool, true, false, ◌≡◌}
use Rattle.rules.specs.Ends.{End, done, refused}
use Rattle.rules.specs.Runs.{Run}
use Rattle.visits.specs.declared.Held.{Held}
use Rattle.visits.specs.declared.Held.TheVariants.{Truth, Refused}
use Rattle.visits.specs.Answers.{HeldAs}
use Rattle.reports.specs.declared.Truth.TheVariants.{True, False}
use Rattle.reports.specs.declared.Ending.{Ending}
use Rattle.reports.specs.declared.Ending.TheVariants.{Decided, Refused as Ended}
use Rattle.reports.specs.declared.Evaluation.{Evaluation}

abbrev pub ending_of : Ending → End Bool
ending_of (Decided True) = done true
ending_of (Decided False) = done false
ending_of (Ended r) = refused r.number r.place

-- The report of a refusal.
pub record RefusedAt (number place steps : ℕ) (r : Evaluation) : Type 0 where
  pub ending : ending_of r.ending ≡ refused number place
  pub spent : r.steps ≡ steps

-- The report of a run.
pub record Reported (x : Run Bool) (r : Evaluation) : Type 0 where
  pub ending : ending_of r.ending ≡ x.end
  pub spent : r.steps ≡ x.steps

-- What is left is of the budget.
abbrev pub OfBudget : ℕ → Held → Type 0
OfBudget budget (Truth b l) = l ≤ budget
OfBudget budget (Refused r l) = l ≤ budget

abbrev pub Reports : ℕ → Held → Evaluation → Type 0
Reports budget held r = (x : Run Bool) → HeldAs x budget held → Reported x r
