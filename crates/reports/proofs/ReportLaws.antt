-- Reports of runs: the end that the answer tells, and the visits that the budget no longer has.
use Prim.Native.Nat.{ℕ, ◌-◌, ◌≤◌}
use mathlib.Core.Bool.{Bool}
use mathlib.Core.Path.{◌≡◌, sym, ◌∙◌, subst}
use native.Mathlib.Omega.{arith}
use Rattle.rules.specs.Ends.{done, refused}
use Rattle.rules.specs.Runs.{Run}
use Rattle.reading.specs.declared.Refusal.{Refusal}
use Rattle.visits.specs.declared.Held.{Held}
use Rattle.visits.specs.declared.Held.TheVariants.{Truth, Refused}
use Rattle.visits.specs.Answers.{EndsWith, HeldAs}
use Rattle.reports.specs.declared.Truth.{Truth as Decision}
use Rattle.reports.specs.declared.Ending.TheVariants.{Decided}
use Rattle.reports.specs.declared.Evaluation.{Evaluation}
use Rattle.reports.specs.Result.{ending_of, RefusedAt, OfBudget, Reports}

-- What an answer has left is of the budget.
pub held_within : (x : Run Bool) (budget : ℕ) (held : Held) → HeldAs x budget held → OfBudget budget held
held_within x budget (Truth b l) h = omega (arith, h.steps)
held_within x budget (Refused r l) h = omega (arith, h.steps)

module _ {held : Held} (budget : ℕ) where
  pub truth_within : {b : Bool} {l : ℕ} → held ≡ Truth b l → OfBudget budget held → l ≤ budget
  truth_within e h = subst (λ (z : Held). OfBudget budget z) e h

  pub refused_within : {r : Refusal} {l : ℕ} → held ≡ Refused r l → OfBudget budget held → l ≤ budget
  refused_within e h = subst (λ (z : Held). OfBudget budget z) e h

  pub decided_reports : {b : Bool} {l : ℕ} {t : Decision} → held ≡ Truth b l → ending_of (Decided t) ≡ done b →
      Reports budget held (record { ending = Decided t; steps = budget - l })
  decided_reports {b} {l} {t} e d x h =
      let a : EndsWith x (done b) budget l = subst (λ (z : Held). HeldAs x budget z) e h in
      record { ending = d ∙ sym a.end; spent = omega (arith, a.steps) }

  pub refused_reports : {p : Refusal} {l : ℕ} {r : Evaluation} → held ≡ Refused p l → RefusedAt p.number p.place (budget - l) r →
      Reports budget held r
  refused_reports {p} {l} {r} e d x h =
      let a : EndsWith x (refused p.number p.place) budget l = subst (λ (z : Held). HeldAs x budget z) e h in
      record { ending = d.ending ∙ sym a.end; spent = omega (arith, d.spent, a.steps) }
