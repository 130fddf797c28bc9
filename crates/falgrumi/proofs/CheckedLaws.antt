-- A checked evaluation: its report tells exactly whether demand 3's guarantee applies, its numbers tell who refuses, and its
-- answer is made of those of its three calls.
use Prim.Native.Nat.{ℕ}
use mathlib.Core.Bool.{Bool, true}
use mathlib.Core.List.{List}
use mathlib.Core.Path.{◌≡◌, refl, sym, ap, ◌∙◌, subst}
use lib.ListN.{length}
use Rattle.std.specs.Prelude.{Result, Ok, Err}
use Rattle.rules.specs.Ends.{End, done, refused, ◌>>=◌}
use Rattle.rules.specs.Evaluation.{evaluation}
use Rattle.rules.specs.Safety.{Any}
use Rattle.rules.specs.Verdict.{sheet_after}
use Rattle.rules.proofs.Basics.{absurd01}
use Rattle.laws.proofs.Soundness.{not_15}
use Rattle.reading.specs.declared.Refusal.{Refusal}
use Rattle.checker.specs.Answers.{answer_of, answered}
use Rattle.typing.specs.Model.{verdict}
use Rattle.conforms.specs.Conforming.{conforming}
use Rattle.conforms.proofs.ConformingLaws.{conforming_right}
use Rattle.falgrumi.specs.Guarantee.{Report, checked_evaluation, TellsGuarantee}
use Rattle.reports.specs.Told.{InByte}
use Rattle.falgrumi.specs.Answers.{reported_end}
use Rattle.falgrumi.proofs.Demand.{guarantee, accepted_fits}
use Rattle.falgrumi.proofs.EndNumbers.{NumberFrom, verdict_numbers, accepted_numbers, verdict_byte, evaluation_byte}

-- The report that is made of rows: `checked_evaluation` is the verdict, and then this.
module _ (bs buffer : List ℕ) (budget : ℕ) where
  abbrev report_of : List ℕ → Report
  report_of rows = record {
    end = (evaluation bs buffer budget).end;
    steps = (evaluation bs buffer budget).steps;
    conforms = conforming bs rows buffer;
  }

  checked_is : (room : ℕ) → checked_evaluation bs room buffer budget ≡ (verdict bs room >>= λ rows. done (report_of rows))
  unfolding checked_evaluation
  checked_is room = refl

  tells : (rows : List ℕ) (room : ℕ) → verdict bs room ≡ done rows → TellsGuarantee bs rows buffer budget (report_of rows)
  tells rows room e = record {
    exact = (λ c. ((conforming_right bs rows buffer).sound c).1, λ k. (conforming_right bs rows buffer).complete (accepted_fits bs rows room e, k));
    holds = λ c. guarantee bs buffer rows room budget e ((conforming_right bs rows buffer).sound c).1;
    safe = λ c. (guarantee bs buffer rows room budget e ((conforming_right bs rows buffer).sound c).1).ends;
  }

-- Where a checked evaluation reports, Check has accepted; the report tells exactly whether the values conform to the sheet at
-- exit, and where they do, the guarantee holds of the evaluation reported.
pub checked_guaranteed : (bs sheet buffer : List ℕ) (budget : ℕ) (x : Report) → checked_evaluation bs (length sheet) buffer budget ≡ done x →
    TellsGuarantee bs (sheet_after (verdict bs (length sheet)) sheet) buffer budget x
checked_guaranteed bs sheet buffer budget x e = go (verdict bs (length sheet)) refl (sym (checked_is bs buffer budget (length sheet)) ∙ e)
  where
    go : (v : End (List ℕ)) → verdict bs (length sheet) ≡ v → (v >>= λ rows. done (report_of bs buffer budget rows)) ≡ done x →
        TellsGuarantee bs (sheet_after v sheet) buffer budget x
    go (done rows) f h =
        let i : report_of bs buffer budget rows ≡ x = cc in
        subst (TellsGuarantee bs rows buffer budget) i (tells bs buffer budget rows (length sheet) f)
    go (refused r p) f h = absurd (absurd01 (cc))

-- So no report that the values conform ends in 15.
pub checked_never_15 : (bs sheet buffer : List ℕ) (budget : ℕ) (x : Report) (n : ℕ) → checked_evaluation bs (length sheet) buffer budget ≡ done x →
    x.conforms ≡ true → x.end ≡ refused 15 n → ⊥
checked_never_15 bs sheet buffer budget x n e c f = not_15 Any x.end n ((checked_guaranteed bs sheet buffer budget x e).safe c) f

-- By its number a refusal is Check's, 1 to 13, or that of the evaluation reported, 14 to 19.
pub checked_numbers : (bs buffer : List ℕ) (room budget : ℕ) → NumberFrom 1 13 (checked_evaluation bs room buffer budget)
checked_numbers bs buffer room budget =
    subst (NumberFrom 1 13) (sym (checked_is bs buffer budget room)) (go (verdict bs room) (verdict_numbers bs room))
  where
    go : (v : End (List ℕ)) → NumberFrom 1 13 v → NumberFrom 1 13 (v >>= λ rows. done (report_of bs buffer budget rows))
    go (done rows) h = tt
    go (refused r p) h = h

pub report_numbers : (bs buffer : List ℕ) (room budget : ℕ) (x : Report) → checked_evaluation bs room buffer budget ≡ done x → NumberFrom 14 19 x.end
report_numbers bs buffer room budget x e = go (verdict bs room) refl (sym (checked_is bs buffer budget room) ∙ e)
  where
    go : (v : End (List ℕ)) → verdict bs room ≡ v → (v >>= λ rows. done (report_of bs buffer budget rows)) ≡ done x → NumberFrom 14 19 x.end
    go (done rows) f h =
        let i : (evaluation bs buffer budget).end ≡ x.end = cc in
        subst (NumberFrom 14 19) i (accepted_numbers bs buffer rows room budget f)
    go (refused r p) f h = absurd (absurd01 (cc))

-- Both go into a byte.
pub reported_byte : (bs buffer : List ℕ) (room budget : ℕ) → InByte (reported_end (checked_evaluation bs room buffer budget))
reported_byte bs buffer room budget =
    subst (λ (g : End Report). InByte (reported_end g)) (sym (checked_is bs buffer budget room)) (go (verdict bs room) (verdict_byte bs room))
  where
    go : (v : End (List ℕ)) → InByte v → InByte (reported_end (v >>= λ rows. done (report_of bs buffer budget rows)))
    go (done rows) h = evaluation_byte bs buffer budget
    go (refused r p) h = h

-- The answer, by that of Check.
module _ (bs sheet buffer : List ℕ) (budget : ℕ) {r : Result (Unit {0}) Refusal} (e : answer_of r ≡ answered (verdict bs (length sheet))) where
  pub checked_refused : (y : Refusal) → r ≡ Err y → refused y.number y.place ≡ checked_evaluation bs (length sheet) buffer budget
  checked_refused y q =
      go (verdict bs (length sheet)) (sym (ap answer_of q) ∙ e) ∙ sym (checked_is bs buffer budget (length sheet))
    where
      go : (v : End (List ℕ)) → refused y.number y.place ≡ answered v →
          refused y.number y.place ≡ (v >>= λ rows. done (report_of bs buffer budget rows))
      go (done rows) h = absurd (absurd01 (cc))
      go (refused s p) h = cc

  pub checked_accepted : {after : List ℕ} → after ≡ sheet_after (verdict bs (length sheet)) sheet → (d : End Bool) (s : ℕ) (c : Bool) → r ≡ Ok tt →
      d ≡ (evaluation bs buffer budget).end → s ≡ (evaluation bs buffer budget).steps → c ≡ conforming bs after buffer →
      done (record { end = d; steps = s; conforms = c }) ≡ checked_evaluation bs (length sheet) buffer budget
  checked_accepted {after} x d s c q ed es ec =
      go (verdict bs (length sheet)) (sym (ap answer_of q) ∙ e) x ∙ sym (checked_is bs buffer budget (length sheet))
    where
      go : (v : End (List ℕ)) → done tt ≡ answered v → after ≡ sheet_after v sheet →
          done (record { end = d; steps = s; conforms = c }) ≡ (v >>= λ rows. done (report_of bs buffer budget rows))
      go (done rows) h a = rw (ed, es, ec, a)
      go (refused s p) h a = absurd (absurd01 (cc))
