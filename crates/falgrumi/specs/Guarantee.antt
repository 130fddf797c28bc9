-- Demand 3 of document 01: what acceptance by Check guarantees of every evaluation of the same table; and a checked evaluation,
-- which tells whether the guarantee applies.
use Rattle.std.specs.Prelude.{Result, Ok, Err, ℕ, Bool, true, List, ◌↔◌, ◌≡◌}
use Rattle.rules.specs.Tables.{Table}
use Rattle.rules.specs.Reading.{reading}
use Rattle.rules.specs.Ends.{End, done, refused, ◌>>=◌}
use Rattle.rules.specs.Verdict.{node_place}
use Rattle.rules.specs.Evaluation.{evaluation}
use Rattle.rules.specs.Safety.{EndsSafely, Any, All}
use Rattle.conforms.specs.Conforming.{HasWritten, Conforming, conforming}
use Rattle.typing.specs.Model.{verdict}
use Rattle.reports.specs.Result.{ending_of}
use Rattle.evaluate.specs.declared.GuardedRun.{GuardedRun}
use Rattle.reading.specs.declared.Refusal.{Refusal}

-- The evaluation ends in a truth or in a refusal of 16 to 19, never in 15, and every value that it forms has the type written
-- for its node.
pub record Guaranteed (bs sheet buffer : List ℕ) (budget : ℕ) : Type 0 where
  pub table : Table
  pub reads : reading bs ≡ done table
  pub ends : EndsSafely Any (evaluation bs buffer budget).end
  pub formed : All (λ x. HasWritten sheet (node_place table x.0) x.1) (evaluation bs buffer budget).formed

-- What a checked evaluation of an accepted table tells: the evaluation's end and steps, and whether the values conform to the
-- rows that Check has written.
pub record Report : Type 0 where
  pub end : End Bool
  pub steps : ℕ
  pub conforms : Bool

-- Check's refusal, or the evaluation, whether or not the values conform.
unfoldable pub checked_evaluation : List ℕ → ℕ → List ℕ → ℕ → End Report
unfolding verdict evaluation conforming
checked_evaluation bs room buffer budget = do
  rows ← verdict bs room
  done (record {
    end = (evaluation bs buffer budget).end;
    steps = (evaluation bs buffer budget).steps;
    conforms = conforming bs rows buffer;
  })

-- What `checked_evaluation` answers, in these terms.
abbrev pub guarded_of : Result GuardedRun Refusal → End Report
guarded_of (Err r) = refused r.number r.place
guarded_of (Ok e) =
    done (record { end = ending_of e.evaluation.ending; steps = e.evaluation.steps; conforms = e.conforms })

-- The report tells exactly whether the values conform to the sheet that Check has written; where they do, the guarantee holds,
-- and the end reported is a truth or a refusal of 16 to 19.
pub record TellsGuarantee (bs sheet buffer : List ℕ) (budget : ℕ) (x : Report) : Type 0 where
  pub exact : (x.conforms ≡ true) ↔ Conforming bs sheet buffer
  pub holds : x.conforms ≡ true → Guaranteed bs sheet buffer budget
  pub safe : x.conforms ≡ true → EndsSafely Any x.end
