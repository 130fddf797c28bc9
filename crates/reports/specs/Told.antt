-- An end in numbers: a refusal's number, 0 where there is none, its place, the condition's truth, and the visits made.
use Rattle.std.specs.Prelude.{ℕ, ◌<◌, Bool, List, codes, ◌≡◌}
use Rattle.rules.specs.Values.{bit}
use Rattle.rules.specs.Ends.{End, done, refused}
use Rattle.rules.specs.Refusals.{RefusesOnly}
use Rattle.reports.specs.declared.Truth.{Truth}
use Rattle.reading.specs.Answers.{refusal_text}
use Rattle.reports.specs.declared.Truth.TheVariants.{True, False}
use Rattle.reports.specs.declared.Ending.{Ending}
use Rattle.reports.specs.declared.Ending.TheVariants.{Decided, Refused}

abbrev pub number_of : {A : Type 0} → End A → ℕ
number_of (done a) = 0
number_of (refused r p) = r

-- The number goes into a byte.
abbrev pub InByte : {A : Type 0} → End A → Type 0
InByte e = RefusesOnly (λ r p. r < 256) e

abbrev pub place_of : {A : Type 0} → End A → ℕ
place_of (done a) = 0
place_of (refused r p) = p

-- 1 for true.
abbrev pub truth_of : End Bool → ℕ
truth_of (done b) = bit b
truth_of (refused r p) = 0

abbrev pub byte_of : Truth → ℕ
byte_of True = 1
byte_of False = 0

abbrev pub name_of : Truth → List ℕ
name_of True = codes "true"
name_of False = codes "false"

-- What is printed of an end.
abbrev pub text_of : Ending → List ℕ
text_of (Decided t) = name_of t
text_of (Refused r) = refusal_text r

-- The answer r, and what stands at `place`.
pub record TellsEnd {A : Type 0} (e : End A) (r place : ℕ) : Type 0 where
  pub number : r ≡ number_of e
  pub at : place ≡ place_of e

-- The same of an evaluation with this end and these visits, and what stands at `truth` and `steps`.
pub record TellsRun (e : End Bool) (visits r truth place steps : ℕ) : Type 0 where
  pub ended : TellsEnd e r place
  pub decided : truth ≡ truth_of e
  pub spent : steps ≡ visits
