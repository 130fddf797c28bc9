-- What the exported functions answer and write: a refusal's number, 0 where there is none, its place, the condition's truth, the
-- visits made, and whether the values conform; of a merge the comparisons and the bytes of the union.
use Rattle.std.specs.Prelude.{ℕ, ◌*◌, Bool, ◌≡◌}
use Rattle.rules.specs.Values.{bit, weight}
use Rattle.rules.specs.Ends.{End, done, refused, ◌>>=◌}
use Rattle.rules.specs.Merges.{Union, unites, heavy, unfit}
use Rattle.reports.specs.Told.{TellsEnd, TellsRun}
use Rattle.falgrumi.specs.Guarantee.{Report}

-- A checked evaluation as one end: the first refusal decides. Check's makes no visits, and no guarantee applies there.
abbrev pub reported_end : End Report → End Bool
reported_end g = g >>= λ x. x.end

abbrev pub reported_steps : End Report → ℕ
reported_steps (done x) = x.steps
reported_steps (refused r p) = 0

abbrev pub reported_conforms : End Report → ℕ
reported_conforms (done x) = bit x.conforms
reported_conforms (refused r p) = 0

-- What is told of a checked evaluation, and what stands at `conforms`.
pub record TellsReport (g : End Report) (r truth place steps conforms : ℕ) : Type 0 where
  pub run : TellsRun (reported_end g) (reported_steps g) r truth place steps
  pub conform : conforms ≡ reported_conforms g

-- A merge as one end: values that do not fit are 15, a union that is too heavy is 18, as at a node.
abbrev pub merge_end : End Union → End (Unit {0})
merge_end (refused r p) = refused r p
merge_end (done (unites n v)) = done tt
merge_end (done (heavy n)) = refused 18 0
merge_end (done unfit) = refused 15 0

abbrev pub merge_comparisons : End Union → ℕ
merge_comparisons (refused r p) = 0
merge_comparisons (done (unites n v)) = n
merge_comparisons (done (heavy n)) = n
merge_comparisons (done unfit) = 0

-- The bytes of the union's cells.
abbrev pub merge_bytes : End Union → ℕ
merge_bytes (refused r p) = 0
merge_bytes (done (unites n v)) = 8 * weight v
merge_bytes (done (heavy n)) = 0
merge_bytes (done unfit) = 0

-- What is told of a merge, and what stands at `comparisons` and `bytes`.
pub record TellsMerge (e : End Union) (r place comparisons bytes : ℕ) : Type 0 where
  pub ended : TellsEnd (merge_end e) r place
  pub compared : comparisons ≡ merge_comparisons e
  pub length : bytes ≡ merge_bytes e
