-- The stages of `reading`, each passed or refused, and what they leave to those after them.
use Prim.Native.Nat.{ℕ, ◌≤◌}
use mathlib.Core.Bool.{Bool, true}
use mathlib.Core.List.{List}
use mathlib.Core.Path.{◌≡◌, refl, sym, ap, ◌∙◌}
use lib.ListN.{length}
use Rattle.rules.specs.Ends.{End, done, refused, ◌>>=◌, least_failing, unless_found, require, require_all}
use Rattle.rules.specs.Tables.{Table, table_of, node_count, nodes_at}
use Rattle.rules.specs.Reading.{headed, limited, laid_out, node_good, reading}
use Rattle.rules.specs.Readable.{Header}
use Rattle.laws.proofs.EndLaws.{T_true, require_done, require_all_done}
use Rattle.laws.proofs.ReadingLaws.{header_right, headed_right, node_good_right}
use Rattle.std.specs.Prelude.{Option as Found, None, Some, Err}
use Rattle.std.specs.Option.{unwrap_or}
use Rattle.rules.proofs.Basics.{absurd01}
use Rattle.reading.specs.declared.Refusal.{Refusal}
use Rattle.table.specs.Places.{found_place}
use Rattle.reading.specs.Answers.{reading_records, height_of, measured}
use Rattle.table.specs.Layout.{Fielded}

-- What a search has found, as the refusal of a stage.
module _ (k : ℕ) (ok : ℕ → Bool) (n : ℕ) where
  pub none_found : (r : Found ℕ) → r ≡ None → found_place r ≡ least_failing ok 0 n → done tt ≡ require_all k ok n
  unfolding require_all
  none_found r q e = rw (← e, q) refl

  pub place_found : (r : Found ℕ) {p : ℕ} → r ≡ Some p → found_place r ≡ least_failing ok 0 n → refused k p ≡ require_all k ok n
  unfolding require_all
  place_found r q e = rw (← e, q) refl

  -- A stage that is passed has found nothing.
  pub all_passed : (r : Found ℕ) → found_place r ≡ least_failing ok 0 n → done tt ≡ require_all k ok n → unwrap_or r n ≡ n
  unfolding require_all
  all_passed None e h = refl
  all_passed (Some p) e h = let d : done tt ≡ refused k p = h ∙ ap (unless_found k) (sym e) in absurd (absurd01 cc)

-- The stage x of `reading`, and the stages after it.
module _ (x : End (Unit {0})) (rest : Unit {0} → End Table) where
  pub stage_refused : {f : Refusal} → refused f.number f.place ≡ x → height_of (Err f) ≡ measured (x >>= rest)
  stage_refused e = rw (← e) refl

  pub stage_passed : (v : End ℕ) → done tt ≡ x → v ≡ measured (rest tt) → v ≡ measured (x >>= rest)
  stage_passed v e h = rw (← e) h

-- Where refusal 6 passes, the fields of each node are right.
pub nodes_fielded : (bs : List ℕ) (at : ℕ) → Header bs → at ≡ nodes_at bs → done tt ≡ require_all 6 (node_good (table_of bs)) (node_count bs) → Fielded bs at
nodes_fielded bs at h e passes = record {
  laid = record { header = h; base = e };
  fields = λ n l. (node_good_right (table_of bs) n).0 ((T_true (node_good (table_of bs) n)).1
      ((require_all_done 6 (node_good (table_of bs)) (node_count bs)).0 (sym passes) n l));
}

-- A test of which a call tells passes where its stage does.
pub test_passed : (k : ℕ) {b v : Bool} → done tt ≡ require k 0 b → b ≡ v → v ≡ true
test_passed k {b} e d = sym d ∙ (require_done k 0 b).0 (sym e)

-- What refusals 1 to 3 leave.
module _ (bs : List ℕ) (headed_passes : headed bs ≡ true) where
  pub long : 32 ≤ length bs
  long = ((headed_right bs).0 ((T_true (headed bs)).1 headed_passes)).0

  module _ (limited_passes : limited bs ≡ true) (laid_out_passes : laid_out bs ≡ true) where
    pub header_read : Header bs
    header_read =
        (header_right bs).0
        ((T_true (headed bs)).1 headed_passes, (T_true (limited bs)).1 limited_passes, (T_true (laid_out bs)).1 laid_out_passes)

    pub records_left : reading_records bs ≡ reading bs
    unfolding reading reading_records
    records_left = rw (headed_passes, limited_passes, laid_out_passes)
