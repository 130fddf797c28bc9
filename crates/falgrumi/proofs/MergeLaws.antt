-- The merge of two lent sets in numbers: the answer of `merge_values` tells what is meant.
use Prim.Native.Nat.{ℕ, ◌<◌}
use mathlib.Core.List.{List}
use mathlib.Core.Path.{◌≡◌, refl, sym, ◌∙◌, subst}
use native.Mathlib.Omega.{arith}
use Rattle.std.proofs.Common.{Result, Ok, Err}
use Rattle.rules.specs.Ends.{End, done, refused}
use Rattle.rules.specs.Merges.{Union, unites, heavy, unfit}
use Rattle.rules.proofs.Basics.{absurd01}
use Rattle.reports.specs.Told.{InByte}
use Rattle.unions.specs.Answers.{merge_answered, cells_after}
use Rattle.unions.specs.declared.Merged.{Merged}
use Rattle.unions.specs.declared.MergeError.{MergeError}
use Rattle.unions.specs.declared.MergeError.TheVariants.{Refused, Unfit, Heavy}
use Rattle.falgrumi.specs.Answers.{merge_end, TellsMerge}

-- A refusal writes nothing.
pub untouched : (e : End Union) (out : List ℕ) {r p : ℕ} → merge_end e ≡ refused r p → cells_after e out ≡ out
untouched (refused k q) out h = refl
untouched (done (unites n v)) out h = absurd (absurd01 (cc))
untouched (done (heavy n)) out h = refl
untouched (done unfit) out h = refl

-- The numbers of an answer.
abbrev answer_number : Result Merged MergeError → ℕ
answer_number (Err (Refused x)) = x.number
answer_number (Err Unfit) = 15
answer_number (Err (Heavy n)) = 18
answer_number (Ok m) = 0

abbrev answer_place : Result Merged MergeError → ℕ
answer_place (Err (Refused x)) = x.place
answer_place (Err Unfit) = 0
answer_place (Err (Heavy n)) = 0
answer_place (Ok m) = 0

abbrev answer_comparisons : Result Merged MergeError → ℕ
answer_comparisons (Err (Refused x)) = 0
answer_comparisons (Err Unfit) = 0
answer_comparisons (Err (Heavy n)) = n
answer_comparisons (Ok m) = m.comparisons

abbrev answer_bytes : Result Merged MergeError → ℕ
answer_bytes (Err (Refused x)) = 0
answer_bytes (Err Unfit) = 0
answer_bytes (Err (Heavy n)) = 0
answer_bytes (Ok m) = m.bytes

abbrev pub Told : End Union → Result Merged MergeError → Type 0
Told e a = TellsMerge e (answer_number a) (answer_place a) (answer_comparisons a) (answer_bytes a)

meant_told : (e : End Union) → Told e (merge_answered e)
meant_told (refused r p) = record { ended = record { number = refl; at = refl }; compared = refl; length = refl }
meant_told (done (unites n v)) = record { ended = record { number = refl; at = refl }; compared = refl; length = refl }
meant_told (done (heavy n)) = record { ended = record { number = refl; at = refl }; compared = refl; length = refl }
meant_told (done unfit) = record { ended = record { number = refl; at = refl }; compared = refl; length = refl }

meant_byte : (e : End Union) → InByte e → answer_number (merge_answered e) < 256
meant_byte (refused r p) h = h
meant_byte (done (unites n v)) h = omega arith
meant_byte (done (heavy n)) h = omega arith
meant_byte (done unfit) h = omega arith

-- The answer a, which has the form b, tells what is meant.
module _ (e : End Union) {a b : Result Merged MergeError} (h : a ≡ merge_answered e) (q : a ≡ b) where
  pub merge_told : Told e b
  merge_told = subst (Told e) (sym h ∙ q) (meant_told e)

  pub merge_byte : InByte e → answer_number b < 256
  merge_byte k = subst (λ (x : Result Merged MergeError). answer_number x < 256) (sym h ∙ q) (meant_byte e k)
