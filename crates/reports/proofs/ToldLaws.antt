-- Ends in numbers.
use Prim.Native.Nat.{ℕ, ◌<◌}
use mathlib.Core.Bool.{Bool}
use mathlib.Core.Path.{◌≡◌, refl, subst}
use native.Mathlib.Omega.{arith}
use Rattle.rules.specs.Ends.{End, done, refused}
use Rattle.reading.specs.declared.Refusal.{Refusal}
use Rattle.reports.specs.declared.Truth.{Truth}
use Rattle.reports.specs.declared.Truth.TheVariants.{True, False}
use Rattle.reports.specs.declared.Ending.{Ending}
use Rattle.reports.specs.declared.Ending.TheVariants.{Decided, Refused}
use Rattle.reports.specs.Result.{ending_of}
use Rattle.reports.specs.Told.{byte_of, InByte, TellsEnd, TellsRun}

-- What is told of an end whose number goes into a byte is a byte.
pub told_byte : {A : Type 0} (e : End A) {n p : ℕ} → TellsEnd e n p → InByte e → n < 256
told_byte (done a) t h = omega (arith, t.number)
told_byte (refused r p) t h = omega (arith, t.number, h)

-- A truth has no number and no place.
pub decided_told : (x : Ending) (steps b : ℕ) (t : Truth) → x ≡ Decided t → b ≡ byte_of t → TellsRun (ending_of x) steps 0 b 0 steps
decided_told x steps b True q h = rw q (record { ended = record { number = refl; at = refl }; decided = h; spent = refl })
decided_told x steps b False q h = rw q (record { ended = record { number = refl; at = refl }; decided = h; spent = refl })

-- A refusal has its number and its place.
pub refused_told : (x : Ending) (steps n : ℕ) (f : Refusal) → x ≡ Refused f → n ≡ f.number → TellsRun (ending_of x) steps n 0 f.place steps
refused_told x steps n f q h = rw q (record { ended = record { number = h; at = refl }; decided = refl; spent = refl })

module _ {r t p s : ℕ} where
  -- What is told of an end and of visits is told of the same end and visits.
  pub run_told : {e f : End Bool} {m n : ℕ} → e ≡ f → m ≡ n → TellsRun e m r t p s → TellsRun f n r t p s
  run_told {e} {f} {m} {n} q k h =
      subst (λ (x : ℕ). TellsRun f x r t p s) k (subst (λ (x : End Bool). TellsRun x m r t p s) q h)
