-- The answers of the calls in numbers, as the exported functions tell them.
use Prim.Native.Nat.{ℕ}
use mathlib.Core.List.{List}
use mathlib.Core.Path.{◌≡◌, ap, sym, ◌∙◌, subst}
use Rattle.rules.specs.Ends.{End, done, refused}
use Rattle.checker.specs.Answers.{answered}
use Rattle.reading.specs.declared.Refusal.{Refusal}
use Rattle.evaluate.specs.declared.GuardedRun.{GuardedRun}
use Rattle.std.proofs.Common.{Result}
use Rattle.falgrumi.specs.Guarantee.{Report, guarded_of}
use Rattle.reports.specs.Told.{number_of, place_of, InByte, TellsEnd, TellsRun}
use Rattle.falgrumi.specs.Answers.{reported_end, reported_steps, reported_conforms, TellsReport}

-- An answer has the number and the place of its verdict.
pub answered_told : (v : End (List ℕ)) (a : End (Unit {0})) → a ≡ answered v → TellsEnd v (number_of a) (place_of a)
answered_told (done rows) a e = record { number = ap number_of e; at = ap place_of e }
answered_told (refused r p) a e = record { number = ap number_of e; at = ap place_of e }

module _ {r t p s : ℕ} where
  -- A checked evaluation is told by its answer x, which has the form y.
  pub report_told : {c : ℕ} {g : End Report} (x y : Result GuardedRun Refusal) → guarded_of x ≡ g → x ≡ y →
      TellsRun (reported_end (guarded_of y)) (reported_steps (guarded_of y)) r t p s → c ≡ reported_conforms (guarded_of y) → TellsReport g r t p s c
  report_told {c} x y h q k l = subst (λ (a : End Report). TellsReport a r t p s c) (sym (ap guarded_of q) ∙ h) (record { run = k; conform = l })

-- Its number goes into a byte.
pub report_byte : {g : End Report} (x y : Result GuardedRun Refusal) → guarded_of x ≡ g → x ≡ y → InByte (reported_end g) → InByte (reported_end (guarded_of y))
report_byte x y h q k = subst (λ (a : End Report). InByte (reported_end a)) (sym h ∙ ap guarded_of q) k
