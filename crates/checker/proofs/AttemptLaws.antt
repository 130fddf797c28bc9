-- What an attempt comes to, by what merging came to and by the decision.
use Prim.Native.Nat.{ℕ}
use mathlib.Core.Bool.{true, false}
use mathlib.Core.List.{List}
use native.Mathlib.Omega.{arith}
use lib.ListN.{length}
use Rattle.std.specs.Prelude.{Ok, Err}
use Rattle.terms.specs.Decided.{Decision}
use Rattle.terms.proofs.SaysLaws.{says_same}
use Rattle.classes.specs.declared.Clash.TheVariants.{Here, Inside}
use Rattle.classes.specs.Merging.{MergedAll}
use Rattle.checker.specs.declared.solving.Unsolved.TheVariants.{At, UpTo}
use Rattle.checker.specs.Attempts.{Attempted}

module _ (n : ℕ) (ts eqns after : List ℕ) where
  pub inside_fails : (i : ℕ) → MergedAll n ts eqns (Err (Inside i)) after → (after₂ marks : List ℕ) → Attempted n ts eqns (Err (UpTo i)) after₂ marks
  inside_fails i m after₂ marks = λ θ s h. m.1 θ s (λ j l. h j (omega (arith, m.0)))

  module _ (after₂ marks : List ℕ) where
    pub merged_solves : MergedAll n ts eqns (Ok tt) after → Decision n after after₂ marks true → Attempted n ts eqns (Ok tt) after₂ marks
    merged_solves m d = (says_same m d.0, d.1)

    pub merged_fails : MergedAll n ts eqns (Ok tt) after → Decision n after after₂ marks false → Attempted n ts eqns (Err (UpTo (length eqns))) after₂ marks
    merged_fails m d = λ θ s h. d θ ((m.iff θ).0 (s, λ j l. h j (omega arith)))

    pub clash_solves : (i : ℕ) → MergedAll n ts eqns (Err (Here i)) after → Decision n after after₂ marks true →
        Attempted n ts eqns (Err (At i)) after₂ marks
    clash_solves i m d = (m.0, m.1, says_same m.2 d.0, d.1)

    pub clash_fails : (i : ℕ) → MergedAll n ts eqns (Err (Here i)) after → Decision n after after₂ marks false →
        Attempted n ts eqns (Err (UpTo i)) after₂ marks
    clash_fails i m d = λ θ s h. d θ ((m.2.iff θ).0 (s, λ j l. h j (omega (arith, m.0))))
