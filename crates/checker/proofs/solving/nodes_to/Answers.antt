-- The search's answer is the first node below n whose equations reach beyond e; the nodes before it, or all, have not equation e.
use Prim.Native.Nat.{ℕ, suc, ◌+◌, ◌≤◌, ◌<◌}
use mathlib.Core.List.{List}
use mathlib.Core.Logic.{inl, inr}
use mathlib.Core.Path.{◌≡◌, refl, subst}
use native.Mathlib.Omega.{arith}
use borrow.Author.Tests.{tests}
use Rattle.std.proofs.Common.{rules}
use Rattle.std.specs.Prelude.{MatchOption}
use Rattle.std.proofs.lemmas.Iterator.{first_from_Range}
use Rattle.checker.specs.Solving.{count_at}
use Rattle.checker.proofs.solving.nodes_to.Goals as goal

module _ (starts : List ℕ) (e n : ℕ) where
  abbrev Reaches : ℕ → Type 0
  Reaches k = e < count_at starts (k + 1)

  abbrev Stays : ℕ → Type 0
  Stays k = count_at starts (k + 1) ≤ e

  abbrev None : Type 0
  None = (k : ℕ) → 0 ≤ k → k < n → Stays k

  abbrev First : ℕ → Type 0
  First i = (0 ≤ i) × (i < n) × Reaches i × ((k : ℕ) → 0 ≤ k → k < i → Stays k)

  next : (j : ℕ) → Stays j → count_at starts (suc j) ≤ e
  next j s = let y : j + 1 ≡ suc j = omega arith in subst (λ k. count_at starts k ≤ e) y s

pub returns-in_default : goal.returns-in_default
returns-in_default c =
    let ts = c.args.starts.now in
    let e = c.args.e in
    let n = c.args.n in
    let none = subst (λ r. MatchOption r (None ts e n) (First ts e n)) c.in_default.is
    (first_from_Range _ _ _ _ (Reaches ts e n) (Stays ts e n) c.find.ensures.ran (λ x q k. search (rules, tests)) (λ x q k. search (rules, tests))) in
    record { inside = omega arith; reach = inl refl; fewer = λ j l. next ts e n j (none j (omega arith) (omega (arith, l))) }

pub returns : goal.returns
returns c =
    let ts = c.args.starts.now in
    let e = c.args.e in
    let n = c.args.n in
    let first = subst (λ r. MatchOption r (None ts e n) (First ts e n)) c.in-Some.is
    (first_from_Range _ _ _ _ (Reaches ts e n) (Stays ts e n) c.find.ensures.ran (λ x q k. search (rules, tests)) (λ x q k. search (rules, tests))) in
    record {
      inside = omega (arith, first.1);
      reach = inr (omega arith, first.2);
      fewer = λ j l. next ts e n j (first.3 j (omega arith) (omega (arith, l)));
    }
