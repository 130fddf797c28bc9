-- A search for the least number that fails a test, and the counters of loops.
use Prim.Native.Nat.{ℕ, ◌≤◌, ◌<◌}
use mathlib.Core.Bool.{Bool, true, false}
use mathlib.Core.Path.{◌≡◌, sym}
use native.Mathlib.Nat.{le_of_eq, lt_of_lt_of_le}
use native.Mathlib.Omega.{arith}
use denote.Param.Members.{Mut}
use denote.Ref.{Bor}
use Rattle.std.specs.Prelude.{Option, None, Some, MatchOption}
use Rattle.std.specs.Fn.{CalledAt}
use Rattle.std.specs.Iterator.{FindsItem}
use Rattle.std.specs.declared.ops.Range.{Range}
use Rattle.std.proofs.iter.Yields.{nat_range_steps}
use Rattle.std.proofs.lemmas.Iterator.{first_from_Range}
use Rattle.rules.specs.Ends.{least_failing}
use Rattle.table.specs.Places.{found_place}
use Rattle.laws.proofs.EndLaws.{least_failing_none, least_failing_some}

-- The end of a search from 0 on: at the first number that fails, or where all below n pass.
module _ (ok : ℕ → Bool) (n : ℕ) where
  pub least_here : (i : ℕ) → ((j : ℕ) → j < i → ok j ≡ true) → i < n → ok i ≡ false → found_place (Some i) ≡ least_failing ok 0 n
  least_here i h lt e = sym ((least_failing_some ok 0 n i).1 (omega arith, omega arith, e, λ j lo hi. h j hi))

  pub least_none : {m : ℕ} → ((j : ℕ) → j < m → ok j ≡ true) → m ≡ n → found_place None ≡ least_failing ok 0 n
  least_none h e = sym ((least_failing_none ok 0 n).1 (λ j lo hi. h j (omega arith)))

-- `find` over the numbers below m, of which a call tells that they are n: what it answers is the least number that fails the test ok, if the
-- closure is true where that test fails and leaves its captures as they are.
module _ {F : Type 0} {g : Mut F (Bor ℕ × Unit {0}) Bool} (ok : ℕ → Bool) {m : ℕ} (n : ℕ) (f : F) (r : Option ℕ) (u : Range ℕ) where
  pub finds_least : m ≡ n → FindsItem nat_range_steps g (record { start = 0; end = m }) f r u →
      ((x : ℕ) (q : F) → CalledAt g f x true q → ok x ≡ false) → ((x : ℕ) (q : F) → CalledAt g f x false q → (q ≡ f) × (ok x ≡ true)) →
      found_place r ≡ least_failing ok 0 n
  finds_least e found bad good = go r (first_from_Range _ u f r (λ k. ok k ≡ false) (λ k. ok k ≡ true) found bad good)
    where
      go : (r : Option ℕ) →
          MatchOption r ((k : ℕ) → 0 ≤ k → k < m → ok k ≡ true) (λ i. (0 ≤ i) × (i < m) × (ok i ≡ false) × ((k : ℕ) → 0 ≤ k → k < i → ok k ≡ true)) →
          found_place r ≡ least_failing ok 0 n
      go None h = least_none ok n (λ j l. h j (omega arith) l) e
      go (Some p) h = least_here ok n p (λ j l. h.3 j (omega arith) l) (omega (arith, h.1)) h.2

-- The counter i of a loop over the m places of which a call tells that they are n.
pub below : {i m n : ℕ} → i < m → m ≡ n → i < n
below h e = lt_of_lt_of_le h (le_of_eq e)
