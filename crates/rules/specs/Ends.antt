-- Document 01, "Refusal list": an answer, or a refusal with its number and place.
use Rattle.std.specs.Prelude.{ℕ, zero, suc, Bool, true, false, ◌&&◌}
use Rattle.std.proofs.Math.Option.{Option, none as nothing, some}

pub data End (A : Type 0) : Type 0 where
  done : A → End A
  refused : ℕ → ℕ → End A

infixl 10 ◌>>=◌
-- The first refusal decides.
abbrev pub ◌>>=◌ : {A B : Type 0} → End A → (A → End B) → End B
done a >>= f = f a
refused r p >>= f = refused r p

-- Goes on where a test passes; otherwise the refusal r at the place p.
abbrev pub require : ℕ → ℕ → Bool → End (Unit {0})
require r p true = done tt
require r p false = refused r p

abbrev pub unless_found : ℕ → Option ℕ → End (Unit {0})
unless_found r nothing = done tt
unless_found r (some p) = refused r p

abbrev pub pick_first : Bool → ℕ → Option ℕ → Option ℕ
pick_first true i rest = rest
pick_first false i rest = some i

-- The least of the n numbers from i on that fails the test.
unfoldable pub least_failing : (ℕ → Bool) → ℕ → ℕ → Option ℕ
least_failing ok i zero = nothing
least_failing ok i (suc n) = let rest = least_failing ok (suc i) n in pick_first (ok i) i rest

-- Goes on where each number below n passes; otherwise the refusal r at the least that fails.
unfoldable pub require_all : ℕ → (ℕ → Bool) → ℕ → End (Unit {0})
unfolding least_failing
require_all r ok n = unless_found r (least_failing ok 0 n)

-- Each number below n passes a test.
abbrev pub all_below : (ℕ → Bool) → ℕ → Bool
all_below ok zero = true
all_below ok (suc n) = ok n && all_below ok n

-- There is an answer, and it passes a test.
abbrev pub done_with : {A : Type 0} → End A → (A → Bool) → Bool
done_with (done a) ok = ok a
done_with (refused r p) ok = false
