-- Laws of Ends.antt: what a search for the least failing number finds, when `require_all` goes on, and how a row of
-- tests ends. A test that passes is written `ok j ≡ true`, one that fails `ok j ≡ false`; `T` where a proposition is read off.
use Prim.Native.Nat.{ℕ, zero, suc, ◌+◌, ◌≤◌, ◌<◌}
use mathlib.Core.Bool.{Bool, true, false, ◌&&◌, true≢false, false≢true}
use mathlib.Core.List.{List, [], ◌∷◌}
use mathlib.Core.Logic.{◌↔◌}
use mathlib.Core.Option.{Option, none as nothing, some}
use mathlib.Core.Path.{◌≡◌, refl, ap}
use native.Mathlib.Decide.{ℕ_discrete, dec_lt}
use native.Mathlib.Omega.{arith}
use lib.Dec.{T, leb, ltb, eqb, leb→le, le→leb, ltb→lt, lt→ltb, eqb→eq, eqb_refl}
use Rattle.rules.specs.Ends.{End, done, refused, ◌>>=◌, require, unless_found, pick_first, least_failing, require_all, all_below, done_with}
use Rattle.rules.specs.Refusals.{RefusesOnly}
use Rattle.rules.proofs.Basics.{absurd01}

-- A test that passes, in both writings.
pub T_true : (b : Bool) → T b ↔ (b ≡ true)
T_true true = (λ t. refl, λ e. tt)
T_true false = (λ t. absurd t, λ e. absurd (false≢true e))

-- A test that fails, in both writings.
pub T_false : (b : Bool) → (T b → ⊥) ↔ (b ≡ false)
T_false true = (λ f. absurd (f tt), λ e t. true≢false e)
T_false false = (λ f. refl, λ e t. t)

-- What the tests of numbers, and two tests together, decide.
pub T_and : (a b : Bool) → T (a && b) ↔ (T a × T b)
T_and true b = (λ t. (tt, t), λ t. t.1)
T_and false b = (λ t. absurd t, λ t. t.0)

pub t_leb : (m n : ℕ) → T (leb m n) ↔ (m ≤ n)
t_leb m n = (leb→le m n, le→leb m n)

pub t_ltb : (m n : ℕ) → T (ltb m n) ↔ (m < n)
t_ltb m n = (ltb→lt m n, lt→ltb m n)

pub t_eqb : (m n : ℕ) → T (eqb m n) ↔ (m ≡ n)
t_eqb m n = (eqb→eq m n, λ e. rw e (eqb_refl n))

-- `all_below` passes exactly where each number below n does.
pub t_all_below : (ok : ℕ → Bool) (n : ℕ) → T (all_below ok n) ↔ ((j : ℕ) → j < n → T (ok j))
t_all_below ok zero = (λ t j l. absurd (omega arith), λ f. tt)
t_all_below ok (suc n) = (
  λ t j l. let w = (T_and (ok n) (all_below ok n)).0 t in go j l w.0 ((t_all_below ok n).0 w.1) (ℕ_discrete j n),
  λ f. (T_and (ok n) (all_below ok n)).1 (f n (omega arith), (t_all_below ok n).1 (λ j l. f j (omega arith))),
)
  where
    go : (j : ℕ) → j < suc n → T (ok n) → ((j : ℕ) → j < n → T (ok j)) → Dec (j ≡ n) → T (ok j)
    go j l t f (yes e) = rw e t
    go j l t f (no e) = f j (omega arith)

-- `done_with` passes exactly where there is an answer that does.
pub t_done_with : {A : Type 0} (e : End A) (ok : A → Bool) → T (done_with e ok) ↔ ((a : A) × (e ≡ done a) × T (ok a))
t_done_with (done a) ok = (λ t. (a, refl, t), λ x. let f : a ≡ x.0 = cc x.1 in rw f x.2)
t_done_with (refused r p) ok = (λ t. absurd t, λ x. absurd01 (cc x.1))

-- What a search among the n numbers from i on says: all pass, or p is the least that fails.
abbrev pub Sought : (ℕ → Bool) → ℕ → ℕ → Option ℕ → Type 0
Sought ok i n nothing = (j : ℕ) → i ≤ j → j < i + n → ok j ≡ true
Sought ok i n (some p) = (i ≤ p) × (p < i + n) × (ok p ≡ false) × ((j : ℕ) → i ≤ j → j < p → ok j ≡ true)

module _ (ok : ℕ → Bool) where
  at_or_above : (i j : ℕ) → ok i ≡ true → i ≤ j → (suc i ≤ j → ok j ≡ true) → ok j ≡ true
  at_or_above i j e lo f = go (ℕ_discrete i j)
    where
      go : Dec (i ≡ j) → ok j ≡ true
      go (yes q) = rw (← q) e
      go (no q) = f (omega arith)

  sought_pass : (i n : ℕ) (o : Option ℕ) → ok i ≡ true → Sought ok (suc i) n o → Sought ok i (suc n) o
  sought_pass i n nothing e s = λ j lo hi. at_or_above i j e lo (λ up. s j up (omega arith))
  sought_pass i n (some p) e s = (omega arith, omega arith, s.2, λ j lo hi. at_or_above i j e lo (λ up. s.3 j up hi))

  sought_pick : (i n : ℕ) (b : Bool) (o : Option ℕ) → ok i ≡ b → Sought ok (suc i) n o → Sought ok i (suc n) (pick_first b i o)
  sought_pick i n true o e s = sought_pass i n o e s
  sought_pick i n false o e s = (omega arith, omega arith, e, λ j lo hi. absurd (omega arith))

  -- `least_failing` gives a right answer,
  pub sought : (i n : ℕ) → Sought ok i n (least_failing ok i n)
  unfolding least_failing
  sought i zero = λ j lo hi. absurd (omega arith)
  sought i (suc n) = sought_pick i n (ok i) (least_failing ok (suc i) n) refl (sought (suc i) n)

  -- and there is only one.
  sought_one : (i n : ℕ) (o u : Option ℕ) → Sought ok i n o → Sought ok i n u → o ≡ u
  sought_one i n nothing nothing s t = refl
  sought_one i n nothing (some q) s t = let e : ok q ≡ true = s q t.0 t.1 in cc t.2
  sought_one i n (some p) nothing s t = let e : ok p ≡ true = t p s.0 s.1 in cc s.2
  sought_one i n (some p) (some q) s t = go (dec_lt p q) (dec_lt q p)
    where
      go : Dec (p < q) → Dec (q < p) → ◌≡◌ {A = Option ℕ} (some p) (some q)
      go (yes l) d = let e : ok p ≡ true = t.3 p s.0 l in cc s.2
      go (no l) (yes k) = let e : ok q ≡ true = s.3 q t.0 k in cc t.2
      go (no l) (no k) = ap some (omega arith)

  -- So it gives an answer exactly where the answer is right.
  pub least_failing_is : (i n : ℕ) (o : Option ℕ) → (least_failing ok i n ≡ o) ↔ Sought ok i n o
  least_failing_is i n o =
      (λ e. rw e at (sought i n), λ s. sought_one i n (least_failing ok i n) o (sought i n) s)

  -- It finds nothing exactly where all pass.
  pub least_failing_none : (i n : ℕ) → (least_failing ok i n ≡ nothing) ↔ ((j : ℕ) → i ≤ j → j < i + n → ok j ≡ true)
  least_failing_none i n = least_failing_is i n nothing

  -- It finds p exactly where p is the least that fails.
  pub least_failing_some : (i n p : ℕ) → (least_failing ok i n ≡ some p) ↔
      ((i ≤ p) × (p < i + n) × (ok p ≡ false) × ((j : ℕ) → i ≤ j → j < p → ok j ≡ true))
  least_failing_some i n p = least_failing_is i n (some p)

-- A single test goes on exactly where it passes.
pub require_done : (r p : ℕ) (b : Bool) → (require r p b ≡ done tt) ↔ (b ≡ true)
require_done r p true = (λ e. refl, λ e. refl)
require_done r p false = (λ e. cc, λ e. cc)

-- It refuses with its own number and place.
pub require_refused : (r p : ℕ) (b : Bool) (s q : ℕ) → require r p b ≡ refused s q → (s ≡ r) × (q ≡ p) × (b ≡ false)
require_refused r p true s q e = (cc, cc, cc)
require_refused r p false s q e = (cc, cc, refl)

-- So too for a search: it goes on where nothing was found.
pub unless_found_done : (r : ℕ) (o : Option ℕ) → (unless_found r o ≡ done tt) ↔ (o ≡ nothing)
unless_found_done r nothing = (λ e. refl, λ e. refl)
unless_found_done r (some p) = (λ e. cc, λ e. cc)

-- It refuses at the place that was found.
pub unless_found_refused : (r : ℕ) (o : Option ℕ) (s p : ℕ) → unless_found r o ≡ refused s p → (s ≡ r) × (o ≡ some p)
unless_found_refused r nothing s p e = (cc, cc)
unless_found_refused r (some q) s p e = (cc, cc)

-- `require_all` goes on exactly where each number below n passes.
pub require_all_done : (r : ℕ) (ok : ℕ → Bool) (n : ℕ) → (require_all r ok n ≡ done tt) ↔ ((j : ℕ) → j < n → ok j ≡ true)
unfolding require_all
require_all_done r ok n = (
  λ e j hi. (least_failing_none ok 0 n).0 ((unless_found_done r (least_failing ok 0 n)).0 e) j (omega arith) (omega arith),
  λ f. rw ((least_failing_none ok 0 n).1 (λ j lo hi. f j (omega arith))),
)

-- It refuses with its own number,
pub require_all_number : (r : ℕ) (ok : ℕ → Bool) (n s p : ℕ) → require_all r ok n ≡ refused s p → (s ≡ r) × (least_failing ok 0 n ≡ some p)
unfolding require_all
require_all_number r ok n s p e = unless_found_refused r (least_failing ok 0 n) s p e

-- and at p exactly where p is the least number below n that fails.
pub require_all_refused : (r : ℕ) (ok : ℕ → Bool) (n p : ℕ) →
    (require_all r ok n ≡ refused r p) ↔ ((p < n) × (ok p ≡ false) × ((j : ℕ) → j < p → ok j ≡ true))
unfolding require_all
require_all_refused r ok n p = (
  λ e. let s : Sought ok 0 n (some p) = (least_failing_some ok 0 n p).0 (require_all_number r ok n r p e).1 in
      (omega arith, s.2, λ j hi. s.3 j (omega arith) hi),
  λ h. rw ((least_failing_some ok 0 n p).1 (omega arith, omega arith, h.1, λ j lo hi. h.2 j hi)),
)

-- Each entry of a list has a property.
abbrev pub Each : {A : Type 0} → (A → Type 0) → List A → Type 0
Each P [] = Unit {0}
Each P (x ∷ xs) = P x × Each P xs

-- A row of tests before an answer: the first that refuses decides.
abbrev pub in_turn : {A : Type 0} → List (End (Unit {0})) → A → End A
in_turn [] a = done a
in_turn (m ∷ ms) a = m >>= λ _. in_turn ms a

module _ {A : Type 0} where
  -- Where it ends with an answer, each test goes on, and the answer is the one given.
  pub in_turn_done : (ms : List (End (Unit {0}))) (a b : A) → in_turn ms a ≡ done b → Each (λ m. m ≡ done tt) ms × (a ≡ b)
  in_turn_done [] a b e = (tt, cc)
  in_turn_done (done u ∷ ms) a b e = let r = in_turn_done ms a b e in ((refl, r.0), r.1)
  in_turn_done (refused r p ∷ ms) a b e = absurd (absurd01 (cc))

  -- Where each test goes on, it ends with that answer.
  pub in_turn_passed : (ms : List (End (Unit {0}))) (a : A) → Each (λ m. m ≡ done tt) ms → in_turn ms a ≡ done a
  in_turn_passed [] a h = refl
  in_turn_passed (m ∷ ms) a h = rw h.0 (in_turn_passed ms a h.1)

-- What refuses only with R refuses only with what follows from R.
pub refuses_imp : {A : Type 0} (R S : ℕ → ℕ → Type 0) → ((r p : ℕ) → R r p → S r p) → (e : End A) → RefusesOnly R e → RefusesOnly S e
refuses_imp R S f (done a) h = tt
refuses_imp R S f (refused r p) h = f r p h

-- What refuses only with R: an answer and what follows it, a single test, a test of each number below n, a row of tests.
module _ (R : ℕ → ℕ → Type 0) where
  pub refuses_bind : {A B : Type 0} (m : End A) (f : A → End B) → RefusesOnly R m → ((a : A) → RefusesOnly R (f a)) → RefusesOnly R (m >>= f)
  refuses_bind (done a) f h k = k a
  refuses_bind (refused r p) f h k = h

  pub require_refuses : (r p : ℕ) (b : Bool) → R r p → RefusesOnly R (require r p b)
  require_refuses r p true h = tt
  require_refuses r p false h = h

  unless_found_refuses : (r : ℕ) (ok : ℕ → Bool) (n : ℕ) (o : Option ℕ) → Sought ok 0 n o → ((p : ℕ) → p < n → R r p) → RefusesOnly R (unless_found r o)
  unless_found_refuses r ok n nothing s h = tt
  unless_found_refuses r ok n (some p) s h = h p (omega arith)

  pub require_all_refuses : (r : ℕ) (ok : ℕ → Bool) (n : ℕ) → ((p : ℕ) → p < n → R r p) → RefusesOnly R (require_all r ok n)
  unfolding require_all
  require_all_refuses r ok n h = unless_found_refuses r ok n (least_failing ok 0 n) (sought ok 0 n) h

  pub in_turn_refuses : {A : Type 0} (ms : List (End (Unit {0}))) (a : A) → Each (RefusesOnly R) ms → RefusesOnly R (in_turn ms a)
  in_turn_refuses [] a h = tt
  in_turn_refuses (m ∷ ms) a h = refuses_bind m (λ _. in_turn ms a) h.0 (λ _. in_turn_refuses ms a h.1)
