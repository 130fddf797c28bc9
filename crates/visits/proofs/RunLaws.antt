-- Ends of runs, part by part: what follows a part that is done begins at the visits which that part has made.
use Rattle.visits.proofs.Terms.{ℕ, cond, demand, emit, suc, ◌+◌, ◌≤◌, ◌<◌, true, false, List, ◌≡◌, refl, arith, leb, lt-ltb, le-ltb, le-leb, ltb}
use Rattle.visits.proofs.Terms.{Value, weight, fits, End, done, refused, Run, M, return, ◌>>◌, visit, Given, gives, fitting, EndsWith, go_on, form, lacks, weighed, fitted, weight_limit, Rule}

-- A part x, and f after it.
module _ {A B : Type 0} {x : Run A} (f : A → M B) {budget left : ℕ} where
  pub then_done : {a : A} {e : End B} {l : ℕ} → EndsWith x (done a) budget l → EndsWith (f a x.steps) e budget left →
      EndsWith (go_on x.end x.steps x.formed f) e budget left
  then_done h k = record { end = rw h.end k.end; steps = rw h.end k.steps }

  pub then_refused : {r p : ℕ} → EndsWith x (refused r p) budget left → EndsWith (go_on x.end x.steps x.formed f) (refused r p) budget left
  then_refused h = record { end = rw h.end; steps = rw h.end h.steps }

pub returns : {A : Type 0} {s budget left : ℕ} (a : A) → s + left ≡ budget → EndsWith (return a s) (done a) budget left
returns a c = record { end = refl; steps = c }

-- A visit within the budget, and one beyond it.
module _ {B : Type 0} (budget n s : ℕ) (k : M B) {left : ℕ} where
  pub visited : {e : End B} → s < budget → EndsWith (k (suc s)) e budget left → EndsWith ((visit budget n >> k) s) e budget left
  visited h x = record { end = rw (lt-ltb s budget h) x.end; steps = rw (lt-ltb s budget h) x.steps }

  pub unvisited : s + left ≡ budget → left ≡ 0 → EndsWith ((visit budget n >> k) s) (refused 19 n) budget left
  unvisited c z = let e : ltb s budget ≡ false = le-ltb s budget (omega arith) in record { end = rw e; steps = rw e c }

-- A value that is formed, or the refusal at the node.
abbrev pub end_of : ℕ → Given → End Value
end_of n (gives v) = done v
end_of n (lacks k) = refused k n

pub form_ends : {budget left : ℕ} (n : ℕ) (g : Given) (s : ℕ) → s + left ≡ budget → EndsWith (form n g s) (end_of n (weighed g)) budget left
form_ends n (lacks k) s c = record { end = refl; steps = c }
form_ends {budget} {left} n (gives v) s c =
    elim (leb (weight v) weight_limit) as (λ b. EndsWith ((demand b 18 n >> emit n v) s) (end_of n (cond b (gives v) (lacks 18))) budget left)
    [ true ↦ record { end = refl; steps = c } | false ↦ record { end = refl; steps = c } ]

-- A value that is not heavy is formed.
pub light_form : {budget left : ℕ} (n : ℕ) (w : Value) (s : ℕ) → weight w ≤ 256 → s + left ≡ budget → EndsWith (form n (gives w) s) (done w) budget left
light_form n w s h c = record { end = rw (le-leb (weight w) 256 h); steps = rw (le-leb (weight w) 256 h) c }

-- What follows where the operands fit, and 15 where they do not.
module _ {B : Type 0} {budget left : ℕ} (n : ℕ) (r : Rule) (vs : List Value) (k : M B) (s : ℕ) where
  pub fitting_on : {e : End B} → fits r.takes vs ≡ true → EndsWith (k s) e budget left → EndsWith ((fitting n r vs >> k) s) e budget left
  fitting_on e h = record { end = rw e h.end; steps = rw e h.steps }

  pub fitting_refused : fits r.takes vs ≡ false → s + left ≡ budget → EndsWith ((fitting n r vs >> k) s) (refused 15 n) budget left
  fitting_refused e c = record { end = rw e; steps = rw e c }

-- 15, and then what is given.
pub fitted_ends : {budget left : ℕ} (n : ℕ) (r : Rule) (vs : List Value) (g : Given) (s : ℕ) → s + left ≡ budget →
    EndsWith ((fitting n r vs >> form n g) s) (end_of n (fitted r.takes vs g)) budget left
fitted_ends {budget} {left} n r vs g s c =
    let k = form_ends n g s c in
    elim (fits r.takes vs) as (λ b. EndsWith ((demand b 15 n >> form n g) s) (end_of n (cond b (weighed g) (lacks 15))) budget left)
    [ true ↦ record { end = k.end; steps = k.steps } | false ↦ record { end = refl; steps = c } ]
