-- Document 01, "Values and evaluation": a run has an end, the visits made, and the values formed at the nodes.
use Rattle.std.specs.Prelude.{ℕ, suc, List, [], ◌∷◌, ◌++◌, Bool, true, false, ltb, leb}
use Rattle.std.proofs.Math.Option.{Option, none as nothing, some}
use Rattle.rules.specs.Values.{Value, weight}
use Rattle.rules.specs.Cells.{weight_limit}
use Rattle.rules.specs.Ends.{End, done, refused}

-- The values formed, each with its node, in the order in which the visits end.
abbrev pub Trace : Type 0
Trace = List (ℕ × Value)

pub record Run (A : Type 0) : Type 0 where
  pub end : End A
  pub steps : ℕ
  pub formed : Trace

-- A part of an evaluation: a run from the visits made so far.
abbrev pub M : Type 0 → Type 0
M A = ℕ → Run A

-- An answer that takes no visit.
abbrev pub lift : {A : Type 0} → End A → M A
lift e = λ s. record { end = e; steps = s; formed = [] }

abbrev pub return : {A : Type 0} → A → M A
return a = lift (done a)

abbrev pub refuse : {A : Type 0} → ℕ → ℕ → M A
refuse r n = lift (refused r n)

abbrev pub after : {A : Type 0} → Trace → Run A → Run A
after f r = record { end = r.end; steps = r.steps; formed = f ++ r.formed }

-- A refusal ends the run, with its place and the steps so far.
abbrev pub go_on : {A B : Type 0} → End A → ℕ → Trace → (A → M B) → Run B
go_on (done a) s tr f = after tr (f a s)
go_on (refused k n) s tr f = record { end = refused k n; steps = s; formed = tr }

infixl 10 ◌>>=◌
infixl 10 ◌>>◌
abbrev pub ◌>>=◌ : {A B : Type 0} → M A → (A → M B) → M B
◌>>=◌ m f = λ s. let r = m s in go_on r.end r.steps r.formed f

abbrev pub ◌>>◌ : {A B : Type 0} → M A → M B → M B
◌>>◌ m k = m >>= λ _. k

-- Goes on where a test passes; otherwise the refusal r at the node n.
abbrev pub demand : Bool → ℕ → ℕ → M (Unit {0})
demand true r n = return tt
demand false r n = refuse r n

-- A visit costs one step; 19 where the budget has none left.
abbrev pub counted : Bool → ℕ → M (Unit {0})
counted true n = λ s. return tt (suc s)
counted false n = refuse 19 n

abbrev pub visit : ℕ → ℕ → M (Unit {0})
visit budget n = λ s. counted (ltb s budget) n s

-- A visit to an expression forms the value that it hands to its parent.
abbrev pub emit : ℕ → Value → M Value
emit n v = λ s. record { end = done v; steps = s; formed = (n, v) ∷ [] }

-- What an operation gives: a value, or the number of the refusal (16 or 17).
pub data Given : Type 0 where
  gives : Value → Given
  lacks : ℕ → Given

-- 16 and 17 come before 18: a value formed weighs at most 256.
abbrev pub form : ℕ → Given → M Value
form n (lacks r) = refuse r n
form n (gives v) = demand (leb (weight v) weight_limit) 18 n >> emit n v

infixr 20 ◌or_else◌
-- What decides, or else the rest.
abbrev pub ◌or_else◌ : {A : Type 0} → Option A → M A → M A
some a or_else m = return a
nothing or_else m = m
