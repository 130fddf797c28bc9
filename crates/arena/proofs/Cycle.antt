-- The members of a cycle of calls.
use Prim.Native.Nat.{ℕ, ◌<◌}
use mathlib.Core.List.{List}
use borrow.Fn.Kinds.{In, Out, ParamKind, ResultKind}
use borrow.Fn.PlainCycle.{Measures, is, falls, and}

-- A member: its measure, what it requires where that is t and where it is below t, and what it ensures.
pub record Member (n : ℕ) (ps : List (ParamKind n)) (r : ResultKind n) : Type 1 where
  pub μ : Measures n ps ℕ
  pub at : ℕ → In n ps
  pub below : ℕ → In n ps
  pub post : Out n ps r

abbrev pub member : (n : ℕ) (ps : List (ParamKind n)) (r : ResultKind n) → Measures n ps ℕ → In n ps → Out n ps r → Member n ps r
member n ps r μ pre post = record { μ = μ; at = λ t. and n ps (is n ps μ t) pre; below = λ t. and n ps (falls n ps ◌<◌ μ t) pre; post = post }

-- What a place or a need of a member's derivation is stated over: the claims of its calls, what it requires and ensures; and of a member with a
-- loop, the loop's invariant and measure.
abbrev pub Over : (n : ℕ) (ps : List (ParamKind n)) → ResultKind n → Type 1 → Type 1
Over n ps r C = C → In n ps → Out n ps r → Type 0

abbrev pub OverLoop : (n : ℕ) (ps : List (ParamKind n)) → ResultKind n → Type 1 → Type 1 → Type 0 → Type 1
OverLoop n ps r C I M = C → In n ps → Out n ps r → I → M → Type 0
