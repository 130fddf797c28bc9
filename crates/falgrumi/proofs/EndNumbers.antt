-- The numbers of refusals: Check's are 1 to 13, and those of an evaluation of a table that Check accepts 14 to 19, whatever the values. So
-- the number of a checked evaluation tells which of the two has refused. From the laws of all refusals (laws/proofs/RefusalLaws.antt).
use Prim.Native.Nat.{ℕ, ◌≤◌, ◌<◌}
use mathlib.Core.List.{List}
use mathlib.Core.Logic.{◌⊎◌, inl, inr}
use mathlib.Core.Path.{◌≡◌, subst}
use native.Mathlib.Omega.{arith}
use Rattle.rules.specs.Ends.{End, done}
use Rattle.rules.specs.Evaluation.{evaluation}
use Rattle.rules.specs.Merges.{union_in}
use Rattle.rules.specs.Refusals.{RefusesOnly}
use Rattle.rules.specs.Verdict.{Verdict, accepts}
use Rattle.laws.proofs.EndLaws.{refuses_imp}
use Rattle.laws.proofs.RefusalLaws.{verdict_refuses, evaluation_refuses, readable_refuses, union_refuses}
use Rattle.typing.specs.Model.{verdict}
use Rattle.typing.proofs.VerdictRight.{verdict_right}
use Rattle.reports.specs.Told.{InByte}

-- An answer, or a refusal whose number is from lo to hi.
abbrev pub NumberFrom : {A : Type 0} → ℕ → ℕ → End A → Type 0
NumberFrom lo hi e = RefusesOnly (λ r p. (lo ≤ r) × (r ≤ hi)) e

-- Check accepts, or refuses with 1 to 13.
pub verdict_numbers : (bs : List ℕ) (room : ℕ) → NumberFrom 1 13 (verdict bs room)
verdict_numbers bs room = refuses_imp _ _ (λ r p h. (h.0, h.1)) (verdict bs room) (verdict_refuses (verdict_right bs room))

-- An evaluation of a table that Check accepts.
accepted_within : {bs rows : List ℕ} {room : ℕ} (buffer : List ℕ) (budget : ℕ) → Verdict bs room (done rows) →
    NumberFrom 14 19 (evaluation bs buffer budget).end
accepted_within {bs} buffer budget (accepts {tb} e f o g) = readable_refuses bs buffer budget tb e

pub accepted_numbers : (bs buffer rows : List ℕ) (room budget : ℕ) → verdict bs room ≡ done rows → NumberFrom 14 19 (evaluation bs buffer budget).end
accepted_numbers bs buffer rows room budget e = accepted_within buffer budget (subst (Verdict bs room) e (verdict_right bs room))

-- So all of them go into a byte.
pub verdict_byte : (bs : List ℕ) (room : ℕ) → InByte (verdict bs room)
verdict_byte bs room = refuses_imp _ _ (λ r p h. omega (arith, h.1)) (verdict bs room) (verdict_numbers bs room)

pub union_byte : (bs buffer : List ℕ) → InByte (union_in bs buffer)
union_byte bs buffer = refuses_imp _ _ (λ r p h. small r h.0) (union_in bs buffer) (union_refuses bs buffer)
  where
    small : (r : ℕ) → ((1 ≤ r) × (r ≤ 9)) ⊎ (r ≡ 14) → r < 256
    small r (inl h) = omega (arith, h.1)
    small r (inr h) = omega (arith, h)

pub evaluation_byte : (bs buffer : List ℕ) (budget : ℕ) → InByte (evaluation bs buffer budget).end
evaluation_byte bs buffer budget =
    refuses_imp _ _ (λ r p h. small r h.0) (evaluation bs buffer budget).end (evaluation_refuses bs buffer budget).1
  where
    small : (r : ℕ) → ((1 ≤ r) × (r ≤ 9)) ⊎ ((14 ≤ r) × (r ≤ 19)) → r < 256
    small r (inl h) = omega (arith, h.1)
    small r (inr h) = omega (arith, h.1)
