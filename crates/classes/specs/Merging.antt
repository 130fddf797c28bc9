-- What merging the classes of two variables says, and of all equations in turn.
use Rattle.std.specs.Prelude.{ℕ, suc, ◌+◌, ◌<◌, ◌≤◌, List, Result, Ok, Err, length}
use Rattle.rules.specs.Types.{Ty}
use Rattle.terms.specs.Terms.{Terms, Satisfies, HoldsTo, SidesBelow, SaysAlso}
use Rattle.classes.specs.declared.Clash.{Clash}
use Rattle.classes.specs.declared.Clash.TheVariants.{Here, Inside}

-- No types satisfy the terms and the first m equations.
abbrev pub NoneTo : (n : ℕ) (ts es : List ℕ) (m : ℕ) → Type 0
NoneTo n ts es m = (θ : ℕ → Ty) → Satisfies θ n ts → HoldsTo θ es m → ⊥

-- All equations are in the terms; or the first that clashes is told, with the terms of those before it; or it clashes in its parts, and of
-- the terms nothing is said.
abbrev pub MergedAll : (n : ℕ) (ts es : List ℕ) → Result (Unit {0}) Clash → List ℕ → Type 0
MergedAll n ts es (Ok u) ts' = SaysAlso n ts (λ θ. HoldsTo θ es (length es)) ts'
MergedAll n ts es (Err (Here i)) ts' = (i < length es) × NoneTo n ts es (suc i) × SaysAlso n ts (λ θ. HoldsTo θ es i) ts'
MergedAll n ts es (Err (Inside i)) ts' = (i < length es) × NoneTo n ts es (suc i)

-- What merging takes for granted: equations between the variables of the terms, and a stack that has room.
pub record Mergeable (n : ℕ) (ts stack es : List ℕ) : Type 0 where
  pub terms : Terms n ts
  pub sides : SidesBelow n es
  pub room : n + 2 ≤ length stack
