-- What an attempt to solve all constraints came to.
use Rattle.std.specs.Prelude.{ℕ, suc, ◌<◌, min, List, length, Result, Ok, Err}
use Rattle.terms.specs.Terms.{HoldsTo, SaysAlso}
use Rattle.terms.specs.Decided.{Decided}
use Rattle.classes.specs.Merging.{NoneTo}
use Rattle.checker.specs.declared.solving.Unsolved.{Unsolved}
use Rattle.checker.specs.declared.solving.Unsolved.TheVariants.{At, UpTo}

-- The terms ts are solved with all equations; or with those before the first that clashes; or not even with the equations up to e.
abbrev pub Attempted : (n : ℕ) (ts eqns : List ℕ) → Result (Unit {0}) Unsolved → (ts' marks : List ℕ) → Type 0
Attempted n ts eqns (Ok u) ts' marks = SaysAlso n ts (λ θ. HoldsTo θ eqns (length eqns)) ts' × Decided n ts' marks
Attempted n ts eqns (Err (At e)) ts' marks =
    (e < length eqns) × NoneTo n ts eqns (suc e) × SaysAlso n ts (λ θ. HoldsTo θ eqns e) ts' × Decided n ts' marks
Attempted n ts eqns (Err (UpTo e)) ts' marks = NoneTo n ts eqns (min (suc e) (length eqns))
