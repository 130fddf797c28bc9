-- For callers: the solutions of a solved problem, from its fields. The variables marked ground are fixed; another mark is below 2.
use Prim.Native.Nat.{ℕ, ◌≤◌, ◌<◌}
use mathlib.Core.List.{List}
use native.Mathlib.Omega.{arith}
use lib.ListN.{get_or}
use Rattle.unification.specs.Problem.{Shape, Eqn}
use Rattle.unification.specs.Solved.{Solutions, Solved}

abbrev pub solutions : {sh : ℕ → Shape} {n : ℕ} {es : List Eqn} {cls mark : List ℕ} →
    Solved sh n es cls mark → Solutions sh n es (λ v. 2 ≤ get_or mark v 1)
solutions {mark = mark} s = record {
  first = s.first;
  second = s.second;
  first_solves = s.first_solves;
  second_solves = s.second_solves;
  declared = s.declared;
  agree = s.ground;
  differ = λ v h m. s.differ v h (below (get_or mark v 1) m);
}
  where
    below : (m : ℕ) → (2 ≤ m → ⊥) → m < 2
    below m f = omega arith
