-- The problems of two small tables, by computation.
use Prim.Native.Nat.{ℕ}
use mathlib.Core.List.{[], ◌∷◌}
use mathlib.Core.Path.{◌≡◌, refl}
use Rattle.rules.specs.Types.{Ty}
use Rattle.rules.specs.Tables.{Table}
use Rattle.unification.specs.Problem.{unknown, power, product, eqn}
use Rattle.typing.specs.Equations.{base, shapes, equations, back}

-- x = {x}
abbrev tb : Table
tb = record {
  sizes = [];
  binds = 0 ∷ [];
  nodes =
      record { kind = 20; a = 0; b = 0; c = 0 } ∷ record { kind = 20; a = 0; b = 0; c = 0 } ∷
      record { kind = 27; a = 1; b = 0; c = 0 } ∷ record { kind = 6; a = 0; b = 2; c = 0 } ∷ [];
}

t0 : base tb 4 ≡ 5
unfolding base
t0 = refl

t1 : shapes tb 4 ≡ unknown ∷ unknown ∷ unknown ∷ power 2 ∷ unknown ∷ []
unfolding shapes
t1 = refl

t2 : equations tb 4 ≡ eqn 1 0 ∷ eqn 2 0 ∷ eqn 1 3 ∷ []
unfolding equations
t2 = refl

-- x ∈ s and s ⊆ dom r
abbrev tb2 : Table
tb2 = record {
  sizes = [];
  binds = 0 ∷ 0 ∷ 0 ∷ [];
  nodes =
      record { kind = 20; a = 0; b = 0; c = 0 } ∷ record { kind = 20; a = 1; b = 0; c = 0 } ∷ record { kind = 7; a = 0; b = 1; c = 0 } ∷
      record { kind = 20; a = 1; b = 0; c = 0 } ∷ record { kind = 20; a = 2; b = 0; c = 0 } ∷ record { kind = 35; a = 4; b = 0; c = 0 } ∷
      record { kind = 8; a = 3; b = 5; c = 0 } ∷ record { kind = 1; a = 2; b = 6; c = 0 } ∷ [];
}

t3 : shapes tb2 8 ≡ unknown ∷ unknown ∷ unknown ∷ unknown ∷ unknown ∷ unknown ∷ power 3 ∷ unknown ∷ unknown ∷
    power 10 ∷ unknown ∷ unknown ∷ product 10 11 ∷ power 12 ∷ unknown ∷ unknown ∷ power 15 ∷ unknown ∷ []
unfolding shapes
t3 = refl

t4 : equations tb2 8 ≡ eqn 3 0 ∷ eqn 4 1 ∷ eqn 4 6 ∷ eqn 7 1 ∷ eqn 8 2 ∷ eqn 8 13 ∷ eqn 7 16 ∷ eqn 9 16 ∷ []
unfolding equations
t4 = refl

t5 : (σ : ℕ → Ty) → back tb 4 σ 3 ≡ σ 3
unfolding back
t5 σ = refl
