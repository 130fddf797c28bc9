-- The places of a table and their variables.
use Rattle.std.specs.Prelude.{ℕ, ◌+◌, ◌-◌, ◌≤◌, ◌<◌, cond, List, ltb, get_or, length}
use Rattle.rules.specs.Tables.{Table}
use Rattle.rules.specs.Verdict.{Place}
use Rattle.typing.specs.Equations.{base}

-- The variable of a place.
abbrev pub place_var : Table → ℕ → ℕ
place_var tb p = cond (ltb p (length tb.binds)) p (base tb (p - length tb.binds))

abbrev pub place_count : Table → ℕ
place_count tb = length tb.binds + length tb.nodes

-- p is the least place where P fails, or the number of places where it fails nowhere.
pub record LeastPlace (tb : Table) (P : ℕ → Type 0) (p : ℕ) : Type 0 where
  pub inside : p ≤ place_count tb
  pub below : (q : ℕ) → q < p → Place tb q → P q
  pub here : p < place_count tb → Place tb p × (P p → ⊥)

-- The type of a place is determined, by the marks of the variables.
abbrev pub GroundAt : Table → List ℕ → ℕ → Type 0
GroundAt tb mark p = 2 ≤ get_or mark (place_var tb p) 1
