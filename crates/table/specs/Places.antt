-- What a search among the places below a bound answers.
use Rattle.std.specs.Prelude.{ℕ, Option, None, Some}
use Rattle.std.proofs.Math.Option.{Option as Maybe, none as nothing, some}

-- An answer of the code, in the terms of the rules.
abbrev pub found_place : Option ℕ → Maybe ℕ
found_place None = nothing
found_place (Some p) = some p
