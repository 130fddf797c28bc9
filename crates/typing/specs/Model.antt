-- Check's answer as a function: refusals 1 to 13 in order, or the sheet. `verdict_right` in proofs/VerdictRight.antt says
-- that it is the answer that document 01 describes.
use Rattle.std.specs.Prelude.{ℕ, suc, ◌-◌, Bool, true, false, not, ◌||◌, List, eqb, leb, ltb, get_or, length}
use Rattle.std.proofs.Math.Option.{Option, none as nothing, some}
use Rattle.rules.specs.Types.{Ty, weightᵀ}
use Rattle.rules.specs.Kinds.{kind_of, expression}
use Rattle.rules.specs.Tables.{Table, kind_at}
use Rattle.rules.specs.Ends.{End, done, refused, ◌>>=◌, require, require_all}
use Rattle.rules.specs.Reading.{reading, category_is}
use Rattle.rules.specs.Verdict.{type_limit, sheet_of, sheet_length}
use Rattle.unification.specs.Problem.{Shape, unknown}
use Rattle.unification.specs.Model.{model_solve, type_from}
use Rattle.typing.specs.Equations.{base, shapes, equations}
use Rattle.typing.specs.Places.{place_count, place_var}

-- Whether a place has a type: a node that is a predicate has none.
unfoldable pub is_place : Table → ℕ → Bool
unfolding kind_of
is_place tb p = ltb p (length tb.binds) || category_is expression (kind_at tb.nodes (p - length tb.binds))

-- The classes and marks of the nodes below k, where sh are the shapes of the table's variables.
unfoldable pub solve_below : (ℕ → Shape) → Table → ℕ → Option (List ℕ × List ℕ)
unfolding model_solve base equations
solve_below sh tb k = model_solve sh (base tb k) (equations tb k)

abbrev pub is_some : Option (List ℕ × List ℕ) → Bool
is_some nothing = false
is_some (some r) = true

-- 11: the rules of the nodes below k have a typing.
unfoldable pub solvable : (ℕ → Shape) → Table → ℕ → Bool
unfolding solve_below
solvable sh tb k = is_some (solve_below sh tb k)

-- 12: all typings are the same at p.
unfoldable pub settled : Table → List ℕ → ℕ → Bool
unfolding is_place base
settled tb mark p = not (is_place tb p) || leb 2 (get_or mark (place_var tb p) 1)

-- The types of the places, where they weigh no more than a type may.
unfoldable pub types : (ℕ → Shape) → Table → List ℕ → ℕ → Ty
unfolding type_from base
types sh tb cls p = type_from sh cls type_limit (place_var tb p)

-- 13: the type at p weighs no more than a type may.
unfoldable pub light : Table → (ℕ → Ty) → ℕ → Bool
unfolding is_place
light tb θ p = not (is_place tb p) || leb (weightᵀ (θ p)) type_limit

-- Refusals 12 and 13, or the sheet, from the classes and marks of the whole table.
unfoldable pub sheet_or_refusal : (ℕ → Shape) → Table → Option (List ℕ × List ℕ) → End (List ℕ)
unfolding settled types light require_all sheet_of
sheet_or_refusal sh tb nothing = refused 11 0  -- not reached: refusal 11 comes before
sheet_or_refusal sh tb (some r) = do
  _ ← require_all 12 (settled tb r.1) (place_count tb)
  _ ← require_all 13 (light tb (types sh tb r.0)) (place_count tb)
  done (sheet_of tb (types sh tb r.0))

-- Refusals 11 to 13, or the sheet.
unfoldable pub checked : List Shape → Table → End (List ℕ)
unfolding solvable solve_below sheet_or_refusal require_all
checked shs tb = do
  _ ← require_all 11 (λ k. solvable (λ v. get_or shs v unknown) tb (suc k)) (length tb.nodes)
  sheet_or_refusal (λ v. get_or shs v unknown) tb (solve_below (λ v. get_or shs v unknown) tb (length tb.nodes))

unfoldable pub verdict : List ℕ → ℕ → End (List ℕ)
unfolding reading shapes checked
verdict bs room = do
  tb ← reading bs
  _ ← require 10 0 (eqb room (sheet_length tb))
  checked (shapes tb (length tb.nodes)) tb
