-- What demands 1 and 2 speak of, after document 01, "Refusal list": the places that each refusal may name, and what refusals 11 to 13
-- find there.
use Rattle.std.specs.Prelude.{ℕ, suc, ◌+◌, ◌<◌, List, [], ◌∷◌, ◌≡◌, get_or, length}
use Rattle.rules.specs.Types.{Ty, weightᵀ}
use Rattle.rules.specs.Tables.{Table, given_count, identifier_count, node_count}
use Rattle.rules.specs.Ends.{End, done, refused}
use Rattle.rules.specs.Verdict.{Place, Typing, Whole, Only, type_limit}

-- The number of places that each refusal may name, by the refusals' numbers from 0 on: there is no refusal 0, and none above 19.
-- 1, 2, 3 and 10 name the place 0; 4 a given set; 5 and 9 an identifier; 6, 7, 8, 11 and 15 to 19 a node; 12 and 13 an identifier or,
-- behind these, a node; 14 an identifier, or I for surplus bytes.
abbrev pub refusal_places : List ℕ → List ℕ
refusal_places bs =
    let g = given_count bs in
    let i = identifier_count bs in
    let n = node_count bs in
    0 ∷ 1 ∷ 1 ∷ 1 ∷ g ∷ i ∷ n ∷ n ∷ n ∷ i ∷ 1 ∷ n ∷ (i + n) ∷ (i + n) ∷ (i + 1) ∷ n ∷ n ∷ n ∷ n ∷ n ∷ []

-- The refusal r may name the place p.
abbrev pub PlaceInRange : List ℕ → ℕ → ℕ → Type 0
PlaceInRange bs r p = p < get_or (refusal_places bs) r 0

-- An answer, or a refusal whose number and place have R.
abbrev pub RefusesOnly : {A : Type 0} → (ℕ → ℕ → Type 0) → End A → Type 0
RefusesOnly R (done a) = Unit {0}
RefusesOnly R (refused r p) = R r p

-- 11: the rules of the nodes 0 to k have no typing.
abbrev pub ClashesAt : Table → ℕ → Type 0
ClashesAt tb k = (k < length tb.nodes) × ((θ : ℕ → Ty) → Typing tb (suc k) θ → ⊥)

-- 12: two typings give the place p different types.
abbrev pub DifferAt : Table → ℕ → Type 0
DifferAt tb p = (θ : ℕ → Ty) × (κ : ℕ → Ty) × Whole tb θ × Whole tb κ × Place tb p × (θ p ≡ κ p → ⊥)

-- 13: the only typing gives the place p a type above the limit.
abbrev pub TooHeavyAt : Table → ℕ → Type 0
TooHeavyAt tb p = (θ : ℕ → Ty) × Only tb θ × Place tb p × (type_limit < weightᵀ (θ p))

-- p has P, and no lower number has it.
abbrev pub IsLeast : (ℕ → Type 0) → ℕ → Type 0
IsLeast P p = P p × ((q : ℕ) → q < p → P q → ⊥)
