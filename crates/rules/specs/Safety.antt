-- What demand 3 speaks of: the free identifiers, the ends other than refusal 15, and what holds of each value formed.
use Rattle.std.specs.Prelude.{ℕ, ◌≤◌, ◌<◌, List, [], ◌∷◌, ◌≡◌, get_or, length}
use Rattle.rules.specs.Tables.{Table}
use Rattle.rules.specs.Ends.{End, done, refused}

-- The identifiers of a table whose word is 0.
abbrev pub Free : Table → ℕ → Type 0
Free tb x = (x < length tb.binds) × (get_or tb.binds x 1 ≡ 0)

-- The refusals that are left: 16 to 19.
abbrev pub Left : ℕ → Type 0
Left r = (16 ≤ r) × (r ≤ 19)

-- An answer with Q, or a refusal that is left.
abbrev pub EndsSafely : {A : Type 0} → (A → Type 0) → End A → Type 0
EndsSafely Q (done a) = Q a
EndsSafely Q (refused r n) = Left r

-- The property that everything has.
abbrev pub Any : {A : Type 0} → A → Type 0
Any a = Unit {0}

-- Each member of a list has the property P.
abbrev pub All : {A : Type 0} → (A → Type 0) → List A → Type 0
All P [] = Unit {0}
All P (x ∷ xs) = P x × All P xs
