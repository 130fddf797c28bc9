-- Forms that stand one behind the other in prefix order.
use Rattle.std.specs.Prelude.{ℕ, zero, suc, ◌+◌, ◌-◌, ◌<◌, ◌≤◌, List, [], ◌∷◌, ◌≡◌}

-- The first n elements of xs are `left` forms, where P says how many forms follow an element as its parts.
unfoldable pub Forms : {T : Type 0} → (T → ℕ → Type 0) → ℕ → List T → ℕ → Type 0
Forms P zero xs left = left ≡ 0
Forms P (suc n) [] left = ⊥
Forms P (suc n) (x ∷ xs) left = (0 < left) × (left ≤ suc n) × ((r : ℕ) → P x r → Forms P n xs (left - 1 + r))
