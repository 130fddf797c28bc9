-- Words put on one another in a lent buffer.
use Rattle.std.specs.Prelude.{ℕ, ◌-◌, ◌<◌, ◌≡◌, List, get_or, Option, MatchOption}
use Rattle.terms.specs.declared.Stack.{Stack}

-- The stack has these words and this height, in the same buffer.
pub record Stacked (before : Stack) (held : List ℕ) (h : ℕ) (after : Stack) : Type 0 where
  pub same_buffer : after.words.ghost_name ≡ before.words.ghost_name
  pub words : after.words.now ≡ held
  pub height : after.height ≡ h

-- The word on top, none where the stack is empty.
abbrev pub TopIs : Stack → Option ℕ → Type 0
TopIs s r = MatchOption r (s.height ≡ 0) (λ w. (0 < s.height) × (w ≡ get_or s.words.now (s.height - 1) 0))
