-- How a text grows in a lent buffer.
use Rattle.std.specs.Prelude.{ℕ, ◌+◌, ◌≤◌, ◌≡◌, List, length}
use Rattle.text.specs.declared.Text.{Text}
use Rattle.text.specs.Text.{Appends}

-- The buffer has room for these bytes after the text.
abbrev pub HasRoom : Text → List ℕ → Type 0
HasRoom before bytes = before.at + length bytes ≤ length before.out.now

-- The text has these bytes more, in the same buffer.
pub record TextGrown (before : Text) (bytes : List ℕ) (after : Text) : Type 0 where
  pub same_buffer : after.out.ghost_name ≡ before.out.ghost_name
  pub appended : Appends before.out.now before.at bytes after.at after.out.now
