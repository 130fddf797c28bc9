-- The codes of types without parts, as `atom_from` reads them.
use Rattle.std.specs.Prelude.{ℕ, ◌<◌, ◌≤◌, ◌≡◌, ◌⊎◌}

-- One byte of a row each: two of them are equal just where the types are.
abbrev pub AtomCode : ℕ → Type 0
AtomCode c = (c ≡ 1) ⊎ ((c ≡ 2) ⊎ ((16 ≤ c) × (c < 256)))
