-- A word of 32 bits as a set of numbers: x is in it where bit x is set. What the words of refusal 9 hold.
use Rattle.std.specs.Prelude.{ℕ, ◌/◌, ◌%◌, ◌^◌, Bool, List, ◌≡◌, eqb, leb, get_or}
use Rattle.rules.specs.Tables.{table_of, node_at}
use Rattle.rules.specs.Reading.{binds_here, binders, occurs_in_root}
use Rattle.binding.specs.declared.Names.{Names}

unfoldable pub has_bit : ℕ → ℕ → Bool
has_bit w x = eqb (w / 2 ^ x % 2) 1

-- The word of the numbers that pass a test.
abbrev pub WordIs : (ℕ → Bool) → ℕ → Type 0
WordIs p w = (x : ℕ) → has_bit w x ≡ p x

-- Whether x is in the word of node m.
abbrev pub free_in : List ℕ → ℕ → ℕ → Bool
free_in names x m = has_bit (get_or names m 0) x

-- The identifier that node n binds, if it binds one.
abbrev pub BoundAt : List ℕ → ℕ → ℕ → Type 0
BoundAt bs n w = WordIs (λ x. binds_here x (node_at (table_of bs).nodes n)) w

-- The identifiers of a whole table.
pub record Named (bs : List ℕ) (names : Names) : Type 0 where
  pub bound : WordIs (λ x. leb 1 (binders (table_of bs).nodes x)) names.bound
  pub twice : WordIs (λ x. leb 2 (binders (table_of bs).nodes x)) names.twice
  pub free : WordIs (occurs_in_root (table_of bs).nodes) names.free
