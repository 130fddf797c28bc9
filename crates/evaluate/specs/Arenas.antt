-- The arenas that an evaluation may be made in, and the room that it needs: a cell for each node's constant, one for identifiers without a value, the
-- values' cells, and what the condition takes above them.
use Rattle.std.specs.Prelude.{ℕ, ◌+◌, ◌*◌, ◌≤◌, ◌<◌, List, ◌≡◌, length, get_or}
use Rattle.rules.specs.Cells.{no_value}
use Rattle.rules.specs.Tables.{table_of, node_count, identifier_count}
use Rattle.rules.specs.Reading.{height_limit}
use Rattle.rules.specs.Readable.{Readable}
use Rattle.rules.specs.Values.{Value}
use Rattle.rules.specs.Operations.{Env}
use Rattle.rules.specs.Evaluation.{run}
use Rattle.reading.specs.Answers.{root_height}
use Rattle.buffer.specs.Buffer.{cells_at_most}
use Rattle.constants.specs.Built.{Builds}
use Rattle.visits.specs.Cycle.{condition_cells, Binds}
use Rattle.reports.specs.declared.Evaluation.{Evaluation}
use Rattle.reports.specs.Result.{Reported}

-- What the root takes, which is a condition, where any node builds a value.
abbrev pub root_cells : List ℕ → ℕ
root_cells bs = condition_cells (root_height (table_of bs))

-- The cells of constants and values.
abbrev pub standing_cells : List ℕ → List ℕ → ℕ
standing_cells bs values = 1 + node_count bs + cells_at_most (identifier_count bs) (length values)

pub record Needs (bs values : List ℕ) (size : ℕ) : Type 0 where
  pub readable : Readable bs
  pub enough : standing_cells bs values ≤ size
  pub room : Builds bs → standing_cells bs values + root_cells bs ≤ size

pub record ArenaReady (bs values s : List ℕ) : Type 0 where
  pub needs : Needs bs values (length s)
  pub small : length s < 65536

-- The cells of the largest arena: room for 512 nodes, 32 values of 256 cells and the highest root.
abbrev pub largest_arena : ℕ
largest_arena = 1 + 512 + 32 * 256 + condition_cells height_limit

-- Room for what the condition takes.
pub record RoomFor (bs : List ℕ) (r : ℕ) : Type 0 where
  pub enough : Builds bs → root_cells bs ≤ r
  pub most : r ≤ condition_cells height_limit

-- What a readable table and its values need has been computed.
pub record Measured (bs values : List ℕ) (need : ℕ) : Type 0 where
  pub needs : Needs bs values need
  pub most : need ≤ largest_arena

-- The condition may be evaluated over values that stand below `top`, and its end is told for all values that the environment binds so.
pub record RootReady (bs env s : List ℕ) (top : ℕ) : Type 0 where
  pub readable : Readable bs
  pub room : Builds bs → top + root_cells bs ≤ length s
  pub small : length s < 65536
  pub entries : length env ≡ 32
  pub values : Env
  pub binds : Binds bs s top env values

abbrev pub RootReported : List ℕ → List ℕ → List ℕ → ℕ → ℕ → Evaluation → Type 0
RootReported bs env s top budget r =
    (vs : List Value) → Binds bs s top env (λ x. get_or vs x no_value) → Reported (run (table_of bs) vs budget) r

-- The entries env' bind whatever values env binds.
pub record Rebinds (bs s env env' : List ℕ) : Type 0 where
  pub entries : length env' ≡ 32
  pub binds : (top : ℕ) (ρ : Env) → Binds bs s top env ρ → Binds bs s top env' ρ
