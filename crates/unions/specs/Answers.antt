-- What the merge of two lent sets answers and writes, and what its parts do.
use Rattle.std.specs.Prelude.{Option, Some, None, Result, Ok, Err, ℕ, ◌+◌, ◌*◌, ◌≤◌, ◌<◌, List, ◌≢◌, ◌≡◌, length, get_or}
use Rattle.rules.specs.Values.{Value, weight}
use Rattle.rules.specs.Ends.{End, done, refused}
use Rattle.rules.specs.Cells.{cells}
use Rattle.rules.specs.Tables.{table_of, identifier_count}
use Rattle.rules.specs.Readable.{Readable}
use Rattle.rules.specs.Merges.{Union, unites, heavy, unfit, union_of, union_in}
use Rattle.buffer.specs.Buffer.{cells_at_most}
use Rattle.buffer.specs.Loaded.{Bound, LoadReady}
use Rattle.operations.specs.Good.{Sizes, GoodAt}
use Rattle.writing.specs.Written.{written}
use Rattle.unions.specs.declared.Merged.{Merged}
use Rattle.unions.specs.declared.MergeError.{MergeError}
use Rattle.unions.specs.declared.MergeError.TheVariants.{Refused, Unfit, Heavy}

-- The answer of the code for what is meant.
abbrev pub merge_answered : End Union → Result Merged MergeError
merge_answered (refused k p) = Err (Refused (record { number = k; place = p }))
merge_answered (done (unites n v)) = Ok (record { comparisons = n; bytes = 8 * weight v })
merge_answered (done (heavy n)) = Err (Heavy n)
merge_answered (done unfit) = Err Unfit

-- The lent buffer at exit: the cells of the union, if they fit there; untouched for every other answer.
abbrev pub cells_after : End Union → List ℕ → List ℕ
cells_after (refused k p) out = out
cells_after (done (unites n v)) out = written out (cells v)
cells_after (done (heavy n)) out = out
cells_after (done unfit) out = out

-- Both.
pub record Tells (e : End Union) (out out' : List ℕ) (r : Result Merged MergeError) : Type 0 where
  pub answer : r ≡ merge_answered e
  pub buffer : out' ≡ cells_after e out

abbrev pub MergeAnswers : List ℕ → List ℕ → List ℕ → List ℕ → Result Merged MergeError → Type 0
MergeAnswers bs values out out' r = Tells (union_in bs values) out out' r

-- So for two good values that stand at a and b.
abbrev pub Unites : List ℕ → ℕ → ℕ → ℕ → List ℕ → List ℕ → Result Merged MergeError → Type 0
Unites s a b top out out' r =
    (gs : List ℕ) (v w : Value) → Sizes gs → GoodAt gs s top a v → GoodAt gs s top b w → Tells (done (union_of v w)) out out' r

-- The words from x up to r are not 0: bound identifiers.
abbrev pub Passed : List ℕ → ℕ → ℕ → Type 0
Passed ws x r = (i : ℕ) → x ≤ i → i < r → get_or ws i 0 ≢ 0

-- r is the least free identifier from x on.
pub record LeastFree (ws : List ℕ) (x r : ℕ) : Type 0 where
  pub behind : x ≤ r
  pub named : r < length ws
  pub here : get_or ws r 0 ≡ 0
  pub others : Passed ws x r

-- It, or there is none.
abbrev pub NextFree : List ℕ → ℕ → Option ℕ → Type 0
NextFree ws x (Some r) = LeastFree ws x r
NextFree ws x None = Passed ws x (length ws)

-- The values of some buffer have been read, and there is room for a merge above them.
pub record MergeReady (bs env s : List ℕ) (top : ℕ) : Type 0 where
  pub readable : Readable bs
  pub buffer : List ℕ
  pub bound : Bound (table_of bs).sizes (table_of bs).binds buffer s env 0 top
  pub room : top + 514 ≤ length s

-- What is told of each buffer whose values these are.
abbrev pub LoadedMerges : List ℕ → List ℕ → List ℕ → ℕ → List ℕ → List ℕ → Result Merged MergeError → Type 0
LoadedMerges bs env s top out out' r =
    (buffer : List ℕ) → Bound (table_of bs).sizes (table_of bs).binds buffer s env 0 top → MergeAnswers bs buffer out out' r

-- An arena for the values of a readable table and a merge above them.
pub record ArenaFits (bs values s : List ℕ) : Type 0 where
  pub load : LoadReady bs values s 0
  pub room : 1 + cells_at_most (identifier_count bs) (length values) + 514 ≤ length s
