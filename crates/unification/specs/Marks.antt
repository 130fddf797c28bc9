-- Marks of variables: 0 not resolved, 1 resolved with an unknown part, 2 ground. Sweeps resolve a class once its parts are.
use Rattle.std.specs.Prelude.{ℕ, zero, suc, ◌<◌, min, ◌≡◌, Bool, true, false, List, length, get_or, set}
use Rattle.unification.specs.Problem.{Shape, unknown, leaf, power, product}
use Rattle.unification.specs.Classes.{Graph, look, graph}

-- The mark of a shape, by its parts' marks.
abbrev pub status_of : (ℕ → ℕ) → Shape → ℕ
status_of f unknown = 1
status_of f (leaf a) = 2
status_of f (power v) = f v
status_of f (product v w) = min (f v) (f w)

-- The mark of v after k rounds over all variables at once.
abbrev pub status_after : Graph → ℕ → ℕ → ℕ
status_after g zero v = 0
status_after g (suc k) v = status_of (status_after g k) (g.sh (g.cls v))

-- A variable past the end has no shape: it is resolved and unknown.
abbrev pub mark_of : List ℕ → ℕ → ℕ
mark_of m v = get_or m v 1

abbrev pub or_else : ℕ → ℕ → ℕ
or_else zero x = x
or_else (suc k) x = suc k

unfoldable pub mark_one : (ℕ → Shape) → List ℕ → List ℕ → ℕ → List ℕ
mark_one sh l m v = set m v (or_else (mark_of m v) (status_of (mark_of m) (sh (look l v))))

-- The first i variables, in place.
unfoldable pub sweep_to : (ℕ → Shape) → List ℕ → ℕ → List ℕ → List ℕ
sweep_to sh l zero m = m
sweep_to sh l (suc i) m = mark_one sh l (sweep_to sh l i m) i

abbrev pub pos : ℕ → Bool
pos zero = false
pos (suc k) = true

abbrev pub tally : Bool → ℕ → ℕ
tally true k = suc k
tally false k = k

-- How many numbers below n pass a test.
abbrev pub count_below : (ℕ → Bool) → ℕ → ℕ
count_below f zero = 0
count_below f (suc n) = tally (f n) (count_below f n)

abbrev pub marked : ℕ → List ℕ → ℕ
marked n m = count_below (λ v. pos (mark_of m v)) n

-- What is marked has that status after K rounds.
abbrev pub Sound : (ℕ → Shape) → List ℕ → ℕ → List ℕ → Type 0
Sound sh l K m = (v : ℕ) → 0 < mark_of m v → status_after (graph sh l) K v ≡ mark_of m v

pub record SoundMarks (sh : ℕ → Shape) (l : List ℕ) (n : ℕ) (m : List ℕ) : Type 0 where
  pub rounds : ℕ
  pub sound : Sound sh l rounds m
  pub len : length m ≡ n

-- Whatever can be marked is.
abbrev pub Stalled : Graph → (ℕ → ℕ) → Type 0
Stalled g m = (v : ℕ) → 0 < status_of m (g.sh (g.cls v)) → 0 < m v

pub record Settled (sh : ℕ → Shape) (l : List ℕ) (n : ℕ) (m : List ℕ) : Type 0 where
  pub rounds : ℕ
  pub sound : Sound sh l rounds m
  pub stalled : Stalled (graph sh l) (mark_of m)
  pub len : length m ≡ n
