-- `included`: a set with more members is not included; rows of cells are compared by cells, other sets are walked.
use Rattle.sets.proofs.Base.{ℕ, ◌+◌, ◌%◌, Bool, List, ◌≡◌, get_or}
use Rattle.sets.proofs.Terms.{Includes, RunIn}
use Rattle.arena.proofs.FrontLaws.{front_start}
use Rattle.sets.proofs.TurnLaws.{including_start, including_fewer, two_runs, two_rows}
use Rattle.sets.proofs.included.Goals as goal

-- What is told of the runs of members is told of the sets.
of_sets : {s : List ℕ} {a b m n : ℕ} → m ≡ get_or s a 0 % 4294967296 → n ≡ get_or s b 0 % 4294967296 → (r : Bool) →
    RunIn s (a + 1) m (b + 1) n r → Includes s a b r
of_sets d e r f vs ws h k = f vs ws (front_start _ _ _ vs h _ d) (front_start _ _ _ ws k _ e)

pub returns-then-m-n : goal.returns-then-m-n
returns-then-m-n c =
    of_sets c.low-m.ensures.0 c.low-n.ensures.0 _ λ vs ws f g. including_fewer (including_start _ _ _ _ _ vs ws f g) c.if-m-n.true

pub cells_included-requires : goal.cells_included-requires
cells_included-requires c =
    let q = c.requires in
    two_rows q.0.1 q.1.1 c.low-m.ensures.0 c.low-n.ensures.0 (c.of_cells.ensures c.if-of_cells.true)
    (c.of_cells-then-of_cells.ensures c.if-of_cells-2.true)

pub returns-then-of_cells-2 : goal.returns-then-of_cells-2
returns-then-of_cells-2 c =
    of_sets c.low-m.ensures.0 c.low-n.ensures.0 _ c.cells_included.ensures

pub walk_included-requires : goal.walk_included-requires
walk_included-requires c =
    let q = c.requires in
    two_runs q.0.1 q.1.1 c.low-m.ensures.0 c.low-n.ensures.0

pub returns : goal.returns
returns c =
    of_sets c.low-m.ensures.0 c.low-n.ensures.0 _ c.walk_included.ensures
