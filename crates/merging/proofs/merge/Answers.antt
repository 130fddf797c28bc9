-- `merge`: rows of cells are merged by cells, other sets are walked.
use Rattle.sets.proofs.Base.{ℕ, ◌+◌, ◌%◌, Bool, List, ◌≡◌, get_or}
use Rattle.merging.proofs.Terms.{Pass, RunsMerge, Merges}
use Rattle.arena.proofs.FrontLaws.{front_start}
use Rattle.sets.proofs.TurnLaws.{two_runs, two_rows}
use Rattle.merging.proofs.merge.Goals as goal

-- What is built of the runs of members is built of the sets.
of_sets : {left both right : Bool} {s : List ℕ} {a b m n top : ℕ} → m ≡ get_or s a 0 % 4294967296 → n ≡ get_or s b 0 % 4294967296 →
    (s' : List ℕ) (p : Pass) → RunsMerge left both right s (a + 1) m (b + 1) n top s' p → Merges left both right s a b top s' p
of_sets d e s' p f vs ws h k = f vs ws (front_start _ _ _ vs h _ d) (front_start _ _ _ ws k _ e)

pub merge_cells-requires : goal.merge_cells-requires
merge_cells-requires c =
    let q = c.requires in
    record {
      rows = two_rows q.0.1 q.1.1 c.low.ensures.0 c.low-2.ensures.0 (c.of_cells.ensures c.if-of_cells.true)
          (c.of_cells-then-of_cells.ensures c.if-of_cells-2.true);
      room = q.2;
    }

pub returns-then-of_cells-2 : goal.returns-then-of_cells-2
returns-then-of_cells-2 c =
    of_sets c.low.ensures.0 c.low-2.ensures.0 _ _ c.merge_cells.ensures

pub walk_merge-requires : goal.walk_merge-requires
walk_merge-requires c =
    let q = c.requires in
    record { runs = two_runs q.0.1 q.1.1 c.low.ensures.0 c.low-2.ensures.0; room = q.2 }

pub returns : goal.returns
returns c =
    of_sets c.low.ensures.0 c.low-2.ensures.0 _ _ c.walk_merge.ensures
