-- `value_end`: a set whose members are one cell each ends as many cells behind its own as it has members; other values are walked.
use Rattle.sets.proofs.Base.{subst, arith, length}
use Rattle.sets.proofs.Terms.{SomeSet, EndsAt}
use Rattle.sets.proofs.RowLaws.{fine_set, cells_ends}
use Rattle.sets.proofs.value_end.Goals as goal

pub of_cells-requires : goal.of_cells-requires
of_cells-requires c =
    let is_set_law : SomeSet c.args.s.now (length c.args.s.now) c.args.a = fine_set _ _ c.requires (omega (arith, c.if-s-a-ge-SET.true)) in
    (_, is_set_law)

pub returns-then-of_cells : goal.returns-then-of_cells
returns-then-of_cells c =
    let is_set_law : SomeSet c.args.s.now (length c.args.s.now) c.args.a = fine_set _ _ c.requires (omega (arith, c.if-s-a-ge-SET.true)) in
    subst (EndsAt _ _) (omega (arith, c.low.ensures.0))
    (cells_ends is_set_law.1 (c.of_cells.ensures c.if-of_cells.true))
