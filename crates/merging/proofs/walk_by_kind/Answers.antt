-- `walk_by_kind`: where all three are kept, the walk with constants is the walk.
use Rattle.sets.proofs.Base.{sym, ◌∙◌}
use Rattle.merging.proofs.CellMerge.{all_kept, union_ready, union_walked}
use Rattle.merging.proofs.walk_by_kind.Goals as goal

pub walk_rows-requires : goal.walk_rows-requires
walk_rows-requires c = let (x, y, z) = all_kept _ _ _ (sym c.eq.ensures ∙ c.if-eq.true) in union_ready x y z c.requires

pub returns-then-eq : goal.returns-then-eq
returns-then-eq c = let (x, y, z) = all_kept _ _ _ (sym c.eq.ensures ∙ c.if-eq.true) in union_walked x y z c.walk_rows.ensures

pub walk_rows-requires-2 : goal.walk_rows-requires-2
walk_rows-requires-2 c = c.requires

pub returns : goal.returns
returns c = c.walk_rows-2.ensures
