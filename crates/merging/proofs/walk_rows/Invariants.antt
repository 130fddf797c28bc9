-- `walk_rows`: each turn stores the lesser of the first cells, which is a turn of the merge; at the end one set is exhausted.
use Rattle.sets.proofs.Base.{◌+◌, ◌-◌}
use Rattle.merging.proofs.CellMerge.{RowsOn}
use Rattle.merging.proofs.walk_rows.Given as goal

-- What the loop does to any merge of rows with these ends that is on its way where the loop begins.
abbrev pub invariant-loop-i : goal.invariant-loop-i
invariant-loop-i l =
    RowsOn l.keeps.left l.keeps.both l.keeps.right l.end l.end2 l.initial.s l.initial.i l.initial.j l.initial.to l.initial.turns l.s l.i l.j l.to l.turns

abbrev pub decreases-loop-i : goal.decreases-loop-i
decreases-loop-i l = (l.end - l.i) + (l.end2 - l.j)
