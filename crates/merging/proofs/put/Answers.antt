-- `put`: a run copied behind what has been built, if it is kept.
use Rattle.merging.proofs.BuildLaws.{put_copied}
use Rattle.merging.proofs.put.Goals as goal
use Rattle.merging.proofs.put.Goals.{then-keep, else-keep}

pub returns : goal.returns
returns c =
    put_copied _ c.requires c.copy_if-to.ensures
    (elim c.if-keep.branch [ then-keep w ↦ rw (w.more-is, w.if-keep.true) | else-keep w ↦ rw (w.more-is, w.if-keep.false) ])
