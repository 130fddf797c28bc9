-- `same`: no value's cells begin another's.
use Rattle.arena.proofs.Beginnings.{end_inside, same_begins}
use Rattle.arena.proofs.same.Goals as goal

pub slice_bounds-starts_with-end-2 : goal.slice_bounds-starts_with-end-2
slice_bounds-starts_with-end-2 c = end_inside c.args.s.now c.args.a c.args.b c.args.end c.requires.0 c.requires.2

pub returns : goal.returns
returns c = same_begins _ _ _ _ c.requires.0 c.requires.2 _ c.starts_with.ensures.value
