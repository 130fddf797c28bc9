-- `merge`: sets alike, merged.
use mathlib.Core.Bool.{not}
use mathlib.Core.Path.{ap}
use Rattle.operations.proofs.Common.{t̂, ready_both, ready_sets, merge_unlike, merge_done}
use Rattle.operations.proofs.double.merge.Goals as goal

pub alike_sets-requires : goal.alike_sets-requires
alike_sets-requires c = ready_both c.requires.operands

pub returns-then-not-alike_sets : goal.returns-then-not-alike_sets
returns-then-not-alike_sets c = merge_unlike c.alike_sets.ensures (ap not c.if-not-alike_sets.true)

pub merge-pass-requires : goal.merge-pass-requires
merge-pass-requires c = ready_sets c.requires t̂ c.alike_sets.ensures (ap not c.if-not-alike_sets.false)

pub returns : goal.returns
returns c = merge_done c.requires.operands c.alike_sets.ensures (ap not c.if-not-alike_sets.false) c.merge-pass.ensures c.built.ensures
