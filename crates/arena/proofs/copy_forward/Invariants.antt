-- `copy_forward`: the first i cells have been copied, and nothing else is changed.
use Rattle.arena.specs.Code.{Copied}
use Rattle.arena.proofs.copy_forward.Given as goal

abbrev pub invariant-loop-i : goal.invariant-loop-i
invariant-loop-i l = Copied l.initial.s l.from l.i l.to l.s
