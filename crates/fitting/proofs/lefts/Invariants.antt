-- `lefts`: the pairs that are left decide.
use Rattle.rules.specs.Fits.{every, ◌×ˢ◌, types_of}
use Rattle.fitting.specs.Tests.{PairsAndOne}
use Rattle.fitting.proofs.Cells.{Rest}
use Rattle.fitting.proofs.lefts.Given as goal

abbrev pub invariant-loop-left : goal.invariant-loop-left
invariant-loop-left l = (p : PairsAndOne l.s l.a l.n l.b) → Rest l.s l.i l.left (types_of p.second.0 ×ˢ every) p.values
