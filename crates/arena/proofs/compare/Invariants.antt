-- `compare`: nothing has decided so far; cells that differ decide, a set with members leaves all to `compare_whole`, and other cells that agree
-- are passed.
use Rattle.rules.specs.Values.{Value}
use Rattle.arena.specs.Code.{ValueAt, CellsFit}
use Rattle.arena.proofs.CompareLaws.{Undecided}
use Rattle.arena.proofs.compare.Given as goal

abbrev pub invariant-loop-i : goal.invariant-loop-i
invariant-loop-i l = (v w : Value) → ValueAt l.s l.a v → ValueAt l.s l.b w → CellsFit v → CellsFit w → Undecided l.s l.a l.b l.i v w
