-- `find`: the members passed are less than the value, so what is left of them decides.
use Rattle.products.proofs.Base.{◌-◌, List}
use Rattle.parts.proofs.Terms.{Value, FindPre}
use Rattle.parts.proofs.InsertLaws.{Finding}
use Rattle.parts.proofs.find.Given as goal

abbrev pub invariant-loop-i : goal.invariant-loop-i
invariant-loop-i l = (g : FindPre l.s l.p l.end l.from l.to) → (hi : List Value) × Finding g l.i hi

abbrev pub decreases-loop-i : goal.decreases-loop-i
decreases-loop-i l = l.to - l.i
