-- After i turns the first i terms are the shapes.
use borrow.Author.Rules.{rules}
use mathlib.Core.Path.{refl}
use native.Mathlib.Omega.{arith}
use Rattle.unification.proofs.Loops.{fill_start, fill_turn}
use Rattle.checker.proofs.SolvingLaws.{copied}
use Rattle.checker.proofs.solving.copy.Goals as goal

pub loop-i-init : goal.loop-i-init
loop-i-init c = (fill_start _ _, refl)

pub loop-i-preserved : goal.loop-i-preserved
loop-i-preserved c = (fill_turn _ _ _ _ _ c.loop-i.invariant.0 refl, search rules)

pub returns : goal.returns
returns c = copied c.args.shapes.now c.args.terms.now _ c.loop-i.invariant.0 (omega arith) (omega arith) c.requires
