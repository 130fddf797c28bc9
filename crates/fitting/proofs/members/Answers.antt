-- `members`: the number in the cell, or 1 where the first member stands for all.
use mathlib.Core.Path.{sym}
use native.Mathlib.Omega.{arith}
use Rattle.fitting.proofs.Cells.{first_member, few_members}
use Rattle.fitting.proofs.members.Goals as goal

pub few-requires : goal.few-requires
few-requires c = λ l. first_member c.requires (omega (arith, c.low.ensures.0))

pub returns : goal.returns
returns c = few_members _ _ _ _ (sym c.low.ensures.0) c.few.ensures
