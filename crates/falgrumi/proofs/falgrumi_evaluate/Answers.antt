-- `falgrumi_evaluate`: the number of an evaluation's refusal goes into a byte.
use mathlib.Core.Path.{sym, subst}
use Rattle.reports.specs.Told.{InByte}
use Rattle.falgrumi.proofs.EndNumbers.{evaluation_byte}
use Rattle.falgrumi.proofs.falgrumi_evaluate.Goals as goal

pub tell-requires : goal.tell-requires
tell-requires c = subst InByte (sym c.evaluate-e.ensures.0) (evaluation_byte _ _ _)
