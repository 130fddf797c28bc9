-- By the ranges of the kind codes; a code of none of them has no rule.
use native.Mathlib.Omega.{arith}
use Rattle.constraints.proofs.RuleLaws.{low_rule, between_rule, above_rule}
use Rattle.constraints.proofs.rule.Goals.{in_default-via-then-kind-lt1}
use Rattle.constraints.proofs.rule.Goals.{in_default-via-else-kind-lt1+else-kind-lt12+then-kind-lt20}
use Rattle.constraints.proofs.rule.Goals.{in_default-via-else-kind-lt1+else-kind-lt12+else-kind-lt20+else-kind-lt27+else-kind-lt35+else-kind-lt44}
use Rattle.constraints.proofs.rule.Goals as goal

pub returns-in-20-to-26 : goal.returns-in-20-to-26
returns-in-20-to-26 c = c.leaf_rule.ensures _ _

pub returns-in_default : goal.returns-in_default
returns-in_default c =
    elim c.in_default.branch [
      | in_default-via-then-kind-lt1 w ↦ low_rule c.words.ensures (omega arith)
      | in_default-via-else-kind-lt1+else-kind-lt12+then-kind-lt20 w ↦ between_rule c.words.ensures (omega arith) (omega arith)
      | in_default-via-else-kind-lt1+else-kind-lt12+else-kind-lt20+else-kind-lt27+else-kind-lt35+else-kind-lt44 w ↦
          above_rule c.words.ensures (omega arith)
    ]
