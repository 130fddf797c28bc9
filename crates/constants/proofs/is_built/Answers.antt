-- The codes that the test names are those of the kinds that build.
use native.Mathlib.Omega.{arith}
use Rattle.constants.proofs.BuiltLaws.{built_alone, built_range, not_built}
use Rattle.constants.proofs.is_built.Goals as goal

pub returns-in-21 : goal.returns-in-21
returns-in-21 c = built_alone c.args.kind (λ n. omega arith)

pub returns-in-21-2 : goal.returns-in-21-2
returns-in-21-2 c = built_range c.args.kind (omega arith) (omega arith)

pub returns-in_default : goal.returns-in_default
returns-in_default c = not_built c.args.kind (grind arith) (grind arith) (grind arith)

pub returns-in_default-2 : goal.returns-in_default-2
returns-in_default-2 c = not_built c.args.kind (λ e. omega arith) (λ e. omega arith) (λ l. omega arith)
