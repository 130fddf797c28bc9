-- `decides`: by the codes of kinds 1 to 3 and 5.
use Rattle.visits.proofs.JoinLaws.{decides_1, decides_2, decides_3, decides_5}
use Rattle.visits.proofs.decides.Goals as goal

pub returns-in-1 : goal.returns-in-1
returns-in-1 c = decides_1 c.args.p _ c.in-1.is c.then_some.ensures

pub returns-in-2 : goal.returns-in-2
returns-in-2 c = decides_2 c.args.p _ c.in-2.is c.then_some-in-2.ensures

pub returns-in-3 : goal.returns-in-3
returns-in-3 c = decides_3 c.args.p _ c.in-3.is c.then_some-in-3.ensures

pub returns-in_default : goal.returns-in_default
returns-in_default c = let n = c.in_default.in_default-own.rest in decides_5 c.args.p n.0.0.1 n.0.1 n.1
