-- `joined`: by the codes of kinds 1 to 3 and 5; where the first truth decides, it is the answer.
use Rattle.visits.proofs.Terms.{and, or, implies}
use Rattle.visits.proofs.JoinLaws.{joined_by, joined_5}
use Rattle.visits.proofs.joined.Goals as goal

pub returns-then-p : goal.returns-then-p
returns-then-p c = let a = c.args in joined_by a.p a.q and c.in-1.is (rw c.if-p.true)

pub returns-else-p : goal.returns-else-p
returns-else-p c = let a = c.args in joined_by a.p a.q and c.in-1.is (rw c.if-p.false)

pub returns-then-p-2 : goal.returns-then-p-2
returns-then-p-2 c = let a = c.args in joined_by a.p a.q or c.in-2.is (rw c.if-p-2.true)

pub returns-else-p-2 : goal.returns-else-p-2
returns-else-p-2 c = let a = c.args in joined_by a.p a.q or c.in-2.is (rw c.if-p-2.false)

pub returns-then-not-p : goal.returns-then-not-p
returns-then-not-p c = let a = c.args in joined_by a.p a.q implies c.in-3.is (rw c.if-not-p.true)

pub returns-else-not-p : goal.returns-else-not-p
returns-else-not-p c = let a = c.args in joined_by a.p a.q implies c.in-3.is (rw c.if-not-p.false)

pub returns-in_default : goal.returns-in_default
returns-in_default c = let n = c.in_default.in_default-own.rest in joined_5 c.args.p c.args.q n.0.0.1 n.0.1 n.1
