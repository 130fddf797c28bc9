-- Both classes are found; then they are one, or their shapes clash, or they are joined.
use lib.ListN.{length}
use Rattle.classes.proofs.Stacks.{BothFound, both_found, turn_same, turn_clash, turn_joined}
use Rattle.classes.proofs.turn.Goals as goal

pub returns-in_err-count : goal.returns-in_err-count
returns-in_err-count c =
    let s = c.args in
    let found : BothFound (length s.terms.now) s.terms.now s.e c.find-q.new.terms c.find-p.result c.find-q.result =
    both_found _ c.find-p.ensures c.find-q.ensures c.left_side.ensures c.right_side.ensures in
    rw c.from_residual.ensures (turn_clash c.requires found c.in_err-count.ensures)

pub returns-in_ok-count : goal.returns-in_ok-count
returns-in_ok-count c =
    let s = c.args in
    let found : BothFound (length s.terms.now) s.terms.now s.e c.find-q.new.terms c.find-p.result c.find-q.result =
    both_found _ c.find-p.ensures c.find-q.ensures c.left_side.ensures c.right_side.ensures in
    turn_joined {before = s.stack.now} {after = c.push.new.stack} c.requires found c.in_ok-count.ensures c.if-p-q.true c.join.ensures c.push.ensures

pub returns-else-p-q : goal.returns-else-p-q
returns-else-p-q c =
    let s = c.args in
    let found : BothFound (length s.terms.now) s.terms.now s.e c.find-q.new.terms c.find-p.result c.find-q.result =
    both_found _ c.find-p.ensures c.find-q.ensures c.left_side.ensures c.right_side.ensures in
    turn_same c.requires found c.if-p-q.false
