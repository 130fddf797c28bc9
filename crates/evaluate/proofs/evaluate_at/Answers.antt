-- `evaluate_at`: without nodes the condition is true at once; otherwise it is that of the root.
use mathlib.Core.Path.{refl}
use Rattle.evaluate.proofs.EntryLaws.{absent_reported, node_ready, root_within, root_reported}
use Rattle.evaluate.proofs.evaluate_at.Goals as goal

pub returns-then-count-eq0 : goal.returns-then-count-eq0
returns-then-count-eq0 c = absent_reported c.requires c.nodes-count.ensures _ c.if-count-eq0.true refl refl

pub eval_pred-held-requires : goal.eval_pred-held-requires
eval_pred-held-requires c = node_ready c.requires c.nodes-count.ensures c.if-count-eq0.false

pub ended-requires : goal.ended-requires
ended-requires c = root_within c.requires c.nodes-count.ensures c.if-count-eq0.false c.eval_pred-held.ensures

pub returns : goal.returns
returns c = root_reported c.requires c.nodes-count.ensures c.if-count-eq0.false c.eval_pred-held.ensures c.ended.ensures
