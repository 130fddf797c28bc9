-- Links lead from v to x: at the start v itself, and after a turn two links on, with the link of x set past the first.
use Rattle.terms.proofs.TermLaws.{not_link}
use Rattle.classes.proofs.Shortening.{lead_below, lead_link, lead_next}
use Rattle.classes.proofs.find.Goals as goal

pub bounds-terms-y : goal.bounds-terms-y
bounds-terms-y c = (lead_below (lead_link c.loop-y.invariant c.in-Link.ensures)).0

pub returns-in_default-from : goal.returns-in_default-from
returns-in_default-from c = record {
  leads = lead_link c.loop-y.invariant c.in-Link.ensures;
  shape = not_link _ c.from-in-Link.result c.from-in-Link.ensures c.in_default-from.not-Link;
}

pub loop-y-smaller : goal.loop-y-smaller
loop-y-smaller c = (lead_next c.loop-y.invariant c.in-Link.ensures c.in-Link-from.ensures).1

pub loop-y-preserved : goal.loop-y-preserved
loop-y-preserved c = (lead_next c.loop-y.invariant c.in-Link.ensures c.in-Link-from.ensures).0
