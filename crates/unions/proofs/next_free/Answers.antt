-- `next_free`: the identifiers from x on that have been passed are bound; a word 0 is that of a free one.
use mathlib.Core.Path.{sym, ◌∙◌}
use native.Mathlib.Omega.{arith}
use Rattle.laws.proofs.TableLaws.{binds_length}
use Rattle.unions.proofs.next_free.Goals as goal

pub returns-then-bind-eq0 : goal.returns-then-bind-eq0
returns-then-bind-eq0 c = record {
  behind = omega arith;
  named = omega (arith, binds_length c.args.table.now, c.identifiers-y-end.ensures);
  here = sym (c.bind.ensures 0) ∙ c.if-bind-eq0.true;
  others = c.loop-y.invariant;
}

pub returns : goal.returns
returns c = λ i l m. c.loop-y.invariant i l (omega (arith, binds_length c.args.table.now, c.identifiers-y-end.ensures))
