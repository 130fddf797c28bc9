-- `unite`: values that fit are merged, and the union is written.
use mathlib.Core.Bool.{not}
use mathlib.Core.Path.{ap}
use Rattle.rules.specs.Rules.{t̂}
use Rattle.operations.proofs.FitLaws.{ready_both}
use Rattle.operations.proofs.DoubleLaws.{ready_sets}
use Rattle.unions.proofs.UnionLaws.{unite_unfit, unite_heavy, unite_ready, unite_made}
use Rattle.unions.proofs.unite.Goals as goal

pub alike_sets-requires : goal.alike_sets-requires
alike_sets-requires c = ready_both c.requires.operands

pub returns-then-not-alike_sets : goal.returns-then-not-alike_sets
returns-then-not-alike_sets c = unite_unfit c.alike_sets.ensures (ap not c.if-not-alike_sets.true)

pub merge-pass-requires : goal.merge-pass-requires
merge-pass-requires c = ready_sets c.requires t̂ c.alike_sets.ensures (ap not c.if-not-alike_sets.false)

pub returns-in-None : goal.returns-in-None
returns-in-None c = unite_heavy c.alike_sets.ensures (ap not c.if-not-alike_sets.false) c.merge-pass.ensures c.in-None.is

pub write_value-bytes-requires : goal.write_value-bytes-requires
write_value-bytes-requires c =
    unite_ready c.alike_sets.ensures (ap not c.if-not-alike_sets.false) c.merge-pass.ensures c.in-Some.is c.requires

pub returns-in-Some : goal.returns-in-Some
returns-in-Some c =
    unite_made c.alike_sets.ensures (ap not c.if-not-alike_sets.false) c.merge-pass.ensures c.in-Some.is c.write_value-bytes.ensures
