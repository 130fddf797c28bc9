-- `applies`: where the first value is a relation, the left parts of its pairs share a type with the argument.
use mathlib.Core.Bool.{true}
use mathlib.Core.List.{[], ◌∷◌}
use Rattle.rules.specs.Rules.{t̂, û, P̂, ◌×̂◌}
use Rattle.fitting.specs.Tests.{FitOne}
use Rattle.fitting.proofs.Cells.{inside}
use Rattle.fitting.proofs.Tests.{applies_not, relation_left, relation_few, applies_fit}
use Rattle.fitting.proofs.applies.Goals as goal

pub returns-then-not-is_relation : goal.returns-then-not-is_relation
returns-then-not-is_relation c = applies_not (rw c.if-not-is_relation.true at c.is_relation.ensures)

pub bounds-s-a : goal.bounds-s-a
bounds-s-a c = inside c.requires.first

pub few-k-requires : goal.few-k-requires
few-k-requires c =
    let fits : FitOne (P̂ (t̂ ×̂ û) ∷ []) c.args.s.now c.args.a true = rw c.if-not-is_relation.false at c.is_relation.ensures in
    λ l. relation_left fits c.low-n.ensures.0 c.requires.first l

pub lefts-requires : goal.lefts-requires
lefts-requires c =
    let fits : FitOne (P̂ (t̂ ×̂ û) ∷ []) c.args.s.now c.args.a true = rw c.if-not-is_relation.false at c.is_relation.ensures in
    relation_few fits c.low-n.ensures.0 c.requires c.few-k.ensures

pub returns : goal.returns
returns c =
    let fits : FitOne (P̂ (t̂ ×̂ û) ∷ []) c.args.s.now c.args.a true = rw c.if-not-is_relation.false at c.is_relation.ensures in
    applies_fit fits c.low-n.ensures.0 _ _ _ c.few-k.ensures c.lefts.ensures
