-- `is_relation`: a set without members, or one whose first member is a pair.
use Prim.Native.Nat.{◌%◌}
use mathlib.Core.Logic.{◌≢◌}
use mathlib.Core.Path.{◌∙◌}
use lib.ListN.{get_or}
use native.Mathlib.Omega.{arith}
use borrow.Author.Tests.{eqb-true, eqb-false, eq-eqb, ne_eqb}
use Rattle.fitting.specs.Agree.{SetHere}
use Rattle.fitting.proofs.Cells.{inside, first_member}
use Rattle.fitting.proofs.Tests.{relation_not, relation_none, relation_first}
use Rattle.fitting.proofs.is_relation.Goals as goal

pub bounds-s-a : goal.bounds-s-a
bounds-s-a c = inside c.requires

pub returns-else-tag-eq-SET_TAG : goal.returns-else-tag-eq-SET_TAG
returns-else-tag-eq-SET_TAG c = rw (ne_eqb _ 5 c.if-tag-eq-SET_TAG.false) (relation_not (λ e. c.if-tag-eq-SET_TAG.false (c.tag.ensures ∙ e)))

pub returns-then-low-eq0 : goal.returns-then-low-eq0
returns-then-low-eq0 c =
    let a_set : SetHere c.args.s.now c.args.a = record { value = c.requires; is_set = omega (arith, c.if-tag-eq-SET_TAG.true, c.tag.ensures) } in
    rw (eq-eqb _ 0 c.if-low-eq0.true) (relation_none a_set.is_set (omega (arith, c.if-low-eq0.true, c.low.ensures.0)))

pub bounds-s-a-else-low-eq0 : goal.bounds-s-a-else-low-eq0
bounds-s-a-else-low-eq0 c =
    let a_set : SetHere c.args.s.now c.args.a = record { value = c.requires; is_set = omega (arith, c.if-tag-eq-SET_TAG.true, c.tag.ensures) } in
    let filled : get_or c.args.s.now c.args.a 0 % 4294967296 ≢ 0 = λ e. c.if-low-eq0.false (c.low.ensures.0 ∙ e) in
    inside (first_member a_set (omega (arith, filled)))

pub returns-else-low-eq0 : goal.returns-else-low-eq0
returns-else-low-eq0 c =
    let a_set : SetHere c.args.s.now c.args.a = record { value = c.requires; is_set = omega (arith, c.if-tag-eq-SET_TAG.true, c.tag.ensures) } in
    let filled : get_or c.args.s.now c.args.a 0 % 4294967296 ≢ 0 = λ e. c.if-low-eq0.false (c.low.ensures.0 ∙ e) in
    relation_first a_set.is_set filled
    (λ e. omega (arith, eqb-true, c.tag-else-low-eq0.ensures)) (λ e q. omega (arith, eqb-false, c.tag-else-low-eq0.ensures))
