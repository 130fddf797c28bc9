-- The cycle of the test of a value against a type. In `all_of_type` the values that are left decide; `has_type` goes by the tag of the value's cell
-- and the first code of the type.
use Prim.Native.Nat.{◌+◌, ◌-◌}
use mathlib.Core.Path.{◌≡◌, sym, ◌∙◌}
use native.Mathlib.Omega.{arith}
use borrow.Author.Tests.{ne_eqb}
use Rattle.arena.proofs.ValueParts.{some_inside}
use Rattle.fitting.proofs.Types.{type_inside, ends_behind, is_atom, set_no, pair_no, of_some, set_asks, pair_asks}
use Rattle.fitting.proofs.Types.{left_first, left_end, left_no, left_yes}
use Rattle.fitting.proofs.+all_of_type_has_type.Goals as goal

pub all_of_type-loop-init : goal.all_of_type-loop-init
all_of_type-loop-init t c =
    let whole : c.args.n - 0 ≡ c.args.n = omega arith in (
      omega arith,
      λ p. rw whole (p.values, record { stands = p.stands; fits = p.fits; counted = p.counted; tells = λ r d. d }),
    )

pub all_of_type-has_type-requires : goal.all_of_type-has_type-requires
all_of_type-has_type-requires t c =
    let next = left_first (c.loop.invariant.1 c.requires) (omega arith) in
    (omega (arith, c.decreases, c.loop.invariant.0), (next, c.requires.type))

pub all_of_type-returns-then-not-has_type : goal.all_of_type-returns-then-not-has_type
all_of_type-returns-then-not-has_type t c = λ p.
    left_no p.type.1 (omega arith) c.has_type.ensures (c.loop.invariant.1 p) c.if-not-has_type.true

pub all_of_type-end_of-i-requires : goal.all_of_type-end_of-i-requires
all_of_type-end_of-i-requires t c = left_first (c.loop.invariant.1 c.requires) (omega arith)

pub all_of_type-loop-preserved : goal.all_of_type-loop-preserved
all_of_type-loop-preserved t c =
    let next = left_first (c.loop.invariant.1 c.requires) (omega arith) in
    let e = c.end_of-i.ensures in
    let fewer : c.args.n - c.loop.counter - 1 ≡ c.args.n - (c.loop.counter + 1) = omega arith in (
      omega (arith, c.loop.invariant.0, ends_behind next e),
      λ p. rw (← fewer) (left_yes p.type.1 (omega arith) c.has_type.ensures (c.loop.invariant.1 p) c.if-not-has_type.false e),
    )

pub all_of_type-returns : goal.all_of_type-returns
all_of_type-returns t c = λ p. left_end (c.loop.invariant.1 p) (omega arith)

pub has_type-bounds-s-at : goal.has_type-bounds-s-at
has_type-bounds-s-at t c = some_inside _ _ c.requires.0

pub has_type-bounds-row-from : goal.has_type-bounds-row-from
has_type-bounds-row-from t c = type_inside c.requires.1

-- The tag is a set's: the code is POW's, or not.
pub has_type-returns-else-c-eq-POWER : goal.has_type-returns-else-c-eq-POWER
has_type-returns-else-c-eq-POWER t c =
    rw (ne_eqb _ 3 c.if-c-eq-POWER.false) (of_some (λ v u. set_no v u (sym c.tag.ensures ∙ c.in-5.is) c.if-c-eq-POWER.false))

pub has_type-all_of_type-requires : goal.has_type-all_of_type-requires
has_type-all_of_type-requires t c =
    let p = c.requires in (
      omega (arith, c.decreases, some_inside _ _ p.0),
      (set_asks p.0 p.1 (sym c.tag.ensures ∙ c.in-5.is) c.if-c-eq-POWER.true c.low.ensures.0).0,
    )

pub has_type-returns-then-c-eq-POWER : goal.has_type-returns-then-c-eq-POWER
has_type-returns-then-c-eq-POWER t c = of_some (λ v u.
    let (p, tells) = set_asks v u (sym c.tag.ensures ∙ c.in-5.is) c.if-c-eq-POWER.true c.low.ensures.0 in
    tells _ (c.all_of_type.ensures p))

-- It is a pair's: the code is a product's, or not.
pub has_type-has_type-requires : goal.has_type-has_type-requires
has_type-has_type-requires t c =
    let p = c.requires in
    let given = pair_asks p.0 p.1 (sym c.tag.ensures ∙ c.in-4.is) c.if-c-eq-PRODUCT.true in
    (omega (arith, c.decreases, some_inside _ _ p.0), (given.left, given.type))

pub has_type-returns-else-c-eq-PRODUCT : goal.has_type-returns-else-c-eq-PRODUCT
has_type-returns-else-c-eq-PRODUCT t c =
    rw (ne_eqb _ 4 c.if-c-eq-PRODUCT.false) (of_some (λ v u. pair_no v u (sym c.tag.ensures ∙ c.in-4.is) c.if-c-eq-PRODUCT.false))

pub has_type-returns-else-has_type : goal.has_type-returns-else-has_type
has_type-returns-else-has_type t c =
    rw c.if-has_type.false (of_some (λ v u.
    (pair_asks v u (sym c.tag.ensures ∙ c.in-4.is) c.if-c-eq-PRODUCT.true).no c.has_type.ensures c.if-has_type.false))

-- The left part has its type.
pub has_type-end_of-requires : goal.has_type-end_of-requires
has_type-end_of-requires t c =
    (pair_asks c.requires.0 c.requires.1 (sym c.tag.ensures ∙ c.in-4.is) c.if-c-eq-PRODUCT.true).left

pub has_type-type_end-requires : goal.has_type-type_end-requires
has_type-type_end-requires t c =
    (pair_asks c.requires.0 c.requires.1 (sym c.tag.ensures ∙ c.in-4.is) c.if-c-eq-PRODUCT.true).type

-- The second type begins where the first one ends: an `omega`, which fails where the code hands over another place.
pub has_type-has_type-requires-then-has_type : goal.has_type-has_type-requires-then-has_type
has_type-has_type-requires-then-has_type t c =
    let e = c.end_of.ensures in
    let given = pair_asks c.requires.0 c.requires.1 (sym c.tag.ensures ∙ c.in-4.is) c.if-c-eq-PRODUCT.true in
    (omega (arith, c.decreases, ends_behind given.left e), (given.right _ e, given.next _ (λ u h. omega (arith, c.type_end.ensures u h))))

pub has_type-returns-then-has_type : goal.has_type-returns-then-has_type
has_type-returns-then-has_type t c = of_some (λ v u.
    (pair_asks v u (sym c.tag.ensures ∙ c.in-4.is) c.if-c-eq-PRODUCT.true).yes
    c.has_type.ensures c.if-has_type.true c.end_of.ensures c.type_end.ensures c.has_type-then-has_type.ensures)

pub has_type-returns-in_default : goal.has_type-returns-in_default
has_type-returns-in_default t c =
    let e = c.tag.ensures in
    is_atom c.atom_is.ensures (λ q. absurd (omega arith)) (λ q. absurd (omega arith))
