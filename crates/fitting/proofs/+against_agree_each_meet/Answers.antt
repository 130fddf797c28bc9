-- The cycle of the test whether two values share a type. In `against` and `each` the values that are left decide; `agree` takes scalars by their
-- cells, other values by `meet`; `meet` goes by the tags of the two values, and a pair or a set that is no set is a pair.
use Prim.Native.Nat.{◌+◌, ◌-◌, ◌/◌}
use mathlib.Core.Path.{◌≡◌, sym, ◌∙◌}
use native.Mathlib.Omega.{arith}
use lib.ListN.{get_or}
use Rattle.fitting.specs.Agree.{SetHere}
use Rattle.rules.specs.Fits.{types_of, shared_types}
use Rattle.fitting.proofs.Sharing.{meets_sym, tags_differ}
use Rattle.fitting.proofs.Cells.{inside, some_at, end_bounds, run_whole, run_first, rest_first, rest_end, rest_no, rest_yes, rest_last, one_meets}
use Rattle.fitting.proofs.Cells.{atoms_agree, tag_is, members_run, sets_agree, other_pair, PairHere, pair_here, pairs_agree}
use Rattle.fitting.proofs.+against_agree_each_meet.Goals as goal

-- `against`: the next value, and whether it shares a type.
pub against-loop-left-init : goal.against-loop-left-init
against-loop-left-init t c = λ v ws. run_whole (types_of v.0) ws

pub against-agree-requires : goal.against-agree-requires
against-agree-requires t c =
    let p = c.requires in
    let next = rest_first (c.loop-left.invariant p.first p.second) c.loop-left-test.true in
    (omega (arith, c.decreases), record { first = p.first; second = next })

pub against-returns-then-not-agree : goal.against-returns-then-not-agree
against-returns-then-not-agree t c = λ v ws h k.
    let g = one_meets c.agree.ensures (v, h) in
    rest_no (c.loop-left.invariant (v, h) (ws, k)) c.loop-left-test.true g c.if-not-agree.true ∙ meets_sym _ _

pub against-returns-then-left-eq0 : goal.against-returns-then-left-eq0
against-returns-then-left-eq0 t c = λ v ws h k.
    let g = one_meets c.agree.ensures (v, h) in
    sym c.if-not-agree.false ∙ rest_last (c.loop-left.invariant (v, h) (ws, k)) c.loop-left-test.true g (omega (arith, c.if-left-eq0.true)) ∙ meets_sym _ _

pub against-end_of-j-requires : goal.against-end_of-j-requires
against-end_of-j-requires t c = some_at (rest_first (c.loop-left.invariant c.requires.first c.requires.second) c.loop-left-test.true)

pub against-loop-left-preserved : goal.against-loop-left-preserved
against-loop-left-preserved t c = λ v ws.
    rest_yes (c.loop-left.invariant v ws) c.loop-left-test.true (one_meets c.agree.ensures v) c.if-not-agree.false c.end_of-j.ensures

pub against-returns : goal.against-returns
against-returns t c = λ v ws h k. rest_end (c.loop-left.invariant (v, h) (ws, k)) (omega (arith, c.loop-left-test.false)) h.typed ∙ meets_sym _ _

pub agree-bounds-s-a : goal.agree-bounds-s-a
agree-bounds-s-a t c = inside c.requires.first

pub agree-bounds-s-b : goal.agree-bounds-s-b
agree-bounds-s-b t c = inside c.requires.second

pub agree-returns-then-x-lt-PAIR : goal.agree-returns-then-x-lt-PAIR
agree-returns-then-x-lt-PAIR t c = λ v w h k. c.atoms_alike.ensures ∙ atoms_agree _ _ _ c.if-x-lt-PAIR.true v w h k

-- `each`: the next value, and whether it shares a type with the m values.
pub each-loop-init : goal.each-loop-init
each-loop-init t c =
    let whole : c.args.n - 0 ≡ c.args.n = omega arith in
    (omega arith, λ p. rw whole (run_whole (shared_types p.second.0) p.first))

pub each-against-requires : goal.each-against-requires
each-against-requires t c =
    let p = c.requires in
    let next = rest_first (c.loop.invariant.1 p) (omega arith) in
    (omega (arith, c.decreases, c.loop.invariant.0), record { first = next; second = p.second })

pub each-returns-then-not-against : goal.each-returns-then-not-against
each-returns-then-not-against t c = λ p.
    rest_no (c.loop.invariant.1 p) (omega arith) (λ v h. c.against.ensures v _ h p.second.1) c.if-not-against.true

pub each-end_of-i-requires : goal.each-end_of-i-requires
each-end_of-i-requires t c = some_at (rest_first (c.loop.invariant.1 c.requires) (omega arith))

pub each-loop-preserved : goal.each-loop-preserved
each-loop-preserved t c =
    let next = rest_first (c.loop.invariant.1 c.requires) (omega arith) in
    let e = c.end_of-i.ensures in
    let fewer : c.args.n - c.loop.counter - 1 ≡ c.args.n - (c.loop.counter + 1) = omega arith in (
      omega (arith, c.loop.invariant.0, (end_bounds next e).0),
      λ p. rw (← fewer) (rest_yes (c.loop.invariant.1 p) (omega arith) (λ v h. c.against.ensures v _ h p.second.1) c.if-not-against.false e),
    )

pub each-returns : goal.each-returns
each-returns t c = λ p. rest_end (c.loop.invariant.1 p) (omega arith) p.second.1.typed

-- `meet`: values with different tags share no type.
pub meet-bounds-s-b : goal.meet-bounds-s-b
meet-bounds-s-b t c = inside c.requires.0.second

pub meet-returns-then-t-tag : goal.meet-returns-then-t-tag
meet-returns-then-t-tag t c = λ v w h k.
    sym (tags_differ v w (λ e. c.if-t-tag.true (c.tag-t.ensures ∙ tag_is h ∙ e ∙ sym (c.tag.ensures ∙ tag_is k))))

-- They are sets.
pub meet-members-n-requires : goal.meet-members-n-requires
meet-members-n-requires t c = record { value = c.requires.0.first; is_set = sym c.tag-t.ensures ∙ c.if-t-eq-SET_TAG.true }

pub meet-members-m-requires : goal.meet-members-m-requires
meet-members-m-requires t c =
    let same_tag : c.tag-t.result ≡ get_or c.args.s.now c.args.b 0 / 4294967296 = omega (arith, c.if-t-tag.false, c.tag.ensures) in
    record { value = c.requires.0.second; is_set = sym same_tag ∙ c.if-t-eq-SET_TAG.true }

-- It is known how many of the members stand for all.
pub meet-against-requires : goal.meet-against-requires
meet-against-requires t c =
    let same_tag : c.tag-t.result ≡ get_or c.args.s.now c.args.b 0 / 4294967296 = omega (arith, c.if-t-tag.false, c.tag.ensures) in
    let set_a : SetHere c.args.s.now c.args.a = record { value = c.requires.0.first; is_set = sym c.tag-t.ensures ∙ c.if-t-eq-SET_TAG.true } in
    let set_b : SetHere c.args.s.now c.args.b = record { value = c.requires.0.second; is_set = sym same_tag ∙ c.if-t-eq-SET_TAG.true } in
    let first = members_run set_a c.members-n.ensures in
    let second = members_run set_b c.members-m.ensures in
    (omega (arith, c.decreases, inside set_a.value), record { first = run_first first (omega (arith, c.if-n-eq1.true)); second = second })

pub meet-returns-then-n-eq1 : goal.meet-returns-then-n-eq1
meet-returns-then-n-eq1 t c =
    let same_tag : c.tag-t.result ≡ get_or c.args.s.now c.args.b 0 / 4294967296 = omega (arith, c.if-t-tag.false, c.tag.ensures) in
    let set_a : SetHere c.args.s.now c.args.a = record { value = c.requires.0.first; is_set = sym c.tag-t.ensures ∙ c.if-t-eq-SET_TAG.true } in
    let set_b : SetHere c.args.s.now c.args.b = record { value = c.requires.0.second; is_set = sym same_tag ∙ c.if-t-eq-SET_TAG.true } in
    let n = c.if-n-eq1.true in
    sets_agree set_a set_b c.members-n.ensures c.members-m.ensures (λ p.
    rest_last (run_whole _ p.first) (omega (arith, n)) (λ v h. c.against.ensures v _ h p.second.1) n)

pub meet-each-requires : goal.meet-each-requires
meet-each-requires t c =
    let same_tag : c.tag-t.result ≡ get_or c.args.s.now c.args.b 0 / 4294967296 = omega (arith, c.if-t-tag.false, c.tag.ensures) in
    let set_a : SetHere c.args.s.now c.args.a = record { value = c.requires.0.first; is_set = sym c.tag-t.ensures ∙ c.if-t-eq-SET_TAG.true } in
    let set_b : SetHere c.args.s.now c.args.b = record { value = c.requires.0.second; is_set = sym same_tag ∙ c.if-t-eq-SET_TAG.true } in
    let first = members_run set_a c.members-n.ensures in
    let second = members_run set_b c.members-m.ensures in
    (omega (arith, c.decreases, inside set_a.value), record { first = first; second = second })

pub meet-returns-else-n-eq1 : goal.meet-returns-else-n-eq1
meet-returns-else-n-eq1 t c =
    let same_tag : c.tag-t.result ≡ get_or c.args.s.now c.args.b 0 / 4294967296 = omega (arith, c.if-t-tag.false, c.tag.ensures) in
    let set_a : SetHere c.args.s.now c.args.a = record { value = c.requires.0.first; is_set = sym c.tag-t.ensures ∙ c.if-t-eq-SET_TAG.true } in
    let set_b : SetHere c.args.s.now c.args.b = record { value = c.requires.0.second; is_set = sym same_tag ∙ c.if-t-eq-SET_TAG.true } in
    sets_agree set_a set_b c.members-n.ensures c.members-m.ensures c.each.ensures

-- They are pairs.
pub meet-agree-requires : goal.meet-agree-requires
meet-agree-requires t c =
    let p = c.requires.0 in
    let e = c.tag-t.ensures in
    let same_tag : c.tag-t.result ≡ get_or c.args.s.now c.args.b 0 / 4294967296 = omega (arith, c.if-t-tag.false, c.tag.ensures) in
    let pair_a : PairHere c.args.s.now c.args.a = pair_here p.first (other_pair p.first c.requires.1 (λ q. c.if-t-eq-SET_TAG.false (e ∙ q))) in
    let pair_b : PairHere c.args.s.now c.args.b = pair_here p.second (sym same_tag ∙ e ∙ pair_a.is_pair) in
    (omega (arith, c.decreases, inside p.first), record { first = pair_a.left; second = pair_b.left })

pub meet-returns-else-agree : goal.meet-returns-else-agree
meet-returns-else-agree t c = λ v w h k.
    let p = c.requires.0 in
    let e = c.tag-t.ensures in
    let same_tag : c.tag-t.result ≡ get_or c.args.s.now c.args.b 0 / 4294967296 = omega (arith, c.if-t-tag.false, c.tag.ensures) in
    let pair_a : PairHere c.args.s.now c.args.a = pair_here p.first (other_pair p.first c.requires.1 (λ q. c.if-t-eq-SET_TAG.false (e ∙ q))) in
    let pair_b : PairHere c.args.s.now c.args.b = pair_here p.second (sym same_tag ∙ e ∙ pair_a.is_pair) in
    c.if-agree.false ∙ (pairs_agree pair_a pair_b c.agree.ensures v w h k).0 c.if-agree.false

-- Their left parts share a type.
pub meet-end_of-requires : goal.meet-end_of-requires
meet-end_of-requires t c =
    let p = c.requires.0 in
    let e = c.tag-t.ensures in
    let pair_a : PairHere c.args.s.now c.args.a = pair_here p.first (other_pair p.first c.requires.1 (λ q. c.if-t-eq-SET_TAG.false (e ∙ q))) in
    some_at pair_a.left

pub meet-end_of-requires-then-agree : goal.meet-end_of-requires-then-agree
meet-end_of-requires-then-agree t c =
    let p = c.requires.0 in
    let e = c.tag-t.ensures in
    let same_tag : c.tag-t.result ≡ get_or c.args.s.now c.args.b 0 / 4294967296 = omega (arith, c.if-t-tag.false, c.tag.ensures) in
    let pair_a : PairHere c.args.s.now c.args.a = pair_here p.first (other_pair p.first c.requires.1 (λ q. c.if-t-eq-SET_TAG.false (e ∙ q))) in
    let pair_b : PairHere c.args.s.now c.args.b = pair_here p.second (sym same_tag ∙ e ∙ pair_a.is_pair) in
    some_at pair_b.left

pub meet-agree-requires-then-agree : goal.meet-agree-requires-then-agree
meet-agree-requires-then-agree t c =
    let p = c.requires.0 in
    let e = c.tag-t.ensures in
    let same_tag : c.tag-t.result ≡ get_or c.args.s.now c.args.b 0 / 4294967296 = omega (arith, c.if-t-tag.false, c.tag.ensures) in
    let pair_a : PairHere c.args.s.now c.args.a = pair_here p.first (other_pair p.first c.requires.1 (λ q. c.if-t-eq-SET_TAG.false (e ∙ q))) in
    let pair_b : PairHere c.args.s.now c.args.b = pair_here p.second (sym same_tag ∙ e ∙ pair_a.is_pair) in (
      omega (arith, c.decreases, end_bounds pair_a.left c.end_of.ensures),
      record { first = pair_a.right _ c.end_of.ensures; second = pair_b.right _ c.end_of-then-agree.ensures },
    )

pub meet-returns-then-agree : goal.meet-returns-then-agree
meet-returns-then-agree t c = λ v w h k.
    let p = c.requires.0 in
    let e = c.tag-t.ensures in
    let same_tag : c.tag-t.result ≡ get_or c.args.s.now c.args.b 0 / 4294967296 = omega (arith, c.if-t-tag.false, c.tag.ensures) in
    let pair_a : PairHere c.args.s.now c.args.a = pair_here p.first (other_pair p.first c.requires.1 (λ q. c.if-t-eq-SET_TAG.false (e ∙ q))) in
    let pair_b : PairHere c.args.s.now c.args.b = pair_here p.second (sym same_tag ∙ e ∙ pair_a.is_pair) in
    (pairs_agree pair_a pair_b c.agree.ensures v w h k).1 _ _ _ c.if-agree.true c.end_of.ensures c.end_of-then-agree.ensures c.agree-then-agree.ensures
