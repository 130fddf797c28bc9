-- `power`: all subsets, unless their set is too heavy.
use Rattle.products.proofs.Base.{◌+◌, arith, sym}
use Rattle.std.proofs.lemmas.List.{length-take-le}
use Rattle.powers.proofs.PowerLaws.{power_too_heavy, power_mark, power_pre, power_made}
use Rattle.powers.proofs.power.Goals as goal

pub returns-then-p-x-gt-HEAVIEST : goal.returns-then-p-x-gt-HEAVIEST
returns-then-p-x-gt-HEAVIEST c = λ vs h. power_too_heavy c.size_of-x.ensures c.subset_count-p.ensures h c.if-p-x-gt-HEAVIEST.true

pub marks-at-requires : goal.marks-at-requires
marks-at-requires c = power_mark c.size_of-x.ensures c.subset_count-p.ensures c.requires.0.1 c.if-p-x-gt-HEAVIEST.false

pub slice_bounds-at-end : goal.slice_bounds-at-end
slice_bounds-at-end c =
    let few = (power_mark c.size_of-x.ensures c.subset_count-p.ensures c.requires.0.1 c.if-p-x-gt-HEAVIEST.false).few in
    omega (arith, few, c.marks-at.type_inv)

pub slice_bounds-all_subsets-end : goal.slice_bounds-all_subsets-end
slice_bounds-all_subsets-end c =
    let few = (power_mark c.size_of-x.ensures c.subset_count-p.ensures c.requires.0.1 c.if-p-x-gt-HEAVIEST.false).few in
    sym (length-take-le (c.size_of-x.result.members + 1) c.marks-at.result (omega (arith, few, c.marks-at.type_inv)))

pub all_subsets-end-requires : goal.all_subsets-end-requires
all_subsets-end-requires c =
    power_pre c.size_of-x.ensures c.subset_count-p.ensures c.requires.0.1 c.if-p-x-gt-HEAVIEST.false c.requires.1 _ (omega (arith, c.marks-at.type_inv))
    c.marks-at.ensures

pub returns : goal.returns
returns c =
    λ vs h.
    power_made c.size_of-x.ensures c.subset_count-p.ensures h c.if-p-x-gt-HEAVIEST.false c.requires.1 _ (omega (arith, c.marks-at.type_inv))
    c.marks-at.ensures _ _ c.all_subsets-end.ensures
