-- `contains`: where the members are one cell each, the value is a member if its cell is one of theirs; other sets are walked.
use Rattle.sets.proofs.Base.{◌+◌, sym, ◌∙◌, subst, length}
use Rattle.sets.proofs.Terms.{Values, SetBelow, Cells}
use Rattle.arena.proofs.CodeLaws.{fits_small}
use Rattle.arena.proofs.ValueParts.{some_inside}
use Rattle.arena.proofs.FrontLaws.{fit_small, front_start, value_some}
use Rattle.sets.proofs.SearchLaws.{sought_in}
use Rattle.sets.proofs.RowLaws.{cells_row, cell_in}
use Rattle.sets.proofs.contains.Goals as goal

pub bounds-s-e : goal.bounds-s-e
bounds-s-e c = some_inside _ _ (value_some _ _ _ _ c.requires.0.1)

pub find-requires : goal.find-requires
find-requires c =
    let front = λ (vs : Values) (h : SetBelow c.args.s.now (length c.args.s.now) c.args.a vs). front_start _ _ _ vs h _ c.low-n.ensures.0 in
    let cells : Cells c.args.s.now (c.args.a + 1) c.low-n.result = subst (Cells _ _) (sym c.low-n.ensures.0) (c.of_cells.ensures c.if-of_cells.true) in
    cells_row (front _ c.requires.1.1) cells

pub returns-then-of_cells : goal.returns-then-of_cells
returns-then-of_cells c =
    let front = λ (vs : Values) (h : SetBelow c.args.s.now (length c.args.s.now) c.args.a vs). front_start _ _ _ vs h _ c.low-n.ensures.0 in
    let cells : Cells c.args.s.now (c.args.a + 1) c.low-n.result = subst (Cells _ _) (sym c.low-n.ensures.0) (c.of_cells.ensures c.if-of_cells.true) in
    λ v vs h k. c.is_some.ensures ∙ cell_in h (front vs k) cells _ c.find.ensures

pub seek-requires : goal.seek-requires
seek-requires c =
    let front = λ (vs : Values) (h : SetBelow c.args.s.now (length c.args.s.now) c.args.a vs). front_start _ _ _ vs h _ c.low-n.ensures.0 in
    let q = c.requires in
    record { value = q.0; top = _; rest = _; front = front _ q.1.1; keyed = tt }

pub returns : goal.returns
returns c =
    let front = λ (vs : Values) (h : SetBelow c.args.s.now (length c.args.s.now) c.args.a vs). front_start _ _ _ vs h _ c.low-n.ensures.0 in
    λ v vs h k. c.is_some-2.ensures ∙ sought_in _ _ _ v _ _ (c.seek.ensures _ vs v (front vs k) tt h) (fits_small v h.fits) (fit_small vs k.fine.fits.1)
