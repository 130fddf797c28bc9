-- `merge_fronts`: the cells of one set before the first of the other are its turns of the merge, one after the other.
use Rattle.sets.proofs.Base.{arith}
use Rattle.sets.proofs.RowLaws.{cells_row}
use Rattle.merging.proofs.CellMerge.{first_put, second_put, merge_start}
use Rattle.merging.proofs.merge_fronts.Goals as goal

pub front-p-requires : goal.front-p-requires
front-p-requires c =
    let r = c.requires.rows in
    (cells_row r.runs.on_left r.left, λ k. omega (arith, r.right.inside))

pub front-q-requires : goal.front-q-requires
front-q-requires c =
    let r = c.requires.rows in
    (cells_row r.runs.on_right r.right, λ k. omega (arith, r.left.inside))

pub put-left-requires : goal.put-left-requires
put-left-requires c = first_put c.requires c.front-p.ensures c.front-q.ensures

pub put-right-requires : goal.put-right-requires
put-right-requires c = second_put c.requires c.front-p.ensures c.front-q.ensures c.put-left.ensures

pub returns : goal.returns
returns c = merge_start c.requires c.front-p.ensures c.front-q.ensures c.put-left.ensures c.put-right.ensures
