-- `finish`: the rest of one set, then the cell of the set that has been built.
use Rattle.sets.proofs.Base.{arith}
use Rattle.merging.proofs.BuildLaws.{end_heavy, end_rest, end_put, end_over, end_count, end_made}
use Rattle.merging.proofs.finish.Goals as goal

pub returns-then-w-limit : goal.returns-then-w-limit
returns-then-w-limit c = end_heavy c.if-w-limit.true

pub rest_end-end-requires : goal.rest_end-end-requires
rest_end-end-requires c = end_rest c.requires c.if-w-limit.false c.rest_of-q.ensures

pub put-o-requires : goal.put-o-requires
put-o-requires c = end_put c.requires c.if-w-limit.false c.rest_of-q.ensures c.rest_end-end.ensures

pub returns-then-o-limit : goal.returns-then-o-limit
returns-then-o-limit c = end_over c.requires c.if-w-limit.false c.rest_of-q.ensures c.rest_end-end.ensures c.put-o.ensures c.if-o-limit.true

pub overflow_add-s : goal.overflow_add-s
overflow_add-s c =
    let few = end_count c.requires c.if-w-limit.false c.rest_of-q.ensures c.rest_end-end.ensures c.put-o.ensures c.if-o-limit.false in
    omega (arith, few)

pub returns : goal.returns
returns c = end_made c.requires c.if-w-limit.false c.rest_of-q.ensures c.rest_end-end.ensures c.put-o.ensures c.if-o-limit.false
