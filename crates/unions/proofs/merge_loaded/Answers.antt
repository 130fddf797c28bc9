-- `merge_loaded`: the two lowest free identifiers, if there are two, and their values.
use Prim.Native.Nat.{◌+◌}
use native.Mathlib.Omega.{arith}
use Rattle.std.proofs.lemmas.Result.{err_from_is_err_and}
use Rattle.rules.specs.Tables.{table_of}
use Rattle.unions.proofs.LoadedLaws.{found, passed, free_few, unfit_told, none_told, one_told, both_ready, both_told}
use Rattle.unions.proofs.merge_loaded.Goals as goal

pub returns-in_err-x : goal.returns-in_err-x
returns-in_err-x c = λ buffer b.
    let p = err_from_is_err_and c.from_residual.result c.from_residual.ensures.1 in
    rw (p.1, p.2, unfit_told c.in_err-x.ensures.ok_part c.in_err-x.ensures.value)
    (none_told c.requires.readable b (passed (table_of c.args.table.now).binds 0 c.in_err-x.ensures.ok_part c.next_free.ensures))

pub overflow_add-x : goal.overflow_add-x
overflow_add-x c =
    let few = free_few c.args.table.now 0 c.in_ok-x.x c.requires.readable c.in_ok-x.ensures.ok_part c.next_free.ensures in
    omega (arith, few)

pub returns-in_err-y : goal.returns-in_err-y
returns-in_err-y c = λ buffer b.
    let p = err_from_is_err_and c.from_residual-in_err-y.result c.from_residual-in_err-y.ensures.1 in
    rw (p.1, p.2, unfit_told c.in_err-y.ensures.ok_part c.in_err-y.ensures.value)
    (one_told c.requires.readable b (found (table_of c.args.table.now).binds 0 c.in_ok-x.x c.in_ok-x.ensures.ok_part c.next_free.ensures)
    (passed (table_of c.args.table.now).binds (c.in_ok-x.x + 1) c.in_err-y.ensures.ok_part c.next_free-2.ensures))

pub offset_bounds-env-x : goal.offset_bounds-env-x
offset_bounds-env-x c =
    let few = free_few c.args.table.now 0 c.in_ok-x.x c.requires.readable c.in_ok-x.ensures.ok_part c.next_free.ensures in
    omega (arith, few)

pub bounds-env-x : goal.bounds-env-x
bounds-env-x c = free_few c.args.table.now 0 c.in_ok-x.x c.requires.readable c.in_ok-x.ensures.ok_part c.next_free.ensures

pub offset_bounds-env-y : goal.offset_bounds-env-y
offset_bounds-env-y c =
    let few = free_few c.args.table.now (c.in_ok-x.x + 1) c.in_ok-y.y c.requires.readable c.in_ok-y.ensures.ok_part c.next_free-2.ensures in
    omega (arith, few)

pub bounds-env-y : goal.bounds-env-y
bounds-env-y c =
    free_few c.args.table.now (c.in_ok-x.x + 1) c.in_ok-y.y c.requires.readable c.in_ok-y.ensures.ok_part c.next_free-2.ensures

pub unite-requires : goal.unite-requires
unite-requires c =
    both_ready c.requires.readable c.requires.bound
    (found (table_of c.args.table.now).binds 0 c.in_ok-x.x c.in_ok-x.ensures.ok_part c.next_free.ensures)
    (found (table_of c.args.table.now).binds (c.in_ok-x.x + 1) c.in_ok-y.y c.in_ok-y.ensures.ok_part c.next_free-2.ensures) c.requires.room

pub returns : goal.returns
returns c = λ buffer b. both_told c.requires.readable b
    (found (table_of c.args.table.now).binds 0 c.in_ok-x.x c.in_ok-x.ensures.ok_part c.next_free.ensures)
    (found (table_of c.args.table.now).binds (c.in_ok-x.x + 1) c.in_ok-y.y c.in_ok-y.ensures.ok_part c.next_free-2.ensures) c.unite.ensures
