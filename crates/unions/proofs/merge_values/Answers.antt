-- `merge_values`: an unreadable table, or the merge of a readable one.
use Rattle.std.proofs.lemmas.Result.{err_from_is_err_and}
use mathlib.Core.Path.{refl}
use Rattle.reading.proofs.Promise.{read_readable}
use Rattle.unions.proofs.LoadedLaws.{unread_told}
use Rattle.unions.proofs.merge_values.Goals as goal

pub returns-in_err-read : goal.returns-in_err-read
returns-in_err-read c =
    let p = err_from_is_err_and c.from_residual.result c.from_residual.ensures.1 in
    let d = unread_told c.args.table.now _ c.args.cells.now c.in_err-read.ensures in
    rw (p.1, p.2) (d.answer, d.buffer)

pub merge_readable-requires : goal.merge_readable-requires
merge_readable-requires c = read_readable _ _ c.in_ok-read.ensures refl

pub returns : goal.returns
returns c = let d = c.merge_readable.ensures in (d.answer, d.buffer)
