-- `merge_in`: the values are read from 0 on; then 14 has refused them, or two of them are merged.
use Rattle.std.proofs.lemmas.Result.{err_from_is_err_and}
use Rattle.unions.proofs.LoadedLaws.{lacking_told, merge_ready}
use Rattle.unions.proofs.merge_in.Goals as goal

pub merge_loaded-requires : goal.merge_loaded-requires
merge_loaded-requires c = merge_ready c.requires c.load.ensures.0.kept c.in_ok-loaded.ensures.1

pub returns-in_err-loaded : goal.returns-in_err-loaded
returns-in_err-loaded c =
    let p = err_from_is_err_and c.from_residual.result c.from_residual.ensures.1 in
    rw (p.1, p.2) (lacking_told c.requires.load.readable _ _ c.in_err-loaded.ensures.1)

pub returns : goal.returns
returns c = c.merge_loaded.ensures _ c.in_ok-loaded.ensures.1
