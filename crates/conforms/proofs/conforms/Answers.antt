-- `conforms`: an unreadable table has no values that conform.
use Rattle.reading.proofs.Promise.{read_readable}
use Rattle.conforms.proofs.NameLaws.{unread_not}
use Rattle.conforms.proofs.conforms.Goals as goal

pub conforms_readable-requires : goal.conforms_readable-requires
conforms_readable-requires c = read_readable _ _ c.read.ensures c.in-Ok.is

pub returns-in-Err : goal.returns-in-Err
returns-in-Err c = unread_not _ _ _ _ c.read.ensures c.in-Err.is
