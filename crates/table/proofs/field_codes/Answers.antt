-- The constant table against the fields of document 01's kinds.
use Rattle.table.proofs.Access.{row_known, row_unknown}
use Rattle.table.proofs.field_codes.Goals as goal

pub returns-then-kind-ge44 : goal.returns-then-kind-ge44
returns-then-kind-ge44 c = row_unknown _ c.if-kind-ge44.true

pub returns : goal.returns
returns c = row_known _
