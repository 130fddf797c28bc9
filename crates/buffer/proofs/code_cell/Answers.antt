-- `code_cell`: by the tag of the cell.
use Rattle.buffer.proofs.CellAt.{code_number, code_other}
use Rattle.buffer.proofs.code_cell.Goals as goal

pub returns-then-tag-eq-NUMBER_TAG : goal.returns-then-tag-eq-NUMBER_TAG
returns-then-tag-eq-NUMBER_TAG c = code_number _ _ _ c.tag.ensures c.if-tag-eq-NUMBER_TAG.true c.low.ensures.0

pub returns : goal.returns
returns c = code_other _ _ c.tag.ensures c.if-tag-eq-NUMBER_TAG.false
