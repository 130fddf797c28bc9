-- `put_cell`: one cell at top.
use Rattle.products.proofs.Base.{arith}
use Rattle.products.proofs.GrowLaws.{cell_made}
use Rattle.products.proofs.put_cell.Goals as goal

pub returns : goal.returns
returns c = λ v e. cell_made _ _ _ (omega arith) v e
