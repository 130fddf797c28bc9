-- The places are the identifiers and the nodes.
use Rattle.sheets.proofs.Scan.{count_places}
use Rattle.sheets.proofs.Places.count.Goals as goal

pub returns : goal.returns
returns c = count_places _ _ _ c.identifiers.ensures c.nodes.ensures
