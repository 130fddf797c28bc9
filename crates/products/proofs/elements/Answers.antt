-- `elements`: the cells of a given set's elements follow one another.
use Rattle.products.proofs.ScalarLaws.{elements_made}
use Rattle.products.proofs.elements.Goals as goal

pub returns : goal.returns
returns c = elements_made _ _ _ _ _ _ c.run.ensures
