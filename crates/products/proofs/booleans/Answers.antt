-- `booleans`: two cells that follow one another.
use Rattle.products.proofs.Base.{true, false, [], ◌∷◌, refl}
use Rattle.products.proofs.Terms.{code, cells_from, truth_value, values}
use Rattle.products.proofs.booleans.Goals as goal

pub returns : goal.returns
unfolding code cells_from
returns c = c.run.ensures (values (truth_value false ∷ truth_value true ∷ [])) refl refl
