-- `function_at`: it is known; otherwise neighbours are compared, by cells where the pairs are flat. Landmark: what was lent.
use Rattle.functions.proofs.ImageLaws.{whole, relation_run, relation_flat}
use Rattle.functions.proofs.function_at.Goals as goal

pub flat_function-requires : goal.flat_function-requires
flat_function-requires c = relation_flat c.requires.0 c.if-p.true

pub returns-then-p : goal.returns-then-p
returns-then-p c =
    λ vs h p. let q = c.requires.0 in
    c.flat_function.ensures _ vs (whole h q.counted) (q.thin c.if-p.true _ vs h p)

pub is_function-requires : goal.is_function-requires
is_function-requires c = relation_run c.requires.0

pub returns : goal.returns
returns c = λ vs h p. c.is_function.ensures _ vs (whole h c.requires.0.counted) p
