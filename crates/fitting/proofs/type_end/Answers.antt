-- `type_end`: a type's codes are a form in prefix order.
use Rattle.std.proofs.Common.{rules, arith}
use Rattle.rules.specs.Types.{weightᵀ}
use Rattle.rules.proofs.TypeLaws.{prefix_length}
use Rattle.fitting.proofs.Types.{type_forms}
use Rattle.fitting.proofs.type_end.Goals as goal

pub form_end-requires-clause-stands : goal.form_end-requires-clause-stands
form_end-requires-clause-stands c =
    let (t, h) = c.requires in
    (weightᵀ t, omega (arith, h.codes.inside, prefix_length t), type_forms _ (λ x r p. search (rules, p)) _ _ t h)

pub returns : goal.returns
returns c = λ t h. c.form_end.ensures (weightᵀ t) (type_forms _ (λ x r p. search (rules, p)) _ _ t h)
