-- `image`: the pair with the first part e is looked for; where there is one, f gives its second part if f is a function.
use Rattle.sets.proofs.Base.{ℕ, Some, None, subst}
use Rattle.functions.proofs.Terms.{Applies}
use Rattle.functions.proofs.ImageLaws.{image_none, image_shared, first_part, image_found}
use Rattle.functions.proofs.image.Goals as goal

pub returns-in_err-i : goal.returns-in_err-i
returns-in_err-i c = rw c.from_residual.ensures
    (subst (λ (f : ℕ). Applies c.args.s.now f c.args.e None) c.pairs_of-p.ensures.0 (image_none c.in_err-i.ensures))

pub end_of-requires : goal.end_of-requires
end_of-requires c = first_part c.in_ok-i.ensures c.requires.0 c.pairs_of-p.ensures.1.relation

pub returns-then-function_at : goal.returns-then-function_at
returns-then-function_at c =
    subst (λ (f : ℕ). Applies c.args.s.now f c.args.e (Some c.end_of.result)) c.pairs_of-p.ensures.0
    (image_found c.in_ok-i.ensures c.function_at.ensures c.if-function_at.true c.end_of.ensures)

pub returns : goal.returns
returns c =
    subst (λ (f : ℕ). Applies c.args.s.now f c.args.e None) c.pairs_of-p.ensures.0 (image_shared c.function_at.ensures c.if-function_at.false)
