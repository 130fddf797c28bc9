-- `alike_sets`: P(t) and P(t) fit where the first is a set and the values share a type.
use mathlib.Core.Path.{sym, ◌∙◌}
use Rattle.fitting.proofs.Sharing.{meets_sym}
use Rattle.fitting.proofs.Cells.{as_set}
use Rattle.fitting.proofs.Tests.{inner, fits_alike_sets, inner_agree, set_here, set_not}
use Rattle.fitting.proofs.alike_sets.Goals as goal

pub returns-else-is_set : goal.returns-else-is_set
returns-else-is_set c =
    λ v w h k.
    c.if-is_set.false ∙ sym (fits_alike_sets v w ∙ meets_sym (inner v) (inner w) ∙ set_not c.is_set.ensures h c.if-is_set.false (inner w))

pub returns-then-is_set : goal.returns-then-is_set
returns-then-is_set c =
    λ v w h k. let (vs, e, _) = as_set h (set_here c.is_set.ensures (v, h) c.if-is_set.true).is_set in
    c.agree.ensures v w h k ∙ rw (fits_alike_sets v w, e) (inner_agree vs w)
