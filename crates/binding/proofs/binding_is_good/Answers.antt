-- By the identifier's word, from its three bits.
use mathlib.Core.Bool.{not, ◌&&◌}
use mathlib.Core.Path.{◌≡◌, refl, ap, ◌∙◌}
use Rattle.binding.specs.Words.{has_bit}
use Rattle.binding.proofs.Occurs.{binding_free, binding_bound}
use Rattle.binding.proofs.binding_is_good.Goals as goal
use Rattle.binding.proofs.binding_is_good.Goals.{then-bound, else-bound}

pub returns-then-bind-eq0 : goal.returns-then-bind-eq0
returns-then-bind-eq0 c = binding_free _ _ _ c.args.names c.bind.ensures c.requires.2 _ c.has-bound.ensures c.if-bind-eq0.true

pub returns-then-not-has : goal.returns-then-not-has
returns-then-not-has c =
    let once : c.if-bound.value ≡ (c.has-bound.result && not (has_bit c.args.names.twice c.args.x)) =
    elim c.if-bound.branch [
      | then-bound w ↦ rw w.if-bound.true (w.value-is ∙ ap not w.has.ensures)
      | else-bound w ↦ rw w.if-bound.false (w.value-is ∙ w.if-bound.false)
    ] in
    binding_bound _ _ _ c.args.names c.bind.ensures c.requires.2 _ _ _ _ _ c.has-bound.ensures refl
    c.has-then-not-has.ensures once (rw c.if-not-has.true refl) c.if-bind-eq0.false

pub returns-else-not-has : goal.returns-else-not-has
returns-else-not-has c =
    let once : c.if-bound.value ≡ (c.has-bound.result && not (has_bit c.args.names.twice c.args.x)) =
    elim c.if-bound.branch [
      | then-bound w ↦ rw w.if-bound.true (w.value-is ∙ ap not w.has.ensures)
      | else-bound w ↦ rw w.if-bound.false (w.value-is ∙ w.if-bound.false)
    ] in
    binding_bound _ _ _ c.args.names c.bind.ensures c.requires.2 _ _ _ _ _ c.has-bound.ensures refl
    refl once (rw c.if-not-has.false refl) c.if-bind-eq0.false
