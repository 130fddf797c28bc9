-- A link goes to a smaller variable.
use native.Mathlib.Omega.{arith}
use mathlib.Core.Path.{refl}
use Rattle.terms.proofs.TermLaws.{form_link, link_below}
use Rattle.deciding.proofs.shortened.Goals as goal

pub bounds-terms-u : goal.bounds-terms-u
bounds-terms-u c =
    let p = c.requires in
    let is = c.in-Link.ensures in
    omega (arith, is.1, link_below p.0 p.1 refl (form_link p.0 p.1 refl is.0))
