-- By the term of the variable's word: a link goes to its class, any other variable is its own.
use mathlib.Core.Path.{refl}
use Rattle.terms.proofs.TermLaws.{class_link, class_known, form_link, not_link}
use Rattle.terms.proofs.class.Goals as goal

pub returns-in-Link : goal.returns-in-Link
returns-in-Link c =
    let p = c.requires in
    let is = c.in-Link.ensures in rw is.1 (class_link p.0 p.1 refl (form_link p.0 p.1 refl is.0))

pub returns-in_default : goal.returns-in_default
returns-in_default c = let p = c.requires in class_known p.0 p.1 refl (not_link _ c.from.result c.from.ensures c.in_default.not-Link)
