-- `alike`: t and t fit where the values share a type.
use mathlib.Core.Path.{sym, ◌∙◌}
use Rattle.fitting.proofs.Tests.{fits_alike}
use Rattle.fitting.proofs.alike.Goals as goal

pub returns : goal.returns
returns c = λ v w h k. c.agree.ensures v w h k ∙ sym (fits_alike v w)
