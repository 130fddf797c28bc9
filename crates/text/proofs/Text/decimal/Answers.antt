-- The library's text of a number is the listing's.
use Rattle.std.proofs.Common.{ap, ◌∙◌, arith, length}
use Rattle.text.proofs.TextLaws.{grown_as, decimal_text}
use Rattle.text.proofs.Text.decimal.Goals as goal

pub bytes-requires : goal.bytes-requires
bytes-requires c = omega (arith, ap length (decimal_text c.args.n (omega arith)), ap length c.format.ensures.text, ap length c.as_bytes.ensures.value)

pub returns : goal.returns
returns c =
    grown_as (c.as_bytes.ensures.value ∙ c.format.ensures.text ∙ decimal_text c.args.n (omega arith)) c.bytes.ensures
