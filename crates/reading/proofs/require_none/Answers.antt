-- Of each test that the search was for.
use Rattle.reading.proofs.Stages.{none_found, place_found}
use Rattle.reading.proofs.require_none.Goals as goal

pub returns-in-None : goal.returns-in-None
returns-in-None c = λ ok n e. none_found c.args.number ok n c.args.found c.in-None.is e

pub returns-in-Some : goal.returns-in-Some
returns-in-Some c = λ ok n e. place_found c.args.number ok n c.args.found c.in-Some.is e
