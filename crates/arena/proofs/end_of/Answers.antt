-- `end_of`: a cell below that of a pair is a scalar's and so a whole value; any other value is walked.
use Rattle.arena.proofs.Base.{arith, rules}
use Rattle.rules.specs.Values.{weight}
use Rattle.arena.proofs.CodeLaws.{length_code}
use Rattle.arena.proofs.Standing.{value_forms}
use Rattle.arena.proofs.ValueParts.{some_inside, one_cell}
use Rattle.arena.proofs.end_of.Goals as goal

pub bounds-s-at : goal.bounds-s-at
bounds-s-at c = some_inside _ _ c.requires

pub returns-then-s-at-lt-PAIR : goal.returns-then-s-at-lt-PAIR
returns-then-s-at-lt-PAIR c = one_cell _ _ (omega (arith, c.if-s-at-lt-PAIR.true))

pub form_end-requires-clause-stands : goal.form_end-requires-clause-stands
form_end-requires-clause-stands c =
    let q = c.requires in
    (weight q.value, omega (arith, length_code q.value), value_forms _ (λ x r p. search (rules, p)) _ _ q.value q.stands q.fits)

pub returns : goal.returns
returns c = λ v h f. c.form_end.ensures (weight v) (value_forms _ (λ x r p. search (rules, p)) _ _ v h f)
