-- `mark`: the entries bind what was bound, as only functions are marked.
use Rattle.std.proofs.Common.{◌<◌}
use native.Mathlib.Omega.{arith}
use Rattle.evaluate.proofs.EntryLaws.{rebinds_more, entry_good}
use Rattle.evaluate.proofs.mark.Goals.{then-known_function, else-known_function}
use Rattle.evaluate.proofs.mark.Goals as goal

pub known_function-requires : goal.known_function-requires
known_function-requires c =
    entry_good c.requires.1 c.loop-x.invariant _
    (omega (arith, c.identifiers-count.ensures, c.requires.1.readable.header.identifiers))

pub loop-x-preserved : goal.loop-x-preserved
loop-x-preserved c =
    let few : c.loop-x.x < 32 = omega (arith, c.identifiers-count.ensures, c.requires.1.readable.header.identifiers) in
    elim c.if-known_function.branch [
      | then-known_function w ↦ rw w.env-is
          (rebinds_more _ _ c.requires.1.readable c.loop-x.invariant few (omega arith) (λ _. c.known_function.ensures w.if-known_function.true))
      | else-known_function w ↦ rw w.env-is c.loop-x.invariant
    ]
