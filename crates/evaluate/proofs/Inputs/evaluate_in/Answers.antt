-- `evaluate_in`: the constants, then the values, or refusal 14; then whether the values conform, and the condition.
use Rattle.std.proofs.Common.{rules}
use mathlib.Core.Path.{◌∙◌}
use Rattle.conforms.proofs.NameLaws.{refused_not}
use Rattle.evaluate.proofs.EntryLaws.{lacking_reported, root_ready, marked_ready, run_reported}
use Rattle.evaluate.proofs.Inputs.evaluate_in.Goals as goal

-- The values of the buffer stand in the arena, so that the condition may be evaluated.
pub mark-requires : goal.mark-requires
mark-requires c =
    let standing = c.in-Ok.ensures.1 in (
      _,
      root_ready _ standing c.requires c.put_constants.ensures.1 c.put_constants.ensures.0 c.nodes-count.ensures
          c.load.ensures.0 (search rules),
    )

pub evaluate_at-evaluation-requires : goal.evaluate_at-evaluation-requires
evaluate_at-evaluation-requires c =
    let standing = c.in-Ok.ensures.1 in
    marked_ready
    (root_ready _ standing c.requires c.put_constants.ensures.1 c.put_constants.ensures.0 c.nodes-count.ensures
    c.load.ensures.0 (search rules))
    c.mark.ensures

pub returns-in-Err : goal.returns-in-Err
returns-in-Err c =
    let readable = c.requires.needs.readable in
    record {
      reported =
          lacking_reported _ _ c.args.self.now.budget readable c.in-Err.ensures.1 c.unloaded.ensures.0;
      conforms = c.unloaded.ensures.1 ∙ refused_not readable _ _ c.in-Err.ensures.1;
    }

pub returns-in-Ok : goal.returns-in-Ok
returns-in-Ok c =
    let standing = c.in-Ok.ensures.1 in
    record {
      reported =
          run_reported _ standing c.requires c.put_constants.ensures.1 c.put_constants.ensures.0 c.nodes-count.ensures
          c.load.ensures.0 _ c.mark.ensures c.evaluate_at-evaluation.ensures;
      conforms = c.loaded_conform-conforms.ensures _ _ _ standing;
    }
