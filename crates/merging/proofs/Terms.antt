-- What the proofs use of the specifications: values and the operations of the rules, the arena, and this crate's.
pub use Rattle.rules.specs.Kinds.{diff, inter, union}
unfoldable pub use Rattle.rules.specs.Operations.{insert, is_in, keep, rising, two_value}
pub use Rattle.rules.specs.Operations.{kept_value, placed, set_of}
pub use Rattle.rules.specs.Runs.{gives}
pub use Rattle.rules.specs.Values.{Value, Values, ◌▸◌, count, members, none, order, set, values, weight, weights}
unfoldable pub use Rattle.arena.specs.Code.{code}
pub use Rattle.arena.specs.Code.{AllFit, CellsFit, Copied, CopiedIf, EndsAt, FineSet, Front, Same, Stands, ValueAt, ValuesAt, codes}
pub use Rattle.sets.specs.Fronts.{Cells, RunEnds, TurnAt, TwoRuns, first_of, keep_of, rest_left, rest_right}
pub use Rattle.sets.specs.declared.Fronts.{Fronts}
pub use Rattle.sets.specs.declared.Turn.{Turn}
unfoldable pub use Rattle.rules.specs.Merges.{merged, comparisons}
pub use Rattle.rules.specs.Merges.{turned, compared_next}
pub use Rattle.merging.specs.RowMerges.{Ahead, CellTurned, RowMerge, RowsBelow, RowsWalked, SomeRowMerge}
pub use Rattle.merging.specs.Walks.{BuiltTo, Compares, EndPre, Ended, MergeMade, Merges, Merging, PutBehind, PutPre, RestOf, RestThere, RunsMerge, SomeRuns, StepPre, Stepped, Walking}
pub use Rattle.merging.specs.declared.CellTurn.{CellTurn}
pub use Rattle.merging.specs.declared.Out.{Out}
pub use Rattle.merging.specs.declared.Pass.{Pass}
pub use Rattle.merging.specs.declared.Place.{Place}
pub use Rattle.merging.specs.declared.Rest.{Rest}
pub use Rattle.merging.specs.declared.Walk.{Walk}
