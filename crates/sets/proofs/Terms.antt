-- What the proofs use of the specifications: values and the operations of the rules, the arena, and this crate's.
unfoldable pub use Rattle.rules.specs.Operations.{all_in, is_in}
pub use Rattle.rules.specs.Operations.{left}
pub use Rattle.rules.specs.Values.{Value, Values, ◌▸◌, count, members, none, order, pair, scalar, set, weight}
unfoldable pub use Rattle.arena.specs.Code.{code}
pub use Rattle.arena.specs.Code.{AllFit, AllPairs, AllWeigh, CellsFit, Compared, EndsAt, EvenSet, Front, IsPair, Rises, Same, SetBelow, SomeAt, SomeSet, ValueAt, ValueBelow, ValuesCompared, cell_size, ordering_of, parts_of}
pub use Rattle.arena.specs.declared.Rows.{Rows}
pub use Rattle.sets.specs.Fronts.{Cells, Includes, Keyed, Member, MemberOrNone, RunEnds, RunIn, TurnAt, Turned, TwoFronts, TwoRuns, keep_of, key_of, rest_left, rest_right}
pub use Rattle.sets.specs.Rows.{FineValue, Found, LowerBound, Row, SomeFine, TwoRows}
pub use Rattle.sets.specs.declared.Turn.{Turn}
