-- What the proofs use of the specifications: values and the operations of the rules, the arena, and this crate's.
unfoldable pub use Rattle.rules.specs.Operations.{applied, keep, paired_with}
pub use Rattle.rules.specs.Operations.{is_function, left, right}
pub use Rattle.rules.specs.Runs.{gives, lacks}
unfoldable pub use Rattle.rules.specs.Values.{same}
pub use Rattle.rules.specs.Values.{Value, Values, ◌▸◌, members, none, order, pair, set, weight}
pub use Rattle.arena.specs.Code.{AllPairs, AllWeigh, CellsFit, EndsAt, EvenSet, FineSet, Front, IsPair, SetBelow, SameAt, SomeAt, SomeRelation, SomeValue, ValueAt, ValueBelow, cell_size}
pub use Rattle.sets.specs.Fronts.{Member}
pub use Rattle.sets.specs.Rows.{Row}
pub use Rattle.functions.specs.Pairs.{Applies, FlatPairs, IsFunction, PairSought, Relation, SomeFlat, SomePairs, WithinSet, new_first, new_firsts}
