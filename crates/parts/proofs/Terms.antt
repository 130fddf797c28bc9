-- What the proofs use of the specifications: values and the operations of the rules, the arena, and this crate's.
unfoldable pub use Rattle.rules.specs.Operations.{insert, rising}
pub use Rattle.rules.specs.Operations.{placed, set_of}
unfoldable pub use Rattle.rules.specs.Values.{order}
pub use Rattle.rules.specs.Values.{Value, Values, ◌▸◌, count, members, none, pair, scalar, set, values, weight, weights}
unfoldable pub use Rattle.arena.specs.Code.{code, codes}
pub use Rattle.arena.specs.Code.{AllPairs, CellsFit, Compared, Copied, EndsAt, Front, Made, Same, SomeAt, Stands, ValueAt, ValueBelow, ordering_of}
pub use Rattle.products.specs.Growing.{Appended}
pub use Rattle.parts.specs.Parts.{BuiltParts, FindPre, InsertPre, Inserts, LastAt, MovedLast, PartsPre, PlaceBetween, StandBetween, chosen, last_of, part}
pub use Rattle.parts.specs.declared.Out.{Out}
