-- What the proofs use of the specifications: values and the operations of the rules, the arena, and this crate's.
unfoldable pub use Rattle.rules.specs.Operations.{elements_from, pairs_of, up_from}
pub use Rattle.rules.specs.Operations.{set_of, to_count}
pub use Rattle.rules.specs.Values.{Value, Values, ◌▸◌, count, int, members, none, pair, set, truth_value, values, weight, weights}
unfoldable pub use Rattle.arena.specs.Code.{code, codes, excess}
pub use Rattle.arena.specs.Code.{CellsFit, Copied, EndsAt, Front, Made, SetAt, SetBelow, SomeAt, Stands, ValueBelow}
unfoldable pub use Rattle.products.specs.Growing.{cells_from}
pub use Rattle.products.specs.Growing.{Appended, FewCells, Grown, Intervals, PairPre, PairPut, PutsRun, RowPre, Rows, RunPre, SizeIs, SmallProducts, SquarePre, Squares, pairs_with, product_weight, square}
pub use Rattle.products.specs.declared.Size.{Size}
