-- What the proofs use of the specifications: values and the operations of the rules, the arena, and this crate's.
unfoldable pub use Rattle.rules.specs.Operations.{rising, subsets}
pub use Rattle.rules.specs.Operations.{kept_value, set_of}
pub use Rattle.rules.specs.Values.{Value, Values, ◌then◌, ◌▸◌, count, members, none, order, set, values, weight, weights}
unfoldable pub use Rattle.arena.specs.Code.{code, codes}
pub use Rattle.arena.specs.Code.{CopiedIf, CopyIfReady, EndsAt, Front, Made, Same, SetBelow, ValueAt}
pub use Rattle.products.specs.Growing.{Appended, Grown, SizeIs}
pub use Rattle.products.specs.declared.Size.{Size}
unfoldable pub use Rattle.powers.specs.Power.{picked, subset_for}
pub use Rattle.powers.specs.Power.{AllPre, AllSubsets, CountsSubsets, MarkPre, Marks, StandAt, SubsetPre, Subsets, masks, subset_counts}
