-- What the laws use of the specifications: values, kinds and rules, the arena, and what the operations answer.
pub use Rattle.rules.specs.Types.{INTEGER, POW, Ty, ◌⊗◌, whole}
unfoldable pub use Rattle.rules.specs.Values.{same}
pub use Rattle.rules.specs.Values.{Value, Values, ◌▸◌, count, element, int, members, none, num, order, pair, payload, scalar, set, truth, truth_value, values, weight, weights}
unfoldable pub use Rattle.rules.specs.Kinds.{kind_of}
pub use Rattle.rules.specs.Kinds.{Join, Kind, Leaf, One, Quant, Test, Two, and, apply, at_most, bool_of, bool_set, card, choice, comprehension, diff, dom, element_of, empty_set, equal, for_all, for_some, given_set, identifier, iff, implies, inter, interval, join, kinds, leaf, literal, member, minus, negation, one, or, pairing, plus, power, product, quant, ran, singleton, subset, test, truth_const, two, union}
pub use Rattle.rules.specs.Rules.{Pattern, P̂, ◌×̂◌, inst, numᵖ, one_rule, test_rule, two_rule, t̂, û}
unfoldable pub use Rattle.rules.specs.Fits.{fits, typed}
pub use Rattle.rules.specs.Fits.{Fits, HasType, HaveType}
pub use Rattle.rules.specs.Runs.{Given, gives, lacks}
unfoldable pub use Rattle.rules.specs.Operations.{elements_from, holds, leaf_value, one_value, two_value}
pub use Rattle.rules.specs.Operations.{Env, set_of}
unfoldable pub use Rattle.arena.specs.Code.{code, excess}
pub use Rattle.arena.specs.Code.{AllPairs, CellsFit, FineSet, Made, Rises, Same, SameAt, SetBelow, SomeAt, SomeRelation, SomeSet, SomeValue, ValueBelow, cell_size}
pub use Rattle.functions.specs.Pairs.{Applies, ImageAt, KnownFunction, new_firsts}
pub use Rattle.fitting.specs.Tests.{Both, FitOne, FitTwo}
pub use Rattle.operations.specs.Good.{FunctionSeen, GoodAt, NewFirsts, Sizes, SomeGood}
unfoldable pub use Rattle.operations.specs.Outcomes.{one_given, tested, two_given}
pub use Rattle.operations.specs.Outcomes.{NodeAnswer, BuiltAt, GivenCell, Gives, LeafDone, LeafFits, LeafReady, NumberCell, NumbersTold, OneDone, OneOf, OneReady, Operands, TestDone, TestOf, TwoDone, TwoOf, TwoReady, ended, weighed}
pub use Rattle.operations.specs.Parts.{MergeDone, NumberDone, Shifted, side_kind, sum_kind}
pub use Rattle.operations.specs.declared.Outcome.TheVariants.{Built, Cell, Within}
pub use Rattle.operations.specs.declared.Lack.TheVariants.{Unlike, NoValue, Wide}
pub use Rattle.std.specs.Prelude.{Some, None, Ok, Err}
