-- The terms that the laws speak in: of the language, of the rules, of the arena, and of the evaluators' contracts; and what several of them take from
-- the laws of other crates.
pub use Prim.Native.Nat.{ℕ, suc, ◌+◌, ◌-◌, ◌<◌, ◌*◌, ◌≤◌, zero, ◌%◌}
pub use mathlib.Core.Bool.{Bool, true, false, not, cond, beq as Bool·beq, false≢true, ◌&&◌}
pub use mathlib.Core.List.{List, [], ◌∷◌, ◌++◌, append_assoc, append-nil}
pub use mathlib.Core.Option.{some, Option, none as nothing}
pub use mathlib.Core.Path.{◌≡◌, refl, sym, ap, ◌∙◌, subst}
pub use native.Mathlib.Omega.{arith}
pub use native.Mathlib.Decide.{ℕ_discrete, dec_lt}
pub use borrow.Author.Tests.{not-true, not-false, eq-eqb, ne_eqb, lt-ltb, le-ltb, le-leb, leb-true, eqb-false}
pub use lib.ListN.{length, get_or, set as set_at, length-set}
pub use lib.Seq.{get_or-set_other, get_or-set_same}
pub use mir.Val.{bool_byte}
pub use mathlib.Core.Logic.{◌≢◌, ◌⊎◌, inl, inr, ⊎_elim}
pub use lib.Dec.{leb, eqb, T, lit<, ltb}
pub use borrow.Author.Rules.{rules, scaled_Fits, Fits-under}
unfoldable pub use Rattle.rules.specs.Kinds.{kind_of}
pub use Rattle.rules.specs.Kinds.{predicate, negation, expression, test, and, or, implies, iff, for_all, for_some, identifier, Kind, join, quant, leaf, bool_of, one, two, comprehension, Category, unused, child, fields_of, Test, equal, member, subset, at_most, Leaf, given_set, element_of, literal, truth_const, empty_set, bool_set, singleton, power, dom, ran, card, choice, pairing, union, inter, diff, product, apply, plus, minus, interval, One, Join, category_of, Field, is_child, Quant}
unfoldable pub use Rattle.rules.specs.Tables.{pred_at, expr_at, held}
pub use Rattle.rules.specs.Tables.{Pred, table_of, node_at, kind_at, node_count, Node, Expr, pred_of, field_words, notᵖ, leafᵉ, boolᵉ, oneᵉ, twoᵉ, comprehensionᵉ, Table, fields_if, pick, expr_of, nodes_at}
pub use Rattle.rules.specs.Readable.{Readable, CategoryIs, FieldRight, FieldsRight, KindRight, NodeRight}
unfoldable pub use Rattle.rules.specs.Operations.{leaf_value}
pub use Rattle.rules.specs.Operations.{Env, holds, set_of, one_value, two_value, ◌with◌≔◌}
unfoldable pub use Rattle.rules.specs.Evaluation.{holdsᵖ, valueᵉ, select, quantify}
pub use Rattle.rules.specs.Evaluation.{fitting}
pub use Rattle.rules.specs.Values.{Value, Values, weight, members, count, none, ◌▸◌, values, weights, truth_value, set}
pub use Rattle.rules.specs.Fits.{fits}
unfoldable pub use Rattle.rules.specs.Fits.{typed}
pub use Rattle.rules.specs.Ends.{End, done, refused}
pub use Rattle.rules.specs.Runs.{Run, M, return, ◌>>=◌, ◌>>◌, gives, visit, Given, demand, emit, go_on, form, lacks}
pub use Rattle.rules.specs.Cells.{good, weight_limit}
unfoldable pub use Rattle.rules.specs.Reading.{tallest, height}
pub use Rattle.rules.specs.Types.{whole}
pub use Rattle.rules.specs.Rules.{test_rule, one_rule, two_rule, P̂, t̂, quant_rule, Rule}
pub use Rattle.rules.proofs.Basics.{absurd01}
pub use Rattle.laws.proofs.KindLaws.{kind_of_law, code_of_law, join_code, same_join, quant_code}
unfoldable pub use Rattle.arena.specs.Code.{code}
pub use Rattle.arena.specs.Code.{CellsFit, codes, Stands, Same, SomeAt, EndsAt, ValuesAt, ValueAt, cell_size, Copied, CopyIfReady, CopiedIf}
pub use Rattle.arena.proofs.Standing.{stands_frame, same_refl, same_trans, copied_stands, stands_append, stands_tail, stands_front, stands_back}
pub use Rattle.arena.proofs.CodeLaws.{length_code, length_codes}
pub use Rattle.products.specs.Growing.{PutsCell}
pub use Rattle.constants.specs.Built.{Builds, built, built_leaf}
pub use Rattle.constants.proofs.ConstantLaws.{constants_frame, leaf_one}
pub use Rattle.operations.specs.Good.{Sizes, GoodAt, NewFirsts, KnownFunction}
pub use Rattle.operations.proofs.GoodLaws.{good_fits, good_inside, good_above, function_known, good_typed_at}
unfoldable pub use Rattle.operations.specs.Outcomes.{tested, one_given, two_given}
pub use Rattle.operations.specs.Outcomes.{NodeAnswer, SomeOperands, BuiltAt, Gives, TestOf, LeafFits, LeafReady, LeafDone, OneReady, OneOf, TwoReady, TwoOf, LightOf, WithinAt, GivenCell, weighed, fitted, IsLight}
pub use Rattle.reading.specs.declared.Refusal.{Refusal}
pub use Rattle.laws.proofs.CellsLaws.{good_weight, size_below, count_weights, good_typed}
pub use Rattle.laws.proofs.TableLaws.{sizes_length, binds_length, nodes_length, height_at}
pub use Rattle.laws.proofs.EndLaws.{T_true, T_and, t_leb}
pub use Rattle.laws.proofs.FormedLaws.{value_good, elems_good, with_good}
pub use Rattle.operations.specs.declared.Outcome.TheVariants.{Built, Within, Cell}
pub use Rattle.operations.specs.declared.Outcome.{Outcome}
pub use Rattle.visits.specs.declared.Held.{Held}
pub use Rattle.visits.specs.declared.Held.TheVariants.{Truth, Refused}
pub use Rattle.visits.specs.Answers.{HeldAs, turned_by, Listed, EndsWith, PlacedAs, SelectedAs, SettleReady, numbered, GivesNumbered, FormedAs, FormedBounds, SettledAs, RefusalOf, StopOf, RangeSet}
pub use Rattle.visits.specs.Cycle.{NodeReady, truth_at, Passes, EvaluatesP, cells_for, Binds, AsksEach, body_of, EachReady, condition_cells, Visited, Sort, Asks, value_at, EvaluatesE, EvaluatesChosen, Settles, expression_cells, EvaluatesEach, StandingTwo}
pub use Rattle.visits.specs.Nodes.{field_a, IsPred, field_c, entry_place, FunctionEntry, field_b, IsExpr, PlacedLeaf, RangeAt, leaf_place, PlaceReady, StandingReady, LeafNode, LeafFormed, FunctionLeaf, decided, DecidesBy, JoinedBy, quant_of, SomeGood}
pub use Rattle.visits.specs.declared.Formed.{Formed}
pub use Rattle.visits.specs.declared.Formed.TheVariants.{Value as Placed, Stopped}
pub use Rattle.std.specs.Prelude.{Some, None, Result, Ok, Err}
