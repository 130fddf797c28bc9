-- What the proofs of the functions cite.
pub use Rattle.operations.proofs.Base.{absurd01, ap, arith, eq-eqb, false≢true, inl, inr, leb-true, ne_eqb, not, refl}
pub use Rattle.operations.proofs.Terms.{apply, at_most, card, choice, diff, dom, equal, inter, interval, member, minus, pairing, plus, power, product, ran, singleton, subset, t̂, union, whole, û}
pub use Rattle.operations.proofs.DoubleLaws.{apply_none, apply_some, interval_done, merge_done, merge_unlike, minus_done, number_far, number_near, pair_done, plus_done, product_done, ready_first, ready_function, ready_second, ready_sets, ready_values, sum_unlike, two_last, two_of, two_unlike}
pub use Rattle.operations.proofs.FitLaws.{function_seen, ready_both, some_relation}
pub use Rattle.operations.proofs.GoodLaws.{good_fine, good_some, good_value, good_whole, some_inside, some_typed}
pub use Rattle.operations.proofs.LeafLaws.{booleans_done, elements_done, elements_ready}
pub use Rattle.operations.proofs.SingleLaws.{card_done, choice_none, choice_some, domain_done, one_last, one_of, one_unlike, power_done, range_done, ready_pairs, ready_set, ready_typed, ready_value, side_unlike, singleton_done}
pub use Rattle.operations.proofs.TestLaws.{equal_told, member_ready, member_told, numbers_at_most, numbers_equal, numbers_unlike, subset_ready, subset_told, test_last, test_numbers, test_of, test_unlike}
pub use Rattle.merging.proofs.MergedLaws.{diff_merged, inter_merged, union_merged}
