-- What the proofs use of Rattle's libraries.
pub use Prim.Native.Nat.Ordering.{eq as Ordering·eq}
pub use Prim.Native.Nat.Ordering.{gt as Ordering·gt}
pub use Prim.Native.Nat.Ordering.{lt as Ordering·lt}
pub use Prim.Native.Nat.{Ordering, ◌%◌, ◌*◌, ◌+◌, ◌-◌, ◌/◌, ◌<◌, ◌≤◌, suc, zero, ℕ}
pub use borrow.Author.Rules.{rules}
pub use borrow.Author.Tests.{le-ltb, lt-ltb}
pub use lib.Dec.{eqb, ltb, ltb→lt, nltb→le}
pub use lib.IntN.{+ℤ_one, ◌+ℤ◌, ◌-ℤ◌, negsuc, pos, sub_ℕ, suc_ℤ, ℤ}
pub use lib.ListN.{drop, drop_of_length-le, get_or, take, length, length-append, length-reverse, length-set, set as set_at}
pub use lib.Seq.{drop-cons, get_or-set_other, get_or-set_same}
pub use mathlib.Core.Bool.{Bool, cond, false, true}
pub use mathlib.Core.List.{List, [], ◌++◌, ◌∷◌, append_assoc, append-nil, map, reverse, reverse-reverse, reverse_aux}
pub use Rattle.std.specs.Prelude.{None, Option, Some}
pub use mathlib.Core.Logic.{◌↔◌, inl}
pub use mathlib.Core.Path.{◌∙◌, ◌≡◌, ap, refl, subst, sym}
pub use mir.Val.{bool_byte}
pub use native.Mathlib.Decide.{dec_lt, ℕ_discrete}
pub use native.Mathlib.Nat.{mul-le-mul_right}
pub use native.Mathlib.Numerals.{add-one}
pub use native.Mathlib.Omega.{arith}
