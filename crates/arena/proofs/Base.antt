-- What the laws use of Rattle's libraries.
pub use Prim.Native.Nat.Ordering.{eq as Ordering·eq}
pub use Prim.Native.Nat.Ordering.{gt as Ordering·gt}
pub use Prim.Native.Nat.Ordering.{lt as Ordering·lt}
pub use Prim.Native.Nat.{Ordering, ◌%◌, ◌*◌, ◌+◌, ◌-◌, ◌/◌, ◌<◌, ◌≤◌, compare, suc, zero, ℕ}
pub use Rattle.std.specs.declared.cmp.Ordering.{Ordering as RustOrdering}
pub use Rattle.std.specs.declared.cmp.Ordering.TheVariants.{Less, Equal, Greater}
pub use Rattle.std.specs.Ordering.{nat_cmp}
pub use mathlib.Core.Bool.{Bool, cond, false, true}
pub use mathlib.Core.List.{List, [], ◌++◌, ◌∷◌, append_assoc, append-nil}
pub use mathlib.Core.Logic.{◌⊎◌, inl, inr}
pub use mathlib.Core.Path.{◌∙◌, ◌≡◌, ap, refl, subst, sym}
pub use native.Mathlib.Omega.{arith}
pub use native.Mathlib.Nat.{add-zero}
pub use native.Mathlib.Decide.{dec_lt, ℕ_discrete}
pub use borrow.Author.Tests.{eq-eqb, le-ltb, lt-ltb, ne_eqb}
pub use borrow.Author.Rules.{rules}
pub use lib.Dec.{T, eqb, leb→le, le→leb, ltb}
pub use lib.IntN.{negsuc, pos, ℤ}
pub use lib.Signed.{mag}
pub use lib.ListN.{get_or-append as list·get_d_append, drop, get_or, length, length-append, length-set, set as set_at}
pub use lib.Seq.{get_or-append-add, get_or-set_other, get_or-set_same}
