-- What the laws use of Rattle's libraries.
pub use Prim.Native.Nat.{◌%◌, ◌*◌, ◌+◌, ◌-◌, ◌<◌, ◌≤◌, suc, zero, ℕ}
pub use mathlib.Core.Bool.{Bool, ◌&&◌, cond, false, false≢true, not, true}
pub use mathlib.Core.List.{List, [], ◌∷◌}
pub use mathlib.Core.Logic.{◌≢◌, ◌⊎◌, inl, inr}
pub use mathlib.Core.Path.{◌∙◌, ◌≡◌, ap, refl, subst, sym}
pub use native.Mathlib.Omega.{arith}
pub use Rattle.std.specs.Prelude.{None, Option, Some}
pub use native.Mathlib.Decide.{dec_lt}
pub use borrow.Author.Tests.{eq-eqb, le-leb, leb-true, lt-leb, ne_eqb, not-false, not-true}
pub use borrow.Author.Rules.{rules}
pub use lib.Dec.{T, eqb, eqb_refl, eqb→eq, leb, leb→le, le→leb, ltb, ltb→lt, nltb→le}
pub use lib.IntN.{◌+ℤ◌, ◌-ℤ◌, negsuc, pos, sub_ℕ, ℤ}
pub use lib.ListN.{get_or, length}
pub use Rattle.rules.proofs.Basics.{absurd01, bool_eq}
