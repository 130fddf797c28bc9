-- The term of a word by its form, and the class of a variable.
use Prim.Native.Nat.{ℕ, zero, suc, ◌<◌, ◌≤◌}
use mathlib.Core.List.{List}
use mathlib.Core.Path.{◌≡◌, refl, sym, ap, subst}
use native.Mathlib.Omega.{arith}
use lib.ListN.{get_or}
use Rattle.unification.specs.Problem.{Shape, shape_of}
use Rattle.terms.specs.Words.{known, link, word_form, word_left, word_right, term_from, term_of}
use Rattle.terms.specs.Terms.{TermBelow, Terms, class_in}
use Rattle.terms.specs.Decoding.{TermIs}
use Rattle.terms.specs.declared.Term.{Term}
use Rattle.terms.specs.declared.Term.TheVariants.{Open, Atom, Power, Product, Link}

-- The shape of a word that holds one.
abbrev pub shape_in : ℕ → Shape
shape_in w = shape_of (word_form w) (word_left w) (word_right w)

from_known : (f l r : ℕ) → f ≤ 3 → term_from f l r ≡ known (shape_of f l r)
from_known zero l r h = refl
from_known (suc zero) l r h = refl
from_known (suc (suc zero)) l r h = refl
from_known (suc (suc (suc zero))) l r h = refl
from_known (suc (suc (suc (suc k)))) l r h = absurd (omega arith)

pub term_known : (w : ℕ) → word_form w ≤ 3 → term_of w ≡ known (shape_in w)
unfolding term_of
term_known w h = from_known (word_form w) (word_left w) (word_right w) h

pub term_link : (w : ℕ) → word_form w ≡ 4 → term_of w ≡ link (word_right w)
unfolding term_of
term_link w e = rw e refl

-- A word that is no link has a shape.
pub not_link : (w : ℕ) (t : Term) → TermIs w t → ((u : ℕ) → t ≡ Link u → ⊥) → word_form w ≤ 3
not_link w Open f h = omega arith
not_link w (Atom c) f h = omega arith
not_link w (Power v) f h = omega arith
not_link w (Product v u) f h = omega arith
not_link w (Link u) f h = absurd (h u refl)

-- The class of v, whose word is w.
module _ {n : ℕ} {ts : List ℕ} (t : Terms n ts) {v w : ℕ} (h : v < n) (e : w ≡ get_or ts v 0) where
  word_is : term_of (get_or ts v 0) ≡ term_of w
  word_is = ap term_of (sym e)

  pub link_below : word_form w ≡ 4 → word_right w < v
  link_below f =
      subst (TermBelow n v) (term_link w f) (subst (TermBelow n v) word_is (t.each v h).parts)

  pub class_link : word_form w ≡ 4 → (word_right w ≡ class_in ts v) × (word_right w < n)
  class_link f = (rw (word_is, term_link w f) refl, omega (arith, link_below f))

  pub class_known : word_form w ≤ 3 → (v ≡ class_in ts v) × (v < n)
  class_known f = (rw (word_is, term_known w f) refl, h)

  pub form_known : (word_form w ≡ 4 → ⊥) → word_form w ≤ 3
  form_known f = omega (arith, f, subst (λ x. word_form x ≤ 4) (sym e) (t.each v h).form)

  pub form_link : 4 ≤ word_form w → word_form w ≡ 4
  form_link f = omega (arith, f, subst (λ x. word_form x ≤ 4) (sym e) (t.each v h).form)
