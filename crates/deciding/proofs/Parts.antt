-- A class's shape by the term of its word, and what follows for its mark and for the parts that are left.
use Prim.Native.Nat.{ℕ, ◌%◌, ◌<◌, ◌≤◌}
use mathlib.Core.Bool.{Bool, true, false, true≢false}
use mathlib.Core.List.{List}
use mathlib.Core.Logic.{◌⊎◌, inl, inr}
use mathlib.Core.Path.{◌≡◌, refl, sym, ap, ◌∙◌}
use native.Mathlib.Omega.{arith}
use lib.Dec.{eqb}
use lib.ListN.{get_or, length}
use borrow.Author.Tests.{eqb-true, eqb-false}
use Rattle.std.specs.Prelude.{Option, Some, None, MatchOption}
use Rattle.unification.specs.Problem.{power, product, shape_of}
use Rattle.terms.specs.Words.{word_form, word_left, word_right}
use Rattle.terms.specs.Terms.{Terms, class_in}
use Rattle.terms.specs.Decided.{class_mark}
use Rattle.terms.specs.Decoding.{TermIs}
use Rattle.terms.specs.declared.Term.{Term}
use Rattle.terms.specs.declared.Term.TheVariants.{Open, Atom, Power, Product, Link}
use Rattle.terms.proofs.TermLaws.{term_known, link_below, class_link, class_known, form_known, form_link}
use Rattle.deciding.specs.Marking.{word_shape, mark_over, mark_shape, Final, Answered, ClassAt, PartsSmall, PartUnmarked, NextPart}
use Rattle.deciding.specs.Visit.{VisitNext}
use Rattle.deciding.proofs.Graphs.{parts_in}

-- ---- answers
pub answered_yes : (P : Type 0) (b : Bool) → Answered P b → b ≡ true → P
answered_yes P true a e = a
answered_yes P false a e = absurd (true≢false (sym e))

pub answered_no : (P : Type 0) (b : Bool) → Answered P b → b ≡ false → P → ⊥
answered_no P true a e = absurd (true≢false e)
answered_no P false a e = a

-- ---- a class's shape
module _ {ts marks : List ℕ} {c : ℕ} (k : ClassAt ts marks c) where
  abbrev w : ℕ
  w = get_or ts c 0

  class_form : word_form w ≤ 3
  class_form = form_known k.terms k.below refl
      (λ e. omega (arith, link_below k.terms k.below refl e, (class_link k.terms k.below refl e).0, k.class))

  three : (f : ℕ) → word_form w ≡ f → word_shape ts c ≡ shape_of f (word_left w) (word_right w)
  three f e = rw (term_known w class_form) (ap (λ (x : ℕ). shape_of x (word_left w) (word_right w)) e)

  shape_power : {v : ℕ} → TermIs w (Power v) → word_shape ts c ≡ power v
  shape_power is = three 2 is.0 ∙ ap power (sym is.1)

  shape_product : {v u : ℕ} → TermIs w (Product v u) → word_shape ts c ≡ product v u
  shape_product is = rw (is.1, is.2) (three 3 is.0)

  -- ---- its parts
  pub power_asks : {v : ℕ} → TermIs w (Power v) → Terms (length ts) ts × (v < length ts)
  power_asks is = (k.terms, rw (shape_power is) at (parts_in k.terms c k.below))

  pub product_asks : {v u : ℕ} → TermIs w (Product v u) → Terms (length ts) ts × (v < length ts) × (u < length ts)
  product_asks is = let p = rw (shape_product is) at (parts_in k.terms c k.below) in (k.terms, p.0, p.1)

  -- ---- its mark
  no_link : {T : Type 0} {u : ℕ} → TermIs w (Link u) → T
  no_link is = absurd (omega (arith, is.0, class_form))

  pub mark_open : (t : Term) → TermIs w t → (t ≡ Open) ⊎ ((u : ℕ) × (t ≡ Link u)) → 129 ≡ mark_shape (class_mark ts marks) (word_shape ts c)
  mark_open t is (inl e) = rw (three 0 (rw e at is)) refl
  mark_open t is (inr l) = no_link (rw l.1 at is)

  pub mark_atom : {a : ℕ} → TermIs w (Atom a) → 1 ≡ mark_shape (class_mark ts marks) (word_shape ts c)
  mark_atom is = rw (three 1 is.0) refl

  -- x is the class of the part, or of the first.
  module _ {v x : ℕ} (xe : x ≡ class_in ts v) where
    pub small_power : TermIs w (Power v) → PartsSmall ts marks c → get_or marks x 0 % 128 ≤ 65
    small_power is s = rw xe (rw (shape_power is) at s)

    pub mark_power : TermIs w (Power v) → mark_over (get_or marks x 0) 0 ≡ mark_shape (class_mark ts marks) (word_shape ts c)
    mark_power is = rw (shape_power is, xe) refl

    -- y is the class of the second.
    module _ {u y : ℕ} (ye : y ≡ class_in ts u) (is : TermIs w (Product v u)) where
      pub small_product : PartsSmall ts marks c → (get_or marks x 0 % 128 ≤ 65) × (get_or marks y 0 % 128 ≤ 65)
      small_product s = rw (xe, ye) (rw (shape_product is) at s)

      pub mark_product : mark_over (get_or marks x 0) (get_or marks y 0) ≡ mark_shape (class_mark ts marks) (word_shape ts c)
      mark_product = rw (shape_product is, xe, ye) refl

  -- ---- the part that is left
  pub next_none : (t : Term) → TermIs w t → ((v : ℕ) → t ≡ Power v → ⊥) → ((v u : ℕ) → t ≡ Product v u → ⊥) → NextPart ts marks c None
  next_none Open is a b = rw (three 0 is) tt
  next_none (Atom x) is a b = rw (three 1 is.0) tt
  next_none (Power v) is a b = absurd (a v refl)
  next_none (Product v u) is a b = absurd (b v u refl)
  next_none (Link u) is a b = no_link is

  pub next_power : {v : ℕ} → TermIs w (Power v) → (r : Option ℕ) → PartUnmarked ts marks v r → NextPart ts marks c r
  next_power {v} is (Some p) a = record { part = v; is_part = rw (shape_power is) refl; class = a.0; below = a.1; bare = a.2 }
  next_power is None a = rw (shape_power is) a

  module _ {v u : ℕ} (is : TermIs w (Product v u)) where
    next_second : (r : Option ℕ) → Final (class_mark ts marks v) → PartUnmarked ts marks u r → NextPart ts marks c r
    next_second (Some p) f b = record { part = u; is_part = rw (shape_product is) (inr refl); class = b.0; below = b.1; bare = b.2 }
    next_second None f b = rw (shape_product is) (f, b)

    -- The answer for the first part, or else for the second.
    pub next_product : (a r : Option ℕ) → PartUnmarked ts marks v a → MatchOption a (PartUnmarked ts marks u r) (λ p. r ≡ Some p) → NextPart ts marks c r
    next_product (Some p) r x e = rw e (record { part = v; is_part = rw (shape_product is) (inl refl); class = x.0; below = x.1; bare = x.2 })
    next_product None r f b = next_second r f b

-- ---- which class is next
module _ {n : ℕ} {ts : List ℕ} {v : ℕ} (t : Terms n ts) (marks : List ℕ) (h : v < n) where
  pub no_next : {u : ℕ} → TermIs (get_or ts v 0) (Link u) → VisitNext n ts marks v → ⊥
  no_next is x = let e = form_link t h refl is.0 in omega (arith, link_below t h refl e, (class_link t h refl e).0, x.class)

  pub next_answer : word_form (get_or ts v 0) ≤ 3 → Answered (VisitNext n ts marks v) (eqb (get_or marks v 0) 0)
  next_answer f = go (eqb (get_or marks v 0) 0) refl
    where
      go : (b : Bool) → eqb (get_or marks v 0) 0 ≡ b → Answered (VisitNext n ts marks v) b
      go true e = record { below = h; class = sym (class_known t h refl f).0; bare = eqb-true (get_or marks v 0) 0 e }
      go false e = λ x. eqb-false (get_or marks v 0) 0 e x.bare
