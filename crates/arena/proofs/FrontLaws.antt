-- Runs of values in the arena: members one behind the other, and the walk over the members of a set.
use Rattle.arena.proofs.Base.{ℕ, suc, ◌+◌, ◌*◌, ◌-◌, ◌%◌, ◌≤◌, ◌<◌, Ordering, Ordering·lt, Ordering·eq, Ordering·gt, List, [], ◌∷◌, ◌++◌, append_assoc, append-nil, ◌≡◌, refl, sym, ap, ◌∙◌, arith, length, get_or, RustOrdering, Less, Equal, Greater}
use Rattle.rules.specs.Values.{Value, set, Values, none, ◌▸◌, members, values, count, weight, weights}
use Rattle.laws.proofs.OrderLaws.{Small}
use Rattle.laws.proofs.SetOrder.{All, Rising, rising_cons}
use Rattle.arena.specs.Code.{cell_size, code, codes, ValueAt, Same, AllFit, ordering_of, SomeAt, EndsAt, Rises, SetBelow, ValueBelow, Front}
use Rattle.arena.proofs.CodeLaws.{length_code, length_codes, fits_small}
use Rattle.arena.proofs.Standing.{stands_head, stands_tail, first_stands, rest_stand, stands_frame}

-- Members one behind the other.
pub codes_append : (xs ys : List Value) → codes (values (xs ++ ys)) ≡ codes (values xs) ++ codes (values ys)
unfolding code
codes_append [] ys = refl
codes_append (x ∷ xs) ys = ap (λ (l : List ℕ). code x ++ l) (codes_append xs ys) ∙ sym (append_assoc (code x) (codes (values xs)) (codes (values ys)))

pub count_append : (xs ys : List Value) → count (values (xs ++ ys)) ≡ count (values xs) + count (values ys)
count_append [] ys = omega arith
count_append (x ∷ xs) ys = omega (arith, count_append xs ys)

pub weights_append : (xs ys : List Value) → weights (values (xs ++ ys)) ≡ weights (values xs) + weights (values ys)
weights_append [] ys = omega arith
weights_append (x ∷ xs) ys = omega (arith, weights_append xs ys)

pub single : (v : Value) → codes (v ▸ none) ≡ code v
unfolding code
single v = append-nil (code v)

-- The members of a set that rises rise, and are small.
pub rises_rising : (vs : Values) → Rises vs → Rising (members vs)
rises_rising none h = tt
rises_rising (v ▸ none) h = (tt, tt)
rises_rising (v ▸ w ▸ ws) h = rising_cons v w (members ws) h.0 (rises_rising (w ▸ ws) h.1)

pub fit_small : (vs : Values) → AllFit vs → All Small (members vs)
fit_small none h = tt
fit_small (v ▸ vs) h = (fits_small v h.0, fit_small vs h.1)

-- The members of a set stand behind its cell, which counts them.
module _ (s : List ℕ) (top a : ℕ) (vs : Values) (h : SetBelow s top a vs) where
  pub set_cell : get_or s a 0 ≡ 5 * cell_size + count vs
  unfolding code
  set_cell = stands_head s a (5 * cell_size + count vs) (codes vs) h.stands

  pub front_start : (n : ℕ) → n ≡ get_or s a 0 % 4294967296 → Front s top (a + 1) n vs
  unfolding code
  front_start n e = record {
    stands = stands_tail s a (5 * cell_size + count vs) (codes vs) h.stands;
    counted = omega (arith, set_cell, h.fine.fits.0);
    below = omega (arith, h.below);
    fits = h.fine.fits.1;
    rises = h.fine.rises;
    light = omega (arith, h.fine.light);
  }

  pub set_inside : a < length s
  set_inside = omega (arith, h.stands.inside, length_code (set vs))

  pub set_end : (e : ℕ) → EndsAt s a e → e ≡ a + 1 + weights vs
  set_end e x = omega (arith, x (set vs) h.stands h.fine.fits)

  pub set_cells : (e : ℕ) → EndsAt s a e → e - a - 1 ≤ 255
  set_cells e x = omega (arith, set_end e x, h.fine.light)

module _ (s : List ℕ) (top at n : ℕ) (v : Value) (vs : Values) (h : Front s top at n (v ▸ vs)) where
  -- The first member, and those behind it.
  pub front_value : ValueAt s at v
  front_value = first_stands s at v vs h.stands

  pub front_next : (e m : ℕ) → e ≡ at + weight v → suc m ≡ n → Front s top e m vs
  front_next e m p q = record {
    stands = rw p (rest_stand s at v vs h.stands);
    counted = omega (arith, h.counted);
    below = omega (arith, h.below);
    fits = h.fits.1;
    rises = h.rises.1;
    light = omega (arith, h.light);
  }

  pub front_below : ValueBelow s top at v
  front_below = record { stands = front_value; below = omega (arith, h.below); fits = h.fits.0; light = omega (arith, h.light) }

  pub front_at : SomeAt s at
  front_at = record { value = v; stands = front_value; fits = h.fits.0 }

pub front_some : (s : List ℕ) (top at n : ℕ) (vs : Values) → Front s top at n vs → 0 < n → SomeAt s at
front_some s top at n none h l = absurd (omega (arith, h.counted))
front_some s top at n (v ▸ vs) h l = front_at s top at n v vs h

-- What is below a frame stays.
pub front_frame : (k : ℕ) (s s' : List ℕ) (top at n : ℕ) (vs : Values) → Same k s s' → top ≤ k → Front s top at n vs → Front s' top at n vs
front_frame k s s' top at n vs f l h = record {
  stands = stands_frame k s s' at (codes vs) f (omega (arith, length_codes vs, h.below)) h.stands;
  counted = h.counted;
  below = h.below;
  fits = h.fits;
  rises = h.rises;
  light = h.light;
}

pub value_frame : (k : ℕ) (s s' : List ℕ) (top at : ℕ) (v : Value) → Same k s s' → top ≤ k → ValueBelow s top at v → ValueBelow s' top at v
value_frame k s s' top at v f l h = record {
  stands = stands_frame k s s' at (code v) f (omega (arith, length_code v, h.below)) h.stands;
  below = h.below;
  fits = h.fits;
  light = h.light;
}

-- A value that stands, and where it ends.
pub value_some : (s : List ℕ) (top e : ℕ) (v : Value) → ValueBelow s top e v → SomeAt s e
value_some s top e v h = record { value = v; stands = h.stands; fits = h.fits }

pub value_end : (s : List ℕ) (top a e : ℕ) (v : Value) → ValueBelow s top a v → EndsAt s a e → e ≡ a + weight v
value_end s top a e v h x = x v h.stands h.fits

-- The order that a function's answer stands for.
pub ordering_less : (o : Ordering) (c : RustOrdering) → c ≡ ordering_of o → c ≡ Less → o ≡ Ordering·lt
ordering_less Ordering·lt c e z = refl
ordering_less Ordering·eq c e z = cc
ordering_less Ordering·gt c e z = cc

pub ordering_equal : (o : Ordering) (c : RustOrdering) → c ≡ ordering_of o → c ≡ Equal → o ≡ Ordering·eq
ordering_equal Ordering·lt c e z = cc
ordering_equal Ordering·eq c e z = refl
ordering_equal Ordering·gt c e z = cc

pub ordering_greater : (o : Ordering) (c : RustOrdering) → c ≡ ordering_of o → c ≡ Greater → o ≡ Ordering·gt
ordering_greater Ordering·lt c e z = cc
ordering_greater Ordering·eq c e z = cc
ordering_greater Ordering·gt c e z = refl
