-- Words put together: the parts of w, with the form f and the numbers l and r, and the term that it holds.
use Prim.Native.Nat.{ℕ, ◌+◌, ◌*◌, ◌<◌}
use mathlib.Core.Path.{◌≡◌, refl}
use native.Mathlib.Omega.{arith}
use Rattle.unification.specs.Problem.{unknown, leaf, power, product, atom_from}
use Rattle.unification.specs.Codes.{AtomCode}
use Rattle.terms.specs.Words.{word_form, word_left, word_right, term_from, term_of, ShapeWord, LinkWord}

module _ (w f l r : ℕ) (e : w ≡ f * 16777216 + 4096 * l + r) (hl : l < 4096) (hr : r < 4096) where
  pub word_form_law : word_form w ≡ f
  word_form_law = omega arith

  pub word_left_law : word_left w ≡ l
  word_left_law = omega arith

  pub word_right_law : word_right w ≡ r
  word_right_law = omega arith

  pub word_term : term_of w ≡ term_from f l r
  unfolding term_of
  word_term = rw (word_form_law, word_left_law, word_right_law)

pub open_word : ShapeWord 0 unknown
unfolding term_of
open_word = record { form = omega arith; code = λ e. absurd (omega arith); term = refl }

pub atom_word : {w c : ℕ} → w ≡ 1 * 16777216 + 4096 * c + 0 → c < 4096 → AtomCode c → ShapeWord w (leaf (atom_from c))
atom_word {w} {c} e h a = record {
  form = omega (arith, word_form_law w 1 c 0 e h (omega arith));
  code = λ _. rw (word_left_law w 1 c 0 e h (omega arith)) a;
  term = word_term w 1 c 0 e h (omega arith);
}

pub power_word : {w v : ℕ} → w ≡ 2 * 16777216 + 4096 * v + 0 → v < 4096 → ShapeWord w (power v)
power_word {w} {v} e h = record {
  form = omega (arith, word_form_law w 2 v 0 e h (omega arith));
  code = λ o. absurd (omega (arith, word_form_law w 2 v 0 e h (omega arith)));
  term = word_term w 2 v 0 e h (omega arith);
}

pub product_word : {w v u : ℕ} → w ≡ 3 * 16777216 + 4096 * v + u → v < 4096 → u < 4096 → ShapeWord w (product v u)
product_word {w} {v} {u} e h k = record {
  form = omega (arith, word_form_law w 3 v u e h k);
  code = λ o. absurd (omega (arith, word_form_law w 3 v u e h k));
  term = word_term w 3 v u e h k;
}

pub link_word : {w u : ℕ} → w ≡ 4 * 16777216 + 4096 * 0 + u → u < 4096 → LinkWord w u
link_word {w} {u} e h = record {
  form = word_form_law w 4 0 u e (omega arith) h;
  right = word_right_law w 4 0 u e (omega arith) h;
  term = word_term w 4 0 u e (omega arith) h;
}
