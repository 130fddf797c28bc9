-- A variable's term in one word: its form and two numbers of 12 bits.
use Rattle.std.specs.Prelude.{ℕ, zero, suc, ◌/◌, ◌%◌, ◌≤◌, ◌≡◌}
use Rattle.unification.specs.Problem.{Shape, unknown, leaf, power, product, Eqn, eqn, atom_from}
use Rattle.unification.specs.Codes.{AtomCode}

-- A shape, or a link to a smaller variable, which has the same type.
pub data Term : Type 0 where
  known : Shape → Term
  link : ℕ → Term

abbrev pub word_form : ℕ → ℕ
word_form w = w / 16777216

abbrev pub word_left : ℕ → ℕ
word_left w = w / 4096 % 4096

abbrev pub word_right : ℕ → ℕ
word_right w = w % 4096

abbrev pub term_from : ℕ → ℕ → ℕ → Term
term_from zero l r = known unknown
term_from (suc zero) l r = known (leaf (atom_from l))
term_from (suc (suc zero)) l r = known (power l)
term_from (suc (suc (suc zero))) l r = known (product l r)
term_from (suc (suc (suc (suc k)))) l r = link r

unfoldable pub term_of : ℕ → Term
term_of w = term_from (word_form w) (word_left w) (word_right w)

-- A word holds a shape. The code of a type without parts is one of a sheet's.
pub record ShapeWord (w : ℕ) (s : Shape) : Type 0 where
  pub form : word_form w ≤ 3
  pub code : word_form w ≡ 1 → AtomCode (word_left w)
  pub term : term_of w ≡ known s

-- A word holds a link.
pub record LinkWord (w u : ℕ) : Type 0 where
  pub form : word_form w ≡ 4
  pub right : word_right w ≡ u
  pub term : term_of w ≡ link u

-- An equation between two variables in one word.
abbrev pub word_eqn : ℕ → Eqn
word_eqn w = eqn (w / 4096) (w % 4096)
