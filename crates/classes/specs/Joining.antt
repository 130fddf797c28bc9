-- Two classes made one: what their shapes leave, the words of the merged class, and the equations that go on the stack.
use Rattle.std.specs.Prelude.{ℕ, zero, suc, ◌<◌, min, max, List, Option, Some, None, ◌≢◌, ◌≡◌, set}
use Rattle.rules.specs.Types.{Ty}
use Rattle.terms.specs.Words.{word_form, word_left, word_right, LinkWord}

-- The words s and t of one class leave c equations between their parts.
pub data Leaves (s t c : ℕ) : Type 0 where
  first_open : c ≡ 0 → word_form s ≡ 0 → Leaves s t c
  second_open : c ≡ 0 → word_form t ≡ 0 → Leaves s t c
  one_atom : c ≡ 0 → word_form s ≡ 1 → word_form t ≡ 1 → word_left s ≡ word_left t → Leaves s t c
  two_powers : c ≡ 1 → word_form s ≡ 2 → word_form t ≡ 2 → Leaves s t c
  two_products : c ≡ 2 → word_form s ≡ 3 → word_form t ≡ 3 → Leaves s t c

-- They clash.
pub data Clashes (s t : ℕ) : Type 0 where
  two_forms : word_form s ≢ 0 → word_form t ≢ 0 → word_form s ≢ word_form t → Clashes s t
  two_atoms : word_form s ≡ 1 → word_form t ≡ 1 → word_left s ≢ word_left t → Clashes s t

abbrev pub LeavesIf : (s t : ℕ) → Option ℕ → Type 0
LeavesIf s t (Some c) = Leaves s t c
LeavesIf s t None = Clashes s t

abbrev pub second_if_open : ℕ → ℕ → ℕ → ℕ
second_if_open zero s t = t
second_if_open (suc k) s t = s

-- The word of the merged class: t where s is open.
abbrev pub known_word : ℕ → ℕ → ℕ
known_word s t = second_if_open (word_form s) s t

-- The first c parts of two words have the same types.
abbrev pub PartsEqual : (ℕ → Ty) → (s t c : ℕ) → Type 0
PartsEqual θ s t c = (0 < c → θ (word_left s) ≡ θ (word_left t)) × (1 < c → θ (word_right s) ≡ θ (word_right t))

-- The greater of p and q links to the smaller, which has the word k.
pub record Joined (ts : List ℕ) (p q k : ℕ) (ts' : List ℕ) : Type 0 where
  pub word : ℕ
  pub links : LinkWord word (min p q)
  pub is : ts' ≡ set (set ts (max p q) word) (min p q) k
