-- What taking a word apart gives.
use Rattle.std.specs.Prelude.{ℕ, ◌≤◌, ◌≡◌}
use Rattle.terms.specs.declared.Term.{Term}
use Rattle.terms.specs.declared.Term.TheVariants.{Open, Atom, Power, Product, Link}
use Rattle.terms.specs.Words.{word_form, word_left, word_right}

-- The word w has this form and these numbers.
abbrev pub TermIs : ℕ → Term → Type 0
TermIs w Open = word_form w ≡ 0
TermIs w (Atom c) = (word_form w ≡ 1) × (c ≡ word_left w)
TermIs w (Power v) = (word_form w ≡ 2) × (v ≡ word_left w)
TermIs w (Product v u) = (word_form w ≡ 3) × (v ≡ word_left w) × (u ≡ word_right w)
TermIs w (Link u) = (4 ≤ word_form w) × (u ≡ word_right w)
