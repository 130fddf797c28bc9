-- What fields hold, by the kind of their node, and the categories of kinds, as the code has them.
use Rattle.std.specs.Prelude.{ℕ, ◌+◌, ◌*◌, ◌≡◌, ◌<◌, get_or, Option, None, Some}
use Rattle.std.proofs.Math.Option.{Option as Maybe, none as nothing, some}
use Rattle.rules.specs.Kinds.{Kind, Category, predicate, expression, category_of}
use Rattle.rules.specs.Kinds.{Field, unused, child, use_of, binder_of, set_number, element_number, any_word, truth_bit}
use Rattle.rules.specs.Tables.{fields_if}
use Rattle.table.specs.declared.NodeCategory.{NodeCategory}
use Rattle.table.specs.declared.NodeCategory.TheVariants.{Predicate, Expression}
use Rattle.table.specs.declared.Holds.{Holds}
use Rattle.table.specs.declared.Holds.TheVariants.{Nothing, Predicate as HoldsPredicate, Expression as HoldsExpression}
use Rattle.table.specs.declared.Holds.TheVariants.{IdentifierUsed, IdentifierBound, GivenSet, Element, AnyWord, Truth}

abbrev pub category_in_rules : NodeCategory → Category
category_in_rules Predicate = predicate
category_in_rules Expression = expression

-- What is held, in the terms of the rules.
abbrev pub field_of : Holds → Field
field_of Nothing = unused
field_of HoldsPredicate = child predicate
field_of HoldsExpression = child expression
field_of IdentifierUsed = use_of
field_of IdentifierBound = binder_of
field_of GivenSet = set_number
field_of Element = element_number
field_of AnyWord = any_word
field_of Truth = truth_bit

-- The category of a kind; none where the kind is unknown.
abbrev pub category_in_code : Category → NodeCategory
category_in_code predicate = Predicate
category_in_code expression = Expression

abbrev pub category_if : Maybe Kind → Option NodeCategory
category_if nothing = None
category_if (some k) = Some (category_in_code (category_of k))

abbrev pub code_of : Category → ℕ
code_of predicate = 1
code_of expression = 2

-- A category's code is that of a field that holds it; 0 where the kind is unknown.
abbrev pub category_code : Maybe Kind → ℕ
category_code nothing = 0
category_code (some k) = code_of (category_of k)

-- The code of what a field holds.
abbrev pub field_code : Field → ℕ
field_code unused = 0
field_code (child c) = code_of c
field_code use_of = 3
field_code binder_of = 4
field_code set_number = 5
field_code element_number = 6
field_code any_word = 7
field_code truth_bit = 8

abbrev pub code_at : Maybe Kind → ℕ → ℕ
code_at o i = field_code (get_or (fields_if o) i unused)

-- The codes of the fields a, b and c of a kind, as hexadecimal digits.
abbrev pub row_of : Maybe Kind → ℕ
row_of o = 256 * code_at o 0 + 16 * code_at o 1 + code_at o 2

-- The code is the digit of field i in a row, of each kind that has the row.
abbrev pub DigitOf : ℕ → ℕ → ℕ → Type 0
DigitOf row i c = (o : Maybe Kind) → row ≡ row_of o → c ≡ code_at o i

-- What a digit says: the field that it is the code of; a digit that is none's, nothing.
abbrev pub DigitHolds : ℕ → Holds → Type 0
DigitHolds c h = ((f : Field) → c ≡ field_code f → field_of h ≡ f) × (8 < c → field_of h ≡ unused)

-- What field i holds, of each kind that has the row.
abbrev pub HoldsOf : ℕ → ℕ → Holds → Type 0
HoldsOf row i h = (o : Maybe Kind) → row ≡ row_of o → field_of h ≡ get_or (fields_if o) i unused
