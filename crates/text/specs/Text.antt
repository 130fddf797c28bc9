-- Document 01, "Conditions tried": the lines that the listing program prints, as bytes.
use Rattle.std.specs.Prelude.{ℕ, zero, suc, ◌+◌, ◌*◌, ◌-◌, ◌/◌, ◌%◌, cond, List, [], ◌∷◌, ◌++◌, ◌≡◌, ltb, length, take, drop}
use Rattle.io.specs.Digits.{hex_digit_ascii}
use Rattle.rules.specs.Verdict.{rows_from}

-- The characters that are named below.
abbrev pub space : ℕ
space = 32

abbrev pub newline : ℕ
newline = 10

-- A number in decimal, with no zeros in front; f, the turns allowed, is above it.
unfoldable pub decimal_in : ℕ → ℕ → List ℕ
decimal_in zero n = []
decimal_in (suc f) n = cond (ltb n 10) (hex_digit_ascii n ∷ []) (decimal_in f (n / 10) ++ (hex_digit_ascii (n % 10) ∷ []))

unfoldable pub decimal_of : ℕ → List ℕ
unfolding decimal_in
decimal_of n = decimal_in (suc n) n

-- A byte as two lower-case hexadecimal digits.
abbrev pub hex_byte : ℕ → List ℕ
hex_byte b = hex_digit_ascii (b / 16) ∷ hex_digit_ascii (b % 16) ∷ []

unfoldable pub hex_of : List ℕ → List ℕ
hex_of [] = []
hex_of (b ∷ bs) = hex_byte b ++ hex_of bs

-- A row without its fill: no code of a type is 0.
unfoldable pub unfilled : List ℕ → List ℕ
unfilled [] = []
unfilled (b ∷ bs) = elim b [ zero ↦ [] | suc c ↦ suc c ∷ unfilled bs ]

-- The codes of a type, or p where there are none: the row of a predicate.
abbrev pub codes_text : List ℕ → List ℕ
codes_text [] = 112 ∷ []
codes_text (b ∷ bs) = hex_of (b ∷ bs)

unfoldable pub row_text : List ℕ → List ℕ
unfolding hex_of unfilled
row_text row = codes_text (unfilled row)

-- i and n, and the number among identifiers or nodes, of place p where i identifiers stand first.
abbrev pub letter_of : ℕ → ℕ → ℕ
letter_of i p = cond (ltb p i) 105 110

abbrev pub index_of : ℕ → ℕ → ℕ
index_of i p = cond (ltb p i) p (p - i)

-- The line of place p: i or n, the number, the row.
unfoldable pub line_of : ℕ → ℕ → List ℕ → List ℕ
unfolding decimal_of row_text
line_of i p row = letter_of i p ∷ space ∷ decimal_of (index_of i p) ++ (space ∷ row_text row ++ (newline ∷ []))

-- The row of place p in a sheet.
abbrev pub sheet_row : List ℕ → ℕ → List ℕ
sheet_row sheet p = take 64 (drop (64 * p) sheet)

unfoldable pub lines_of : ℕ → ℕ → List ℕ → List ℕ
unfolding rows_from line_of
lines_of i count sheet = rows_from (λ p. line_of i p (sheet_row sheet p)) 0 count

-- "accepted", "refused "
abbrev pub accepted_line : List ℕ
accepted_line = 97 ∷ 99 ∷ 99 ∷ 101 ∷ 112 ∷ 116 ∷ 101 ∷ 100 ∷ newline ∷ []

abbrev pub refused_word : List ℕ
refused_word = 114 ∷ 101 ∷ 102 ∷ 117 ∷ 115 ∷ 101 ∷ 100 ∷ space ∷ []

-- A refused table gives one line: refused, number, place.
unfoldable pub refusal_line : ℕ → ℕ → List ℕ
unfolding decimal_of
refusal_line r p = refused_word ++ (decimal_of r ++ (space ∷ decimal_of p ++ (newline ∷ [])))

-- The text stands in the buffer after what stood before `at`, and r is the place after it.
pub record Appends (before : List ℕ) (at : ℕ) (text : List ℕ) (r : ℕ) (after : List ℕ) : Type 0 where
  pub next : r ≡ at + length text
  pub kept : length after ≡ length before
  pub stands : take r after ≡ take at before ++ text
