-- How a text grows in a lent buffer, and how long the parts of a listing are. A loop keeps `Remains`: what stands with what is yet to
-- be written is the whole text; a turn takes the front of the rest.
use Prim.Native.Nat.{ℕ, zero, suc, ◌+◌, ◌*◌, ◌-◌, ◌/◌, ◌%◌, ◌^◌, ◌<◌, ◌≤◌}
use mathlib.Core.Bool.{Bool, true, false, not, cond, ◌&&◌}
use mathlib.Core.List.{List, [], ◌∷◌, ◌++◌, append-nil, append_assoc}
use mathlib.Core.Path.{◌≡◌, refl, sym, ◌∙◌, ap, ap₂, subst}
use native.Mathlib.Numerals.{add-one}
use native.Mathlib.Omega.{arith}
use lib.Dec.{T, ltb, eqb}
use lib.ListN.{length, take, drop, get_or, length-append, length-drop}
use lib.Seq.{take_at, length-take-le}
use borrow.Author.Tests.{lt-ltb, le-ltb, ltb-false, ne_eqb}
use Rattle.std.proofs.Common.{inl, inr, eq-zero-or-pos, eqb→eq, Some, None, unwrap_or}
use Rattle.std.specs.Char.{to_ascii_lowercase}
use Rattle.std.specs.Fmt.{decimal}
use Rattle.std.specs.List.{position, position_or_len}
use Rattle.std.specs.Prelude.{map}
use Rattle.std.proofs.lemmas.List.Sums.{prefix_len-le-length}
use Rattle.std.proofs.lemmas.Fmt.{AppendsLastDigit, decimal_from_appends, length-decimal-le_succ, length-decimal-le}
use Rattle.hex.specs.Hex.{lower_digits, encode_with, encode_lower}
use Rattle.io.specs.Digits.{hex_digit_ascii}
use Rattle.rules.specs.Verdict.{rows_from}
use Rattle.rules.proofs.Basics.{and_split}
use Rattle.text.specs.Text.{space, newline, decimal_in, decimal_of, hex_byte, hex_of, unfilled, codes_text, row_text, letter_of, index_of, line_of, sheet_row, lines_of, refused_word, refusal_line, Appends}
use Rattle.text.specs.declared.Text.{Text}
use Rattle.text.specs.Grown.{TextGrown}

-- A text after a text.
appends_then : {s t u : List ℕ} {at q r : ℕ} {xs ys : List ℕ} → Appends s at xs q t → Appends t q ys r u → Appends s at (xs ++ ys) r u
appends_then {s} {t} {u} {at} {q} {r} {xs} {ys} a b = record {
  next = omega (arith, length-append xs ys, a.next, b.next);
  kept = b.kept ∙ a.kept;
  stands = b.stands ∙ ap (λ (l : List ℕ). l ++ ys) a.stands ∙ append_assoc (take at s) xs ys;
}

pub appends_as : {s t : List ℕ} {at r : ℕ} {xs ys : List ℕ} → xs ≡ ys → Appends s at xs r t → Appends s at ys r t
appends_as {s} {t} {at} {r} e a = subst (λ (l : List ℕ). Appends s at l r t) e a

-- A part of the buffer, written whole.
pub part_appends : (l m : List ℕ) (at n : ℕ) → at + n ≤ length l → length m ≡ n →
    Appends l at m (at + n) (take at l ++ (m ++ drop (at + n - at) (drop at l)))
part_appends l m at n h e =
    let rest = drop (at + n - at) (drop at l) in
    let front : length (take at l) ≡ at = length-take-le at l (omega arith) in record {
      next = ap (λ (k : ℕ). at + k) (sym e);
      kept = omega (arith, length-append (take at l) (m ++ rest), length-append m rest, length-drop (at + n - at) (drop at l), length-drop at l);
      stands =
          ap (λ (k : List ℕ). take (at + n) k) (sym (append_assoc (take at l) m rest))
          ∙ take_at (take at l ++ m) rest (at + n) (omega (arith, length-append (take at l) m));
    }

-- So of a text in a lent buffer.
pub grown_then : {s t u : Text} {xs ys : List ℕ} → TextGrown s xs t → TextGrown t ys u → TextGrown s (xs ++ ys) u
grown_then a b = record { same_buffer = b.same_buffer ∙ a.same_buffer; appended = appends_then a.appended b.appended }

pub grown_as : {s t : Text} {xs ys : List ℕ} → xs ≡ ys → TextGrown s xs t → TextGrown s ys t
grown_as e a = record { same_buffer = a.same_buffer; appended = appends_as e a.appended }

-- After `next` the rest of the whole text is still to be written.
pub record Remains (before : List ℕ) (at : ℕ) (whole : List ℕ) (next : ℕ) (rest after : List ℕ) : Type 0 where
  pub extent : next + length rest ≡ at + length whole
  pub kept : length after ≡ length before
  pub stands : take next after ++ rest ≡ take at before ++ whole

pub remains_start : (s : List ℕ) (at : ℕ) (xs : List ℕ) → Remains s at xs at xs s
remains_start s at xs = record { extent = refl; kept = refl; stands = refl }

pub remains_turn : {s t u : List ℕ} {at q r : ℕ} {w xs rest more : List ℕ} → Remains s at w q rest t → rest ≡ xs ++ more → Appends t q xs r u →
    Remains s at w r more u
remains_turn {s} {t} {u} {at} {q} {r} {w} {xs} {rest} {more} h e a = record {
  extent = omega (arith, length-append xs more, ap length e, h.extent, a.next);
  kept = a.kept ∙ h.kept;
  stands =
      ap (λ (l : List ℕ). l ++ more) a.stands ∙ append_assoc (take q t) xs more
      ∙ ap (λ (l : List ℕ). take q t ++ l) (sym e) ∙ h.stands;
}

pub remains_end : {s t : List ℕ} {at q : ℕ} {w rest : List ℕ} → Remains s at w q rest t → rest ≡ [] → Appends s at w q t
remains_end {s} {t} {at} {q} {w} {rest} h e = record {
  next = omega (arith, ap length e, h.extent);
  kept = h.kept;
  stands = sym (append-nil (take q t)) ∙ ap (λ (l : List ℕ). take q t ++ l) (sym e) ∙ h.stands;
}

-- There is room for the front of the rest.
pub remains_room : {s t : List ℕ} {at q : ℕ} {w rest : List ℕ} (xs more : List ℕ) → Remains s at w q rest t → at + length w ≤ length s →
    rest ≡ xs ++ more → q + length xs ≤ length t
remains_room xs more h room e = omega (arith, length-append xs more, ap length e, h.extent, h.kept)

-- A number of a machine word in decimal is what the library writes for it, and has at most 20 digits.
decimal_digits : AppendsLastDigit decimal_in
unfolding decimal_in
decimal_digits = record {
  one = λ k n h. rw (lt-ltb n 10 h) refl;
  more = λ k n h. let d : n % 10 < 10 = omega arith in rw (le-ltb n 10 h, lt-ltb (n % 10) 10 d) refl;
}

pub decimal_text : (n : ℕ) → n < 2 ^ 64 → decimal n ≡ decimal_of n
unfolding decimal_of
decimal_text n h = sym (decimal_from_appends decimal_in decimal_digits (suc n) n h (omega (arith, length-decimal-le_succ n h)))

pub decimal_short : (n : ℕ) → n < 18446744073709551616 → length (decimal_of n) ≤ 20
decimal_short n h = omega (arith, ap length (decimal_text n h), length-decimal-le 20 n (omega arith) (omega arith) (omega arith))

-- The library's hexadecimal text of bytes is that of a listing.
abbrev glyphs_below : (ℕ → ℕ) → ℕ → Bool
glyphs_below f zero = true
glyphs_below f (suc d) = eqb (f (get_or lower_digits d 0)) (hex_digit_ascii d) && glyphs_below f d

glyph_at : (f : ℕ → ℕ) (n d : ℕ) → T (glyphs_below f n) → d < n → f (get_or lower_digits d 0) ≡ hex_digit_ascii d
glyph_at f zero d t h = absurd (omega arith)
glyph_at f (suc n) d t h =
    let s = and_split (eqb (f (get_or lower_digits n 0)) (hex_digit_ascii n)) (glyphs_below f n) t in
    elim (eq-zero-or-pos (n - d)) [
      | inl z ↦ let e : d ≡ n = omega arith in rw e (eqb→eq _ _ s.0)
      | inr g ↦ glyph_at f n d s.1 (omega arith)
    ]

glyph : (d : ℕ) → d < 16 → get_or lower_digits d 0 ≡ hex_digit_ascii d
glyph d h = glyph_at (λ x. x) 16 d tt h

lowered_glyph : (d : ℕ) → d < 16 → to_ascii_lowercase (get_or lower_digits d 0) ≡ hex_digit_ascii d
lowered_glyph d h = glyph_at to_ascii_lowercase 16 d tt h

pub hex_text : (bytes : List ℕ) → ((k : ℕ) → k < length bytes → get_or bytes k 0 < 256) → encode_lower bytes ≡ hex_of bytes
unfolding hex_of encode_with
hex_text [] h = refl
hex_text (b ∷ bs) h =
    let small : b < 256 = h 0 (omega arith) in
    ap₂ (λ (x y : ℕ). x ∷ y ∷ encode_lower bs) (glyph (b / 16) (omega arith)) (glyph (b % 16) (omega arith))
    ∙ ap (λ (l : List ℕ). hex_byte b ++ l) (hex_text bs (λ k l. h (suc k) (omega arith)))

-- It stays so in lower case: `hex_digits` is still proved where its digits are put in lower case, so upper case is refused for its letters alone.
pub hex_lowered : (bytes : List ℕ) → ((k : ℕ) → k < length bytes → get_or bytes k 0 < 256) →
    map to_ascii_lowercase (encode_lower bytes) ≡ hex_of bytes
unfolding hex_of encode_with
hex_lowered [] h = refl
hex_lowered (b ∷ bs) h =
    let small : b < 256 = h 0 (omega arith) in
    ap₂ (λ (x y : ℕ). x ∷ y ∷ map to_ascii_lowercase (encode_lower bs)) (lowered_glyph (b / 16) (omega arith)) (lowered_glyph (b % 16) (omega arith))
    ∙ ap (λ (l : List ℕ). hex_byte b ++ l) (hex_lowered bs (λ k l. h (suc k) (omega arith)))

pub hex_extent : (bytes : List ℕ) → length (hex_of bytes) ≡ 2 * length bytes
unfolding hex_of
hex_extent [] = refl
hex_extent (b ∷ bs) = let h = hex_extent bs in omega arith

-- A row's codes stand in front of its fill.
pub unfilled_front : (row : List ℕ) → take (position_or_len (λ c. eqb c 0) row) row ≡ unfilled row
unfolding unfilled
unfilled_front [] = refl
unfilled_front (zero ∷ row) = refl
unfilled_front (suc c ∷ row) =
    let e : eqb (suc c) 0 ≡ false = ne_eqb (suc c) 0 (λ q. absurd (omega arith)) in
    let k : 1 + position_or_len (λ x. eqb x 0) row ≡ suc (position_or_len (λ x. eqb x 0) row) = omega arith in
    rw (e, k) (ap (λ (l : List ℕ). suc c ∷ l) (unfilled_front row))

pub position_else : (p : ℕ → Bool) (xs : List ℕ) → unwrap_or (position p xs) (length xs) ≡ position_or_len p xs
position_else p xs = go (ltb (position_or_len p xs) (length xs)) refl
  where
    go : (b : Bool) → ltb (position_or_len p xs) (length xs) ≡ b → unwrap_or (cond b (Some (position_or_len p xs)) None) (length xs) ≡ position_or_len p xs
    go true e = refl
    go false e = omega (arith, ltb-false _ _ e, prefix_len-le-length (λ x. not (p x)) xs)

-- A row's codes: one more, and none where the fill or the end is reached.
pub unfilled_more : (b : ℕ) (bs : List ℕ) → (b ≡ 0 → ⊥) → unfilled (b ∷ bs) ≡ b ∷ unfilled bs
unfolding unfilled
unfilled_more zero bs h = absurd (h refl)
unfilled_more (suc c) bs h = refl

-- The text of a row is that of its codes, or p.
codes_none : (cs : List ℕ) → length cs ≡ 0 → codes_text cs ≡ 112 ∷ []
codes_none [] h = refl
codes_none (c ∷ cs) h = absurd (omega arith)

codes_some : (cs : List ℕ) → (length cs ≡ 0 → ⊥) → codes_text cs ≡ hex_of cs
codes_some [] h = absurd (h refl)
codes_some (c ∷ cs) h = refl

pub row_none : (row cs : List ℕ) → cs ≡ unfilled row → length cs ≡ 0 → row_text row ≡ 112 ∷ []
unfolding row_text
row_none row cs e h = rw (← e) (codes_none cs h)

pub row_some : (row cs : List ℕ) → cs ≡ unfilled row → (length cs ≡ 0 → ⊥) → row_text row ≡ hex_of cs
unfolding row_text
row_some row cs e h = rw (← e) (codes_some cs h)

-- The parts of a line and of a refusal: their text as it is written, and their lengths.
module _ (i p : ℕ) (row : List ℕ) where
  pub line_text : (l n : ℕ) → l ≡ letter_of i p → n ≡ index_of i p →
      ((((l ∷ space ∷ []) ++ decimal_of n) ++ (space ∷ [])) ++ row_text row) ++ (newline ∷ []) ≡ line_of i p row
  unfolding line_of
  line_text l n e f =
      ap (λ (x : ℕ). ((((x ∷ space ∷ []) ++ decimal_of n) ++ (space ∷ [])) ++ row_text row) ++ (newline ∷ [])) e
      ∙ ap (λ (x : ℕ). ((((letter_of i p ∷ space ∷ []) ++ decimal_of x) ++ (space ∷ [])) ++ row_text row) ++ (newline ∷ [])) f
      ∙ ap (λ (t : List ℕ). letter_of i p ∷ space ∷ t)
      (append_assoc (decimal_of (index_of i p) ++ (space ∷ [])) (row_text row) (newline ∷ [])
      ∙ append_assoc (decimal_of (index_of i p)) (space ∷ []) (row_text row ++ (newline ∷ [])))

  pub line_extent : length (line_of i p row) ≡ 4 + length (decimal_of (index_of i p)) + length (row_text row)
  unfolding line_of
  line_extent =
      omega (arith, length-append (decimal_of (index_of i p)) (space ∷ row_text row ++ (newline ∷ [])), length-append (row_text row) (newline ∷ []))

  pub line_room : (n : ℕ) → n ≡ index_of i p → length (line_of i p row) ≡ 4 + length (decimal_of n) + length (row_text row)
  line_room n e = line_extent ∙ ap (λ (k : ℕ). 4 + length (decimal_of k) + length (row_text row)) (sym e)

pub refusal_text : (r p : ℕ) → (((refused_word ++ decimal_of r) ++ (space ∷ [])) ++ decimal_of p) ++ (newline ∷ []) ≡ refusal_line r p
unfolding refusal_line
refusal_text r p =
    ap (λ (t : List ℕ). refused_word ++ t)
    (append_assoc (decimal_of r ++ (space ∷ [])) (decimal_of p) (newline ∷ []) ∙ append_assoc (decimal_of r) (space ∷ []) (decimal_of p ++ (newline ∷ [])))

pub refusal_extent : (r p : ℕ) → length (refusal_line r p) ≡ 10 + length (decimal_of r) + length (decimal_of p)
unfolding refusal_line
refusal_extent r p =
    omega (arith, length-append (decimal_of r) (space ∷ decimal_of p ++ (newline ∷ [])), length-append (decimal_of p) (newline ∷ []))

-- The lines from place p on.
abbrev pub lines_from : ℕ → List ℕ → ℕ → ℕ → List ℕ
lines_from i sheet p n = rows_from (λ q. line_of i q (sheet_row sheet q)) p n

rows_more : (f : ℕ → List ℕ) (p n : ℕ) → rows_from f p (suc n) ≡ f p ++ rows_from f (suc p) n
unfolding rows_from
rows_more f p n = refl

lines_all : (i count : ℕ) (sheet : List ℕ) → lines_of i count sheet ≡ lines_from i sheet 0 (count - 0)
unfolding lines_of
lines_all i count sheet = ap (λ (n : ℕ). lines_from i sheet 0 n) k
  where
    k : count ≡ count - 0
    k = omega arith

pub lines_start : (i count : ℕ) (sheet out : List ℕ) (at : ℕ) → Remains out at (lines_of i count sheet) at (lines_from i sheet 0 (count - 0)) out
lines_start i count sheet out at =
    subst (λ (l : List ℕ). Remains out at (lines_of i count sheet) at l out) (lines_all i count sheet) (remains_start out at (lines_of i count sheet))

pub lines_more : (i count : ℕ) (sheet row : List ℕ) (p : ℕ) → p < count → row ≡ sheet_row sheet p →
    lines_from i sheet p (count - p) ≡ line_of i p row ++ lines_from i sheet (p + 1) (count - (p + 1))
lines_more i count sheet row p h e =
    ap (λ (n : ℕ). lines_from i sheet p n) k ∙ rows_more (λ q. line_of i q (sheet_row sheet q)) p (count - (p + 1))
    ∙ ap (λ (l : List ℕ). line_of i p l ++ lines_from i sheet (suc p) (count - (p + 1))) (sym e)
    ∙ ap (λ (q : ℕ). line_of i p row ++ lines_from i sheet q (count - (p + 1))) (sym (add-one p))
  where
    k : count - p ≡ suc (count - (p + 1))
    k = omega arith

pub lines_end : (i count : ℕ) (sheet : List ℕ) (p : ℕ) → count ≤ p → lines_from i sheet p (count - p) ≡ []
unfolding rows_from
lines_end i count sheet p h = ap (λ (n : ℕ). lines_from i sheet p n) k
  where
    k : count - p ≡ 0
    k = omega arith

-- The part of a sheet that holds a row.
pub part_row : (sheet : List ℕ) (p : ℕ) → take ((64 * p + 64) - 64 * p) (drop (64 * p) sheet) ≡ sheet_row sheet p
part_row sheet p = ap (λ (n : ℕ). take n (drop (64 * p) sheet)) k
  where
    k : (64 * p + 64) - 64 * p ≡ 64
    k = omega arith
