-- The counts of a header, how long a listing can be, and the text for Check's answer.
use Prim.Native.Nat.{ℕ, zero, suc, ◌+◌, ◌*◌, ◌-◌, ◌<◌, ◌≤◌}
use mathlib.Core.Bool.{Bool, true, false, cond, ◌&&◌}
use mathlib.Core.List.{List, [], ◌∷◌, ◌++◌, append-nil, append_assoc}
use mathlib.Core.Path.{◌≡◌, refl, sym, ◌∙◌, ap, ap₂, subst}
use native.Mathlib.Nat.{suc-mul}
use native.Mathlib.Omega.{arith}
use lib.Dec.{ltb}
use lib.ListN.{length, take, drop, replicate, length-append, length-take}
use lib.Seq.{take_at, length-take-le}
use Rattle.rules.specs.Ends.{End, done, refused}
use Rattle.rules.specs.Types.{whole, Atom, number, bool, given, atom_code, Ty, atom, POW, ◌⊗◌, weightᵀ, prefix, row, empty_row}
use Rattle.rules.specs.Tables.{Table, identifier_count, node_count}
use Rattle.rules.specs.Reading.{headed, limited, reading}
use Rattle.rules.specs.Verdict.{rows_from, sheet_after, sheet_length}
use Rattle.rules.proofs.Basics.{absurd01, and_of, and_split}
use Rattle.laws.proofs.EndLaws.{T_true}
use Rattle.laws.proofs.TableLaws.{binds_length, nodes_length}
use Rattle.laws.proofs.ReadingLaws.{headed_right, limited_right, header_right, reading_readable, reading_table}
use Rattle.typing.specs.Model.{verdict}
use Rattle.checker.specs.Answers.{answered}
use Rattle.text.specs.Text.{hex_of, unfilled, codes_text, row_text, index_of, line_of, sheet_row, lines_of, accepted_line, refusal_line, Appends}
use Rattle.text.proofs.TextLaws.{hex_extent, decimal_short, unfilled_more, line_extent, refusal_extent}
use Rattle.listing.specs.Listing.{answer_text, identifiers_of, places_of, listing_of}

-- A header that passes the first test is long enough for the second.
pub headed_long : (bs : List ℕ) (r : Bool) → r ≡ headed bs → r ≡ true → 32 ≤ length bs
headed_long bs r e t = ((headed_right bs).0 ((T_true _).1 (sym e ∙ t))).0

-- Without counts both numbers are 0; with them they are the header's, within the limits.
module _ (bs : List ℕ) (r : Bool) (e : r ≡ (headed bs && limited bs)) where
  pub no_counts : r ≡ false → (0 ≡ identifiers_of bs) × (0 ≡ places_of bs)
  unfolding identifiers_of places_of
  no_counts f = (rw (← e, f) refl, rw (← e, f) refl)

  pub with_counts : r ≡ true → (identifier_count bs ≡ identifiers_of bs) × (identifier_count bs + node_count bs ≡ places_of bs)
  unfolding identifiers_of places_of
  with_counts t = (rw (← e, t) refl, rw (← e, t) refl)

  pub counts_header : r ≡ true → (32 ≤ length bs) × (identifier_count bs ≤ 32) × (node_count bs ≤ 512)
  counts_header t =
      let s = and_split (headed bs) (limited bs) ((T_true _).1 (sym e ∙ t)) in
      let l = (limited_right bs).0 s.1 in
      (((headed_right bs).0 s.0).0, omega (arith, l), omega (arith, l))

-- How long a listing can be: a line has at most 153 bytes, a refusal 50.
unfilled_short : (row : List ℕ) → length (unfilled row) ≤ length row
unfolding unfilled
unfilled_short [] = omega arith
unfilled_short (zero ∷ row) = omega arith
unfilled_short (suc b ∷ row) = let h = unfilled_short row in omega arith

row_short : (row : List ℕ) → length row ≤ 64 → length (row_text row) ≤ 129
unfolding row_text
row_short row h = go (unfilled row) (unfilled_short row)
  where
    go : (cs : List ℕ) → length cs ≤ length row → length (codes_text cs) ≤ 129
    go [] k = omega arith
    go (c ∷ cs) k = omega (arith, hex_extent (c ∷ cs))

line_short : (i p : ℕ) (row : List ℕ) → p < 18446744073709551616 → length row ≤ 64 → length (line_of i p row) ≤ 153
line_short i p row h k = omega (arith, line_extent i p row, decimal_short (index_of i p) (go (ltb p i)), row_short row k)
  where
    go : (b : Bool) → cond b p (p - i) < 18446744073709551616
    go true = h
    go false = omega arith

rows_short : (f : ℕ → List ℕ) (k q n : ℕ) → ((p : ℕ) → p < q + n → length (f p) ≤ k) → length (rows_from f q n) ≤ n * k
unfolding rows_from
rows_short f k q zero h = omega arith
rows_short f k q (suc n) h =
    let more = rows_short f k (suc q) n (λ p l. h p (omega arith)) in
    omega (arith, length-append (f q) (rows_from f (suc q) n), h q (omega arith), suc-mul n k)

pub lines_short : (i count : ℕ) (sheet : List ℕ) → count ≤ 544 → length (lines_of i count sheet) ≤ 83232
unfolding lines_of
lines_short i count sheet h =
    let s = rows_short (λ p. line_of i p (sheet_row sheet p)) 153 0 count
    (λ p l. line_short i p (sheet_row sheet p) (omega arith) (omega (arith, length-take 64 (drop (64 * p) sheet)))) in
    omega arith

pub refusal_short : (r p : ℕ) → r < 18446744073709551616 → p < 18446744073709551616 → length (refusal_line r p) ≤ 50
refusal_short r p h k = omega (arith, refusal_extent r p, decimal_short r h, decimal_short p k)

-- The text for Check's answer, and the whole text as what stands in the buffer.
pub accepted_text : (i count : ℕ) (v : End (List ℕ)) (rows sheet : List ℕ) → done tt ≡ answered v → rows ≡ sheet_after v sheet →
    lines_of i count rows ++ accepted_line ≡ answer_text i count v
unfolding answer_text
accepted_text i count (done s) rows sheet e f = ap (λ (l : List ℕ). lines_of i count l ++ accepted_line) f
accepted_text i count (refused r p) rows sheet e f = absurd01 (cc)

pub refused_text : (i count r p : ℕ) (v : End (List ℕ)) → refused r p ≡ answered v → refusal_line r p ≡ answer_text i count v
unfolding answer_text
refused_text i count r p (done s) e = absurd01 (cc)
refused_text i count r p (refused q m) e = let f : r ≡ q = cc in let g : p ≡ m = cc in ap₂ refusal_line f g

-- A listing has room in 83241 bytes.
pub accepted_short : (i count : ℕ) (sheet : List ℕ) → count ≤ 544 → length (lines_of i count sheet ++ accepted_line) ≤ 83241
accepted_short i count sheet h = omega (arith, length-append (lines_of i count sheet) accepted_line, lines_short i count sheet h)

listing_is : (bs : List ℕ) → listing_of bs ≡ answer_text (identifiers_of bs) (places_of bs) (verdict bs (64 * places_of bs))
unfolding listing_of
listing_is bs = refl

-- The counts and the length of the sheet that the code has are those of the definition.
pub listing_refused : (bs : List ℕ) (count room r p : ℕ) → count ≡ places_of bs → 64 * count ≡ room → refused r p ≡ answered (verdict bs room) →
    refusal_line r p ≡ listing_of bs
listing_refused bs count room r p e f a =
    let v = subst (λ (n : ℕ). refused r p ≡ answered (verdict bs n)) (sym f ∙ ap (λ (n : ℕ). 64 * n) e) a in
    refused_text (identifiers_of bs) (places_of bs) r p (verdict bs (64 * places_of bs)) v ∙ sym (listing_is bs)

pub listing_accepted : (bs : List ℕ) (i count room : ℕ) (rows sheet : List ℕ) → i ≡ identifiers_of bs → count ≡ places_of bs → 64 * count ≡ room →
    done tt ≡ answered (verdict bs room) → rows ≡ sheet_after (verdict bs room) sheet → lines_of i count rows ++ accepted_line ≡ listing_of bs
listing_accepted bs i count room rows sheet g e f a w =
    let k = sym f ∙ ap (λ (n : ℕ). 64 * n) e in
    ap₂ (λ (j n : ℕ). lines_of j n rows ++ accepted_line) g e
    ∙ accepted_text (identifiers_of bs) (places_of bs) (verdict bs (64 * places_of bs)) rows sheet
    (subst (λ (n : ℕ). done tt ≡ answered (verdict bs n)) k a) (subst (λ (n : ℕ). rows ≡ sheet_after (verdict bs n) sheet) k w)
    ∙ sym (listing_is bs)

-- The part of a sheet that Check wrote.
pub front_written : (rows sheet : List ℕ) (n : ℕ) → length rows ≡ length (take n sheet) → n ≤ length sheet → take n (rows ++ drop n sheet) ≡ rows
front_written rows sheet n e h = take_at rows (drop n sheet) n (e ∙ length-take-le n sheet h)

-- A whole text in the buffer.
pub whole_text : {s t : List ℕ} {r : ℕ} {xs ys : List ℕ} → Appends s 0 xs r t → length xs ≤ length s → xs ≡ ys → (r ≤ length t) × (take r t ≡ ys)
whole_text a h e = (omega (arith, a.next, a.kept), a.stands ∙ e)

-- A readable table is listed with a sheet of the length that refusal 10 asks for.
pub places_right : (bs : List ℕ) (tb : Table) → reading bs ≡ done tb → 64 * places_of bs ≡ sheet_length tb
places_right bs tb e =
    let h = (header_right bs).1 (reading_readable bs tb e).header in
    let t = reading_table bs tb e in
    let c = (with_counts bs true (sym ((T_true (headed bs && limited bs)).0 (and_of (headed bs) (limited bs) h.0 h.1))) refl).1 in
    omega (arith, c, binds_length bs, nodes_length bs, ap (λ (u : Table). length u.binds) t, ap (λ (u : Table). length u.nodes) t)

-- The row of a type is printed as the type's codes, the row of a predicate as p.
atom_code_law : (a : Atom) → atom_code a ≡ 0 → ⊥
atom_code_law (number whole) e = absurd01 (cc)
atom_code_law bool e = absurd01 (cc)
atom_code_law (given g) e = absurd (omega arith)

unfilled_prefix : (t : Ty) (rest : List ℕ) → unfilled (prefix t ++ rest) ≡ prefix t ++ unfilled rest
unfilled_prefix (atom a) rest = unfilled_more (atom_code a) rest (atom_code_law a)
unfilled_prefix (POW t) rest =
    unfilled_more 3 (prefix t ++ rest) (λ e. absurd (omega arith)) ∙ ap (λ (l : List ℕ). 3 ∷ l) (unfilled_prefix t rest)
unfilled_prefix (t ⊗ u) rest =
    unfilled_more 4 ((prefix t ++ prefix u) ++ rest) (λ e. absurd (omega arith))
    ∙ ap (λ (l : List ℕ). 4 ∷ l)
    (ap unfilled (append_assoc (prefix t) (prefix u) rest) ∙ unfilled_prefix t (prefix u ++ rest)
    ∙ ap (λ (l : List ℕ). prefix t ++ l) (unfilled_prefix u rest) ∙ sym (append_assoc (prefix t) (prefix u) (unfilled rest)))

unfilled_zeros : (n : ℕ) → unfilled (replicate n 0) ≡ []
unfolding unfilled
unfilled_zeros zero = refl
unfilled_zeros (suc n) = refl

some_codes : (t : Ty) → codes_text (prefix t) ≡ hex_of (prefix t)
some_codes (atom a) = refl
some_codes (POW t) = refl
some_codes (t ⊗ u) = refl

pub type_text : (t : Ty) → row_text (row t) ≡ hex_of (prefix t)
unfolding row_text row
type_text t =
    let fill = ap (λ (l : List ℕ). prefix t ++ l) (unfilled_zeros (64 - weightᵀ t)) ∙ append-nil (prefix t) in
    ap codes_text (unfilled_prefix t (replicate (64 - weightᵀ t) 0) ∙ fill) ∙ some_codes t

pub predicate_text : row_text empty_row ≡ 112 ∷ []
unfolding row_text empty_row
predicate_text = refl
