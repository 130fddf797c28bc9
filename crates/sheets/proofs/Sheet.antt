-- The sheet row by row: the rows of the places in order, 64 bytes each.
use Prim.Native.Nat.{ℕ, zero, suc, ◌+◌, ◌*◌, ◌-◌, ◌≤◌, ◌<◌}
use mathlib.Core.List.{List, [], ◌++◌, append_assoc, append-nil}
use mathlib.Core.Logic.{inl, inr}
use mathlib.Core.Option.{Option, none as nothing, some}
use mathlib.Core.Path.{◌≡◌, refl, sym, ap, ap₂, ◌∙◌}
use native.Mathlib.Decide.{dec_lt}
use native.Mathlib.Nat.{add-zero, zero-add}
use native.Mathlib.Omega.{arith}
use borrow.Author.Tests.{lt-ltb, le-ltb}
use lib.ListN.{length, take, drop, replicate, length-append, length-drop}
use lib.Seq.{paste, take_all, sets, sets-eq, take_at, drop-append-le, drop-append-add, length-take-le}
use Rattle.rules.specs.Types.{Ty, weightᵀ, prefix, row, empty_row}
use Rattle.rules.specs.Kinds.{Kind, Category, predicate, expression, category_of}
use Rattle.rules.specs.Tables.{Table, kind_at}
use Rattle.rules.specs.Readable.{CategoryIs}
use Rattle.rules.specs.Verdict.{node_place, Place, Light, category_row, kind_row, rows_from, sheet_of, sheet_length}
use Rattle.rules.proofs.TypeLaws.{prefix_length, row_length, empty_row_length}
use Rattle.typing.specs.Places.{place_count}
use Rattle.typing.proofs.Places.{place_below}
use Rattle.sheets.specs.Steps.{place_bytes, with_row}

-- The last row of several.
pub rows_last : (r : ℕ → List ℕ) (i n : ℕ) → rows_from r i (suc n) ≡ rows_from r i n ++ r (i + n)
unfolding rows_from
rows_last r i zero = append-nil (r i) ∙ ap r (sym (add-zero i))
rows_last r i (suc n) =
    let e : suc i + n ≡ i + suc n = omega arith in
    ap (λ (l : List ℕ). r i ++ l) (rows_last r (suc i) n ∙ ap (λ k. rows_from r (suc i) n ++ r k) e)
    ∙ sym (append_assoc (r i) (rows_from r (suc i) n) (r (i + suc n)))

pub rows_next : (r : ℕ → List ℕ) (n : ℕ) → rows_from r 0 (suc n) ≡ rows_from r 0 n ++ r n
rows_next r n = rows_last r 0 n ∙ ap (λ k. rows_from r 0 n ++ r k) (zero-add n)

pub rows_none : (r : ℕ → List ℕ) → rows_from r 0 0 ≡ []
unfolding rows_from
rows_none r = refl

-- Rows that are the same one by one.
rows_same : (r s : ℕ → List ℕ) (n : ℕ) → ((j : ℕ) → j < n → r j ≡ s j) → rows_from r 0 n ≡ rows_from s 0 n
unfolding rows_from
rows_same r s zero h = refl
rows_same r s (suc n) h =
    rows_next r n ∙ ap₂ ◌++◌ (rows_same r s n (λ j l. h j (omega arith))) (h n (omega arith)) ∙ sym (rows_next s n)

-- Two runs of rows are one run.
rows_joined : (r s t : ℕ → List ℕ) (m n : ℕ) → ((j : ℕ) → j < m → s j ≡ r j) → ((j : ℕ) → j < n → t j ≡ r (m + j)) →
    rows_from s 0 m ++ rows_from t 0 n ≡ rows_from r 0 (m + n)
rows_joined r s t m zero h g =
    ap (λ (l : List ℕ). rows_from s 0 m ++ l) (rows_none t) ∙ append-nil (rows_from s 0 m) ∙ rows_same s r m h ∙ ap (λ k. rows_from r 0 k) (sym (add-zero m))
rows_joined r s t m (suc n) h g =
    let e : suc (m + n) ≡ m + suc n = omega arith in
    ap (λ (l : List ℕ). rows_from s 0 m ++ l) (rows_next t n)
    ∙ sym (append_assoc (rows_from s 0 m) (rows_from t 0 n) (t n))
    ∙ ap₂ ◌++◌ (rows_joined r s t m n h (λ j l. g j (omega arith))) (g n (omega arith))
    ∙ sym (rows_next r (m + n))
    ∙ ap (λ k. rows_from r 0 k) e

-- The row of an identifier's place, and of a node's.
row_name : (tb : Table) (θ : ℕ → Ty) (p : ℕ) → p < length tb.binds → place_bytes tb θ p ≡ row (θ p)
unfolding place_bytes
row_name tb θ p h = rw (lt-ltb p (length tb.binds) h)

row_node : (tb : Table) (θ : ℕ → Ty) (n : ℕ) → place_bytes tb θ (node_place tb n) ≡ kind_row (kind_at tb.nodes n) (θ (node_place tb n))
unfolding place_bytes
row_node tb θ n =
    let e : node_place tb n - length tb.binds ≡ n = omega arith in
    rw (le-ltb (node_place tb n) (length tb.binds) (omega arith), e)

-- The sheet is the rows of all places.
pub sheet_rows : (tb : Table) (θ : ℕ → Ty) → sheet_of tb θ ≡ rows_from (place_bytes tb θ) 0 (place_count tb)
unfolding sheet_of
sheet_rows tb θ =
    rows_joined (place_bytes tb θ) (λ x. row (θ x)) (λ n. kind_row (kind_at tb.nodes n) (θ (node_place tb n))) (length tb.binds) (length tb.nodes)
    (λ j h. sym (row_name tb θ j h)) (λ j h. sym (row_node tb θ j))

-- The row of a kind: that of the type for an expression, else zeros.
kind_typed : (o : Option Kind) (t : Ty) → CategoryIs expression o → kind_row o t ≡ row t
kind_typed nothing t h = absurd h
kind_typed (some k) t h = ap (λ c. category_row c t) h

category_blank : (c : Category) (t : Ty) → (c ≡ expression → ⊥) → category_row c t ≡ empty_row
category_blank predicate t h = refl
category_blank expression t h = absurd (h refl)

kind_blank : (o : Option Kind) (t : Ty) → (CategoryIs expression o → ⊥) → kind_row o t ≡ empty_row
kind_blank nothing t h = refl
kind_blank (some k) t h = category_blank (category_of k) t h

-- The row of a place with a type, and of one without.
pub row_typed : (tb : Table) (θ : ℕ → Ty) (p : ℕ) → Place tb p → place_bytes tb θ p ≡ row (θ p)
row_typed tb θ p (inl h) = row_name tb θ p h
row_typed tb θ p (inr (n, h, t, e)) = rw e (row_node tb θ n ∙ kind_typed (kind_at tb.nodes n) (θ (node_place tb n)) t)

pub row_blank : (tb : Table) (θ : ℕ → Ty) (p : ℕ) → p < place_count tb → (Place tb p → ⊥) → place_bytes tb θ p ≡ empty_row
row_blank tb θ p h g = go (dec_lt p (length tb.binds))
  where
    n : ℕ
    n = p - length tb.binds

    at_node : p ≡ node_place tb n → place_bytes tb θ p ≡ empty_row
    at_node e =
        ap (place_bytes tb θ) e ∙ row_node tb θ n ∙ kind_blank (kind_at tb.nodes n) (θ (node_place tb n)) (λ t. g (inr (n, omega arith, t, e)))

    go : Dec (p < length tb.binds) → place_bytes tb θ p ≡ empty_row
    go (yes l) = absurd (g (inl l))
    go (no l) = at_node (omega arith)

kind_length : (o : Option Kind) (t : Ty) → (CategoryIs expression o → weightᵀ t ≤ 64) → length (kind_row o t) ≡ 64
kind_length nothing t h = empty_row_length
kind_length (some k) t h = go (category_of k) h
  where
    go : (c : Category) → (c ≡ expression → weightᵀ t ≤ 64) → length (category_row c t) ≡ 64
    go predicate h = empty_row_length
    go expression h = row_length t (h refl)

pub row_long : (tb : Table) (θ : ℕ → Ty) → ((p : ℕ) → Light tb θ p) → (p : ℕ) → p < place_count tb → length (place_bytes tb θ p) ≡ 64
row_long tb θ light p h = go (dec_lt p (length tb.binds))
  where
    n : ℕ
    n = p - length tb.binds

    at_node : p ≡ node_place tb n → length (place_bytes tb θ p) ≡ 64
    at_node e =
        ap (λ q. length (place_bytes tb θ q)) e ∙ ap length (row_node tb θ n)
        ∙ kind_length (kind_at tb.nodes n) (θ (node_place tb n)) (λ t. light (node_place tb n) (inr (n, omega arith, t, refl)))

    go : Dec (p < length tb.binds) → length (place_bytes tb θ p) ≡ 64
    go (yes l) = ap length (row_name tb θ p l) ∙ row_length (θ p) (light p (inl l))
    go (no l) = at_node (omega arith)

pub rows_at : (r : ℕ → List ℕ) (i n k : ℕ) → ((j : ℕ) → j < i + n → length (r j) ≡ 64) → k < n →
    take 64 (drop (64 * k) (rows_from r i n)) ≡ r (i + k)
unfolding rows_from
rows_at r i zero k h l = absurd (omega arith)
rows_at r i (suc n) zero h l = take_at (r i) (rows_from r (suc i) n) 64 (h i (omega arith)) ∙ ap r (sym (add-zero i))
rows_at r i (suc n) (suc k) h l =
    let e : 64 * suc k ≡ length (r i) + 64 * k = omega (arith, h i (omega arith)) in
    let f : suc i + k ≡ i + suc k = omega arith in
    ap (λ m. take 64 (drop m (r i ++ rows_from r (suc i) n))) e
    ∙ ap (take 64) (drop-append-add (r i) (rows_from r (suc i) n) (64 * k))
    ∙ rows_at r (suc i) n k (λ j g. h j (omega arith)) (omega arith) ∙ ap r f

rows_length : (r : ℕ → List ℕ) (i n : ℕ) → ((j : ℕ) → j < i + n → length (r j) ≡ 64) → length (rows_from r i n) ≡ 64 * n
unfolding rows_from
rows_length r i zero h = refl
rows_length r i (suc n) h =
    omega (arith, length-append (r i) (rows_from r (suc i) n), h i (omega arith), rows_length r (suc i) n (λ j g. h j (omega arith)))

-- Where no type is too heavy, the sheet has 64 bytes for each place.
pub sheet_of_length : (tb : Table) (θ : ℕ → Ty) → ((p : ℕ) → Light tb θ p) → length (sheet_of tb θ) ≡ sheet_length tb
sheet_of_length tb θ light =
    ap length (sheet_rows tb θ) ∙ rows_length (place_bytes tb θ) 0 (place_count tb) (λ j l. row_long tb θ light j (omega arith))

-- Where no type is too heavy, the row of a place with a type stands in the sheet at 64 times the place.
pub sheet_row_law : (tb : Table) (θ : ℕ → Ty) → ((p : ℕ) → Light tb θ p) → (p : ℕ) → Place tb p →
    take 64 (drop (64 * p) (sheet_of tb θ)) ≡ row (θ p)
sheet_row_law tb θ light p h =
    ap (λ l. take 64 (drop (64 * p) l)) (sheet_rows tb θ)
    ∙ rows_at (place_bytes tb θ) 0 (place_count tb) p (λ j l. row_long tb θ light j (omega arith)) (place_below tb p h)
    ∙ ap (place_bytes tb θ) (zero-add p) ∙ row_typed tb θ p h

-- Codes written over a row of zeros make the row of the type.
module _ (front back z vs : List ℕ) (at : ℕ) (e : length front ≡ at) (h : length vs ≤ length z) where
  join_right : front ++ z ++ back ≡ front ++ (z ++ back)
  join_right = append_assoc front z back

  over_front : take at (front ++ z ++ back) ≡ front
  over_front = ap (take at) join_right ∙ take_at front (z ++ back) at e

  over_back : drop (at + length vs) (front ++ z ++ back) ≡ drop (length vs) z ++ back
  over_back =
      ap (drop (at + length vs)) join_right ∙ ap (λ k. drop (k + length vs) (front ++ (z ++ back))) (sym e)
      ∙ drop-append-add front (z ++ back) (length vs) ∙ drop-append-le (length vs) z back h

  over_fits : at + length vs ≤ length (front ++ z ++ back)
  over_fits = omega (arith, length-append (front ++ z) back, length-append front z, e, h)

  sets_over : sets (front ++ z ++ back) at vs ≡ front ++ (vs ++ drop (length vs) z) ++ back
  sets_over =
      sets-eq vs (front ++ z ++ back) at over_fits ∙ ap₂ (λ a b. a ++ vs ++ b) over_front over_back
      ∙ sym (append_assoc (front ++ vs) (drop (length vs) z) back)
      ∙ ap (λ l. l ++ back) (append_assoc front vs (drop (length vs) z))

sets_paste : (sheet z vs : List ℕ) (at m : ℕ) → at + m ≤ length sheet → length z ≡ m → length vs ≤ m →
    sets (paste sheet at z m) at vs ≡ paste sheet at (vs ++ drop (length vs) z) m
sets_paste sheet z vs at m h l k =
    ap (λ y. sets (take at sheet ++ y ++ drop (at + m) sheet) at vs) (take_all m z (omega arith))
    ∙ sets_over (take at sheet) (drop (at + m) sheet) z vs at (length-take-le at sheet (omega arith)) (omega arith)
    ∙ ap (λ y. take at sheet ++ y ++ drop (at + m) sheet) (sym (take_all m (vs ++ drop (length vs) z) whole))
  where
    whole : length (vs ++ drop (length vs) z) ≤ m
    whole = omega (arith, length-append vs (drop (length vs) z), length-drop (length vs) z)

drop_zeros : (w n : ℕ) → w ≤ n → drop {A = ℕ} w (replicate n 0) ≡ replicate (n - w) 0
drop_zeros zero n h = let e : n ≡ n - 0 = omega arith in ap (λ k. replicate k 0) e
drop_zeros (suc w) zero h = absurd (omega arith)
drop_zeros (suc w) (suc n) h = let e : n - w ≡ suc n - suc w = omega arith in drop_zeros w n (omega arith) ∙ ap (λ k. replicate k 0) e

drop_empty : (w : ℕ) → w ≤ 64 → drop w empty_row ≡ replicate (64 - w) 0
unfolding empty_row
drop_empty w h = drop_zeros w 64 h

pub row_codes : (sheet : List ℕ) (at : ℕ) (t : Ty) → at + 64 ≤ length sheet → weightᵀ t ≤ 64 →
    sets (with_row sheet at empty_row) at (prefix t) ≡ with_row sheet at (row t)
unfolding row
row_codes sheet at t h l =
    sets_paste sheet empty_row (prefix t) at 64 h empty_row_length (omega (arith, prefix_length t))
    ∙ ap (λ y. with_row sheet at (prefix t ++ y))
    (drop_empty (length (prefix t)) (omega (arith, prefix_length t)) ∙ ap (λ w. replicate (64 - w) 0) (prefix_length t))
