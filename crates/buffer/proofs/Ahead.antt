-- A run of bytes as the cells of a number of values that follow one another: one cell further, and one back.
use Prim.Native.Nat.{ℕ, zero, suc, ◌+◌, ◌*◌, ◌-◌, ◌/◌, ◌%◌, ◌≤◌, ◌<◌}
use mathlib.Core.Bool.{true, false, cond}
use mathlib.Core.List.{List, ◌∷◌, ◌++◌, append_assoc, append-nil}
use mathlib.Core.Logic.{◌↔◌}
use mathlib.Core.Option.{some}
use mathlib.Core.Path.{◌≡◌, refl, sym, ap, subst, ◌∙◌}
use native.Mathlib.Omega.{arith}
use lib.Dec.{T, eqb, leb→le, ltb→lt, eqb→eq}
use lib.IntN.{ℤ, pos, negsuc}
use lib.ListN.{length, get_or, drop}
use borrow.Author.Tests.{eq-eqb, ne_eqb, le-leb}
use Rattle.rules.specs.Types.{whole}
use Rattle.rules.specs.Values.{num, truth, element, Value, scalar, pair, set, Values, none, ◌▸◌}
use Rattle.rules.specs.Values.{tag, payload, count}
use Rattle.rules.specs.Tables.{word_at}
use Rattle.rules.specs.Cells.{twos, signed, in_range, cell, cells, cells_of, value, good}
use Rattle.laws.proofs.EndLaws.{T_and}
use Rattle.laws.proofs.CellsLaws.{Word, Bytes, Encodable, Encodables, word_at_law, word_bytes, twos_signed, signed_range, payload_word, cells_value, count_weights, bit_eqb, cell_bytes_law, Sizes, encodable_well_formed, good_well_formed, good_weight}
use Rattle.arena.specs.Code.{cell_size, excess, code, codes, parts_of}
use Rattle.arena.proofs.CodeLaws.{length_codes}
use Rattle.arena.proofs.Standing.{◌before◌, codes_before, count_before, own_cell, inner, code_inner}
use Rattle.buffer.specs.Buffer.{cell_first, first_cell, arena_cell, tag_good, cell_good, scalars_good, all_good}
use Rattle.canonical.specs.Shared.{AllOf}
use Rattle.canonical.proofs.FineValues.{all_before}
use Rattle.buffer.proofs.CellAt.{first_right}
use Rattle.rules.proofs.Basics.{and_of}

cells_of_before : (vs ws : Values) → cells_of (vs before ws) ≡ cells_of vs ++ cells_of ws
unfolding cells
cells_of_before none ws = refl
cells_of_before (v ▸ vs) ws = ap (λ (l : List ℕ). cells v ++ l) (cells_of_before vs ws) ∙ sym (append_assoc (cells v) (cells_of vs) (cells_of ws))

-- Values that the buffer can hold, with good scalars.
abbrev Held : List ℕ → Value → Type 0
Held gs v = Encodable v × T (scalars_good gs v)

abbrev pub AllHeld : List ℕ → Values → Type 0
AllHeld gs vs = AllOf (Held gs) vs

held_all : (gs : List ℕ) (vs : Values) → AllHeld gs vs ↔ (Encodables vs × T (all_good gs vs))
held_all gs none = (λ h. (tt, tt), λ h. tt)
held_all gs (v ▸ vs) =
    let r = held_all gs vs in
    simp T_and (
      λ h. let p = r.0 h.1 in ((h.0.0, p.0), (h.0.1, p.1)),
      λ h. ((h.0.0, h.1.0), r.1 (h.0.1, h.1.1)),
    )

-- The first n of a number of values.
pub record Split (n : ℕ) (vs : Values) : Type 0 where
  pub front : Values
  pub back : Values
  pub whole : vs ≡ front before back
  pub counted : count front ≡ n

split : (n : ℕ) (vs : Values) → n ≤ count vs → Split n vs
split zero vs h = record { front = none; back = vs; whole = refl; counted = refl }
split (suc n) none h = absurd (omega arith)
split (suc n) (v ▸ vs) h =
    let s = split n vs (omega arith) in
    record { front = v ▸ s.front; back = s.back; whole = ap (λ (w : Values). v ▸ w) s.whole; counted = omega (arith, s.counted) }

-- A value's first cell as a number.
abbrev pub first_of : Value → ℕ
first_of v = tag v * cell_size + twos (payload v)

cells_inner : (v : Value) → cells v ≡ cell v ++ cells_of (inner v)
unfolding cells
cells_inner (scalar s) = rw (append-nil (cell (scalar s)))
cells_inner (pair v w) = rw (append-nil (cells w))
cells_inner (set s) = refl

number_code : (i : ℤ) → T (in_range i) → 1 * cell_size + excess i ≡ arena_cell (1 * cell_size + twos i)
unfolding arena_cell twos excess
number_code (pos n) t =
    let h = leb→le n 2147483647 t in
    rw (eq-eqb ((1 * cell_size + n) / cell_size) 1 (omega arith)) (omega arith)
number_code (negsuc n) t =
    let h = leb→le n 2147483647 t in
    rw (eq-eqb ((1 * cell_size + (4294967295 - n)) / cell_size) 1 (omega arith)) (omega arith)

other_code : (t p : ℕ) → p < cell_size → 1 < t → t * cell_size + p ≡ arena_cell (t * cell_size + p)
unfolding arena_cell
other_code t p h n = rw (ne_eqb ((t * cell_size + p) / cell_size) 1 (λ e. omega arith))

pub head_coded : (v : Value) → Encodable v → own_cell v ≡ arena_cell (first_of v)
unfolding twos
head_coded (scalar (num whole i)) h = number_code i h
head_coded (scalar (truth true)) h = other_code 2 1 (omega arith) (omega arith)
head_coded (scalar (truth false)) h = other_code 2 0 (omega arith) (omega arith)
head_coded (scalar (element g k)) h = other_code 3 (256 * g + k) h.1 (omega arith)
head_coded (pair v w) h = other_code 4 0 (omega arith) (omega arith)
head_coded (set s) h = other_code 5 (count s) h.0 (omega arith)

-- The first cell of a value that is held is good, and tells how many values follow it.
abbrev parts_by : ℕ → ℕ → ℕ
parts_by t q = cond (eqb t 4) 2 (cond (eqb t 5) q 0)

first_fields : (gs : List ℕ) (v : Value) → Held gs v →
    T (tag_good gs (tag v) (twos (payload v))) × (parts_by (tag v) (twos (payload v)) ≡ count (inner v))
unfolding twos
first_fields gs (scalar (num whole i)) h = (tt, refl)
first_fields gs (scalar (truth true)) h = (tt, refl)
first_fields gs (scalar (truth false)) h = (tt, refl)
first_fields gs (scalar (element g k)) h =
    let a : (256 * g + k) % 256 ≡ k = omega arith in
    let b : (256 * g + k) / 256 ≡ g = omega arith in
    (rw (a, b) h.1, refl)
first_fields gs (pair v w) h = (tt, refl)
first_fields gs (set s) h = (tt, refl)

first_good : (gs : List ℕ) (v : Value) → Held gs v → T (cell_good gs (first_of v)) × (parts_of (first_of v) ≡ count (inner v))
unfolding cell_good
first_good gs v h =
    let w = payload_word v h.0 in
    let t : first_of v / cell_size ≡ tag v = omega arith in
    let q : first_of v % cell_size ≡ twos (payload v) = omega arith in
    rw (t, q) (first_fields gs v h)

held_inner : (gs : List ℕ) (v : Value) → Held gs v → AllHeld gs (inner v)
held_inner gs (scalar s) h = tt
held_inner gs (pair v w) h = let p = (T_and (scalars_good gs v) (scalars_good gs w)).0 h.1 in ((h.0.0, p.0), ((h.0.1, p.1), tt))
held_inner gs (set s) h = (held_all gs s).1 (h.0.1, h.1)

-- The p values vs, whose cells in the arena are cs, and then `rest`.
pub record CellsOf (gs bs : List ℕ) (p : ℕ) (cs rest : List ℕ) (vs : Values) : Type 0 where
  pub counted : count vs ≡ p
  pub bytes : bs ≡ cells_of vs ++ rest
  pub coded : codes vs ≡ cs
  pub held : AllHeld gs vs

abbrev pub Ahead : List ℕ → List ℕ → ℕ → List ℕ → List ℕ → Type 0
Ahead gs bs p cs rest = (vs : Values) × CellsOf gs bs p cs rest vs

-- The run begins with a cell, that is good, and behind it stand the values that are left.
pub record Onward (gs bs : List ℕ) (p : ℕ) (cs rest : List ℕ) : Type 0 where
  pub here : T (cell_first bs)
  pub good : T (cell_good gs (first_cell bs))
  pub left : List ℕ
  pub coded : cs ≡ arena_cell (first_cell bs) ∷ left
  pub next : Ahead gs (drop 8 bs) (p - 1 + parts_of (first_cell bs)) left rest

first_here : (v : Value) (X : List ℕ) → Word (twos (payload v)) →
    (cell_first (cell v ++ X) ≡ true) × (first_cell (cell v ++ X) ≡ first_of v) × (drop 8 (cell v ++ X) ≡ X)
unfolding cell
first_here v X h = (
  rw (le-leb 8 (length (cell v ++ X)) (omega arith)),
  ap (λ (n : ℕ). tag v * cell_size + n) (word_bytes (twos (payload v)) (tag v ∷ 0 ∷ 0 ∷ 0 ∷ X) h),
  refl,
)

-- bytes of a value before others: its first cell, then what follows
spread : (v : Value) (vs : Values) (rest : List ℕ) → cells_of (v ▸ vs) ++ rest ≡ cell v ++ (cells_of (inner v before vs) ++ rest)
unfolding cells
spread v vs rest = rw (cells_inner v, cells_of_before (inner v) vs) (simp append_assoc)

spread_code : (v : Value) (vs : Values) → Encodable v → codes (v ▸ vs) ≡ arena_cell (first_of v) ∷ codes (inner v before vs)
unfolding code
spread_code v vs h = rw (code_inner v, head_coded v h, codes_before (inner v) vs)

pub onward : {gs bs : List ℕ} {p : ℕ} {cs rest : List ℕ} (vs : Values) → CellsOf gs bs p cs rest vs → 0 < p → Onward gs bs p cs rest
onward none h l = absurd (omega (arith, h.counted))
onward {gs} {bs} {rest = rest} (v ▸ vs) h l =
    let X = cells_of (inner v before vs) ++ rest in
    let k = h.held.0 in
    let f : bs ≡ cell v ++ X = h.bytes ∙ spread v vs rest in
    let q = first_here v X (payload_word v k.0) in
    let x : first_cell bs ≡ first_of v = ap first_cell f ∙ q.1 in
    let g = first_good gs v k in
    record {
      here = subst T (sym (ap cell_first f ∙ q.0)) tt;
      good = rw x g.0;
      left = codes (inner v before vs);
      coded = rw x (sym h.coded ∙ spread_code v vs k.0);
      next = (
        inner v before vs,
        record {
          counted = rw (x, g.1) (omega (arith, count_before (inner v) vs, h.counted));
          bytes = ap (drop 8) f ∙ q.2;
          coded = refl;
          held = (all_before (Held gs) (inner v) vs).1 (held_inner gs v k, h.held.1);
        },
      );
    }

-- One cell back: the value v has the cell, and us stand behind it.
module _ {gs bs : List ℕ} {p : ℕ} {cs rest : List ℕ} (b : Bytes bs) (k : T (cell_first bs)) (l : 0 < p) where
  back_to : (v : Value) (us : Values) {m : ℕ} → tag v ≡ get_or bs 4 0 → twos (payload v) ≡ word_at bs 0 → Held gs v → count (inner v) ≡ m →
      CellsOf gs (drop 8 bs) (p - 1 + m) cs rest (inner v before us) → Ahead gs bs p (arena_cell (first_cell bs) ∷ cs) rest
  back_to v us t q g m h =
      let f : first_of v ≡ first_cell bs = omega arith in
      let c = (first_right bs).0 k in (
        v ▸ us,
        record {
          counted = omega (arith, h.counted, count_before (inner v) us);
          bytes = cell_bytes_law bs v b c.0 c.1 t q ∙ ap (λ (ds : List ℕ). cell v ++ ds) h.bytes ∙ sym (spread v us rest);
          coded = spread_code v us g.0 ∙ rw (f, h.coded);
          held = (g, ((all_before (Held gs) (inner v) us).0 h.held).1);
        },
      )

  -- by the tag t and the payload q
  module _ {q : ℕ} (w : q ≡ word_at bs 0) where
    back_by : (t : ℕ) → t ≡ get_or bs 4 0 → T (tag_good gs t q) → (vs : Values) → CellsOf gs (drop 8 bs) (p - 1 + parts_by t q) cs rest vs →
        Ahead gs bs p (arena_cell (first_cell bs) ∷ cs) rest
    unfolding twos
    back_by zero e g vs h = absurd g
    back_by (suc zero) e g vs h =
        let o : Word q = omega (arith, word_at_law bs 0 b) in
        back_to (scalar (num whole (signed q))) vs e (twos_signed q o ∙ w) (signed_range q o, signed_range q o) refl h
    back_by (suc (suc zero)) e g vs h = back_to (scalar (truth (eqb q 1))) vs e (bit_eqb q (ltb→lt q 2 g) ∙ w) (tt, tt) refl h
    back_by (suc (suc (suc zero))) e g vs h =
        let o = word_at_law bs 0 b in
        back_to (scalar (element (q / 256) (q % 256))) vs e (omega arith) ((omega arith, omega arith), g) refl h
    back_by (suc (suc (suc (suc zero)))) e g none h = absurd (omega (arith, h.counted))
    back_by (suc (suc (suc (suc zero)))) e g (u ▸ none) h = absurd (omega (arith, h.counted))
    back_by (suc (suc (suc (suc zero)))) e g (u ▸ v ▸ vs) h =
        let i = h.held in
        let j = and_of (scalars_good gs u) (scalars_good gs v) i.0.1 i.1.0.1 in
        back_to (pair u v) vs e (sym (eqb→eq q 0 g) ∙ w) ((i.0.0, i.1.0.0), j) refl h
    back_by (suc (suc (suc (suc (suc zero))))) e g vs h =
        let o = word_at_law bs 0 b in
        let s = split q vs (omega (arith, h.counted)) in
        let i = subst (CellsOf gs (drop 8 bs) (p - 1 + q) cs rest) s.whole h in
        let j = (held_all gs s.front).0 ((all_before (Held gs) s.front s.back).0 i.held).0 in
        back_to (set s.front) s.back e (s.counted ∙ w) ((omega (arith, s.counted), j.0), j.1) s.counted i
    back_by (suc (suc (suc (suc (suc (suc n)))))) e g vs h = absurd g

  pub back : T (cell_good gs (first_cell bs)) → Ahead gs (drop 8 bs) (p - 1 + parts_of (first_cell bs)) cs rest →
      Ahead gs bs p (arena_cell (first_cell bs) ∷ cs) rest
  unfolding cell_good
  back g a =
      let o = word_at_law bs 0 b in
      back_by {q = first_cell bs % cell_size} (omega arith) (first_cell bs / cell_size) (omega arith) g a.0 a.1

-- A good value that is read is ahead.
pub ahead_read : (gs bs : List ℕ) (v : Value) (rest : List ℕ) → Sizes gs → Bytes bs → value bs ≡ some (v, rest) → T (good gs v) → T (scalars_good gs v) →
    Ahead gs bs 1 (code v) rest
unfolding cells code
ahead_read gs bs v rest z b e g k = (
  v ▸ none,
  record {
    counted = refl;
    bytes = cells_value bs v rest b e ∙ ap (λ (l : List ℕ). l ++ rest) (sym (append-nil (cells v)));
    coded = append-nil (code v);
    held = ((encodable_well_formed gs z v (omega (arith, good_weight gs v g)) (good_well_formed gs v g), k), tt);
  },
)

-- Each value that is ahead takes a cell.
pub ahead_long : {gs bs : List ℕ} {p : ℕ} {cs rest : List ℕ} → Ahead gs bs p cs rest → p ≤ length cs
ahead_long a = omega (arith, a.1.counted, count_weights a.0, length_codes a.0, ap length a.1.coded)
