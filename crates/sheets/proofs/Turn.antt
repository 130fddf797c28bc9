-- The turn of `write_rows`: a row of zeros, the codes of a class written into it, or those of its first row copied.
use Prim.Native.Nat.{ℕ, zero, suc, ◌+◌, ◌*◌, ◌-◌, ◌≤◌, ◌<◌}
use mathlib.Core.Bool.{Bool, true, false, true≢false}
use mathlib.Core.List.{List, [], ◌∷◌, ◌++◌, append_assoc}
use mathlib.Core.Path.{◌≡◌, refl, sym, ap, ap₂, ◌∙◌}
use native.Mathlib.Decide.{ℕ_discrete}
use native.Mathlib.Nat.{zero-add}
use native.Mathlib.Numerals.{add-one}
use native.Mathlib.Omega.{arith}
use borrow.Rule.Slice.PartMut.{mid_of, put_mid}
use lib.ListN.{get_or, length, take, drop, set, replicate, length-set, length-drop, length-replicate, get_or-replicate}
use Rattle.std.proofs.lemmas.Slice.{put_mid-paste}
use lib.Seq.{paste, take-paste, length-paste, take_all, take-take, sets, sets-eq, take_at, length-take-le, get_or-set_same, get_or-set_other}
use Rattle.rules.specs.Types.{Ty, weightᵀ, prefix, row, empty_row}
use Rattle.rules.specs.Tables.{Table, table_of}
use Rattle.rules.specs.Verdict.{Place, rows_from, sheet_length}
use Rattle.rules.proofs.TypeLaws.{prefix_length, empty_row_length}
use Rattle.laws.proofs.TableLaws.{binds_length, nodes_length}
use Rattle.terms.specs.Terms.{Satisfies, class_in}
use Rattle.terms.specs.Decided.{Closed, Decided}
use Rattle.typing.specs.Places.{place_var, place_count}
use Rattle.typing.proofs.Places.{place_below}
use Rattle.sheets.specs.Rows.{PlacesIn, MarkBelow, RowsFit, RowsWritten}
use Rattle.sheets.specs.Steps.{TypedIf, TypePut, ClassFits, ClassPut, with_row, types_at, place_bytes, FirstOf, RowsTo, AllZero}
use Rattle.sheets.proofs.Scan.{covered}
use Rattle.sheets.proofs.Codes.{class_same}
use Rattle.sheets.proofs.Sheet.{rows_next, rows_none, rows_at, row_typed, row_blank, row_long, row_codes, sheet_rows}

-- Zeros put over a row.
pub blank_row : (sheet row : List ℕ) (at k : ℕ) → row ≡ replicate (length (mid_of at k sheet)) 0 → k ≡ 64 → at + 64 ≤ length sheet →
    put_mid at k sheet row ≡ with_row sheet at empty_row
unfolding empty_row
blank_row sheet row at k e h room =
    let long : length (mid_of at k sheet) ≡ 64 = length-take-le k (drop at sheet) (omega (arith, length-drop at sheet)) ∙ h in
    put_mid-paste at k sheet row empty_row 64 (e ∙ ap (λ m. replicate m 0) long) (sym h) refl

pub all_zero : (firsts : List ℕ) (n : ℕ) → firsts ≡ replicate n 0 → AllZero firsts
all_zero firsts n e c h = ap (λ l. get_or l c 0) e ∙ get_or-replicate n c 0 0 (omega (arith, ap length e, length-replicate {A = ℕ} n 0))

-- Part of the front of a list is part of the list.
take_front : (k n m : ℕ) (l : List ℕ) → k + n ≤ m → take n (drop k (take m l)) ≡ take n (drop k l)
take_front zero n m l h = take-take n m l (omega arith)
take_front (suc k) n zero l h = absurd (omega arith)
take_front (suc k) n (suc m) [] h = refl
take_front (suc k) n (suc m) (x ∷ l) h = take_front k n m l (omega arith)

take_row : (t : Ty) → take (weightᵀ t) (row t) ≡ prefix t
unfolding row
take_row t = take_at (prefix t) _ (weightᵀ t) (prefix_length t)

-- What stands before a row is left.
front_kept : (sheet bytes : List ℕ) (at : ℕ) → at ≤ length sheet → take at (with_row sheet at bytes) ≡ take at sheet
front_kept sheet bytes at h =
    ap (take at) (append_assoc (take at sheet) (take 64 bytes) (drop (at + 64) sheet)) ∙ take_at (take at sheet) _ at (length-take-le at sheet h)

-- So is the length.
blank_length : (sheet : List ℕ) (at : ℕ) → at + 64 ≤ length sheet → length (with_row sheet at empty_row) ≡ length sheet
blank_length sheet at h = length-paste sheet at empty_row 64 h (omega (arith, empty_row_length))

-- The codes of a type in a list: what stands before them, they, and what stands after.
put_parts : (t : Ty) (sheet : List ℕ) (at : ℕ) → at + weightᵀ t ≤ length sheet →
    sets sheet at (prefix t) ≡ take at sheet ++ prefix t ++ drop (at + weightᵀ t) sheet
put_parts t sheet at h = rw (← prefix_length t) (sets-eq (prefix t) sheet at (omega (arith, prefix_length t)))

-- A copy of the codes of a type puts them.
copy_put : (sheet : List ℕ) (at n : ℕ) (s : List ℕ) (t : Ty) → at + weightᵀ t ≤ length sheet → n ≡ weightᵀ t → take n s ≡ prefix t →
    paste sheet at s n ≡ sets sheet at (prefix t)
copy_put sheet at n s t h e f =
    ap (λ y. take at sheet ++ y ++ drop (at + n) sheet) f ∙ ap (λ k. take at sheet ++ prefix t ++ drop (at + k) sheet) e
    ∙ sym (put_parts t sheet at h)

-- The loop of `write_rows`.
module _ (tb : Table) (ts marks : List ℕ) where
  pub rows_start : (firsts sheet : List ℕ) → AllZero firsts → RowsTo tb ts marks firsts sheet 0
  rows_start firsts sheet z = record {
    filled = λ σ s d. sym (rows_none (place_bytes tb (types_at tb σ)));
    first = λ c q h e. absurd (omega (arith, z c h));
  }

  pub rows_end : (firsts sheet : List ℕ) (p : ℕ) → length sheet ≡ sheet_length tb → p ≤ place_count tb → place_count tb ≤ p →
      RowsTo tb ts marks firsts sheet p → RowsWritten tb ts marks sheet
  rows_end firsts sheet p l h g w σ s d =
      let e : p ≡ place_count tb = omega arith in
      sym (take_all (64 * p) sheet (omega arith)) ∙ w.filled σ s d ∙ ap (λ k. rows_from (place_bytes tb (types_at tb σ)) 0 k) e
      ∙ sym (sheet_rows tb (types_at tb σ))

-- The first row of a class is above.
first_before : {tb : Table} {ts marks firsts sheet : List ℕ} {p : ℕ} → RowsTo tb ts marks firsts sheet p → (c x : ℕ) → c < length firsts →
    get_or firsts c 0 ≡ x → x ≤ p
first_before w c zero h e = omega arith
first_before w c (suc q) h e = omega (arith, (w.first c q h e).below)

pub fit_same : {bs ts marks firsts sheet firsts' sheet' : List ℕ} → RowsFit bs ts marks firsts sheet → length firsts' ≡ length firsts →
    length sheet' ≡ length sheet → RowsFit bs ts marks firsts' sheet'
fit_same f e g = record { room = e ∙ f.room; fits = g ∙ f.fits; light = f.light }

-- Places whose classes are closed and light.
module _ (tb : Table) (ts marks : List ℕ) (covers : (p : ℕ) → p < place_count tb → place_var tb p < length ts)
    (light : (p : ℕ) → Place tb p → MarkBelow tb ts marks 65 p) where
  module _ (σ : ℕ → Ty) (s : Satisfies σ (length ts) ts) (d : Decided (length ts) ts marks) where
    abbrev θ : ℕ → Ty
    θ = types_at tb σ

    module _ (p : ℕ) (h : Place tb p) where
      inside : place_var tb p < length ts
      inside = covers p (place_below tb p h)

      closed : Closed ts marks (place_var tb p)
      closed = omega (arith, light p h)

      -- The mark of the class is the weight.
      mark_weight : get_or marks (class_in ts (place_var tb p)) 0 ≡ weightᵀ (θ p)
      mark_weight = omega (arith, light p h, d.weighs (place_var tb p) inside closed σ s)

      place_light : weightᵀ (θ p) ≤ 64
      place_light = omega (arith, light p h, mark_weight)

      -- The type is that of the class c, which is closed.
      module _ (c : ℕ) (e : class_in ts (place_var tb p) ≡ c) where
        class_type : θ p ≡ σ c
        class_type = class_same σ ts (place_var tb p) s inside ∙ ap σ e

        class_closed : Closed ts marks c
        class_closed = rw (← e, d.flat (place_var tb p) inside) closed

    rows_long : (j : ℕ) → j < place_count tb → length (place_bytes tb θ j) ≡ 64
    rows_long = row_long tb θ place_light

    -- Where the rows above are right, one of them begins with the codes of its type.
    first_codes : (sheet : List ℕ) (p q : ℕ) → take (64 * p) sheet ≡ rows_from (place_bytes tb θ) 0 p → p ≤ place_count tb → q < p →
        Place tb q → take (weightᵀ (θ q)) (drop (64 * q) sheet) ≡ prefix (θ q)
    first_codes sheet p q f h g l =
        let n = weightᵀ (θ q) in
        sym (take_front (64 * q) n (64 * p) sheet (omega (arith, place_light q l)))
        ∙ ap (λ y. take n (drop (64 * q) y)) f
        ∙ sym (take-take n 64 (drop (64 * q) (rows_from (place_bytes tb θ) 0 p)) (place_light q l))
        ∙ ap (take n) (rows_at (place_bytes tb θ) 0 p q (λ j k. rows_long j (omega arith)) g ∙ ap (place_bytes tb θ) (zero-add q) ∙ row_typed tb θ q l)
        ∙ take_row (θ q)

    -- The rows of p places, and one more.
    more_rows : (sheet after : List ℕ) (p : ℕ) → p < place_count tb → 64 * p + 64 ≤ length sheet →
        take (64 * p) sheet ≡ rows_from (place_bytes tb θ) 0 p → after ≡ with_row sheet (64 * p) (place_bytes tb θ p) →
        take (64 * (p + 1)) after ≡ rows_from (place_bytes tb θ) 0 (p + 1)
    more_rows sheet after p h l f w =
        let r = place_bytes tb θ p in
        let long : length r ≡ 64 = rows_long p h in
        let e : 64 * (p + 1) ≡ 64 * p + 64 = omega arith in
        ap₂ take e w ∙ take-paste sheet (64 * p) r 64 (omega arith) (omega arith)
        ∙ ap₂ ◌++◌ f (take_all 64 r (omega arith)) ∙ sym (rows_next (place_bytes tb θ) p) ∙ ap (λ k. rows_from (place_bytes tb θ) 0 k) (sym (add-one p))

  first_later : {c q p : ℕ} → FirstOf tb ts c q p → FirstOf tb ts c q (p + 1)
  first_later f = record { below = omega (arith, f.below); typed = f.typed; class = f.class }

  -- Place p is the first of its class.
  first_new : (firsts : List ℕ) (c p : ℕ) → Place tb p → class_in ts (place_var tb p) ≡ c →
      ((b q : ℕ) → b < length firsts → get_or firsts b 0 ≡ suc q → FirstOf tb ts b q p) →
      (b q : ℕ) → b < length (set firsts c (p + 1)) → get_or (set firsts c (p + 1)) b 0 ≡ suc q → FirstOf tb ts b q (p + 1)
  first_new firsts c p h e old b q l g = go (ℕ_discrete b c)
    where
      m : b < length firsts
      m = omega (arith, length-set firsts c (p + 1))

      go : Dec (b ≡ c) → FirstOf tb ts b q (p + 1)
      go (yes x) =
          let y : p ≡ q = omega (arith, ap (λ z. get_or (set firsts c (p + 1)) z 0) x, g, get_or-set_same firsts c (p + 1) 0 (rw x at m)) in
          record { below = omega arith; typed = rw y at h; class = rw (← y) (e ∙ sym x) }
      go (no x) = first_later (old b q m (sym (get_or-set_other firsts c b (p + 1) 0 x) ∙ g))

  -- A turn: row p is blank, and the rows above are written.
  module _ (firsts sheet blank : List ℕ) (p : ℕ) (h : p < place_count tb) (room : 64 * p + 64 ≤ length sheet)
      (w : RowsTo tb ts marks firsts sheet p) (e : blank ≡ with_row sheet (64 * p) empty_row) where
    pub turn_blank : (b : Bool) → TypedIf tb p b → b ≡ false → RowsTo tb ts marks firsts blank (p + 1)
    turn_blank true t f = absurd (true≢false f)
    turn_blank false t f = record {
      filled = λ σ s d.
          more_rows σ s d sheet blank p h room (w.filled σ s d) (e ∙ ap (with_row sheet (64 * p)) (sym (row_blank tb (types_at tb σ) p h t)));
      first = λ c q l g. first_later (w.first c q l g);
    }

    module _ (here : Place tb p) (c : ℕ) (ce : class_in ts (place_var tb p) ≡ c) (known : c < length firsts) where
      -- The codes of the type put into the blank row make the place's row.
      codes_fill : (σ : ℕ → Ty) (s : Satisfies σ (length ts) ts) (d : Decided (length ts) ts marks) (after : List ℕ) →
          after ≡ sets blank (64 * p) (prefix (types_at tb σ p)) → take (64 * (p + 1)) after ≡ rows_from (place_bytes tb (types_at tb σ)) 0 (p + 1)
      codes_fill σ s d after f =
          let t = types_at tb σ p in
          more_rows σ s d sheet after p h room (w.filled σ s d)
          (f ∙ ap (λ y. sets y (64 * p) (prefix t)) e ∙ row_codes sheet (64 * p) t room (place_light σ s d p here)
          ∙ ap (with_row sheet (64 * p)) (sym (row_typed tb (types_at tb σ) p here)))

      -- The codes of the first row of the class are those of the place.
      copied : (σ : ℕ → Ty) (s : Satisfies σ (length ts) ts) (d : Decided (length ts) ts marks) (q : ℕ) → FirstOf tb ts c q p →
          paste blank (64 * p) (drop (64 * q) blank) (get_or marks c 0) ≡ sets blank (64 * p) (prefix (types_at tb σ p))
      copied σ s d q f =
          copy_put blank (64 * p) (get_or marks c 0) (drop (64 * q) blank) (types_at tb σ p)
          (omega (arith, ap length e, blank_length sheet (64 * p) room, place_light σ s d p here)) mark
          (rw (mark, same) (first_codes σ s d blank p q above (omega arith) f.below f.typed))
        where
          above : take (64 * p) blank ≡ rows_from (place_bytes tb (types_at tb σ)) 0 p
          above = ap (take (64 * p)) e ∙ front_kept sheet empty_row (64 * p) (omega arith) ∙ w.filled σ s d

          same : types_at tb σ p ≡ types_at tb σ q
          same = class_type σ s d p here c ce ∙ sym (class_type σ s d q f.typed c f.class)

          mark : get_or marks c 0 ≡ weightᵀ (types_at tb σ p)
          mark = ap (λ x. get_or marks x 0) (sym ce) ∙ mark_weight σ s d p here

      put_turn : (firsts' after : List ℕ) (x : ℕ) → get_or firsts c 0 ≡ x → ClassPut ts marks firsts blank c p firsts' after x →
          RowsTo tb ts marks firsts' after (p + 1)
      put_turn firsts' after zero g k = record {
        filled = λ σ s d. codes_fill σ s d after (written σ s d);
        first = rw k.0 (first_new firsts c p here ce w.first);
      }
        where
          written : (σ : ℕ → Ty) (s : Satisfies σ (length ts) ts) (d : Decided (length ts) ts marks) →
              after ≡ sets blank (64 * p) (prefix (types_at tb σ p))
          written σ s d =
              let t : types_at tb σ p ≡ σ c = class_type σ s d p here c ce in
              rw t (k.1.1.exact marks σ s d (class_closed σ s d p here c ce) (omega (arith, ap weightᵀ t, place_light σ s d p here))).1
      put_turn firsts' after (suc q) g k = record {
        filled = λ σ s d. codes_fill σ s d after (k.1 ∙ copied σ s d q (w.first c q known g));
        first = λ b x. rw k.0 (λ l y. first_later (w.first b x l y));
      }

      pub turn_typed : (firsts' after : List ℕ) → ClassPut ts marks firsts blank c p firsts' after (get_or firsts c 0) →
          RowsTo tb ts marks firsts' after (p + 1)
      turn_typed firsts' after k = put_turn firsts' after (get_or firsts c 0) refl k

-- `write_class`: the first row of the class, or a copy of it.
module _ (ts marks firsts sheet : List ℕ) (c p : ℕ) (firsts' after : List ℕ) where
  pub class_new : (r : ℕ) → get_or firsts c 0 ≡ 0 → firsts' ≡ set firsts c (p + 1) → TypePut ts c sheet (64 * p) (64 * p + 64) r after →
      ClassPut ts marks firsts sheet c p firsts' after (get_or firsts c 0)
  class_new r e f t = rw e (f, (r, t))

  pub class_again : (q n : ℕ) → q ≡ get_or firsts c 0 → (q ≡ 0 → ⊥) → n ≡ get_or marks c 0 → firsts' ≡ firsts →
      after ≡ paste sheet (64 * p) (drop (64 * (q - 1)) sheet) n → ClassPut ts marks firsts sheet c p firsts' after (get_or firsts c 0)
  class_again q n e h m f g =
      let k : get_or firsts c 0 ≡ suc (q - 1) = omega arith in
      rw k (f, g ∙ ap (paste sheet (64 * p) (drop (64 * (q - 1)) sheet)) m)

-- `write_row`, with what it takes for granted.
module _ {bs : List ℕ} {at : ℕ} {ts starts marks : List ℕ} (pl : PlacesIn bs at ts starts marks) {firsts sheet : List ℕ}
    (fit : RowsFit bs ts marks firsts sheet) {p : ℕ} (w : RowsTo (table_of bs) ts marks firsts sheet p) (h : p < place_count (table_of bs)) where
  pub row_room : 64 * p + 64 ≤ length sheet
  row_room = omega (arith, fit.fits)

  module _ (blank : List ℕ) (e : blank ≡ with_row sheet (64 * p) empty_row) where
    pub row_left : (b : Bool) → TypedIf (table_of bs) p b → b ≡ false → RowsTo (table_of bs) ts marks firsts blank (p + 1)
    row_left = turn_blank (table_of bs) ts marks (covered pl) fit.light firsts sheet blank p h row_room w e

    module _ (here : Place (table_of bs) p) (c : ℕ) (k : (c ≡ class_in ts (place_var (table_of bs) p)) × (c < length ts)) where
      known : c < length firsts
      known = omega (arith, k.1, fit.room)

      pub class_fits : ClassFits ts marks firsts blank c p
      class_fits = record {
        terms = pl.terms;
        below = k.1;
        marked = pl.marked;
        room = fit.room;
        light = omega (arith, ap (λ x. get_or marks x 0) k.0, fit.light p here);
        fits = omega (arith, row_room, ap length e, blank_length sheet (64 * p) row_room);
        few = omega (arith, binds_length bs, nodes_length bs, pl.laid.header.identifiers, pl.laid.header.few_nodes);
        above = first_before w c (get_or firsts c 0) known refl;
      }

      pub row_put : (firsts' after : List ℕ) → ClassPut ts marks firsts blank c p firsts' after (get_or firsts c 0) →
          RowsTo (table_of bs) ts marks firsts' after (p + 1)
      row_put = turn_typed (table_of bs) ts marks (covered pl) fit.light firsts sheet blank p h row_room w e here c (sym k.0) known
