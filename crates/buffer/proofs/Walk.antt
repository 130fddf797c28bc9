-- Reading one value cell by cell into the arena.
use Prim.Native.Nat.{ℕ, zero, suc, ◌+◌, ◌*◌, ◌-◌, ◌≤◌, ◌<◌}
use mathlib.Core.List.{List, [], ◌∷◌, ◌++◌, append_assoc, append-nil}
use mathlib.Core.Path.{◌≡◌, refl, sym, ap, ◌∙◌}
use native.Mathlib.Omega.{arith}
use native.Mathlib.Nat.{add-zero}
use lib.Dec.{T}
use lib.ListN.{length, get_or, drop, set as set_at, length-append, length-set}
use lib.Seq.{drop-drop, get_or-set_same, get_or-set_other}
use mathlib.Core.Option.{some}
use Rattle.rules.specs.Values.{Value, Values, none, ◌▸◌, weight}
use Rattle.rules.specs.Cells.{cells, value, good}
use Rattle.laws.proofs.CellsLaws.{Bytes, bytes_drop, Sizes, few_sizes, good_weight, value_encodable}
use Rattle.laws.proofs.TableLaws.{sizes_length}
use Rattle.rules.specs.Tables.{table_of}
use Rattle.rules.specs.Readable.{Readable}
use Rattle.arena.specs.Code.{code, Stands, Same, parts_of}
use Rattle.arena.proofs.CodeLaws.{length_code, encodable_fits}
use Rattle.arena.proofs.Standing.{stands_append, stands_frame, same_refl, same_trans}
use Rattle.std.proofs.Common.{None}
use Rattle.buffer.specs.Buffer.{first_cell, arena_cell, cells_at_most, GoodCell, StepTakes, ReadAt}
use Rattle.buffer.proofs.CellAt.{cell_held}
use Rattle.buffer.proofs.GoodValues.{good_scalars}
use Rattle.buffer.proofs.Ahead.{CellsOf, Ahead, onward, back, ahead_read, ahead_long}

-- The entries of a slice of bytes.
pub bytes_all : (bs : List ℕ) → ((i : ℕ) → i < length bs → get_or bs i 0 < 256) → Bytes bs
bytes_all [] h = tt
bytes_all (b ∷ bs) h = (h 0 (omega arith), bytes_all bs (λ i l. h (suc i) (omega arith)))

-- The sizes of a readable table's given sets.
pub readable_sizes : {bs : List ℕ} → Readable bs → Sizes (table_of bs).sizes
readable_sizes {bs} r = few_sizes (table_of bs).sizes (omega (arith, sizes_length bs, r.header.givens)) (λ g h. (r.records.sizes g h).1)

-- n cells have been read up to `at` and stand written at `top`; `left` values are still to be read. A value is read at `from`
-- just where they are.
pub record Walk (gs bs : List ℕ) (from at left n : ℕ) (s₀ s : List ℕ) (top : ℕ) : Type 0 where
  pub written : List ℕ
  pub long : length written ≡ n
  pub stands : Stands s top written
  pub frame : Same top s₀ s
  pub spent : at ≡ from + 8 * n
  pub held : 8 * n ≤ length bs - from
  pub bytes : Bytes bs
  pub whole : (cs rest : List ℕ) → Ahead gs (drop at bs) left cs rest → Ahead gs (drop from bs) 1 (written ++ cs) rest
  pub partly : (es rest : List ℕ) → Ahead gs (drop from bs) 1 es rest → (cs : List ℕ) × (es ≡ written ++ cs) × Ahead gs (drop at bs) left cs rest

pub walk_start : (gs bs : List ℕ) (from : ℕ) (s : List ℕ) (top : ℕ) → Bytes bs → top ≤ length s → Walk gs bs from from 1 0 s s top
walk_start gs bs from s top b l = record {
  written = [];
  long = refl;
  stands = record { inside = omega arith; cells = λ i p. absurd (omega arith) };
  frame = same_refl top s;
  spent = omega arith;
  held = omega arith;
  bytes = b;
  whole = λ cs rest a. a;
  partly = λ es rest a. (es, refl, a);
}

-- A cell that is written at `at` stands there, and below it nothing changes.
pub set_same : (s : List ℕ) (k at x : ℕ) → k ≤ at → Same k s (set_at s at x)
set_same s k at x l = record { same = λ i p. get_or-set_other s at i x 0 (λ e. omega arith); kept = length-set s at x }

pub set_stands : (s : List ℕ) (at x : ℕ) → at < length s → Stands (set_at s at x) at (x ∷ [])
set_stands s at x l = record { inside = omega (arith, length-set s at x); cells = cells }
  where
    cells : (i : ℕ) → i < 1 → get_or (set_at s at x) (at + i) 0 ≡ get_or (x ∷ []) i 0
    cells zero p = rw (add-zero at) (get_or-set_same s at x 0 l)
    cells (suc i) p = absurd (omega arith)

-- The arena has room for the next cell, as the buffer holds it.
pub walk_room : {gs bs : List ℕ} {from at left n : ℕ} {s₀ s : List ℕ} {top : ℕ} → Walk gs bs from at left n s₀ s top → {x next : ℕ} →
    GoodCell gs bs at x next → n < 256 → top + cells_at_most 1 (length bs - from) ≤ length s₀ → top + n < length s
walk_room {bs = bs} {at = at} h g l r = let m = cell_held bs at g.here in omega (arith, h.spent, h.frame.kept)

module _ {gs bs : List ℕ} {from at left n : ℕ} {s₀ s : List ℕ} {top : ℕ} (h : Walk gs bs from at left n s₀ s top) (l : 0 < left) where
  pub walk_step : (x next y k : ℕ) → GoodCell gs bs at x next → y ≡ arena_cell x → k ≡ parts_of x → top + n < length s →
      Walk gs bs from next (left - 1 + k) (n + 1) s₀ (set_at s (top + n) y) top
  walk_step x next y k g e f m =
      let s' = set_at s (top + n) y in
      let w = set_same s (top + n) (top + n) y (omega arith) in
      let ds = drop at bs in
      let d : drop next bs ≡ drop 8 ds = ap (λ (j : ℕ). drop j bs) g.behind ∙ sym (drop-drop 8 at bs) in
      let c : y ≡ arena_cell (first_cell ds) = e ∙ ap arena_cell g.number in
      let q : k ≡ parts_of (first_cell ds) = f ∙ ap parts_of g.number in
      record {
        written = h.written ++ (y ∷ []);
        long = omega (arith, length-append h.written (y ∷ []), h.long);
        stands = stands_append s' top h.written (y ∷ []) (stands_frame (top + n) s s' top h.written w (omega (arith, h.long)) h.stands)
            (rw h.long (set_stands s (top + n) y m));
        frame = same_trans top (top + n) s₀ s s' h.frame w (omega arith);
        spent = omega (arith, g.behind, h.spent);
        held = omega (arith, cell_held bs at g.here, h.spent);
        bytes = h.bytes;
        whole = λ cs rest a.
            let a' : Ahead gs (drop 8 ds) (left - 1 + parts_of (first_cell ds)) cs rest = rw (← d, ← q) a in
            let r = h.whole (arena_cell (first_cell ds) ∷ cs) rest (back (bytes_drop at bs h.bytes) g.here l (rw g.number at g.good) a') in
            rw (append_assoc h.written (y ∷ []) cs, c) r;
        partly = λ es rest a.
            let p = h.partly es rest a in
            let o = onward p.2.0 p.2.1 l in (
              o.left,
              p.1 ∙ ap (λ (z : List ℕ). h.written ++ z) o.coded ∙ rw (← c, append_assoc h.written (y ∷ []) o.left),
              rw (d, q) o.next,
            );
      }

  -- What is left of a good value, where one is read.
  module _ (z : Sizes gs) (v : Value) (rest : List ℕ) (e : value (drop from bs) ≡ some (v, rest)) (g : T (good gs v)) where
    ahead : (cs : List ℕ) × (code v ≡ h.written ++ cs) × Ahead gs (drop at bs) left cs rest
    ahead = h.partly (code v) rest (ahead_read gs (drop from bs) v rest z (bytes_drop from bs h.bytes) e g (good_scalars gs v g))

    pub walk_none : StepTakes gs bs at None → ⊥
    walk_none t = let o = onward ahead.2.0 ahead.2.1 l in t o.here o.good

    pub walk_heavy : 256 < n + left → ⊥
    walk_heavy k =
        omega (
          arith,
          ahead_long ahead.2,
          length-append h.written ahead.0,
          ap length ahead.1,
          length_code v,
          h.long,
          good_weight gs v g,
        )

pub walk_end : {gs bs : List ℕ} {from at left n : ℕ} {s₀ s : List ℕ} {top : ℕ} → Walk gs bs from at left n s₀ s top → left ≡ 0 → n ≤ 256 →
    ReadAt gs bs from s top at (top + n)
unfolding cells code
walk_end {gs} {bs} {from} {at} {left} {n} {s₀} {s} {top} h z l =
    let a = h.whole [] (drop at bs) (none, record { counted = sym z; bytes = refl; coded = refl; held = tt }) in go a.0 a.1
  where
    go : (vs : Values) → CellsOf gs (drop from bs) 1 (h.written ++ []) (drop at bs) vs → ReadAt gs bs from s top at (top + n)
    go none a = absurd (omega (arith, a.counted))
    go (v ▸ w ▸ vs) a = absurd (omega (arith, a.counted))
    go (v ▸ none) a =
        let k = a.held.0 in
        let f : code v ≡ h.written = sym (append-nil (code v)) ∙ a.coded ∙ append-nil h.written in
        let w : weight v ≡ n = sym (length_code v) ∙ ap length f ∙ h.long in
        record {
          first = v;
          reads = ap value a.bytes ∙ rw (append-nil (cells v)) (value_encodable v (drop at bs) (omega arith) k.0);
          light = omega arith;
          good = k.1;
          fits = encodable_fits v k.0;
          stands = rw f h.stands;
          ends = omega arith;
          spent = omega (arith, h.spent);
          held = omega (arith, h.held);
        }
