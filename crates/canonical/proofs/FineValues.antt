-- Whether a value's sets are in order and it has a type: the members of each set rise and share a type. Cell by cell: what is left of the value
-- from a cell on is fine where what is left behind that cell is, and where the cell's members are fine if it is a set's.
use Prim.Native.Nat.{ℕ, zero, suc, ◌+◌, ◌*◌, ◌-◌, ◌/◌, ◌%◌, ◌≤◌, ◌<◌}
use mathlib.Core.Bool.{Bool, true, false, ◌&&◌, cond}
use mathlib.Core.List.{List, ◌++◌}
use mathlib.Core.Logic.{◌↔◌}
use mathlib.Core.Path.{◌≡◌, refl, sym, subst, ◌∙◌}
use native.Mathlib.Omega.{arith}
use native.Mathlib.Nat.{add-zero}
use lib.Dec.{T}
use lib.ListN.{length, get_or}
use Rattle.rules.specs.Values.{Value, scalar, pair, set, Values, none, ◌▸◌, tag, count, weights}
use Rattle.rules.specs.Fits.{types_of, shared_types, inhabited, typed}
use Rattle.laws.proofs.EndLaws.{T_true, T_false, T_and, t_leb, t_eqb}
use Rattle.laws.proofs.CellsLaws.{weight_some, count_weights}
use Rattle.arena.specs.Code.{cell_size, code, codes, ValueAt, ValuesAt, CellsFit, AllFit, SomeAt, EndsAt}
use Rattle.arena.proofs.CodeLaws.{length_code}
use Rattle.arena.proofs.FrontLaws.{single}
use Rattle.arena.proofs.Standing.{stands_tail, first_stands, ◌before◌, codes_before, weights_before, fit_before, own_cell, inner, code_inner, weight_inner, fit_inner}
use Rattle.arena.proofs.ValueParts.{first_cell_law}
use Rattle.fitting.proofs.Cells.{members_stand, scalar_low_law}
use Rattle.fitting.proofs.Sharing.{left_typed, right_typed}
use Rattle.canonical.specs.Ordered.{ordered, ordered_all}
use Rattle.canonical.specs.Shared.{AllOf, AllTyped, TypedRow, SomeTypedRow, fine_members, MembersFine, is_flat, sets_end}

-- What holds of values that follow others.
pub all_before : (P : Value → Type 0) (vs ws : Values) → AllOf P (vs before ws) ↔ (AllOf P vs × AllOf P ws)
all_before P none ws = (λ h. (tt, h), λ h. h.1)
all_before P (v ▸ vs) ws =
    let r = all_before P vs ws in
    (λ h. let p = r.0 h.1 in ((h.0, p.0), p.1), λ h. (h.0.0, r.1 (h.0.1, h.1)))

-- Values that are fine: the members of a set are where it is, and share a type.
abbrev IsFine : Value → Type 0
IsFine v = T (ordered v && typed v)

all_parts : (vs : Values) → AllOf IsFine vs ↔ (T (ordered_all vs) × AllTyped vs)
unfolding typed
all_parts none = (λ h. (tt, tt), λ h. tt)
all_parts (v ▸ vs) =
    let r = all_parts vs in
    simp T_and (
      λ h. let p = r.0 h.1 in ((h.0.0, p.0), (h.0.1, p.1)),
      λ h. ((h.0.0, h.1.0), r.1 (h.0.1, h.1.1)),
    )

set_typed : (ms : Values) → T (inhabited (shared_types ms)) → AllTyped ms
set_typed none h = tt
set_typed (v ▸ vs) h = (left_typed (types_of v) (shared_types vs) h, set_typed vs (right_typed (types_of v) (shared_types vs) h))

-- The test of a value's first cell, and of what follows it.
abbrev Passes : Value → Type 0
Passes (scalar x) = Unit {0}
Passes (pair v w) = Unit {0}
Passes (set ms) = T (fine_members ms)

-- What is left of values behind their first cell, and behind n cells.
abbrev next : Values → Values
next none = none
next (w ▸ ws) = inner w before ws

abbrev pub after : ℕ → Values → Values
after zero ws = ws
after (suc n) ws = next (after n ws)

fine_next : (w : Value) (ws : Values) → AllOf IsFine (w ▸ ws) ↔ (Passes w × AllOf IsFine (inner w before ws))
unfolding typed
fine_next (scalar x) ws = (λ h. (tt, h.1), λ h. (tt, h.1))
fine_next (pair v w) ws =
    simp T_and (
      λ h. (tt, ((h.0.0.0, h.0.1.0), ((h.0.0.1, h.0.1.1), h.1))),
      λ h. (((h.1.0.0, h.1.1.0.0), (h.1.0.1, h.1.1.0.1)), h.1.1.1),
    )
fine_next (set ms) ws =
    simp T_and (
      λ h. ((h.0.0.0, h.0.1), (all_before IsFine ms ws).1 ((all_parts ms).1 (h.0.0.1, set_typed ms h.0.1), h.1)),
      λ h. let p = (all_before IsFine ms ws).0 h.1 in (((h.0.0, ((all_parts ms).0 p.0).0), h.0.1), p.1),
    )

after_fine : (n : ℕ) (ws : Values) → AllOf IsFine ws → AllOf IsFine (after n ws)
after_fine zero ws h = h
after_fine (suc n) ws h = go (after n ws) (after_fine n ws h)
  where
    go : (us : Values) → AllOf IsFine us → AllOf IsFine (next us)
    go none k = tt
    go (u ▸ us) k = ((fine_next u us).0 k).1

-- Values stand from i to `end`.
record Left (s : List ℕ) (i end : ℕ) (ws : Values) : Type 0 where
  stands : ValuesAt s i ws
  fits : AllFit ws
  ends : i + weights ws ≡ end

left_next : {s : List ℕ} {i end : ℕ} (ws : Values) → Left s i end ws → i < end → Left s (i + 1) end (next ws)
unfolding code
left_next none h l = absurd (omega (arith, h.ends))
left_next {s} {i} (w ▸ ws) h l = record {
  stands = rw (codes_before (inner w) ws) (stands_tail s i (own_cell w) (codes (inner w) ++ codes ws) (rw (code_inner w) at h.stands));
  fits = fit_before (inner w) ws (fit_inner w h.fits.0) h.fits.1;
  ends = omega (arith, weights_before (inner w) ws, weight_inner w, h.ends);
}

-- Values whose first cell stands at j.
module _ {s : List ℕ} {j end : ℕ} where
  cell_here : (w : Value) (ws : Values) → Left s j end (w ▸ ws) → get_or s j 0 / cell_size ≡ tag w
  cell_here w ws l = (first_cell_law s j w (first_stands s j w ws l.stands) l.fits.0).0

  -- it is not a set's
  other_fine : (ws : Values) → Left s j end ws → get_or s j 0 < 5 * cell_size → AllOf IsFine (next ws) → AllOf IsFine ws
  other_fine none l n a = tt
  other_fine (scalar x ▸ ws) l n a = (fine_next (scalar x) ws).1 (tt, a)
  other_fine (pair v w ▸ ws) l n a = (fine_next (pair v w) ws).1 (tt, a)
  other_fine (set ms ▸ ws) l n a = absurd (omega (arith, cell_here (set ms) ws l))

  -- it is a set's: its members, where they are fine
  as_set : (ws : Values) → Left s j end ws → j < end → 5 * cell_size ≤ get_or s j 0 → AllOf IsFine (next ws) →
      (ms : Values) × (us : Values) × (ws ≡ set ms ▸ us) × TypedRow s (j + 1) (get_or s j 0 % cell_size) ms
  as_set none l k m a = absurd (omega (arith, l.ends))
  as_set (scalar z ▸ ws) l k m a = absurd (omega (arith, cell_here (scalar z) ws l, scalar_low_law z))
  as_set (pair v w ▸ ws) l k m a = absurd (omega (arith, cell_here (pair v w) ws l))
  as_set (set ms ▸ ws) l k m a =
      let h = first_stands s j (set ms) ws l.stands in (
        ms,
        ws,
        refl,
        record {
          stands = members_stand s j ms h;
          fits = l.fits.0.1;
          counted = (first_cell_law s j (set ms) h l.fits.0).1;
          typed = ((all_parts ms).0 ((all_before IsFine ms ws).0 a).0).1;
        },
      )

-- What is left of any value from `at` to `end` at the cell i is fine.
abbrev FineFrom : List ℕ → ℕ → ℕ → Type 0
FineFrom s at i = (v : Value) → ValueAt s at v → CellsFit v → AllOf IsFine (after (i - at) (v ▸ none))

-- The same, with i a place from `at` to `end`.
abbrev pub FineDown : List ℕ → ℕ → ℕ → ℕ → Type 0
FineDown s at end i = (at ≤ i) × (i ≤ end) × FineFrom s at i

module _ {s : List ℕ} {at end : ℕ} (e : EndsAt s at end) (v : Value) (h : ValueAt s at v) (f : CellsFit v) where
  reach : (n : ℕ) {j : ℕ} → at + n ≡ j → j ≤ end → Left s j end (after n (v ▸ none))
  reach zero q l =
      let p : at ≡ _ = sym (add-zero at) ∙ q in
      subst (λ (j : ℕ). Left s j end (v ▸ none)) p (record { stands = rw (single v) h; fits = (f, tt); ends = omega (arith, e v h f) })
  reach (suc n) {j} q l =
      let p : at + n + 1 ≡ j = omega arith in
      subst (λ (i : ℕ). Left s i end (after (suc n) (v ▸ none))) p (left_next (after n (v ▸ none)) (reach n refl (omega arith)) (omega arith))

-- The cell before i.
module _ {s : List ℕ} {at end i : ℕ} (e : EndsAt s at end) (low : at < i) (d : FineDown s at end i) where
  behind : (v : Value) → ValueAt s at v → CellsFit v → AllOf IsFine (next (after (i - 1 - at) (v ▸ none)))
  behind v h f = let p : i - at ≡ suc (i - 1 - at) = omega arith in subst (λ (n : ℕ). AllOf IsFine (after n (v ▸ none))) p (d.2 v h f)

  left : (v : Value) (h : ValueAt s at v) (f : CellsFit v) → Left s (i - 1) end (after (i - 1 - at) (v ▸ none))
  left v h f = reach e v h f (i - 1 - at) (omega arith) (omega (arith, d.1))

  down : FineFrom s at (i - 1) → FineDown s at end (i - 1)
  down a = (omega arith, omega (arith, d.1), a)

  pub from_other : get_or s (i - 1) 0 < 5 * cell_size → FineDown s at end (i - 1)
  from_other n = down (λ v h f. other_fine _ (left v h f) n (behind v h f))

  module _ (m : 5 * cell_size ≤ get_or s (i - 1) 0) where
    members : (v : Value) → ValueAt s at v → CellsFit v → (ms : Values) × (us : Values) × (after (i - 1 - at) (v ▸ none) ≡ set ms ▸ us) ×
        TypedRow s (i - 1 + 1) (get_or s (i - 1) 0 % cell_size) ms
    members v h f = as_set _ (left v h f) (omega (arith, d.1)) m (behind v h f)

    pub from_members : SomeAt s at → SomeTypedRow s (i - 1 + 1) (get_or s (i - 1) 0 % cell_size)
    from_members x = let t = members x.value x.stands x.fits in (t.0, t.3)

    module _ {r : Bool} (k : MembersFine s (i - 1 + 1) (get_or s (i - 1) 0 % cell_size) r) where
      pub from_set : r ≡ true → FineDown s at end (i - 1)
      from_set z =
          down (λ v h f.
          let t = members v h f in
          rw t.2 ((fine_next (set t.0) t.1).1
          ((T_true _).1 (sym (k t.0 t.3) ∙ z), subst (λ (us : Values). AllOf IsFine (next us)) t.2 (behind v h f))))

      pub from_fails : r ≡ false → (v : Value) → ValueAt s at v → CellsFit v → false ≡ (ordered v && typed v)
      from_fails z v h f =
          let t = members v h f in
          sym ((T_false _).0 (λ q. (T_false _).1 (sym (k t.0 t.3) ∙ z)
          ((fine_next (set t.0) t.1).0 (subst (AllOf IsFine) t.2 (after_fine (i - 1 - at) (v ▸ none) (q, tt)))).0))

pub from_start : {s : List ℕ} {at end i : ℕ} → FineDown s at end i → i ≤ at → (v : Value) → ValueAt s at v → CellsFit v → true ≡ (ordered v && typed v)
from_start {at = at} {i = i} d l v h f =
    let p : i - at ≡ 0 = omega arith in
    sym ((T_true _).0 (subst (λ (n : ℕ). AllOf IsFine (after n (v ▸ none))) p (d.2 v h f)).0)

-- Values that weigh no more than they are many are scalars and empty sets.
each_one : (vs : Values) → weights vs ≤ count vs → AllOf IsFine (vs before none)
unfolding typed
each_one none h = tt
each_one (scalar x ▸ vs) h = (tt, each_one vs (omega arith))
each_one (pair v w ▸ vs) h = absurd (omega (arith, weight_some v, weight_some w, count_weights vs))
each_one (set none ▸ vs) h = (tt, each_one vs (omega arith))
each_one (set (m ▸ ms) ▸ vs) h = absurd (omega (arith, weight_some m, count_weights vs))

module _ {s : List ℕ} {at end : ℕ} (e : EndsAt s at end) where
  -- A set whose members are one cell each, known by its number of cells: only the members themselves are to be tested.
  from_flat : is_flat (get_or s at 0) (end - at) ≡ true → FineFrom s at (at + 1)
  from_flat q v h f = let p : at + 1 - at ≡ 1 = omega arith in subst (λ (n : ℕ). AllOf IsFine (after n (v ▸ none))) (sym p) (go v h f)
    where
      flat : (5 * cell_size ≤ get_or s at 0) × (get_or s at 0 % cell_size + 1 ≡ end - at)
      flat = simp (T_and, t_leb, t_eqb) at ((T_true (is_flat (get_or s at 0) (end - at))).1 q)

      go : (v : Value) → ValueAt s at v → CellsFit v → AllOf IsFine (inner v before none)
      go (scalar x) h f = tt
      go (pair v w) h f = absurd (omega (arith, (first_cell_law s at (pair v w) h f).0, flat.0))
      go (set ms) h f = each_one ms (omega (arith, (first_cell_law s at (set ms) h f).1, flat.1, e (set ms) h f))

  from_end : FineFrom s at end
  from_end v h f = go _ (reach e v h f (end - at) (omega (arith, e v h f)) (omega arith))
    where
      go : (ws : Values) → Left s end end ws → AllOf IsFine ws
      go none l = tt
      go (w ▸ ws) l = absurd (omega (arith, l.ends, weight_some w))

  pub from_sets : {i : ℕ} → at < end → i ≡ sets_end (get_or s at 0) at end → FineDown s at end i
  from_sets l p = rw p (go (is_flat (get_or s at 0) (end - at)) refl)
    where
      go : (b : Bool) → is_flat (get_or s at 0) (end - at) ≡ b → FineDown s at end (cond b (at + 1) end)
      go true q = (omega arith, omega arith, from_flat q)
      go false q = (omega arith, omega arith, from_end)

pub end_inside : (s : List ℕ) (at end : ℕ) → SomeAt s at → EndsAt s at end → (at < end) × (end ≤ length s)
end_inside s at end p e =
    let x = e p.value p.stands p.fits in
    (omega (arith, weight_some p.value), omega (arith, p.stands.inside, length_code p.value))
