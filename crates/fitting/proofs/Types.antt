-- Values of the arena against types in prefix codes.
use Prim.Native.Nat.{ℕ, zero, suc, ◌+◌, ◌-◌, ◌/◌, ◌%◌, ◌≤◌, ◌<◌}
use mathlib.Core.Bool.{Bool, true, false, false≢true}
use mathlib.Core.List.{List, [], ◌∷◌, ◌++◌, append_assoc, append-nil}
use mathlib.Core.Logic.{◌≢◌}
use mathlib.Core.Path.{◌≡◌, refl, sym, ap, ◌∙◌, subst}
use native.Mathlib.Omega.{arith}
use lib.Dec.{eqb}
use native.Mathlib.Decide.{ℕ_discrete}
use native.Mathlib.Numerals.{add-one}
use lib.ListN.{length, drop, get_or, replicate, length-append}
use lib.Seq.{drop-cons}
use Rattle.prefix.specs.Forms.{Forms}
use borrow.Author.Tests.{eq-eqb, ne_eqb, eqb-true}
use Rattle.rules.specs.Types.{whole, Atom, number, bool, given, Ty, atom, POW, ◌⊗◌, atom_code, weightᵀ, prefix, row}
use Rattle.rules.specs.Values.{Scalar, num, truth, element, scalar, pair, set, Values, none, ◌▸◌, scalar_tag, tag, count}
use Rattle.rules.specs.Fits.{atom_of, types_of, shared_types, HasType, HaveType}
use Rattle.laws.proofs.FitsLaws.{has→types}
use Rattle.rules.proofs.TypeLaws.{weight_positive, prefix_length, prefixes, atom_code_injective}
use Rattle.arena.specs.Code.{cell_size, scalar_low, Stands, ValuesAt, ScalarFits, AllFit, SomeAt, EndsAt}
use Rattle.arena.proofs.Standing.{stands_head, stands_tail, stands_front, stands_back, first_stands, rest_stand}
use Rattle.fitting.specs.Types.{TypeAt, SomeType, TypeEnds, type_parts, Decides, atom_is, OfType, ValuesAndType}
use Rattle.arena.proofs.ValueParts.{first_cell_law, left_stands, right_stands}
use Rattle.fitting.proofs.Cells.{tag_set, tag_pair, members_stand}
use Rattle.fitting.proofs.Sharing.{as_power, as_product}
use Rattle.laws.proofs.CellsLaws.{weight_some}

-- The first code of a type.
abbrev head : Ty → ℕ
head (atom a) = atom_code a
head (POW t) = 3
head (t ⊗ u) = 4

first_code : (row : List ℕ) (from : ℕ) (t : Ty) → TypeAt row from t → get_or row from 0 ≡ head t
first_code row from (atom a) h = stands_head row from _ _ h.codes
first_code row from (POW t) h = stands_head row from _ _ h.codes
first_code row from (t ⊗ u) h = stands_head row from _ _ h.codes

pub type_inside : {row : List ℕ} {from : ℕ} → SomeType row from → from < length row
type_inside x = omega (arith, x.1.codes.inside, prefix_length x.0, weight_positive x.0)

-- A type's code is a POW's or a product's only where the type is.
atom_code_law : (a : Atom) → (atom_code a ≢ 3) × (atom_code a ≢ 4)
atom_code_law (number whole) = ((λ e. omega arith), (λ e. omega arith))
atom_code_law bool = ((λ e. omega arith), (λ e. omega arith))
atom_code_law (given g) = ((λ e. omega arith), (λ e. omega arith))

is_pow : (row : List ℕ) (from : ℕ) (t : Ty) → TypeAt row from t → get_or row from 0 ≡ 3 → (u : Ty) × (t ≡ POW u) × TypeAt row (from + 1) u
is_pow row from (atom a) h e = absurd ((atom_code_law a).0 (sym (first_code row from (atom a) h) ∙ e))
is_pow row from (POW u) h e = (u, refl, record { codes = stands_tail row from 3 (prefix u) h.codes })
is_pow row from (u ⊗ w) h e = absurd (omega (arith, first_code row from (u ⊗ w) h))

is_product : (row : List ℕ) (from : ℕ) (t : Ty) → TypeAt row from t → get_or row from 0 ≡ 4 →
    (u : Ty) × (w : Ty) × (t ≡ u ⊗ w) × TypeAt row (from + 1) u × TypeAt row (from + 1 + weightᵀ u) w
is_product row from (atom a) h e = absurd ((atom_code_law a).1 (sym (first_code row from (atom a) h) ∙ e))
is_product row from (POW u) h e = absurd (omega (arith, first_code row from (POW u) h))
is_product row from (u ⊗ w) h e =
    let k = stands_tail row from 4 (prefix u ++ prefix w) h.codes in
    let l = stands_front row (from + 1) (prefix u) (prefix w) k in
    let r = stands_back row (from + 1) (prefix u) (prefix w) k in
    (u, w, refl, record { codes = l }, record { codes = rw (← prefix_length u) r })

count_types : (ts : List Ty) → length ts ≤ length (prefixes ts)
unfolding prefixes
count_types [] = omega arith
count_types (t ∷ ts) = omega (arith, count_types ts, length-append (prefix t) (prefixes ts), prefix_length t, weight_positive t)

-- `left` types stand from i to e.
pub record TypesFrom (row : List ℕ) (i left e : ℕ) (ts : List Ty) : Type 0 where
  pub counted : length ts ≡ left
  pub codes : Stands row i (prefixes ts)
  pub ends : i + length (prefixes ts) ≡ e

abbrev pub PendingTypes : List ℕ → ℕ → ℕ → ℕ → Type 0
PendingTypes row i left e = (ts : List Ty) × TypesFrom row i left e ts

pub types_start : (row : List ℕ) (from : ℕ) (t : Ty) → TypeAt row from t → PendingTypes row from 1 (from + weightᵀ t)
unfolding prefixes
types_start row from t h =
    let e = append-nil (prefix t) in
    (t ∷ [], record { counted = refl; codes = rw e h.codes; ends = rw (e, prefix_length t) })

pub parts_atom : (c : ℕ) → c ≢ 3 → c ≢ 4 → type_parts c ≡ 0
parts_atom c n m = rw (ne_eqb c 3 n, ne_eqb c 4 m)

-- A type with the code c has been begun: the types us stand behind it.
step_to : {row : List ℕ} {i e c : ℕ} (left : ℕ) (us : List Ty) → Stands row i (c ∷ prefixes us) → length us ≡ left - 1 + type_parts c →
    i + 1 + length (prefixes us) ≡ e → PendingTypes row (i + 1) (left - 1 + type_parts (get_or row i 0)) e
step_to {row} {i} {c = c} left us h n m =
    (us, record { counted = rw (stands_head row i c (prefixes us) h) n; codes = stands_tail row i c (prefixes us) h; ends = m })

module _ {row : List ℕ} {i left e : ℕ} where
  pub types_step : PendingTypes row i left e → 0 < left → PendingTypes row (i + 1) (left - 1 + type_parts (get_or row i 0)) e
  unfolding prefixes
  types_step ([], p) l = absurd (omega (arith, p.counted))
  types_step (atom a ∷ ts, p) l =
      step_to left ts p.codes (rw (parts_atom (atom_code a) (atom_code_law a).0 (atom_code_law a).1) (omega (arith, p.counted))) (omega (arith, p.ends))
  types_step (POW u ∷ ts, p) l = step_to left (u ∷ ts) p.codes (omega (arith, p.counted)) (omega (arith, p.ends))
  types_step ((u ⊗ w) ∷ ts, p) l =
      let a = append_assoc (prefix u) (prefix w) (prefixes ts) in
      step_to left (u ∷ w ∷ ts) (rw a at p.codes) (omega (arith, p.counted)) (omega (arith, p.ends, ap length a))

  pub types_end : PendingTypes row i left e → left ≡ 0 → i ≡ e
  unfolding prefixes
  types_end ([], p) z = omega (arith, p.ends)
  types_end (t ∷ ts, p) z = absurd (omega (arith, p.counted))

  -- each of them takes a byte at least
  pub types_room : PendingTypes row i left e → i + left ≤ length row
  types_room p = omega (arith, count_types p.0, p.1.counted, p.1.codes.inside)

-- Types that stand from i to e are forms in prefix order, as a step P sees them that answers how many parts follow a code.
module _ (P : ℕ → ℕ → Type 0) (tells : (x r : ℕ) → P x r → r ≡ type_parts x) (row : List ℕ) where
  types_forms : (n i left e : ℕ) → PendingTypes row i left e → i + n ≡ e → Forms P n (drop i row) left
  unfolding Forms
  types_forms zero i left e p z = omega (arith, p.1.counted, p.1.ends, count_types p.0)
  types_forms (suc n) i left e p z =
      let some : 0 < left = elim (ℕ_discrete left 0) [ yes q ↦ absurd (omega (arith, types_end p q)) | no q ↦ omega arith ] in
      let d : get_or row i 0 ∷ drop (i + 1) row ≡ drop i row =
      ap (λ j. get_or row i 0 ∷ drop j row) (add-one i) ∙ sym (drop-cons row i 0 (omega (arith, types_room p))) in
      subst (λ (xs : List ℕ). Forms P (suc n) xs left) d (
        some,
        omega (arith, p.1.counted, p.1.ends, count_types p.0),
        λ r h. rw (tells _ r h) (types_forms n (i + 1) _ e (types_step p some) (omega arith)),
      )

  pub type_forms : (from : ℕ) (t : Ty) → TypeAt row from t → Forms P (weightᵀ t) (drop from row) 1
  type_forms from t h = types_forms (weightᵀ t) from 1 (from + weightᵀ t) (types_start row from t h) refl

-- The code of a type without parts tells the type.
head_atom : (a : Atom) (t : Ty) → head t ≡ atom_code a → t ≡ atom a
head_atom a (atom b) e = ap atom (atom_code_injective b a e)
head_atom a (POW t) e = absurd ((atom_code_law a).0 (sym e))
head_atom a (t ⊗ u) e = absurd ((atom_code_law a).1 (sym e))

code_decides : (a : Atom) (t : Ty) → Decides (eqb (atom_code a) (head t)) (t ≡ atom a)
code_decides a t =
    record { sound = λ e. head_atom a t (sym (eqb-true (atom_code a) (head t) e)); complete = λ e. eq-eqb (atom_code a) (head t) (sym (ap head e)) }

scalar_decides : (x : Scalar) (t : Ty) (c : ℕ) → ScalarFits x → c / cell_size ≡ scalar_tag x → c % cell_size ≡ scalar_low x →
    Decides (atom_is c (head t)) (t ≡ atom (atom_of x))
scalar_decides (num whole i) t c f e l = rw e (code_decides (number whole) t)
scalar_decides (truth b) t c f e l = rw e (code_decides bool t)
scalar_decides (element g k) t c f e l = let q : c % cell_size / 256 + 16 ≡ 16 + g = omega (arith, f.0) in rw (e, q) (code_decides (given g) t)

pub is_atom : {s : List ℕ} {at : ℕ} {row : List ℕ} {from : ℕ} {r : Bool} → r ≡ atom_is (get_or s at 0) (get_or row from 0) →
    get_or s at 0 / cell_size ≢ 5 → get_or s at 0 / cell_size ≢ 4 → OfType s at row from r
is_atom {s} {at} {row} {from} {r} e n5 n4 (scalar x) t h f k =
    let p = first_cell_law s at (scalar x) h f in
    let q : r ≡ atom_is (get_or s at 0) (head t) = e ∙ ap (atom_is (get_or s at 0)) (first_code row from t k) in
    subst (λ (b : Bool). Decides b (t ≡ atom (atom_of x))) (sym q) (scalar_decides x t (get_or s at 0) f p.0 p.1)
is_atom {s} {at} e n5 n4 (pair x y) t h f k = absurd (n4 (first_cell_law s at (pair x y) h f).0)
is_atom {s} {at} e n5 n4 (set vs) t h f k = absurd (n5 (first_cell_law s at (set vs) h f).0)

-- Both of two.
both_no : {A B : Type 0} {r : Bool} → Decides r A → r ≡ false → Decides false (A × B)
both_no d e = record { sound = λ z. absurd (false≢true z); complete = λ x. absurd (false≢true (sym e ∙ d.complete x.0)) }

both_yes : {A B : Type 0} {q r : Bool} → Decides q A → q ≡ true → Decides r B → Decides r (A × B)
both_yes d e f = record { sound = λ z. (d.sound e, f.sound z); complete = λ x. f.complete x.1 }

-- An answer that is false, by what it decides.
pub refuses : {A : Type 0} → (A → ⊥) → Decides false A
refuses n = record { sound = λ e. absurd (false≢true e); complete = λ a. absurd (n a) }

-- A pair against a product: the right part and its type stand where the left ones end. The left part has another type, or has its own and the right
-- part decides.
pub record PairAndProduct {s : List ℕ} {at : ℕ} {row : List ℕ} {from : ℕ} (v : SomeAt s at) (t : SomeType row from) : Type 0 where
  pub left : SomeAt s (at + 1)
  pub right : (c : ℕ) → EndsAt s (at + 1) c → SomeAt s c
  pub type : SomeType row (from + 1)
  pub next : (e : ℕ) → TypeEnds row (from + 1) e → SomeType row e
  pub no : {q : Bool} → OfType s (at + 1) row (from + 1) q → q ≡ false → Decides false (HasType v.value t.0)
  pub yes : {q r : Bool} {c e : ℕ} → OfType s (at + 1) row (from + 1) q → q ≡ true → EndsAt s (at + 1) c → TypeEnds row (from + 1) e →
      OfType s c row e r → Decides r (HasType v.value t.0)

some_tag : {s : List ℕ} {at n : ℕ} (v : SomeAt s at) → get_or s at 0 / cell_size ≡ n → tag v.value ≡ n
some_tag {s} {at} v e = sym (first_cell_law s at v.value v.stands v.fits).0 ∙ e

module _ {s : List ℕ} {at : ℕ} {row : List ℕ} {from : ℕ} where
  -- by some value and some type there
  pub of_some : {r : Bool} → ((v : SomeAt s at) (t : SomeType row from) → Decides r (HasType v.value t.0)) → OfType s at row from r
  of_some g v t h f k = g (record { value = v; stands = h; fits = f }) (t, k)

  module _ (v : SomeAt s at) (t : SomeType row from) where
    -- another code than that of POW for a set, than that of a product for a pair
    pub set_no : get_or s at 0 / cell_size ≡ 5 → get_or row from 0 ≢ 3 → Decides false (HasType v.value t.0)
    set_no e n =
        let (vs, d) = tag_set v.value (some_tag v e) in
        refuses (λ y. n (first_code row from t.0 t.1 ∙ ap head (as_power (shared_types vs) t.0 (has→types (set vs) t.0 (rw d at y))).1))

    pub pair_no : get_or s at 0 / cell_size ≡ 4 → get_or row from 0 ≢ 4 → Decides false (HasType v.value t.0)
    pair_no e n =
        let (x, y, d) = tag_pair v.value (some_tag v e) in
        refuses (λ z. n (first_code row from t.0 t.1 ∙
        ap head (as_product (types_of x) (types_of y) t.0 (has→types (pair x y) t.0 (rw d at z))).2))

    -- a set against POW(u): the members decide
    pub set_asks : {n : ℕ} → get_or s at 0 / cell_size ≡ 5 → get_or row from 0 ≡ 3 → n ≡ get_or s at 0 % cell_size →
        (p : ValuesAndType s (at + 1) n row (from + 1)) ×
        ((r : Bool) → Decides r (HaveType p.values p.type.0) → Decides r (HasType v.value t.0))
    set_asks e c m =
        let (vs, d) = tag_set v.value (some_tag v e) in
        let h = rw d at v.stands in
        let f = rw d at v.fits in
        let (u, g, k) = is_pow row from t.0 t.1 c in
        let q = sym (m ∙ (first_cell_law s at (set vs) h f).1) in
        (record { values = vs; stands = members_stand s at vs h; fits = f.1; counted = q; type = (u, k) }, λ r a. rw (d, g) a)

    pub pair_asks : get_or s at 0 / cell_size ≡ 4 → get_or row from 0 ≡ 4 → PairAndProduct v t
    pair_asks e c =
        let (x, y, d) = tag_pair v.value (some_tag v e) in
        let h = rw d at v.stands in
        let (a, b) = rw d at v.fits in
        let i = left_stands s at x y h in
        let j = right_stands s at x y h in
        let (u, w, g, p, q) = is_product row from t.0 t.1 c in
        record {
          left = record { value = x; stands = i; fits = a };
          right = λ c l. record { value = y; stands = rw (l x i a) j; fits = b };
          type = (u, p);
          next = λ c m. (w, rw (m u p) q);
          no = λ o n. rw (d, g) (both_no (o x u i a p) n);
          yes = λ o n l m z. rw (d, g) (both_yes (o x u i a p) n (z y w (rw (l x i a) j) b (rw (m u p) q)));
        }

pub ends_behind : {s : List ℕ} {at end : ℕ} → SomeAt s at → EndsAt s at end → at < end
ends_behind x e = omega (arith, e x.value x.stands x.fits, weight_some x.value)

-- The members of a set, one after the other: those that are passed have the type, and the rest, ws, decides.
pub record ValuesLeft (s : List ℕ) (at n : ℕ) (t : Ty) (vs ws : Values) : Type 0 where
  pub stands : ValuesAt s at ws
  pub fits : AllFit ws
  pub counted : count ws ≡ n
  pub tells : (r : Bool) → Decides r (HaveType ws t) → Decides r (HaveType vs t)

abbrev pub SomeLeft : List ℕ → ℕ → ℕ → Ty → Values → Type 0
SomeLeft s at n t vs = (ws : Values) × ValuesLeft s at n t vs ws

module _ {s : List ℕ} {at n : ℕ} {t : Ty} {vs : Values} where
  pub left_end : SomeLeft s at n t vs → n ≡ 0 → Decides true (HaveType vs t)
  left_end (none, p) z = p.tells true (record { sound = λ e. tt; complete = λ u. refl })
  left_end (x ▸ ys, p) z = absurd (omega (arith, p.counted))

  pub left_first : SomeLeft s at n t vs → 0 < n → SomeAt s at
  left_first (none, p) l = absurd (omega (arith, p.counted))
  left_first (x ▸ ys, p) l = record { value = x; stands = first_stands s at x ys p.stands; fits = p.fits.0 }

  module _ {row : List ℕ} {from : ℕ} {c : Bool} (k : TypeAt row from t) (l : 0 < n) (g : OfType s at row from c) where
    pub left_no : SomeLeft s at n t vs → c ≡ false → Decides false (HaveType vs t)
    left_no (none, p) f = absurd (omega (arith, p.counted))
    left_no (x ▸ ys, p) f = p.tells false (both_no (g x t (first_stands s at x ys p.stands) p.fits.0 k) f)

    pub left_yes : {end : ℕ} → SomeLeft s at n t vs → c ≡ true → EndsAt s at end → SomeLeft s end (n - 1) t vs
    left_yes (none, p) f e = absurd (omega (arith, p.counted))
    left_yes (x ▸ ys, p) f e =
        let a = first_stands s at x ys p.stands in (
          ys,
          record {
            stands = rw (e x a p.fits.0) (rest_stand s at x ys p.stands);
            fits = p.fits.1;
            counted = omega (arith, p.counted);
            tells = λ r d. p.tells r (both_yes (g x t a p.fits.0 k) f d);
          },
        )

-- The row of a type begins with its codes.
pub row_type : (sheet : List ℕ) (from : ℕ) (t : Ty) → Stands sheet from (row t) → TypeAt sheet from t
unfolding row
row_type sheet from t h = record { codes = stands_front sheet from (prefix t) (replicate (64 - weightᵀ t) 0) h }
