-- Rows of a sheet, read byte by byte: how many types the bytes from a place on make, against the byte there and the bytes behind it.
-- A row is that of a type where the whole of it makes one.
use Prim.Native.Nat.{ℕ, zero, suc, ◌+◌, ◌*◌, ◌-◌, ◌≤◌, ◌<◌}
use mathlib.Core.Bool.{Bool, true, false, cond}
use mathlib.Core.List.{List, [], ◌∷◌}
use mathlib.Core.Logic.Iff
use mathlib.Core.Logic.{◌≢◌, ◌↔◌}
use mathlib.Core.Option.{Option, none as nothing, some, bind}
use mathlib.Core.Path.{◌≡◌, refl, sym, ap, ◌∙◌}
use native.Mathlib.Omega.{arith}
use native.Mathlib.Numerals.{add-one}
use lib.Dec.{T, eqb, leb}
use borrow.Author.Tests.{ne_eqb, lt-leb}
use lib.ListN.{length, get_or, drop, length-take, length-drop, drop_of_length-le}
use lib.Seq.{drop-cons, get_or-take, get_or-drop}
use Rattle.rules.specs.Types.{Ty, G, code_before, types_in, only_type, type_of_row}
use Rattle.rules.proofs.TypeLaws.{row_length, type_of_row_right}
use Rattle.rules.proofs.Basics.{absurd01}
use Rattle.laws.proofs.EndLaws.{T_true, T_false, t_eqb}
use Rattle.fitting.specs.Types.{TypeAt, type_parts}
use Rattle.fitting.proofs.Types.{parts_atom, row_type}
use Rattle.conforms.specs.Conforming.{row_at}
use Rattle.conforms.specs.Rows.{is_code, goes_on, left_behind, TypeRow}

pub parts_most : (c : ℕ) → type_parts c ≤ 2
parts_most c = elim (eqb c 3) as (λ a. cond a 1 (cond (eqb c 4) 2 0) ≤ 2) [
  | true ↦ omega arith
  | false ↦ elim (eqb c 4) as (λ b. cond b 2 0 ≤ 2) [ true ↦ omega arith | false ↦ omega arith ]
]

-- A number of types that is not 0.
pub some_left : (n : ℕ) → n ≢ 0 → n ≡ suc (n - 1)
some_left n p = omega arith

behind_few : (c left : ℕ) → left_behind c left ≤ left + 1
behind_few c zero = omega arith
behind_few c (suc n) = omega (arith, parts_most c)

-- n types have been read.
abbrev Counted : Option (List Ty) → ℕ → Type 0
Counted nothing n = ⊥
Counted (some ts) n = length ts ≡ n

-- A byte that is not zero makes a type of its parts behind it, or nothing; from 5 on it is the code of a given set, or none.
made_given : (c k n : ℕ) (ts : List Ty) → c ≡ k → 4 < c →
    Counted (cond (leb 16 k) (some (G (k - 16) ∷ ts)) nothing) n ↔ (T (is_code c) × (0 < n) × (length ts + 1 ≡ n + type_parts c))
made_given c k n ts e l =
    rw (e, parts_atom k (λ f. omega arith) (λ f. omega arith), ne_eqb k 0 (λ f. omega arith), lt-leb k 4 (omega arith)) (go (leb 16 k))
  where
    go : (b : Bool) → Counted (cond b (some (G (k - 16) ∷ ts)) nothing) n ↔ (T (cond b true false) × (0 < n) × (length ts + 1 ≡ n + 0))
    go true = (λ h. (tt, omega arith, omega arith), λ h. omega (arith, h.2))
    go false = (λ h. absurd h, λ h. absurd h.0)

made : (c : ℕ) (ts : List Ty) (n : ℕ) → Counted (code_before (suc c) ts) n ↔ (T (is_code (suc c)) × (0 < n) × (length ts + 1 ≡ n + type_parts (suc c)))
made zero ts n = (λ h. (tt, omega arith, omega arith), λ h. omega (arith, h.2))
made (suc zero) ts n = (λ h. (tt, omega arith, omega arith), λ h. omega (arith, h.2))
made (suc (suc zero)) [] n = (λ h. absurd h, λ h. absurd (omega (arith, h.1, h.2)))
made (suc (suc zero)) (t ∷ ts) n = (λ h. (tt, omega arith, omega arith), λ h. omega (arith, h.2))
made (suc (suc (suc zero))) [] n = (λ h. absurd h, λ h. absurd (omega (arith, h.1, h.2)))
made (suc (suc (suc zero))) (t ∷ []) n = (λ h. absurd h, λ h. absurd (omega (arith, h.1, h.2)))
made (suc (suc (suc zero))) (t ∷ u ∷ ts) n = (λ h. (tt, omega arith, omega arith), λ h. omega (arith, h.2))
made (suc (suc (suc (suc c)))) ts n = made_given (suc (suc (suc (suc (suc c))))) (5 + c) n ts (omega arith) (omega arith)

-- What a byte makes of the types behind it.
counts : (c : ℕ) (o : Option (List Ty)) (n : ℕ) → Counted (bind o (code_before c)) n ↔ (T (goes_on c n) × Counted o (left_behind c n))
unfolding bind
counts c nothing n = (λ h. absurd h, λ h. absurd h.1)
counts zero (some []) zero = (λ h. (tt, refl), λ h. refl)
counts zero (some []) (suc n) = (λ h. absurd (omega arith), λ h. absurd h.0)
counts zero (some (t ∷ ts)) zero = (λ h. absurd h, λ h. omega (arith, h.1))
counts zero (some (t ∷ ts)) (suc n) = (λ h. absurd h, λ h. absurd h.0)
counts (suc c) (some ts) zero = (λ h. absurd (omega (arith, ((made c ts 0).0 h).1)), λ h. absurd (omega (arith, (t_eqb (suc c) 0).0 h.0)))
counts (suc c) (some ts) (suc n) =
    let m = made c ts (suc n) in (λ h. ((m.0 h).0, omega (arith, (m.0 h).2)), λ h. m.1 (h.0, omega arith, omega (arith, h.1)))

-- A row is that of a type where it is read as one.
only : (o : Option (List Ty)) → ((t : Ty) × (only_type o ≡ some t)) ↔ Counted o 1
only nothing = (λ x. absurd01 (cc x.1), λ h. absurd h)
only (some []) = (λ x. absurd01 (cc x.1), λ h. absurd (omega arith))
only (some (t ∷ [])) = (λ x. refl, λ h. (t, refl))
only (some (t ∷ u ∷ ts)) = (λ x. absurd01 (cc x.1), λ h. absurd (omega arith))

one_type : (sheet : List ℕ) (p : ℕ) → TypeRow sheet p ↔ Counted (types_in (row_at sheet p)) 1
unfolding type_of_row
one_type sheet p = let o = only (types_in (row_at sheet p)) in (λ x. o.0 (x.type, x.read), λ h. let (t, e) = o.1 h in record { type = t; read = e })

-- The first i bytes of the row of p have been read: it is that of a type exactly where the bytes behind them are read as `left` types.
pub record Begun (sheet : List ℕ) (p : ℕ) (row : List ℕ) (i left : ℕ) : Type 0 where
  pub few : left ≤ i + 1
  pub same : TypeRow sheet p ↔ Counted (types_in (drop i row)) left

pub begun_start : {sheet : List ℕ} {p : ℕ} {row : List ℕ} → row ≡ row_at sheet p → Begun sheet p row 0 1
begun_start {sheet} {p} e = rw e (record { few = omega arith; same = one_type sheet p })

module _ {sheet : List ℕ} {p : ℕ} {row : List ℕ} {i left : ℕ} (b : Begun sheet p row i left) where
  module _ (l : i < length row) where
    goes : Counted (types_in (drop i row)) left ↔ (T (goes_on (get_or row i 0) left)
        × Counted (types_in (drop (i + 1) row)) (left_behind (get_or row i 0) left))
    unfolding types_in
    goes =
        let d : drop i row ≡ get_or row i 0 ∷ drop (i + 1) row = drop-cons row i 0 l ∙ rw (add-one i) in
        rw d (counts (get_or row i 0) (types_in (drop (i + 1) row)) left)

    pub begun_stops : goes_on (get_or row i 0) left ≡ false → TypeRow sheet p → ⊥
    begun_stops e x = (T_false _).1 e (goes.0 (b.same.0 x)).0

    pub begun_step : {n : ℕ} → goes_on (get_or row i 0) left ≡ true → n ≡ left_behind (get_or row i 0) left → Begun sheet p row (i + 1) n
    begun_step k e = rw e (record {
      few = omega (arith, b.few, behind_few (get_or row i 0) left);
      same = Iff.trans b.same (λ x. (goes.0 x).1, λ x. goes.1 ((T_true _).1 k, x));
    })

  pub begun_end : length row ≤ i → TypeRow sheet p ↔ ◌≡◌ {A = ℕ} 0 left
  unfolding types_in
  begun_end l = rw (drop_of_length-le row l) at b.same

-- The row of a place has 64 bytes; where it is that of a type, the type's codes stand there.
pub row_long : (sheet : List ℕ) (p : ℕ) → 64 * p + 64 ≤ length sheet → length (row_at sheet p) ≡ 64
row_long sheet p room = omega (arith, length-take 64 (drop (64 * p) sheet), length-drop (64 * p) sheet)

pub type_there : {sheet : List ℕ} {p : ℕ} → 64 * p + 64 ≤ length sheet → (y : TypeRow sheet p) → TypeAt sheet (64 * p) y.type
type_there {sheet} {p} room y =
    let t = y.type in
    let x = (type_of_row_right (row_at sheet p) t (row_long sheet p room)).0 y.read in
    row_type sheet (64 * p) t (record {
      inside = omega (arith, row_length t x.1);
      cells = λ i q.
          sym (get_or-drop (64 * p) sheet i 0) ∙ sym (get_or-take 64 (drop (64 * p) sheet) i 0 (omega (arith, row_length t x.1)))
          ∙ ap (λ (l : List ℕ). get_or l i 0) x.0;
    })
