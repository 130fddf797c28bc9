-- Operands that fit. The types that a test of refusal 15 tells, what good values of a type are, and so, for each list of operand types that the rules
-- have, that what holds of operands of that form (sets, sets of pairs, numbers) holds of all good operands that pass the test.
use Rattle.operations.proofs.Base.{ℕ, ◌%◌, Bool, true, false, not, not-false, List, [], ◌∷◌, ◌≡◌, sym, ◌∙◌, subst, arith, ℤ, length, get_or, absurd01}
use Rattle.operations.proofs.Terms.{whole, Ty, POW, ◌⊗◌, INTEGER, num, truth, element, Value, scalar, pair, set, Values, members, int, Pattern, t̂, û, P̂, ◌×̂◌, numᵖ, inst, HasType, HaveType, Fits, fits, typed, FitOne, FitTwo, Both, excess, code, AllPairs, SetBelow, new_firsts, SomeRelation, KnownFunction, Sizes, GoodAt, SomeGood, NewFirsts, FunctionSeen, Operands, NumberCell}
use Rattle.laws.proofs.EndLaws.{T_true}
use Rattle.laws.proofs.FitsLaws.{fits_right, have→shared_types, typed_right}
use Rattle.arena.proofs.Standing.{stands_head}
use Rattle.fitting.proofs.Tests.{all_pairs}
use Rattle.operations.proofs.GoodLaws.{good_fits, good_typed_at, good_whole, good_set_at}

-- Operands that fit have the types of the rule.
module _ (ps : List Pattern) (vs : List Value) where
  pub fit_types : fits ps vs ≡ true → Fits ps vs
  fit_types e = (fits_right ps vs).0 (rw e tt)

  pub types_fit : Fits ps vs → fits ps vs ≡ true
  types_fit h = (T_true (fits ps vs)).0 ((fits_right ps vs).1 h)

-- Any value, and any two, fit where all types do.
pub one_any : {s : List ℕ} {a : ℕ} → FitOne (t̂ ∷ []) s a true
unfolding typed
one_any v h = let x = (typed_right v).0 h.typed in sym (types_fit (t̂ ∷ []) (v ∷ []) (x.0, INTEGER, (x.1, tt)))

pub two_any : {s : List ℕ} {a b : ℕ} → FitTwo (t̂ ∷ û ∷ []) s a b true
unfolding typed
two_any v w h k =
    let x = (typed_right v).0 h.typed in
    let y = (typed_right w).0 k.typed in
    sym (types_fit (t̂ ∷ û ∷ []) (v ∷ w ∷ []) (x.0, y.0, (x.1, (y.1, tt))))

pub ready_both : {s : List ℕ} {a b top : ℕ} → Operands s a b top → Both s a b
ready_both p = record { first = (p.first, good_typed_at p.small p.left); second = (p.second, good_typed_at p.small p.right) }

-- A value of a type POW(t) is a set, and a good one of the type INTEGER a number, by its cell.
pub on_set : (P : Value → Type 0) (v : Value) (t : Ty) → HasType v (POW t) → ((vs : Values) → HaveType vs t → P (set vs)) → P v
on_set P (scalar x) t q f = absurd01 (cc)
on_set P (pair v w) t q f = absurd q
on_set P (set vs) t q f = f vs q

good_as_number : {gs s : List ℕ} {top a : ℕ} {v : Value} → Sizes gs → GoodAt gs s top a v → (P : Value → Type 0) → HasType v INTEGER →
    ((i : ℤ) → NumberCell i (get_or s a 0) → P (int i)) → P v
unfolding code
good_as_number {s = s} {a = a} {v = scalar (num whole i)} small h P q f =
    f i (record { fits = good_fits small (int i) h.good; is = stands_head s a _ _ h.stands })
good_as_number {v = scalar (truth b)} small h P q f = absurd01 (cc)
good_as_number {v = scalar (element g k)} small h P q f = absurd01 (cc)
good_as_number {v = pair v w} small h P q f = absurd q
good_as_number {v = set vs} small h P q f = absurd q

-- The payload of a number's cell.
pub number_low : {i : ℤ} {x y : ℕ} → y ≡ x % 4294967296 → NumberCell i x → excess i ≡ y
number_low e h = omega (arith, h.is, h.fits.0)

-- A good value of a type POW(t) is a set that can be an operand.
module _ {gs s : List ℕ} {top a : ℕ} {v : Value} (small : Sizes gs) (h : GoodAt gs s top a v) (P : Value → Type 0) where
  good_as_set : (t : Ty) → HasType v (POW t) → ((vs : Values) → HaveType vs t → SetBelow s top a vs → P (set vs)) → P v
  good_as_set t q g = on_set (λ y. GoodAt gs s top a y → P y) v t q (λ vs q i. g vs q (good_set_at small vs i)) h

  good_as_pairs : (t u : Ty) → HasType v (POW (t ⊗ u)) → ((vs : Values) → SetBelow s top a vs → AllPairs vs → P (set vs)) → P v
  good_as_pairs t u q g = good_as_set (t ⊗ u) q (λ vs q i. g vs i (all_pairs vs t u (have→shared_types vs (t ⊗ u) q)))

-- One operand.
module _ {gs s : List ℕ} {top a : ℕ} {v : Value} (small : Sizes gs) (h : GoodAt gs s top a v) where
  pub one_fits : (ps : List Pattern) {r : Bool} → FitOne ps s a r → fits ps (v ∷ []) ≡ r
  one_fits ps f = sym (f v (good_typed_at small h))

  module _ (P : Value → Type 0) {r : Bool} where
    one_types : (ps : List Pattern) → FitOne ps s a r → not r ≡ false → Fits ps (v ∷ [])
    one_types ps f e = fit_types ps (v ∷ []) (one_fits ps f ∙ not-false r e)

    pub one_set : FitOne (P̂ t̂ ∷ []) s a r → not r ≡ false → ((vs : Values) → SetBelow s top a vs → P (set vs)) → P v
    one_set f e g = let x = one_types (P̂ t̂ ∷ []) f e in good_as_set small h P x.0 x.2.0 (λ vs _. g vs)

    pub one_relation : FitOne (P̂ (t̂ ×̂ û) ∷ []) s a r → not r ≡ false → ((vs : Values) → SetBelow s top a vs → AllPairs vs → P (set vs)) → P v
    one_relation f e g = let x = one_types (P̂ (t̂ ×̂ û) ∷ []) f e in good_as_pairs small h P x.0 x.1 x.2.0 g

-- A relation that is seen to be a function.
module _ {s : List ℕ} {a : ℕ} {f : Bool} (fit : FitOne (P̂ (t̂ ×̂ û) ∷ []) s a f) (e : not f ≡ false) where
  pub some_relation : SomeGood s a → SomeRelation s (length s) a
  some_relation p =
      one_relation p.small (good_whole p.small p.stands) (λ _. SomeRelation s (length s) a) fit e (λ vs k q. (vs, k, q))

  pub function_seen : {r : Bool} → KnownFunction s a r → FunctionSeen s a r
  function_seen g z gs top v small h =
      one_relation small (good_whole small h) NewFirsts fit e
      (λ vs k q ws d. let i : vs ≡ ws = cc in subst (λ (x : Values). true ≡ new_firsts (members x)) i (g z vs k q))

-- Two operands.
module _ {gs s : List ℕ} {mid top a b : ℕ} {v w : Value} (small : Sizes gs) (h : GoodAt gs s mid a v) (k : GoodAt gs s top b w) where
  pub two_fits : (ps : List Pattern) {r : Bool} → FitTwo ps s a b r → fits ps (v ∷ w ∷ []) ≡ r
  two_fits ps f = sym (f v w (good_typed_at small h) (good_typed_at small k))

  module _ (P : Value → Value → Type 0) {r : Bool} where
    two_types : (ps : List Pattern) → FitTwo ps s a b r → not r ≡ false → Fits ps (v ∷ w ∷ [])
    two_types ps f e = fit_types ps (v ∷ w ∷ []) (two_fits ps f ∙ not-false r e)

    pub two_sets : (u : Pattern) → FitTwo (P̂ t̂ ∷ P̂ u ∷ []) s a b r → not r ≡ false →
        ((vs ws : Values) → SetBelow s mid a vs → SetBelow s top b ws → P (set vs) (set ws)) → P v w
    two_sets u f e g =
        let x = two_types (P̂ t̂ ∷ P̂ u ∷ []) f e in
        good_as_set small h (λ y. P y w) x.0 x.2.0
        (λ vs _ i. good_as_set small k (P (set vs)) (inst u x.0 x.1) x.2.1.0 (λ ws _. g vs ws i))

    pub two_numbers : FitTwo (numᵖ whole ∷ numᵖ whole ∷ []) s a b r → not r ≡ false →
        ((m n : ℤ) → NumberCell m (get_or s a 0) → NumberCell n (get_or s b 0) → P (int m) (int n)) → P v w
    two_numbers f e g =
        let x = two_types (numᵖ whole ∷ numᵖ whole ∷ []) f e in
        good_as_number small h (λ y. P y w) x.2.0 (λ m i. good_as_number small k (P (int m)) x.2.1.0 (λ n. g m n i))

    pub two_member : FitTwo (t̂ ∷ P̂ t̂ ∷ []) s a b r → not r ≡ false → ((ws : Values) → SetBelow s top b ws → P v (set ws)) → P v w
    two_member f e g = let x = two_types (t̂ ∷ P̂ t̂ ∷ []) f e in good_as_set small k (P v) x.0 x.2.1.0 (λ ws _. g ws)

    pub two_function : FitTwo (P̂ (t̂ ×̂ û) ∷ t̂ ∷ []) s a b r → not r ≡ false → ((vs : Values) → SetBelow s mid a vs → AllPairs vs → P (set vs) w) → P v w
    two_function f e g = let x = two_types (P̂ (t̂ ×̂ û) ∷ t̂ ∷ []) f e in good_as_pairs small h (λ y. P y w) x.0 x.1 x.2.0 g
