-- What the tests of kinds 6 to 9 answer: for operands that pass the test's own test it is enough to look at sets, and two numbers are told by their
-- cells.
use Rattle.operations.proofs.Base.{ℕ, ◌+◌, ◌≤◌, Bool, true, false, not, ◌≢◌, List, [], ◌∷◌, ◌≡◌, refl, sym, ap, ◌∙◌, subst, arith, le-leb, lt-leb, not-true, not-false, T, leb, leb→le, le→leb, eqb, eqb→eq, eqb_refl, ℤ, pos, negsuc, length, get_or, bool_eq}
use lib.Signed.{le_z}
use Rattle.operations.proofs.Terms.{whole, Value, int, payload, same, Test, equal, member, subset, at_most, test, t̂, P̂, numᵖ, test_rule, fits, holds, excess, code, SomeSet, SomeValue, SameAt, FitTwo, Sizes, GoodAt, Some, None, Operands, tested, TestDone, NumberCell, NumbersTold, TestOf}
use Rattle.laws.proofs.OrderLaws.{same_eq, same_refl}
use Rattle.arena.proofs.CodeLaws.{all_agree}
use Rattle.sets.specs.Fronts.{Contains, Includes}
use Rattle.std.specs.Prelude.{Option}
use Rattle.operations.proofs.GoodLaws.{good_fits, good_value, good_whole}
use Rattle.operations.proofs.OutcomeLaws.{test_unfit, test_fit}
use Rattle.operations.proofs.FitLaws.{two_fits, two_sets, two_member, two_numbers}
use Rattle.laws.proofs.KindLaws.{code_of, code_of_law, same_kind}

module _ (j : Test) {s : List ℕ} {a b : ℕ} {r : Bool} (f : FitTwo (test_rule j).takes s a b r) where
  pub test_unlike : not r ≡ true → TestDone j s a b None
  test_unlike e gs mid top v w small h k = sym (test_unfit j v w (two_fits small h k _ f ∙ not-true r e))

  test_told : (t : Bool) → not r ≡ false →
      ((gs : List ℕ) (mid top : ℕ) (v w : Value) → Sizes gs → GoodAt gs s mid a v → GoodAt gs s top b w → t ≡ holds j v w) → TestDone j s a b (Some t)
  test_told t e g gs mid top v w small h k = ap Some (g gs mid top v w small h k) ∙ sym (test_fit j v w (two_fits small h k _ f ∙ not-false r e))

module _ {s : List ℕ} {a b : ℕ} {r : Bool} where
  -- 6
  pub equal_told : (q : Bool) → FitTwo (t̂ ∷ t̂ ∷ []) s a b r → not r ≡ false → SameAt s a b q → TestDone equal s a b (Some q)
  unfolding holds
  equal_told q f e c =
      test_told equal f q e (λ gs mid top v w small h k. c v w h.stands k.stands (good_fits small v h.good) (good_fits small w k.good))

  -- 7
  module _ (f : FitTwo (t̂ ∷ P̂ t̂ ∷ []) s a b r) (e : not r ≡ false) where
    pub member_ready : {top : ℕ} → Operands s a b top → SomeValue s (length s) a × SomeSet s (length s) b
    member_ready p = (
      (p.first, good_value p.small (good_whole p.small p.left)),
      two_member p.small p.left (good_whole p.small p.right) (λ _ _. SomeSet s (length s) b) f e (λ ws j. (ws, j)),
    )

    pub member_told : (q : Bool) → Contains s a b q → TestDone member s a b (Some q)
    unfolding holds
    member_told q c =
        test_told member f q e
        (λ gs mid top v w small h k. two_member small h (good_whole small k) (λ x y. q ≡ holds member x y) f e
        (λ ws j. c v ws (good_value small (good_whole small h)) j))

  -- 8
  module _ (f : FitTwo (P̂ t̂ ∷ P̂ t̂ ∷ []) s a b r) (e : not r ≡ false) where
    pub subset_ready : {top : ℕ} → Operands s a b top → SomeSet s (length s) a × SomeSet s (length s) b
    subset_ready p =
        two_sets p.small (good_whole p.small p.left) (good_whole p.small p.right)
        (λ _ _. SomeSet s (length s) a × SomeSet s (length s) b) t̂ f e (λ vs ws i j. ((vs, i), (ws, j)))

    pub subset_told : (q : Bool) → Includes s a b q → TestDone subset s a b (Some q)
    unfolding holds
    subset_told q c =
        test_told subset f q e
        (λ gs mid top v w small h k. two_sets small (good_whole small h) (good_whole small k) (λ x y. q ≡ holds subset x y) t̂ f e c)

-- The cells of numbers stand in the order of the numbers.
leb_as : (a b c d : ℕ) → (a ≤ b → c ≤ d) → (c ≤ d → a ≤ b) → leb a b ≡ leb c d
leb_as a b c d f g = bool_eq (leb a b) (leb c d) (λ t. le→leb c d (f (leb→le a b t))) (λ t. le→leb a b (g (leb→le c d t)))

cells_order : (m n : ℤ) (x y : ℕ) → NumberCell m x → NumberCell n y → leb x y ≡ le_z m n
unfolding excess
cells_order (pos m) (pos n) x y c d = leb_as x y m n (λ l. omega arith) (λ l. omega arith)
cells_order (pos m) (negsuc n) x y c d = lt-leb x y (omega arith)
cells_order (negsuc m) (pos n) x y c d = le-leb x y (omega arith)
cells_order (negsuc m) (negsuc n) x y c d = leb_as x y n m (λ l. omega (arith, c.fits.1, d.fits.1)) (λ l. omega (arith, c.fits.1, d.fits.1))

-- Two numbers are equal where their cells are.
cells_same : (m n : ℤ) (x y : ℕ) → NumberCell m x → NumberCell n y → eqb x y ≡ same (int m) (int n)
unfolding code
cells_same m n x y c d = bool_eq (eqb x y) (same (int m) (int n)) told back
  where
    told : T (eqb x y) → T (same (int m) (int n))
    told t =
        let v : int m ≡ int n =
        all_agree (int m) (int n) c.fits d.fits (λ j _ _. ap (λ (z : ℕ). get_or (z ∷ []) j 0) (sym c.is ∙ eqb→eq x y t ∙ d.is)) in
        subst (λ (z : Value). T (same (int m) z)) v (same_refl (int m))

    back : T (same (int m) (int n)) → T (eqb x y)
    back t =
        let v : int m ≡ int n = same_eq (int m) (int n) tt tt t in
        let e : x ≡ y = c.is ∙ ap (λ (z : Value). 4294967296 + excess (payload z)) v ∙ sym d.is in
        rw (← e) (eqb_refl x)

-- The tests of two numbers, by the code.
module _ {k x y : ℕ} where
  pub numbers_equal : k ≡ 6 → NumbersTold k x y (Some (eqb x y))
  unfolding tested fits holds
  numbers_equal e j f m n c d = let i : equal ≡ j = cc (same_kind k (test equal) (test j) e f) in rw (← i) (ap Some (cells_same m n x y c d))

  pub numbers_at_most : k ≡ 9 → NumbersTold k x y (Some (leb x y))
  unfolding tested fits holds
  numbers_at_most e j f m n c d =
      let i : at_most whole ≡ j = cc (same_kind k (test (at_most whole)) (test j) e f) in rw (← i) (ap Some (cells_order m n x y c d))

  pub numbers_unlike : k ≢ 6 → k ≢ 9 → NumbersTold k x y None
  unfolding tested fits
  numbers_unlike n6 n9 equal f m n c d = absurd (n6 (code_of_law k (test equal) f))
  numbers_unlike n6 n9 member f m n c d = refl
  numbers_unlike n6 n9 subset f m n c d = refl
  numbers_unlike n6 n9 (at_most whole) f m n c d = absurd (n9 (code_of_law k (test (at_most whole)) f))

-- By kind codes: two numbers, or the code is i's, or that of none but the last, which takes numbers only.
module _ {s : List ℕ} {a b : ℕ} {o : Option Bool} where
  pub test_numbers : (k : ℕ) {r : Bool} → FitTwo (numᵖ whole ∷ numᵖ whole ∷ []) s a b r → not r ≡ false → NumbersTold k (get_or s a 0) (get_or s b 0) o →
      TestOf k s a b o
  test_numbers k f e m j q gs mid top v w small h l = two_numbers small h l (λ x y. o ≡ tested j x y) f e (m j q)

  pub test_of : {k : ℕ} (i : Test) → k ≡ code_of (test i) → TestDone i s a b o → TestOf k s a b o
  test_of {k} i e d j f = subst (λ (h : Test). TestDone h s a b o) (cc (same_kind k (test i) (test j) e f)) d

  pub test_last : {k : ℕ} → k ≢ 6 → k ≢ 7 → k ≢ 8 → TestDone (at_most whole) s a b o → TestOf k s a b o
  test_last {k} n6 n7 n8 d equal e = absurd (n6 (code_of_law k (test equal) e))
  test_last {k} n6 n7 n8 d member e = absurd (n7 (code_of_law k (test member) e))
  test_last {k} n6 n7 n8 d subset e = absurd (n8 (code_of_law k (test subset) e))
  test_last {k} n6 n7 n8 d (at_most whole) e = d
