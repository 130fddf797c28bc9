-- How the answers of the functions below tell what a node gives.
use Rattle.operations.proofs.Base.{ℕ, ◌<◌, true, false, List, [], ◌∷◌, Option, ◌≡◌, refl, sym, subst, arith, dec_lt, le-leb, lt-leb}
use Rattle.operations.proofs.Terms.{Value, weight, test_rule, Test, fits, Given, gives, lacks, holds, Same, Made, NodeAnswer, Some, None, weighed, tested, ended, Gives}

-- A value is given, and has been made.
abbrev pub Makes : ℕ → List ℕ → List ℕ → Option ℕ → Given → Type 0
Makes top s s' end (gives v) = Made top s s' v end
Makes top s s' end (lacks k) = ⊥

module _ (top : ℕ) (s s' : List ℕ) (end : Option ℕ) where
  pub makes_frame : (g : Given) → Makes top s s' end g → Same top s s'
  makes_frame (gives v) m = m.frame
  makes_frame (lacks k) m = absurd m

  -- So the answer tells it, or that 18 is met.
  pub makes_gives : (mid : ℕ) (g : Given) {o : NodeAnswer} → Makes top s s' end g → o ≡ ended end → Gives s' mid top (weighed g) o
  makes_gives mid (lacks k) m z = absurd m
  makes_gives mid (gives v) m z = subst (λ (x : NodeAnswer). Gives s' mid top (weighed (gives v)) x) (sym z) (go (dec_lt 256 (weight v)))
    where
      go : Dec (256 < weight v) → Gives s' mid top (weighed (gives v)) (ended end)
      go (yes l) = rw (m.heavy l, lt-leb (weight v) 256 l)
      go (no l) =
          let e = m.light (omega arith) in
          rw e.0 (record { value = v; is = rw (le-leb (weight v) 256 (omega arith)); stands = e.1; ends = refl; light = omega arith })

-- 15, or the truth, by the test of the operands.
module _ (j : Test) (v w : Value) where
  pub test_unfit : fits (test_rule j).takes (v ∷ w ∷ []) ≡ false → tested j v w ≡ None
  unfolding tested
  test_unfit e = rw e

  pub test_fit : fits (test_rule j).takes (v ∷ w ∷ []) ≡ true → tested j v w ≡ Some (holds j v w)
  unfolding tested
  test_fit e = rw e
