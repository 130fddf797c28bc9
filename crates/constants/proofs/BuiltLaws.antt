-- The nodes that build: by the kind's code, and by what stands at each node.
use Prim.Native.Nat.{ℕ, ◌≤◌, ◌<◌}
use mathlib.Core.Bool.{Bool, true, false, ◌&&◌, ◌||◌, beq, true≢false, false≢true}
use mathlib.Core.List.{List}
use mathlib.Core.Logic.{◌≢◌}
use mathlib.Core.Option.{none as nothing}
use mathlib.Core.Path.{◌≡◌, refl, sym, subst, ◌∙◌}
use native.Mathlib.Omega.{arith}
use native.Mathlib.Decide.{dec_lt, ℕ_discrete}
use lib.Dec.{T, eqb, leb}
use lib.ListN.{length, get_or, get_or-eq_default}
use borrow.Author.Tests.{le-leb, lt-leb, ne_eqb}
use denote.Param.Members.{Mut}
use Rattle.std.specs.Bool.{MatchBool}
use Rattle.std.specs.Fn.{Called}
use Rattle.std.specs.Iterator.{ChecksAny}
use Rattle.std.specs.List.{AllWithin, HoldsAt, range_with_len}
use Rattle.std.specs.declared.ops.Range.{Range}
use Rattle.std.proofs.iter.Yields.{nat_range_steps}
use Rattle.std.proofs.lemmas.Iterator.{YieldsList-from_range, cases_from_any}
use Rattle.std.proofs.lemmas.List.FromFn.{length-range_with_len, get_or-range_with_len}
use Rattle.rules.specs.Kinds.{kinds, kind_of}
use Rattle.rules.specs.Tables.{table_of, kind_at, node_count}
use Rattle.laws.proofs.EndLaws.{t_all_below}
use Rattle.constants.specs.Built.{built, DecidesBuilds}

-- The codes of the kinds whose nodes do.
abbrev built_code : ℕ → Bool
built_code k = leb k 43 && ((leb 27 k || eqb k 25) || eqb k 21)

agree : (a b : Bool) → T (beq a b) → a ≡ b
agree true true t = refl
agree true false t = absurd t
agree false true t = absurd t
agree false false t = refl

-- Compared for each code of a kind.
coded : ℕ → Bool
unfolding kind_of
coded k = beq (built_code k) (built (kind_of k))

pub built_code_law : (k : ℕ) → built_code k ≡ built (kind_of k)
unfolding coded kind_of
built_code_law k = go (dec_lt k 44)
  where
    go : Dec (k < 44) → built_code k ≡ built (kind_of k)
    go (yes h) = agree (built_code k) (built (kind_of k)) ((t_all_below coded 44).0 tt k h)
    go (no h) = rw (get_or-eq_default kinds nothing {n = k} (omega arith), lt-leb k 43 (omega arith))

-- So by the codes that the code names.
module _ (k : ℕ) where
  pub built_alone : (k ≢ 21 → k ≡ 25) → true ≡ built (kind_of k)
  built_alone f = go (ℕ_discrete k 21)
    where
      go : Dec (k ≡ 21) → true ≡ built (kind_of k)
      go (yes e) = rw e refl ∙ built_code_law k
      go (no n) = rw (f n) refl ∙ built_code_law k

  pub built_range : 27 ≤ k → k ≤ 43 → true ≡ built (kind_of k)
  built_range l h = let t : true ≡ built_code k = rw (le-leb 27 k l, le-leb k 43 h) refl in t ∙ built_code_law k

  pub not_built : k ≢ 21 → k ≢ 25 → (27 ≤ k → 43 < k) → false ≡ built (kind_of k)
  not_built m n f = go (dec_lt k 27)
    where
      go : Dec (k < 27) → false ≡ built (kind_of k)
      go (yes l) = let t : false ≡ built_code k = rw (le-leb k 43 (omega arith), lt-leb 27 k l, ne_eqb k 25 n, ne_eqb k 21 m) refl in t ∙ built_code_law k
      go (no l) = let t : false ≡ built_code k = rw (lt-leb k 43 (f (omega arith))) refl in t ∙ built_code_law k

-- `any` over the numbers below m: whether the test ok holds of one of them, if the closure answers as the test does and leaves its captures
-- as they are.
module _ {F : Type 0} {g : Mut F (ℕ × Unit {0}) Bool} (ok : ℕ → Bool) (m : ℕ) (f : F) (r : Bool) (u : Range ℕ) where
  pub any_below : ChecksAny nat_range_steps g (record { start = 0; end = m }) f r u →
      ((x : ℕ) (q : F) → Called g f (x, tt) true q → ok x ≡ true) → ((x : ℕ) (q : F) → Called g f (x, tt) false q → (q ≡ f) × (ok x ≡ false)) →
      MatchBool r ((k : ℕ) × (k < m) × (ok k ≡ true)) ((k : ℕ) → k < m → ok k ≡ false)
  any_below ran passes fails =
      by r (cases_from_any u f r (λ x. ok x ≡ true) (λ x. ok x ≡ false) ran (YieldsList-from_range 0 m m refl (omega arith)) passes fails)
    where
      long : length (range_with_len 0 m) ≡ m
      long = length-range_with_len 0 m

      at : (k : ℕ) → k < m → get_or (range_with_len 0 m) k 0 ≡ k
      at k l = omega (arith, get_or-range_with_len 0 m k 0 l)

      by : (b : Bool) →
          MatchBool b ((k : ℕ) × (k < length (range_with_len 0 m)) × HoldsAt (λ x. ok x ≡ true) (range_with_len 0 m) k)
          (AllWithin (λ x. ok x ≡ false) (range_with_len 0 m) 0 (length (range_with_len 0 m))) →
          MatchBool b ((k : ℕ) × (k < m) × (ok k ≡ true)) ((k : ℕ) → k < m → ok k ≡ false)
      by true h = let i : h.0 < m = omega (arith, long, h.1) in (h.0, i, subst (λ x. ok x ≡ true) (at h.0 i) (h.2 0))
      by false h = λ k l. subst (λ x. ok x ≡ false) (at k l) (h k 0 (omega arith) (omega (arith, long)))

pub decides : (bs : List ℕ) {m : ℕ} (r : Bool) → m ≡ node_count bs →
    MatchBool r ((k : ℕ) × (k < m) × (built (kind_at (table_of bs).nodes k) ≡ true)) ((k : ℕ) → k < m → built (kind_at (table_of bs).nodes k) ≡ false) →
    DecidesBuilds bs r
decides bs true e h = record {
  some = λ t. record { node = h.0; below = omega (arith, h.1); is = h.2 };
  none = λ t. absurd (true≢false t);
}
decides bs false e h = record {
  some = λ t. absurd (false≢true t);
  none = λ t b. true≢false (sym b.is ∙ h b.node (omega (arith, b.below)));
}
