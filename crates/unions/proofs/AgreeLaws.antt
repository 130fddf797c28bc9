-- Values and refusals agree with those of a node: the union of two good values, by the merge, is what kind 29 gives, with 15 and 18 (`union_agrees`).
use Prim.Native.Nat.{ℕ}
use mathlib.Core.Bool.{Bool, true, false, cond}
use mathlib.Core.List.{List, [], ◌∷◌}
use mathlib.Core.Path.{◌≡◌, refl, sym, ap, ◌∙◌}
use lib.Dec.{T, leb}
use Rattle.rules.specs.Types.{Atom, Ty, atom, POW}
use Rattle.rules.proofs.Basics.{absurd01}
use Rattle.rules.specs.Values.{Value, scalar, pair, set, members, weight}
use Rattle.rules.specs.Kinds.{union}
use Rattle.rules.specs.Rules.{two_rule}
use Rattle.rules.specs.Fits.{HasType, fits}
use Rattle.rules.specs.Cells.{weight_limit, good}
use Rattle.rules.specs.Runs.{Given, gives, lacks}
use Rattle.rules.specs.Operations.{set_of}
use Rattle.rules.specs.Merges.{united, comparisons, Union, unites, heavy, unfit, weighed_union, union_of}
use Rattle.merging.proofs.MergedLaws.{union_merged}
use Rattle.operations.specs.Good.{Sizes}
use Rattle.operations.specs.Outcomes.{weighed, two_given}
use Rattle.operations.proofs.GoodLaws.{good_set}
use Rattle.operations.proofs.FitLaws.{fit_types}

-- What a node would give.
abbrev pub given_by : Union → Given
given_by (unites n v) = gives v
given_by (heavy n) = lacks 18
given_by unfit = lacks 15

weighed_agrees : (n : ℕ) (v : Value) → given_by (weighed_union n v) ≡ weighed (gives v)
weighed_agrees n v = go (leb (weight v) weight_limit)
  where
    go : (b : Bool) → given_by (cond b (unites n v) (heavy n)) ≡ cond b (gives v) (lacks 18)
    go true = refl
    go false = refl

not_pow : {t : Ty} {a : Atom} → POW t ≡ atom a → ⊥
not_pow e = absurd01 (cc e)

module _ {gs : List ℕ} (small : Sizes gs) where
  -- Two values of a type POW(t) are sets.
  sets_agree : (t : Ty) (v w : Value) → HasType v (POW t) → HasType w (POW t) → T (good gs v) → T (good gs w) →
      fits (two_rule union).takes (v ∷ w ∷ []) ≡ true → given_by (union_of v w) ≡ two_given union v w
  unfolding union_of two_given
  sets_agree t (scalar x) w h k g g' e = absurd (not_pow h)
  sets_agree t (pair x y) w h k g g' e = absurd h
  sets_agree t (set vs) (scalar x) h k g g' e = absurd (not_pow k)
  sets_agree t (set vs) (pair x y) h k g g' e = absurd k
  sets_agree t (set vs) (set ws) h k g g' e =
      rw e
      (weighed_agrees (comparisons (members vs) (members ws)) (set_of (united (members vs) (members ws)))
      ∙ ap weighed (sym (union_merged vs ws (good_set small vs g) (good_set small ws g'))))

  pub union_agrees : (v w : Value) → T (good gs v) → T (good gs w) → given_by (union_of v w) ≡ two_given union v w
  unfolding union_of two_given
  union_agrees v w g h = go (fits (two_rule union).takes (v ∷ w ∷ [])) refl
    where
      go : (b : Bool) → fits (two_rule union).takes (v ∷ w ∷ []) ≡ b → given_by (union_of v w) ≡ two_given union v w
      go false e = rw e
      go true e = let (t, _, k) = fit_types (two_rule union).takes (v ∷ w ∷ []) e in sets_agree t v w k.0 k.1.0 g h e
