-- The union of two good values in the arena. Those that do not fit the rule of unions are unfit (`unite_unfit`); what the merge has made of the others is
-- their union, or that it is too heavy (`unite_made`, `unite_heavy`). It is what kind 29 gives (`union_agrees`).
use Prim.Native.Nat.{ℕ, ◌+◌, ◌≤◌, ◌<◌}
use mathlib.Core.Bool.{Bool, true, false, not}
use mathlib.Core.List.{List, [], ◌∷◌}
use mathlib.Core.Path.{◌≡◌, refl, ◌∙◌, subst}
use native.Mathlib.Decide.{dec_lt}
use native.Mathlib.Omega.{arith}
use Rattle.std.specs.Prelude.{None, Option, Some, Ok, Err}
use borrow.Author.Tests.{le-leb, lt-leb, not-true, not-false}
use Rattle.rules.specs.Values.{Value, Values, members, values, weight}
use Rattle.rules.specs.Rules.{Pattern, t̂, P̂}
use Rattle.rules.specs.Fits.{fits}
use Rattle.rules.specs.Ends.{done}
use Rattle.rules.specs.Operations.{set_of}
use Rattle.rules.specs.Merges.{united, comparisons, Union, weighed_union, union_of}
use Rattle.laws.proofs.CellsLaws.{count_weights}
use Rattle.arena.specs.Code.{CellsFit, Made, SetBelow, ValueAt}
use Rattle.arena.proofs.MadeLaws.{made_ends}
use Rattle.fitting.specs.Tests.{FitTwo}
use Rattle.merging.specs.Walks.{Merges}
use Rattle.merging.specs.declared.Pass.{Pass}
use Rattle.merging.proofs.MergedLaws.{merged_fits}
use Rattle.operations.specs.Good.{Sizes, GoodAt}
use Rattle.operations.specs.Outcomes.{TwoReady}
use Rattle.operations.proofs.FitLaws.{two_fits, two_sets}
use Rattle.writing.specs.Written.{WriteReady, Writes}
use Rattle.unions.specs.Answers.{Tells, Unites}
use Rattle.unions.specs.declared.MergeError.TheVariants.{Unfit, Heavy}

abbrev union_takes : List Pattern
union_takes = P̂ t̂ ∷ P̂ t̂ ∷ []

-- The members of both, merged.
abbrev whole : Values → Values → Value
whole vs ws = set_of (united (members vs) (members ws))

whole_fits : {s : List ℕ} {a b top : ℕ} {vs ws : Values} → SetBelow s top a vs → SetBelow s top b ws → weight (whole vs ws) ≤ 256 → CellsFit (whole vs ws)
whole_fits {vs = vs} {ws = ws} i j l =
    (omega (arith, count_weights (values (united (members vs) (members ws)))), merged_fits true true true vs ws i.fine.fits.1 j.fine.fits.1)

module _ {s : List ℕ} {a b top : ℕ} {t : Bool} (f : FitTwo union_takes s a b t) where
  pub unite_unfit : {out : List ℕ} → not t ≡ true → Unites s a b top out out (Err Unfit)
  unfolding union_of
  unite_unfit e gs v w small h k = rw (two_fits small h k union_takes f ∙ not-true t e) (record { answer = refl; buffer = refl })

  module _ (e : not t ≡ false) {s' : List ℕ} {q : Pass} (m : Merges true true true s a b top s' q) where
    -- Values that fit are sets, and their union is that of their members.
    as_union : (P : Union → Type 0) →
        ((vs ws : Values) → SetBelow s top a vs → SetBelow s top b ws → P (weighed_union (comparisons (members vs) (members ws)) (whole vs ws))) →
        (gs : List ℕ) (v w : Value) → Sizes gs → GoodAt gs s top a v → GoodAt gs s top b w → P (union_of v w)
    unfolding union_of
    as_union P g gs v w small h k =
        two_sets small h k (λ x y. fits union_takes (x ∷ y ∷ []) ≡ true → P (union_of x y)) t̂ f e (λ vs ws i j z. rw z (g vs ws i j))
        (two_fits small h k union_takes f ∙ not-false t e)

    -- The end tells whether the union is light.
    light : {vs ws : Values} {end : ℕ} → SetBelow s top a vs → SetBelow s top b ws → q.end ≡ Some end →
        (weight (whole vs ws) ≤ 256) × (end ≡ top + weight (whole vs ws)) × ValueAt s' top (whole vs ws)
    light {vs} {ws} i j z = made_ends (subst (λ (x : Option ℕ). Made top s s' (whole vs ws) x) z (m vs ws i j).made)

    over : {vs ws : Values} → SetBelow s top a vs → SetBelow s top b ws → q.end ≡ None → 256 < weight (whole vs ws)
    over {vs} {ws} i j z = go (dec_lt 256 (weight (whole vs ws)))
      where
        go : Dec (256 < weight (whole vs ws)) → 256 < weight (whole vs ws)
        go (yes l) = l
        go (no l) =
            let x : q.end ≡ Some (top + weight (whole vs ws)) = ((m vs ws i j).made.light (omega arith)).0 in
            absurd (cc)

    pub unite_heavy : {out : List ℕ} → q.end ≡ None → Unites s a b top out out (Err (Heavy q.comparisons))
    unite_heavy {out} z =
        as_union (λ u. Tells (done u) out out (Err (Heavy q.comparisons))) λ vs ws i j.
        rw (lt-leb (weight (whole vs ws)) 256 (over i j z), (m vs ws i j).compared) (record { answer = refl; buffer = refl })

    module _ {end : ℕ} (n : q.end ≡ Some end) where
      pub unite_ready : TwoReady s a b top → WriteReady s' top end
      unite_ready p =
          let o = p.operands in
          two_sets o.small o.left o.right (λ _ _. WriteReady s' top end) t̂ f e λ vs ws i j.
          let d = light i j n in
          record { value = whole vs ws; stands = d.2; fits = whole_fits i j d.0; light = d.0; ends = d.1 }

      pub unite_made : {out out' : List ℕ} {bytes : ℕ} → Writes s' top end out out' bytes
          → Unites s a b top out out' (Ok (record { comparisons = q.comparisons; bytes = bytes }))
      unite_made {out} {out'} {bytes} c =
          as_union (λ u. Tells (done u) out out' (Ok (record { comparisons = q.comparisons; bytes = bytes }))) λ vs ws i j.
          let d = light i j n in
          let x = c (whole vs ws) d.2 (whole_fits i j d.0) d.1 in
          rw (le-leb (weight (whole vs ws)) 256 d.0, (m vs ws i j).compared, x.0, x.1) (record { answer = refl; buffer = refl })
