-- Good values, by what the functions test: good scalars, ordered sets, the weight, and a type.
use Prim.Native.Nat.{ℕ, ◌≤◌}
use mathlib.Core.Bool.{◌&&◌}
use mathlib.Core.List.{List}
use mathlib.Core.Logic.{◌↔◌}
use lib.Dec.{T}
use Rattle.rules.specs.Values.{Value, scalar, pair, set, Values, none, ◌▸◌, weight}
use Rattle.rules.specs.Fits.{typed}
use Rattle.rules.specs.Cells.{good, well_formed, rising_all, weight_limit}
use Rattle.laws.proofs.EndLaws.{T_and, t_leb}
use Rattle.laws.proofs.CellsLaws.{good_well_formed}
use Rattle.canonical.specs.Ordered.{ordered, ordered_all, in_order}
use Rattle.buffer.specs.Buffer.{scalars_good, all_good}

-- A value is well formed where its scalars are good and its sets ordered.
mutual
  well_right : (gs : List ℕ) (v : Value) → T (well_formed gs v) ↔ (T (scalars_good gs v) × T (ordered v))
  well_right gs (scalar s) = (λ h. (h, tt), λ h. h.0)
  well_right gs (pair v w) =
      simp (T_and, well_right gs v, well_right gs w)
      (λ h. ((h.0.0, h.1.0), (h.0.1, h.1.1)), λ h. ((h.0.0, h.1.0), (h.0.1, h.1.1)))
  well_right gs (set s) = simp T_and (rising_right gs s)

  rising_right : (gs : List ℕ) (vs : Values) → T (rising_all gs vs) ↔ (T (all_good gs vs) × (T (in_order vs) × T (ordered_all vs)))
  rising_right gs none = (λ h. (tt, (tt, tt)), λ h. tt)
  rising_right gs (v ▸ vs) =
      simp (T_and, well_right gs v, rising_right gs vs) (
        λ h. ((h.0.0.0, h.1.0), ((h.0.1, h.1.1.0), (h.0.0.1, h.1.1.1))),
        λ h. (((h.0.0, h.1.1.0), h.1.0.0), (h.0.1, (h.1.0.1, h.1.1.1))),
      )

module _ (gs : List ℕ) (v : Value) where
  pub good_scalars : T (good gs v) → T (scalars_good gs v)
  good_scalars g = ((well_right gs v).0 (good_well_formed gs v g)).0

  pub good_ordered : T (good gs v) → T (ordered v)
  good_ordered g = ((well_right gs v).0 (good_well_formed gs v g)).1

  pub good_of : T (scalars_good gs v) → T (ordered v && typed v) → weight v ≤ weight_limit → T (good gs v)
  unfolding good
  good_of h k w = let x = (T_and (ordered v) (typed v)).0 k in simp (T_and, t_leb) (((well_right gs v).1 (h, x.0), w), x.1)
