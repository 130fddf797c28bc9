-- `parts`: the pass over the pairs of a set. What has been built is `rising` of the parts so far (`Taking`); each turn puts the part of one pair more.
use Rattle.products.proofs.Base.{None, Some, ℕ, suc, ◌+◌, ◌%◌, ◌≤◌, ◌<◌, Bool, true, false, List, [], ◌∷◌, map, ◌≡◌, refl, ap, ◌∙◌, arith, get_or, set_at}
use Rattle.parts.proofs.Terms.{Value, scalar, pair, set, Values, none, ◌▸◌, members, values, weight, weights, set_of, rising, codes, Same, SomeAt, EndsAt, ValueBelow, Made, Front, AllPairs, Appended, part, chosen, PartsPre, BuiltParts, InsertPre, Inserts, Out}
use Rattle.laws.proofs.OrderLaws.{Small}
use Rattle.laws.proofs.SetOrder.{all_map}
use Rattle.laws.proofs.Membership.{left_small, right_small}
use Rattle.laws.proofs.CellsLaws.{count_weights}
use Rattle.arena.proofs.CodeLaws.{length_codes}
use Rattle.arena.proofs.Standing.{same_refl, same_trans}
use Rattle.arena.proofs.ValueParts.{left_stands, right_stands}
use Rattle.arena.proofs.FrontLaws.{fit_small, front_start, front_next, front_below, value_frame, value_some, value_end}
use Rattle.products.proofs.GrowLaws.{nothing_stands, made_set}
use Rattle.parts.proofs.PartLaws.{insert_weighs, onto, rising_onto}

-- The parts of a pair that stands below `top`, and where the pair ends.
module _ {s : List ℕ} {top i : ℕ} {x y : Value} (h : ValueBelow s top i (pair x y)) where
  first_below : ValueBelow s (top + 1) (i + 1) x
  first_below =
      record { stands = left_stands s i x y h.stands; below = omega (arith, h.below); fits = h.fits.0; light = omega (arith, h.light) }

  second_below : (m : ℕ) → EndsAt s (i + 1) m → ValueBelow s (top + 1) m y
  second_below m e =
      let z = value_end s (top + 1) (i + 1) m x first_below e in
      record { stands = rw z (right_stands s i x y h.stands); below = omega (arith, h.below); fits = h.fits.1; light = omega (arith, h.light) }

  pair_ends : (m e : ℕ) → EndsAt s (i + 1) m → EndsAt s m e → e ≡ i + weight (pair x y)
  pair_ends m e f g = omega (arith, value_end s (top + 1) (i + 1) m x first_below f, value_end s (top + 1) m e y (second_below m f) g)

  part_below : (b : Bool) (m e : ℕ) → EndsAt s (i + 1) m → EndsAt s m e → ValueBelow s (top + 1) (chosen b (i + 1) m) (part b (pair x y)) ×
      EndsAt s (chosen b (i + 1) m) (chosen b m e) × (weight (part b (pair x y)) ≤ weight (pair x y))
  part_below false m e f g = (first_below, f, omega arith)
  part_below true m e f g = (second_below m f, g, omega arith)

-- The parts of the members before `rest` have been put; `done` has them, the last one first.
pub record Taking (b : Bool) {s₀ : List ℕ} {a top : ℕ} (g : PartsPre s₀ a top) (s : List ℕ) (left i : ℕ) (o : Out) (rest : Values) : Type 0 where
  pub front : Front s₀ top i left rest
  pub pairs : AllPairs rest
  pub done : List Value
  pub all : onto (map (part b) (members rest)) done ≡ onto (map (part b) (members g.pairs)) []
  pub light : weights (values (rising done)) + weights rest ≤ 255
  pub frame : Same (top + 1) s₀ s
  pub built : BuiltParts s (top + 1) o (rising done)

module _ {b : Bool} {s₀ : List ℕ} {a top : ℕ} (g : PartsPre s₀ a top) where
  pub taking_start : (n : ℕ) → n ≡ get_or s₀ a 0 % 4294967296 → Taking b g s₀ n (a + 1) (record { last = None; to = top + 1; count = 0 }) g.pairs
  unfolding rising codes
  taking_start n low = record {
    front = front_start s₀ top a g.pairs g.whole n low;
    pairs = g.all;
    done = [];
    all = refl;
    light = omega (arith, g.whole.fine.light);
    frame = same_refl (top + 1) s₀;
    built = record {
      members = record { stands = nothing_stands s₀ (top + 1) (omega (arith, g.room)); fits = tt; ends = omega arith };
      last = refl;
      counted = refl;
    };
  }

  module _ {s : List ℕ} {left i : ℕ} {o : Out} where
    -- where they end, and how many they are
    pub taking_near : (rest : Values) × Taking b g s left i o rest → (o.to ≤ top + 256) × (o.count ≤ 255)
    taking_near (rest, h) =
        (omega (arith, h.light, h.built.members.ends), omega (arith, h.light, h.built.counted, count_weights (values (rising h.done))))

    pub taking_end : (rest : Values) × Taking b g s left i o rest → left ≤ 0 →
        Made top s₀ (set_at s top (21474836480 + o.count)) (set_of (rising (map (part b) (members g.pairs)))) (Some o.to)
    unfolding onto
    taking_end (none, h) l =
        let small = fit_small g.pairs g.whole.fine.fits.1 in
        let parts = all_map Small Small (part b)
        (λ v k. elim b as (λ c. Small (part c v)) [ false ↦ left_small v k | true ↦ right_small v k ]) (members g.pairs) small in
        let e : rising h.done ≡ rising (map (part b) (members g.pairs)) = ap rising h.all ∙ rising_onto (map (part b) (members g.pairs)) parts in
        let m = h.built.members in
        let c : Appended s₀ (top + 1) s o.to (codes (values (rising h.done))) =
        record { frame = h.frame; stands = m.stands; ends = omega (arith, m.ends, length_codes (values (rising h.done))) } in
        rw (← e) (made_set _ _ _ _ _ _ c h.built.counted (omega (arith, g.room)) (omega (arith, h.light)))
    taking_end (w ▸ ws, h) l = absurd (omega (arith, h.front.counted))

    module _ (h : (rest : Values) × Taking b g s left i o rest) (more : 0 < left) where
      -- What is shown of a first pair and the rest is shown.
      by_pair : (P : Type 0) → ((x y : Value) (ws : Values) → Taking b g s left i o (pair x y ▸ ws) → ValueBelow s top i (pair x y) → P) → P
      by_pair P k = go h
        where
          go : (rest : Values) × Taking b g s left i o rest → P
          go (none, q) = absurd (omega (arith, q.front.counted))
          go (scalar x ▸ ws, q) = absurd q.pairs.0
          go (pair x y ▸ ws, q) =
              k x y ws q (value_frame (top + 1) s₀ s top i (pair x y) q.frame (omega arith) (front_below s₀ top i left (pair x y) ws q.front))
          go (set x ▸ ws, q) = absurd q.pairs.0

      pub taking_first : SomeAt s (i + 1)
      taking_first = by_pair (SomeAt s (i + 1)) λ x y ws q v. value_some s (top + 1) (i + 1) x (first_below v)

      pub taking_inside : i + 1 ≤ top
      taking_inside = by_pair (i + 1 ≤ top) λ x y ws q v. omega (arith, v.below)

      module _ (m : ℕ) (ends : EndsAt s (i + 1) m) where
        pub taking_second : SomeAt s m
        taking_second = by_pair (SomeAt s m) λ x y ws q v. value_some s (top + 1) m y (second_below v m ends)

        module _ (e : ℕ) (ends' : EndsAt s m e) {from end : ℕ} (begins : from ≡ chosen b (i + 1) m) (stops : end ≡ chosen b m e) where
          -- what is asked to put the part of the first pair
          insert_pre : {x y : Value} {ws : Values} → Taking b g s left i o (pair x y ▸ ws) → ValueBelow s top i (pair x y) → InsertPre s from end (top + 1) o
          insert_pre {x} {y} {ws} q v =
              let z = part_below v b m e ends ends' in
              let k = taking_near (pair x y ▸ ws, q) in
              record {
                value = part b (pair x y);
                below = rw begins z.0;
                ends = rw (begins, stops) z.1;
                others = q.done;
                built = q.built;
                room = omega (arith, z.0.light, g.room, q.frame.kept);
                few = omega arith;
              }

          pub taking_insert : InsertPre s from end (top + 1) o
          taking_insert = by_pair (InsertPre s from end (top + 1) o) λ x y ws q v. insert_pre q v

          pub taking_next : {others : ℕ} → suc others ≡ left → (s' : List ℕ) (r : Out) → Inserts s from end (top + 1) o s' r →
              (ws : Values) × Taking b g s' others e r ws
          unfolding insert_pre rising onto
          taking_next {others} p s' r put = by_pair ((ws : Values) × Taking b g s' others e r ws) λ x y ws q v.
              let d = put (insert_pre q v) in
              let next : Taking b g s' others e r ws = record {
                front = front_next s₀ top i left (pair x y) ws q.front e others (pair_ends v m e ends ends') p;
                pairs = q.pairs.1;
                done = part b (pair x y) ∷ q.done;
                all = q.all;
                light = omega (arith, q.light, insert_weighs (part b (pair x y)) (rising q.done), (part_below v b m e ends ends').2);
                frame = same_trans (top + 1) (top + 1) s₀ s s' q.frame d.0 (omega arith);
                built = d.1;
              } in
              (ws, next)
