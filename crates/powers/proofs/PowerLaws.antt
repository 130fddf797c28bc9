-- The power set in the arena: subsets by masks, one behind the other.
use Rattle.products.proofs.Base.{ℕ, ◌+◌, ◌*◌, ◌/◌, ◌≤◌, ◌<◌, List, [], ◌∷◌, ◌++◌, map, Some, None, ◌≡◌, refl, sym, ap, ◌∙◌, subst, arith, dec_lt, add-one, ltb, lt-ltb, le-ltb, length, get_or, take, drop, drop_of_length-le, set_at, drop-cons}
use Rattle.powers.proofs.Terms.{Value, Values, none, ◌▸◌, members, values, count, weights, set_of, rising, subsets, kept_value, code, codes, SetBelow, Made, Appended, Grown, SizeIs, Size, masks, CountsSubsets, subset_counts, subset_for, picked, MarkPre, Marks, SubsetPre, Subsets, AllPre, AllSubsets}
use Rattle.std.proofs.lemmas.List.{length-take-le}
use Rattle.laws.proofs.SetOrder.{all_at}
use Rattle.laws.proofs.CellsLaws.{count_weights}
use Rattle.laws.proofs.Membership.{values_members}
use Rattle.arena.proofs.CodeLaws.{length_codes}
use Rattle.arena.proofs.FrontLaws.{single, rises_rising, fit_small}
use Rattle.products.proofs.GrowLaws.{appended_none, grown_step, grown_end, grown_left, made_set, made_heavy}
use Rattle.powers.proofs.SubsetLaws.{stand_frame, stand_take, kept_codes}
use Rattle.powers.proofs.PowerOrder.{powers, power_rising, power_few, power_heavy}

-- `subset_count`
pub count_small : {n p : ℕ} → CountsSubsets n p → p ≤ 64
count_small {n} {p} h = elim (dec_lt 5 n) [
  | yes l ↦ omega (arith, h.many l)
  | no l ↦ omega (arith, h.few (omega arith), all_at (λ k. k ≤ 64) subset_counts 0 (omega arith) (omega arith) n)
]

-- `all_subsets`: the subsets for the masks from j on
abbrev pub all_from : ℕ → ℕ → Values → List ℕ
all_from p j vs = codes (values (picked p (drop j masks) (members vs)))

picked_next : (p j mask : ℕ) (vs : Values) → j < 32 → mask ≡ get_or masks j 0 →
    all_from p j vs ≡ codes (values (kept_value (ltb mask p) (set_of (subset_for mask (members vs))) [])) ++ all_from p (j + 1) vs
unfolding picked
picked_next p j mask vs l e =
    let d : drop j masks ≡ mask ∷ drop (j + 1) masks = drop-cons masks j 0 l ∙ (cc (add-one j)) in
    ap (λ (ms : List ℕ). codes (values (picked p ms (members vs)))) d
    ∙ kept_codes (ltb mask p) (set_of (subset_for mask (members vs))) (picked p (drop (j + 1) masks) (members vs))

module _ {s₀ at : List ℕ} {p to : ℕ} (g : AllPre s₀ at p to) {s : List ℕ} (j : ℕ) {end : ℕ}
    (h : Grown s₀ to s end (all_from p 0 g.whole) (all_from p j g.whole)) where
  pub all_pre : SubsetPre s at end
  all_pre =
      let m = g.marked in
      record {
        whole = g.whole;
        marked = record {
          top = m.top;
          each = stand_frame to s₀ s at m.top 0 g.whole h.appended.frame m.behind m.each;
          counted = m.counted;
          light = m.light;
          behind = omega (arith, m.behind, h.appended.ends);
        };
        few = g.few;
        room = omega (arith, grown_left h, length_codes (values (picked p masks (members g.whole))), g.light, g.room, h.appended.frame.kept);
      }

  -- the subset for the next mask is put behind the others, if the mask is below p
  pub all_next : (mask : ℕ) (s' : List ℕ) (r : ℕ) → j < 32 → mask ≡ get_or masks j 0 →
      Appended s end s' r (codes (values (kept_value (ltb mask p) (set_of (subset_for mask (members g.whole))) []))) →
      Grown s₀ to s' r (all_from p 0 g.whole) (all_from p (j + 1) g.whole)
  all_next mask s' r l e put =
      grown_step (all_from p (j + 1) g.whole)
      (subst (λ (c : List ℕ). Grown s₀ to s end (all_from p 0 g.whole) c) (picked_next p j mask g.whole l e) h) put

  pub all_put : {mask : ℕ} {s' : List ℕ} {r : ℕ} → mask < p → Subsets s at mask end s' r →
      Appended s end s' r (codes (values (kept_value (ltb mask p) (set_of (subset_for mask (members g.whole))) [])))
  unfolding all_pre
  all_put {mask} l put = rw (lt-ltb mask p l, single (set_of (subset_for mask (members g.whole)))) (put all_pre)

  pub all_passed : {mask : ℕ} → p ≤ mask → Appended s end s end (codes (values (kept_value (ltb mask p) (set_of (subset_for mask (members g.whole))) [])))
  unfolding code
  all_passed {mask} l = rw (le-ltb mask p l) (appended_none s end (omega (arith, h.appended.ends, h.appended.stands.inside)))

  pub all_end : 32 ≤ j → Appended s₀ to s end (codes (values (picked p masks (members g.whole))))
  unfolding picked code
  all_end l = grown_end (rw (drop_of_length-le masks l) at h)

-- `power`
pub members_count : (vs : Values) → length (members vs) ≡ count vs
members_count none = refl
members_count (v ▸ vs) = omega (arith, members_count vs)

-- The size of a set is known, and how many subsets it has.
module _ {s : List ℕ} {a top : ℕ} {x : Size} {p : ℕ} (size : SizeIs s a x) (is : CountsSubsets x.members p) {vs : Values} (h : SetBelow s top a vs) where
  abbrev subsets_of : List Value
  subsets_of = rising (map set_of (subsets (members vs)))

  power_members : length (members vs) ≡ x.members
  power_members = members_count vs ∙ sym (size.front top vs h).counted

  power_is : subsets_of ≡ powers (members vs)
  power_is = let f = size.front top vs h in power_rising (members vs) (rises_rising vs f.rises) (fit_small vs f.fits)

  -- at most five members: the weight and the number of the subsets, and that the masks give them
  few_power : x.members ≤ 5 → (weights (values subsets_of) ≡ p + p / 2 * x.cells) × (count (values subsets_of) ≡ p) × (picked p masks (members vs) ≡ subsets_of)
  few_power l =
      let e : get_or subset_counts (length (members vs)) 0 ≡ p = ap (λ (n : ℕ). get_or subset_counts n 0) power_members ∙ sym (is.few l) in
      let w : weights (values (members vs)) ≡ x.cells = ap weights (values_members vs) ∙ sym (size.cells top vs h) in
      rw (power_is, ← e, ← w) (power_few (members vs) (omega (arith, power_members)))

  pub power_too_heavy : 256 < 1 + p + p / 2 * x.cells → Made top s s (set_of subsets_of) None
  power_too_heavy g = made_heavy (go (dec_lt 5 x.members))
    where
      go : Dec (5 < x.members) → 256 < 1 + weights (values subsets_of)
      go (yes l) = omega (arith, ap (λ (l : List Value). weights (values l)) power_is, power_heavy (members vs) (omega (arith, power_members)))
      go (no l) = omega (arith, (few_power (omega arith)).0)

  module _ (light : 1 + p + p / 2 * x.cells ≤ 256) where
    pub power_mark : MarkPre s (a + 1) x.members
    power_mark = record { top = top; whole = vs; front = size.front top vs h; few = go (dec_lt 5 x.members) }
      where
        go : Dec (5 < x.members) → x.members ≤ 5
        go (no l) = omega arith
        go (yes l) =
            let z : p ≡ 64 = is.many l in
            let y : 1 + 64 + 64 / 2 * x.cells ≤ 256 = rw z at light in
            absurd (omega (arith, size.cells top vs h, (size.front top vs h).counted, count_weights vs))

    module _ (room : top + 514 ≤ length s) (at : List ℕ) (sized : length at ≡ 6) (marks : Marks s (a + 1) x.members at) where
      pub power_pre : AllPre s (take (x.members + 1) at) p (top + 1)
      unfolding power_mark
      power_pre =
          let f = size.front top vs h in
          let q = few_power power_mark.few in
          record {
            whole = vs;
            marked = record {
              top = top;
              each = stand_take s at top 0 (x.members + 1) vs (omega (arith, f.counted)) (marks power_mark);
              counted = length-take-le (x.members + 1) at (omega (arith, power_mark.few)) ∙ omega (arith, f.counted);
              light = f.light;
              behind = omega arith;
            };
            few = omega (arith, f.counted, power_mark.few);
            light = omega (arith, q.0, ap (λ (l : List Value). weights (values l)) q.2);
            room = omega arith;
          }

      pub power_made : (s' : List ℕ) (r : ℕ) → AllSubsets s (take (x.members + 1) at) p (top + 1) s' r →
          Made top s (set_at s' top (21474836480 + p)) (set_of subsets_of) (Some r)
      unfolding power_pre
      power_made s' r put =
          let q = few_power power_mark.few in
          let d : Appended s (top + 1) s' r (codes (values (picked p masks (members vs)))) = put power_pre in
          made_set _ _ _ _ _ _ (rw q.2 at d) (sym q.1) (omega arith) (omega (arith, q.0))
