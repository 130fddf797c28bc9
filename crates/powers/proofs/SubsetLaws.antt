-- Subsets in the arena: where the members begin is found once (`Marking`); the members whose bits a mask has are copied one behind the other
-- (`SubsetAt`). In both rest is what is left of the members.
use Rattle.products.proofs.Base.{ℕ, ◌+◌, ◌-◌, ◌/◌, ◌%◌, ◌≤◌, ◌<◌, Bool, true, false, bool_byte, cond, List, [], ◌++◌, append-nil, ◌≡◌, refl, ◌∙◌, subst, arith, eqb, length, get_or, take, set_at, length-set, get_or-set_same, get_or-set_other}
use Rattle.powers.proofs.Terms.{Value, Values, none, ◌▸◌, members, values, count, weight, weights, set_of, kept_value, code, codes, Same, EndsAt, CopiedIf, CopyIfReady, ValueAt, Front, Appended, Grown, subset_for, StandAt, MarkPre, SubsetPre}
use Rattle.std.proofs.lemmas.List.{get_or-take}
use Rattle.laws.proofs.CellsLaws.{count_weights}
use Rattle.arena.proofs.CodeLaws.{length_code}
use Rattle.arena.proofs.FrontLaws.{single, front_value, front_next, front_below, value_frame}
use Rattle.products.proofs.GrowLaws.{appended_none, appended_copy, grown_start, grown_step, grown_end, appended_set}

-- What stands below a frame stays.
pub stand_frame : (k : ℕ) (s s' at : List ℕ) (top j : ℕ) (vs : Values) → Same k s s' → top ≤ k → StandAt s at top j vs → StandAt s' at top j vs
stand_frame k s s' at top j none f l h = tt
stand_frame k s s' at top j (v ▸ vs) f l h =
    (value_frame k s s' top (get_or at j 0) v f l h.0, h.1, stand_frame k s s' at top (j + 1) vs f l h.2)

-- They stand at the first of the places, as many as they are and where the last one ends.
pub stand_take : (s at : List ℕ) (top j k : ℕ) (vs : Values) → j + count vs < k → StandAt s at top j vs → StandAt s (take k at) top j vs
stand_take s at top j k none l h = tt
stand_take s at top j k (v ▸ vs) l h =
    let e = get_or-take k at j 0 (omega arith) in
    let e' = get_or-take k at (j + 1) 0 (omega arith) in
    (rw e h.0, rw (e, e') h.1, stand_take s at top (j + 1) k vs (omega arith) h.2)

-- `marks`: j members have been passed; what the list says from its place j on decides.
pub record Marking {s : List ℕ} {a n : ℕ} (g : MarkPre s a n) (at : List ℕ) (j : ℕ) (rest : Values) : Type 0 where
  pub sized : length at ≡ 6
  pub few : j ≤ n
  pub front : Front s g.top (get_or at j 0) (n - j) rest
  pub leads : (at' : List ℕ) → ((k : ℕ) → k ≤ j → get_or at' k 0 ≡ get_or at k 0) → StandAt s at' g.top j rest → StandAt s at' g.top 0 g.whole

module _ {s : List ℕ} {a n : ℕ} (g : MarkPre s a n) {at : List ℕ} where
  pub marking_start : length at ≡ 6 → get_or at 0 0 ≡ a → Marking g at 0 g.whole
  marking_start l e = record {
    sized = l;
    few = omega arith;
    front = rw e (subst (λ (k : ℕ). Front s g.top a k g.whole) (let z : n ≡ n - 0 = omega arith in z) g.front);
    leads = λ at' q b. b;
  }

  module _ {j : ℕ} where
    pub marking_end : (rest : Values) × Marking g at j rest → n ≤ j → StandAt s at g.top 0 g.whole
    marking_end (none, h) l = h.leads at (λ k q. refl) tt
    marking_end (w ▸ ws, h) l = absurd (omega (arith, h.front.counted))

    pub marking_next : (rest : Values) × Marking g at j rest → j < n → (e : ℕ) → EndsAt s (get_or at j 0) e →
        (ws : Values) × Marking g (set_at at (j + 1) e) (j + 1) ws
    marking_next (none, h) l e ends = absurd (omega (arith, h.front.counted))
    marking_next (w ▸ ws, h) l e ends =
        let i = get_or at j 0 in
        let f = h.front in
        let new = get_or-set_same at (j + 1) e 0 (omega (arith, h.sized, g.few)) in
        let z : e ≡ i + weight w = ends w (front_value s g.top i (n - j) w ws f) f.fits.0 in
        let next : Marking g (set_at at (j + 1) e) (j + 1) ws = record {
          sized = length-set at (j + 1) e ∙ h.sized;
          few = omega arith;
          front = rw new (front_next s g.top i (n - j) w ws f e (n - (j + 1)) z (omega arith));
          leads = λ at' q b.
              let old : (k : ℕ) → k ≤ j → get_or at' k 0 ≡ get_or at k 0 = λ k r. q k (omega arith) ∙ get_or-set_other at (j + 1) k e 0 (λ d. omega arith) in
              let here = old j (omega arith) in
              h.leads at' old (rw here (front_below s g.top i (n - j) w ws f), rw here (q (j + 1) (omega arith) ∙ new ∙ z), b);
        } in
        (ws, next)

-- A list with a value before it that is kept or not: its cells, their number, and how many values it has.
pub kept_codes : (k : Bool) (v : Value) (r : List Value) → codes (values (kept_value k v r)) ≡ codes (values (kept_value k v [])) ++ codes (values r)
unfolding code
kept_codes true v r = rw (append-nil (code v))
kept_codes false v r = refl

kept_sizes : (k : Bool) (v : Value) (r : List Value) →
    (count (values (kept_value k v r)) ≡ bool_byte k + count (values r)) × (weights (values (kept_value k v r)) ≤ weight v + weights (values r))
kept_sizes true v r = omega arith
kept_sizes false v r = omega arith

pub byte_most : (k : Bool) → bool_byte k ≤ 1
byte_most true = omega arith
byte_most false = omega arith

kept_most : (k : Bool) (n : ℕ) → cond k n 0 ≤ n
kept_most true n = omega arith
kept_most false n = omega arith

-- A member that is copied if it is kept.
kept_appended : (keep : Bool) {s : List ℕ} {from end to : ℕ} {s' : List ℕ} {r : ℕ} → CopiedIf s from end keep to s' r → (v : Value) → ValueAt s from v →
    end ≡ from + weight v → to + (end - from) ≤ length s → Appended s to s' r (codes (values (kept_value keep v [])))
unfolding code
kept_appended true c v h e l = rw (c.ends, single v) (appended_copy (c.kept refl) h (omega (arith, length_code v)) l)
kept_appended false {s} {to = to} c v h e l = rw (c.left refl, c.ends, let z : to + 0 ≡ to = omega arith in z) (appended_none s to (omega arith))

-- `subset`: j members have been passed, and m has the bits of those that are left.
pick_weighs : (m : ℕ) (vs : Values) → weights (values (subset_for m (members vs))) ≤ weights vs
unfolding subset_for
pick_weighs m none = omega arith
pick_weighs m (v ▸ vs) = omega (arith, (kept_sizes (eqb (m % 2) 1) v (subset_for (m / 2) (members vs))).1, pick_weighs (m / 2) vs)

module _ {s₀ at : List ℕ} {to : ℕ} (g : SubsetPre s₀ at to) (mask : ℕ) where
  abbrev whole : List Value
  whole = subset_for mask (members g.whole)

  light : weights (values whole) ≤ 255
  light = omega (arith, pick_weighs mask g.whole, g.marked.light)

  pub record SubsetAt (s : List ℕ) (j m end counted : ℕ) (rest : Values) : Type 0 where
    pub left : length at ≡ j + count rest + 1
    pub each : StandAt s₀ at g.marked.top j rest
    pub grown : Grown s₀ (to + 1) s end (codes (values whole)) (codes (values (subset_for m (members rest))))
    pub known : counted + count (values (subset_for m (members rest))) ≡ count (values whole)
    pub room : end + weights rest ≤ to + 1 + weights g.whole

  pub subset_start : SubsetAt s₀ 0 mask (to + 1) 0 g.whole
  subset_start = record {
    left = omega (arith, g.marked.counted);
    each = g.marked.each;
    grown = grown_start s₀ (to + 1) (codes (values whole)) (omega (arith, g.room));
    known = omega arith;
    room = omega arith;
  }

  module _ {s : List ℕ} {j m end counted : ℕ} where
    pub subset_few : (rest : Values) × SubsetAt s j m end counted rest → counted ≤ 255
    subset_few (rest, h) = omega (arith, h.known, light, count_weights (values whole))

    pub subset_end : (rest : Values) × SubsetAt s j m end counted rest → length at ≤ j + 1 →
        Appended s₀ to (set_at s to (21474836480 + counted)) end (code (set_of whole))
    unfolding subset_for code
    subset_end (none, h) l = appended_set (values whole) (grown_end h.grown) (omega (arith, h.known)) (omega (arith, g.room))
    subset_end (w ▸ ws, h) l = absurd (omega (arith, h.left))

    pub subset_copy : (rest : Values) × SubsetAt s j m end counted rest → j + 1 < length at → CopyIfReady s (get_or at j 0) (get_or at (j + 1) 0) end
    subset_copy (none, h) l = absurd (omega (arith, h.left))
    subset_copy (w ▸ ws, h) l =
        let a = h.grown.appended in
        omega (arith, h.each.0, h.each.1, g.marked, g.room, a.ends, a.frame.kept, h.room)

    pub subset_next : (rest : Values) × SubsetAt s j m end counted rest → j + 1 < length at → {s' : List ℕ} {r : ℕ} →
        CopiedIf s (get_or at j 0) (get_or at (j + 1) 0) (eqb (m % 2) 1) end s' r →
        (ws : Values) × SubsetAt s' (j + 1) (m / 2) r (counted + bool_byte (eqb (m % 2) 1)) ws
    unfolding subset_for
    subset_next (none, h) l d = absurd (omega (arith, h.left))
    subset_next (w ▸ ws, h) l {s'} {r} d =
        let keep = eqb (m % 2) 1 in
        let more = subset_for (m / 2) (members ws) in
        let there = value_frame (to + 1) s₀ s g.marked.top (get_or at j 0) w h.grown.appended.frame (omega (arith, g.marked.behind)) h.each.0 in
        let ready = subset_copy (w ▸ ws, h) l in
        let put = kept_appended keep d w there.stands h.each.1 ready.room in
        let next : SubsetAt s' (j + 1) (m / 2) r (counted + bool_byte keep) ws = record {
          left = omega (arith, h.left);
          each = h.each.2;
          grown = grown_step (codes (values more)) (rw (kept_codes keep w more) at h.grown) put;
          known = omega (arith, h.known, (kept_sizes keep w more).0);
          room = omega (arith, h.room, h.each.1, d.ends, kept_most keep (get_or at (j + 1) 0 - get_or at j 0));
        } in
        (ws, next)
