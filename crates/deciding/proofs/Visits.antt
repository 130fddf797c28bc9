-- The visit: a class without a mark goes on the stack, the class on top gets its mark. A part that waits is on the stack, so the class on top
-- is lighter than it or is itself: then no types satisfy the terms. Each turn lowers twice the number of marks 0 with the height.
use Prim.Native.Nat.{ℕ, zero, suc, ◌+◌, ◌-◌, ◌%◌, ◌<◌, ◌≤◌}
use mathlib.Core.Bool.{true, false, true≢false}
use mathlib.Core.List.{List}
use mathlib.Core.Logic.{◌≢◌}
use mathlib.Core.Path.{◌≡◌, refl, sym, ap, ◌∙◌, subst}
use native.Mathlib.Omega.{arith}
use native.Mathlib.Decide.{ℕ_discrete}
use lib.ListN.{get_or, set, length, length-set}
use lib.Seq.{get_or-set_same, get_or-set_other}
use Rattle.rules.specs.Types.{weightᵀ}
use Rattle.unification.proofs.Counting.{count_le, count_mono, count_strict}
use Rattle.terms.specs.Decided.{class_mark}
use Rattle.deciding.specs.Marking.{word_shape, mark_shape, FlatTerms, MarkSays, MarksSay, PartLeft, PartsFinal}
use Rattle.deciding.specs.Visit.{NoTypes, Lighter, is_zero, unmarked, Waits, Visiting, Resting, Grows, VisitNext, MarkedTo, Cleared}
use Rattle.deciding.proofs.Graphs.{idem}
use Rattle.deciding.proofs.MarkLaws.{says_later, mark_says, part_left_lighter}

zero_is : (m : ℕ) → is_zero m ≡ true → m ≡ 0
zero_is zero e = refl
zero_is (suc k) e = absurd (true≢false (sym e))

not_zero : (m : ℕ) → m ≢ 0 → is_zero m ≡ false
not_zero zero h = absurd (h refl)
not_zero (suc k) h = refl

-- ---- one mark changes, to one that is not 0
module _ (n : ℕ) (marks : List ℕ) (p m : ℕ) (len : length marks ≡ n) (h : p < n) (nz : m ≢ 0) where
  abbrev marks' : List ℕ
  marks' = set marks p m

  pub changed : get_or marks' p 0 ≡ m
  changed = get_or-set_same marks p m 0 (omega arith)

  pub kept : (v : ℕ) → v ≢ p → get_or marks' v 0 ≡ get_or marks v 0
  kept v ne = get_or-set_other marks p v m 0 ne

  pub grows_set : Grows n marks marks'
  grows_set v hv a = go (ℕ_discrete v p)
    where
      go : Dec (v ≡ p) → get_or marks' v 0 ≢ 0
      go (yes e) z = nz (sym changed ∙ ap (λ (x : ℕ). get_or marks' x 0) (sym e) ∙ z)
      go (no ne) z = a (sym (kept v ne) ∙ z)

  zeros_kept : (v : ℕ) → v < n → is_zero (get_or marks' v 0) ≡ true → is_zero (get_or marks v 0) ≡ true
  zeros_kept v hv e = go (ℕ_discrete v p)
    where
      go : Dec (v ≡ p) → is_zero (get_or marks v 0) ≡ true
      go (yes y) = absurd (nz (sym changed ∙ zero_is (get_or marks' p 0) (rw y at e)))
      go (no ne) = rw (kept v ne) at e

  pub fewer : unmarked n marks' ≤ unmarked n marks
  fewer = count_mono (λ v. is_zero (get_or marks' v 0)) (λ v. is_zero (get_or marks v 0)) n zeros_kept

  pub one_fewer : get_or marks p 0 ≡ 0 → unmarked n marks' < unmarked n marks
  one_fewer z = count_strict (λ v. is_zero (get_or marks' v 0)) (λ v. is_zero (get_or marks v 0)) n zeros_kept p h
      (rw changed (not_zero m nz)) (rw z refl)

-- ---- a class goes on the stack
module _ {n : ℕ} {ts marks stack : List ℕ} {h : ℕ} (w : Visiting n ts marks stack h) {p : ℕ} (x : VisitNext n ts marks p)
    (light : (i : ℕ) → i < h → Lighter n ts p (get_or stack i 0)) where
  abbrev pushed : List ℕ
  pushed = set marks p 127

  abbrev taller : List ℕ
  taller = set stack h p

  top_is : get_or taller h 0 ≡ p
  top_is = get_or-set_same stack h p 0 (omega (arith, w.room, w.count))

  under : (i : ℕ) → i < h → get_or taller i 0 ≡ get_or stack i 0
  under i hi = get_or-set_other stack h i p 0 (omega arith)

  is_127 : get_or pushed p 0 ≡ 127
  is_127 = changed n marks p 127 w.len x.below (omega arith)

  other : (v : ℕ) → v ≢ p → get_or pushed v 0 ≡ get_or marks v 0
  other = kept n marks p 127 w.len x.below (omega arith)

  apart_from : (i : ℕ) → i < h → get_or stack i 0 ≢ p
  apart_from i hi e = omega (arith, sym x.bare ∙ ap (λ (v : ℕ). get_or marks v 0) (sym e) ∙ (w.waits i hi).mark)

  -- Of an entry that is in the old stack, or the new top.
  each : (P : ℕ → Type 0) → ((i : ℕ) → i < h → P (get_or stack i 0)) → P p → (i : ℕ) → i < h + 1 → P (get_or taller i 0)
  each P f q i hi = go (ℕ_discrete i h)
    where
      go : Dec (i ≡ h) → P (get_or taller i 0)
      go (yes e) = rw (e, top_is) q
      go (no ne) = rw (under i (omega arith)) (f i (omega arith))

  wait_kept : (i : ℕ) → i < h → Waits n ts pushed (get_or stack i 0)
  wait_kept i hi =
      let o = w.waits i hi in record { below = o.below; class = o.class; mark = other (get_or stack i 0) (apart_from i hi) ∙ o.mark }

  -- Of two entries, one above the other.
  two : (P : ℕ → ℕ → Type 0) → ((i j : ℕ) → i < j → j < h → P (get_or stack i 0) (get_or stack j 0)) → ((i : ℕ) → i < h → P (get_or stack i 0) p) →
      (i j : ℕ) → i < j → j < h + 1 → P (get_or taller i 0) (get_or taller j 0)
  two P f q i j ij hj = go (ℕ_discrete j h)
    where
      go : Dec (j ≡ h) → P (get_or taller i 0) (get_or taller j 0)
      go (yes e) = rw (e, top_is, under i (omega arith)) (q i (omega arith))
      go (no ne) = rw (under i (omega arith), under j (omega arith)) (f i j ij (omega arith))

  sound : MarksSay n ts w.rounds pushed
  sound c hc f = go (ℕ_discrete c p)
    where
      go : Dec (c ≡ p) → MarkSays n ts w.rounds c (get_or pushed c 0)
      go (yes e) = absurd (f.1 (ap (λ (v : ℕ). get_or pushed v 0) e ∙ is_127))
      go (no ne) = rw (other c ne) (w.sound c hc (rw (other c ne) at f))

  found : (v : ℕ) → v < n → get_or pushed v 0 ≡ 127 → (i : ℕ) × (i < h + 1) × (get_or taller i 0 ≡ v)
  found v hv e = go (ℕ_discrete v p)
    where
      go : Dec (v ≡ p) → (i : ℕ) × (i < h + 1) × (get_or taller i 0 ≡ v)
      go (yes y) = (h, omega arith, top_is ∙ sym y)
      go (no ne) = let o = w.found v hv (sym (other v ne) ∙ e) in (o.0, omega (arith, o.1), under o.0 o.1 ∙ o.2)

  pub push_less : unmarked n pushed < unmarked n marks
  push_less = one_fewer n marks p 127 w.len x.below (omega arith) x.bare

  pub push_grows : Grows n marks pushed
  push_grows = grows_set n marks p 127 w.len x.below (omega arith)

  pub push_waits : get_or pushed p 0 ≢ 0
  push_waits = omega (arith, is_127)

  pub push_next : Visiting n ts pushed taller (h + 1)
  push_next = record {
    rounds = w.rounds;
    sound = sound;
    len = length-set marks p 127 ∙ w.len;
    room = rw (length-set stack h p) w.room;
    count = omega (arith, w.count, push_less);
    waits = each (Waits n ts pushed) wait_kept (record { below = x.below; class = x.class; mark = is_127 });
    apart = two (λ a b. a ≢ b) w.apart apart_from;
    falls = two (λ a b. Lighter n ts b a) w.falls light;
    found = found;
  }

-- ---- the class on top
module _ {n : ℕ} {ts marks stack : List ℕ} {h : ℕ} (t : FlatTerms n ts) (w : Visiting n ts marks stack h) (pos : 0 < h) where
  abbrev c : ℕ
  c = get_or stack (h - 1) 0

  abbrev c_waits : Waits n ts marks c
  c_waits = w.waits (h - 1) (omega arith)

  -- What is lighter than the top is lighter than all on the stack.
  lighter_all : (p : ℕ) → Lighter n ts p c → (i : ℕ) → i < h → Lighter n ts p (get_or stack i 0)
  lighter_all p l i hi = go (ℕ_discrete i (h - 1))
    where
      go : Dec (i ≡ h - 1) → Lighter n ts p (get_or stack i 0)
      go (yes e) = rw e l
      go (no ne) = λ θ s. omega (arith, l θ s, w.falls i (h - 1) (omega arith) (omega arith) θ s)

  module _ {p : ℕ} (q : PartLeft ts marks c p) where
    light : Lighter n ts p c
    light = part_left_lighter t c_waits.class q

    -- A part that waits.
    pub cycle : p < n → get_or marks p 0 ≡ 127 → NoTypes n ts
    cycle hp e θ s =
        let o = w.found p hp e in
        let l : weightᵀ (θ p) < weightᵀ (θ p) = subst (λ (x : ℕ). weightᵀ (θ p) < weightᵀ (θ x)) o.2 (lighter_all p light o.0 o.1 θ s) in
        omega (arith, l)

    pub next_light : (i : ℕ) → i < h → Lighter n ts p (get_or stack i 0)
    next_light = lighter_all p light

    pub next_part : get_or marks p 0 ≢ 127 → VisitNext n ts marks p
    next_part ne = record {
      below = omega (arith, q.below, t.terms.len);
      class = rw q.class (idem t.terms t.flat q.part);
      bare = go (ℕ_discrete (get_or marks p 0) 0);
    }
      where
        go : Dec (get_or marks p 0 ≡ 0) → get_or marks p 0 ≡ 0
        go (yes e) = e
        go (no nz) = absurd (q.bare (nz, ne))

  -- The parts of the top have marks: it gets its own.
  module _ (parts : PartsFinal ts marks c) where
    abbrev m : ℕ
    m = mark_shape (class_mark ts marks) (word_shape ts c)

    abbrev stored : List ℕ
    stored = set marks c m

    says : MarkSays n ts (suc w.rounds) c m
    says = mark_says t w.rounds marks w.sound c c_waits.below c_waits.class parts

    nz : m ≢ 0
    nz e = omega (arith, says.low, ap (λ (x : ℕ). x % 128) e)

    is_m : get_or stored c 0 ≡ m
    is_m = changed n marks c m w.len c_waits.below nz

    rest : (v : ℕ) → v ≢ c → get_or stored v 0 ≡ get_or marks v 0
    rest = kept n marks c m w.len c_waits.below nz

    stored_sound : MarksSay n ts (suc w.rounds) stored
    stored_sound v hv f = go (ℕ_discrete v c)
      where
        go : Dec (v ≡ c) → MarkSays n ts (suc w.rounds) v (get_or stored v 0)
        go (yes e) = rw (e, is_m) says
        go (no ne) = rw (rest v ne) (says_later n ts w.rounds v (get_or marks v 0) (w.sound v hv (rw (rest v ne) at f)))

    stored_waits : (i : ℕ) → i < h - 1 → Waits n ts stored (get_or stack i 0)
    stored_waits i hi =
        let o = w.waits i (omega arith) in
        record { below = o.below; class = o.class; mark = rest (get_or stack i 0) (w.apart i (h - 1) hi (omega arith)) ∙ o.mark }

    stored_found : (v : ℕ) → v < n → get_or stored v 0 ≡ 127 → (i : ℕ) × (i < h - 1) × (get_or stack i 0 ≡ v)
    stored_found v hv e = go (ℕ_discrete v c)
      where
        go : Dec (v ≡ c) → (i : ℕ) × (i < h - 1) × (get_or stack i 0 ≡ v)
        go (yes y) = absurd (omega (arith, says.high, ap (λ (x : ℕ). x % 128) (sym is_m ∙ ap (λ (x : ℕ). get_or stored x 0) (sym y) ∙ e)))
        go (no ne) =
            let o = w.found v hv (sym (rest v ne) ∙ e) in
            let d : o.0 ≢ h - 1 = λ y. ne (sym o.2 ∙ ap (λ (x : ℕ). get_or stack x 0) y) in
            (o.0, omega (arith, d, o.1), o.2)

    pub store_fewer : unmarked n stored ≤ unmarked n marks
    store_fewer = fewer n marks c m w.len c_waits.below nz

    pub store_grows : Grows n marks stored
    store_grows = grows_set n marks c m w.len c_waits.below nz

    pub store_next : Visiting n ts stored stack (h - 1)
    store_next = record {
      rounds = suc w.rounds;
      sound = stored_sound;
      len = length-set marks c m ∙ w.len;
      room = w.room;
      count = omega (arith, w.count, store_fewer);
      waits = stored_waits;
      apart = λ i j ij hj. w.apart i j ij (omega arith);
      falls = λ i j ij hj. w.falls i j ij (omega arith);
      found = stored_found;
    }

-- ---- the visit begins and ends
pub visit_start : {n : ℕ} {ts marks stack : List ℕ} → Resting n ts marks → n + 2 ≤ length stack → Visiting n ts marks stack 0
visit_start {n} {ts} {marks} {stack} r room = record {
  rounds = r.rounds;
  sound = r.sound;
  len = r.len;
  room = room;
  count = omega (arith, count_le (λ v. is_zero (get_or marks v 0)) n);
  waits = λ i hi. absurd (omega arith);
  apart = λ i j ij hj. absurd (omega arith);
  falls = λ i j ij hj. absurd (omega arith);
  found = λ v hv e. absurd (r.still v hv e);
}

pub visit_end : {n : ℕ} {ts marks stack : List ℕ} {h : ℕ} → h ≡ 0 → Visiting n ts marks stack h → Resting n ts marks
visit_end {n} {ts} {marks} {stack} {h} z w = record {
  rounds = w.rounds;
  sound = w.sound;
  len = w.len;
  still = λ v hv e. let o = w.found v hv e in omega (arith, o.1);
}

pub rest_start : {n : ℕ} {ts marks : List ℕ} → length marks ≡ n → Cleared marks n → MarkedTo n ts marks 0
rest_start {n} {ts} {marks} len z = record {
  rest = record {
    rounds = 0;
    sound = λ c hc f. absurd (f.0 (z c hc));
    len = len;
    still = λ v hv. omega (arith, z v hv);
  };
  each = λ c hc. absurd (omega arith);
}
