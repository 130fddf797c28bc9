-- Sweeps over the list of marks. By induction on the variables swept, what is marked stays and is sound; a sweep with no higher count of marks
-- has marked nothing new, so it has stalled.
use mathlib.Core.Path.{◌≡◌, refl, sym, ◌∙◌}
use mathlib.Core.Logic.{◌≢◌, ◌⊎◌, inl, inr}
use mathlib.Core.Bool.{true, false, true≢false}
use mathlib.Core.List.{List}
use Prim.Native.Nat.{ℕ, zero, suc, ◌+◌, ◌-◌, ◌≤◌, ◌<◌}
use native.Mathlib.Nat.{not-suc-le-zero, zero-add, suc-add}
use native.Mathlib.Omega.{arith}
use native.Mathlib.Decide.{ℕ_discrete, dec_lt}
use lib.ListN.{length, length-set, get_or-eq_default}
use lib.Seq.{get_or-set_same, get_or-set_other, ext_get_or}
use Rattle.unification.specs.Problem.{Shape}
use Rattle.unification.specs.Classes.{look, graph}
use Rattle.unification.specs.Marks.{status_of, status_after, mark_of, or_else, mark_one, sweep_to, pos, marked, Sound, Stalled, SoundMarks, Settled}
use Rattle.unification.proofs.Counting.{count_le, count_strict, count_mono}
use Rattle.unification.proofs.Resolve.{status_same, status_grow, status_keep}

pub pos_lt : (k : ℕ) → pos k ≡ true → 0 < k
pos_lt zero e = absurd (true≢false (sym e))
pos_lt (suc k) e = omega arith

pub lt_pos : (k : ℕ) → 0 < k → pos k ≡ true
lt_pos zero h = absurd (not-suc-le-zero h)
lt_pos (suc k) h = refl

nlt_pos : (k : ℕ) → k ≡ 0 → pos k ≡ false
nlt_pos zero h = refl
nlt_pos (suc k) h = absurd (omega arith)

or_else_pos : (a x : ℕ) → 0 < a → or_else a x ≡ a
or_else_pos zero x h = absurd (not-suc-le-zero h)
or_else_pos (suc a) x h = refl

or_else_grow : (a x : ℕ) → 0 < x → 0 < or_else a x
or_else_grow zero x h = h
or_else_grow (suc a) x h = omega arith

or_else_or : (a x : ℕ) → ((0 < a) × (or_else a x ≡ a)) ⊎ (or_else a x ≡ x)
or_else_or zero x = inr refl
or_else_or (suc a) x = inl (omega arith, refl)

module _ (sh : ℕ → Shape) (l : List ℕ) where
  length_mark_one : (m : List ℕ) (v : ℕ) → length (mark_one sh l m v) ≡ length m
  unfolding mark_one
  length_mark_one m v = length-set m v _

  length_sweep : (i : ℕ) (m : List ℕ) → length (sweep_to sh l i m) ≡ length m
  unfolding sweep_to
  length_sweep zero m = refl
  length_sweep (suc i) m = length_mark_one (sweep_to sh l i m) i ∙ length_sweep i m

  mark_one_at : (m : List ℕ) (v : ℕ) → v < length m → mark_of (mark_one sh l m v) v ≡ or_else (mark_of m v) (status_of (mark_of m) (sh (look l v)))
  unfolding mark_one
  mark_one_at m v h = get_or-set_same m v _ 1 h

  mark_one_other : (m : List ℕ) (v w : ℕ) → w ≢ v → mark_of (mark_one sh l m v) w ≡ mark_of m w
  unfolding mark_one
  mark_one_other m v w ne = get_or-set_other m v w _ 1 ne

  mark_one_keep : (m : List ℕ) (v : ℕ) → v < length m → (w : ℕ) → 0 < mark_of m w → mark_of (mark_one sh l m v) w ≡ mark_of m w
  mark_one_keep m v h w p = go (ℕ_discrete w v)
    where
      go : Dec (w ≡ v) → mark_of (mark_one sh l m v) w ≡ mark_of m w
      go (yes e) = rw e (mark_one_at m v h ∙ or_else_pos (mark_of m v) _ (rw e at p))
      go (no ne) = mark_one_other m v w ne

  sweep_keep : (i : ℕ) (m : List ℕ) → i ≤ length m → (w : ℕ) → 0 < mark_of m w → mark_of (sweep_to sh l i m) w ≡ mark_of m w
  unfolding sweep_to
  sweep_keep zero m h w p = refl
  sweep_keep (suc i) m h w p =
      let e = sweep_keep i m (omega arith) w p in
      mark_one_keep (sweep_to sh l i m) i (rw (length_sweep i m) h) w (rw e p) ∙ e

  sweep_new : (i : ℕ) (m : List ℕ) → i ≤ length m → (v : ℕ) → v < i → 0 < status_of (mark_of m) (sh (look l v)) → 0 < mark_of (sweep_to sh l i m) v
  unfolding sweep_to
  sweep_new zero m h v vi p = absurd (not-suc-le-zero vi)
  sweep_new (suc i) m h v vi p = go (ℕ_discrete v i) (λ vi'. sweep_new i m (omega arith) v vi' p)
    where
      s : List ℕ
      s = sweep_to sh l i m

      si : i < length s
      si = rw (length_sweep i m) h

      go : Dec (v ≡ i) → (v < i → 0 < mark_of s v) → 0 < mark_of (mark_one sh l s i) v
      go (yes e) ih =
          let kept : (w : ℕ) → 0 < mark_of m w → 0 < mark_of s w = λ w q. rw (sweep_keep i m (omega arith) w q) q in
          rw (e, mark_one_at s i si) (or_else_grow (mark_of s i) _ (status_grow (mark_of m) (mark_of s) (sh (look l i)) kept (rw e at p)))
      go (no ne) ih = let q = ih (omega arith) in rw (mark_one_keep s i si v q) q

  -- ---- what is marked is so in some number of sweeps of the graph
  mark_one_sound : (K : ℕ) (m : List ℕ) (v : ℕ) → v < length m → Sound sh l K m → Sound sh l (suc K) (mark_one sh l m v)
  mark_one_sound K m v h s w p = go (ℕ_discrete w v)
    where
      old : (u : ℕ) → 0 < mark_of m u → status_after (graph sh l) (suc K) u ≡ mark_of m u
      old u q = status_keep (graph sh l) K u (rw (s u q) q) ∙ s u q

      found : ℕ
      found = status_of (mark_of m) (sh (look l v))

      here : 0 < mark_of (mark_one sh l m v) v →
          ((0 < mark_of m v) × (or_else (mark_of m v) found ≡ mark_of m v)) ⊎ (or_else (mark_of m v) found ≡ found) →
          status_after (graph sh l) (suc K) v ≡ mark_of (mark_one sh l m v) v
      here q (inl d) = old v d.0 ∙ sym d.1 ∙ sym (mark_one_at m v h)
      here q (inr d) =
          let e : mark_of (mark_one sh l m v) v ≡ found = mark_one_at m v h ∙ d in
          status_same (status_after (graph sh l) K) (mark_of m) (sh (look l v)) s (rw e at q) ∙ sym e

      go : Dec (w ≡ v) → status_after (graph sh l) (suc K) w ≡ mark_of (mark_one sh l m v) w
      go (yes e) = rw e (here (rw e at p) (or_else_or (mark_of m v) _))
      go (no ne) = old w (rw (mark_one_other m v w ne) at p) ∙ sym (mark_one_other m v w ne)

  sweep_sound : (i K : ℕ) (m : List ℕ) → i ≤ length m → Sound sh l K m → Sound sh l (i + K) (sweep_to sh l i m)
  unfolding sweep_to
  sweep_sound zero K m h s = rw zero-add s
  sweep_sound (suc i) K m h s = rw suc-add (mark_one_sound (i + K) (sweep_to sh l i m) i (rw (length_sweep i m) h) (sweep_sound i K m (omega arith) s))

  -- ---- a sweep that marks nothing new has stalled
  sweep_grow : (n : ℕ) (m : List ℕ) → length m ≡ n → (i : ℕ) → i < n → pos (mark_of m i) ≡ true → pos (mark_of (sweep_to sh l n m) i) ≡ true
  sweep_grow n m len i h e = let p = pos_lt (mark_of m i) e in lt_pos (mark_of (sweep_to sh l n m) i) (rw (sweep_keep n m (omega arith) i p) p)

  -- a variable past the end is marked 1, and has no shape
  past : (n : ℕ) (m : List ℕ) → length m ≡ n → (v : ℕ) → n ≤ v → 0 < mark_of m v
  past n m len v h = rw (get_or-eq_default m 1 {n = v} (omega arith)) (omega arith)

  none_new : (n : ℕ) (m : List ℕ) → length m ≡ n → marked n (sweep_to sh l n m) ≡ marked n m →
      (v : ℕ) → v < n → 0 < mark_of (sweep_to sh l n m) v → 0 < mark_of m v
  none_new n m len e v h p = go (dec_lt 0 (mark_of m v))
    where
      go : Dec (0 < mark_of m v) → 0 < mark_of m v
      go (yes y) = y
      go (no z) =
          let few = count_strict (λ u. pos (mark_of m u)) (λ u. pos (mark_of (sweep_to sh l n m) u)) n (sweep_grow n m len) v h
          (nlt_pos (mark_of m v) (omega arith)) (lt_pos (mark_of (sweep_to sh l n m) v) p) in
          absurd (omega (arith, few, e))

  stalls : (n : ℕ) (m : List ℕ) → length m ≡ n → marked n (sweep_to sh l n m) ≡ marked n m → Stalled (graph sh l) (mark_of m)
  stalls n m len e v p = go (dec_lt v n)
    where
      go : Dec (v < n) → 0 < mark_of m v
      go (yes y) = none_new n m len e v y (sweep_new n m (omega arith) v y p)
      go (no o) = past n m len v (omega arith)

  sweep_fixed : (n : ℕ) (m : List ℕ) → length m ≡ n → marked n (sweep_to sh l n m) ≡ marked n m → sweep_to sh l n m ≡ m
  sweep_fixed n m len e =
      ext_get_or 1 (sweep_to sh l n m) m (length_sweep n m)
      (λ v h. go v (omega (arith, length_sweep n m)) (dec_lt 0 (mark_of m v)) (dec_lt 0 (mark_of (sweep_to sh l n m) v)))
    where
      go : (v : ℕ) → v < n → Dec (0 < mark_of m v) → Dec (0 < mark_of (sweep_to sh l n m) v) → mark_of (sweep_to sh l n m) v ≡ mark_of m v
      go v h (yes y) d = sweep_keep n m (omega arith) v y
      go v h (no z) (no o) = omega arith
      go v h (no z) (yes y) = absurd (z (none_new n m len e v h y))

  -- ---- one turn of `settle`, of sound marks
  module _ (n : ℕ) (m : List ℕ) (s : SoundMarks sh l n m) where
    pub sounds_next : SoundMarks sh l n (sweep_to sh l n m)
    sounds_next = record {
      rounds = n + s.rounds;
      sound = sweep_sound n s.rounds m (omega (arith, s.len)) s.sound;
      len = length_sweep n m ∙ s.len;
    }

    pub settled_end : marked n (sweep_to sh l n m) ≡ marked n m → Settled sh l n (sweep_to sh l n m)
    settled_end e = rw (sweep_fixed n m s.len e) (record {
      rounds = s.rounds;
      sound = s.sound;
      stalled = stalls n m s.len e;
      len = s.len;
    })

    pub falls : marked n (sweep_to sh l n m) ≢ marked n m → n - marked n (sweep_to sh l n m) < n - marked n m
    falls ne =
        let grown = count_mono (λ u. pos (mark_of m u)) (λ u. pos (mark_of (sweep_to sh l n m) u)) n (sweep_grow n m s.len) in
        omega (arith, ne, grown, count_le (λ v. pos (mark_of (sweep_to sh l n m) v)) n)
