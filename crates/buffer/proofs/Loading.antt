-- Reading the values of identifiers one after the other.
use Prim.Native.Nat.{ℕ, zero, suc, ◌+◌, ◌*◌, ◌-◌, ◌≤◌, ◌<◌}
use mathlib.Core.Bool.{true, false, ◌&&◌}
use mathlib.Core.List.{List, [], ◌∷◌, ◌++◌, append_assoc, append-nil}
use mathlib.Core.Option.{Option, none as nothing, some}
use mathlib.Core.Path.{◌≡◌, refl, sym, ap, subst, ◌∙◌}
use native.Mathlib.Omega.{arith}
use native.Mathlib.Numerals.{add-one}
use native.Mathlib.Decide.{ℕ_discrete}
use lib.Dec.{T}
use lib.ListN.{length, get_or, drop, set as set_at, length-append, length-set, drop_of_length-le}
use lib.Seq.{drop-cons, get_or-set_same, get_or-set_other}
use Rattle.rules.specs.Values.{Value}
use Rattle.rules.specs.Ends.{End, done, refused, ◌>>=◌, require}
use Rattle.rules.specs.Fits.{typed}
use Rattle.rules.specs.Cells.{value, good, no_value, or_fault, value_for, nothing_left, values_from}
use Rattle.laws.proofs.CellsLaws.{good_typed}
use Rattle.laws.proofs.EndLaws.{T_true, T_false}
use Rattle.arena.specs.Code.{excess, code, EndsAt, Same, ValueBelow}
use Rattle.arena.proofs.FrontLaws.{value_frame}
use Rattle.arena.proofs.Standing.{same_refl, same_trans}
use Rattle.arena.proofs.ValueParts.{ends_at}
use Rattle.buffer.specs.Buffer.{cells_at_most, ReadAt, Unread}
use Rattle.canonical.specs.Ordered.{ordered, WholeValue}
use Rattle.canonical.specs.Shared.{Fine}
use Rattle.buffer.specs.Loaded.{Entered, Bound}
use Rattle.rules.proofs.Basics.{and_of}
use Rattle.buffer.proofs.GoodValues.{good_ordered, good_of}
use Rattle.buffer.proofs.Walk.{set_stands}

-- One value.
module _ {gs bs : List ℕ} {at : ℕ} {s : List ℕ} {top next end : ℕ} (h : ReadAt gs bs at s top next end) where
  pub read_whole : WholeValue s top end
  read_whole = record {
    value = record { value = h.first; stands = h.stands; fits = h.fits };
    ends = subst (λ (e : ℕ). EndsAt s top e) (sym h.ends) (ends_at s top h.first h.stands h.fits);
  }

  same_read : (v : Value) (rest : List ℕ) → value (drop at bs) ≡ some (v, rest) → v ≡ h.first
  same_read v rest e =
      let q : ◌≡◌ {A = Value × List ℕ} (v, rest) (h.first, drop next bs) = cc h.reads in ap (λ (z : Value × List ℕ). z.0) q

  pub read_bad : Fine s top false → Unread gs bs at
  read_bad o v rest e g =
      let f = subst (λ (w : Value). T (ordered w && typed w)) (same_read v rest e) (and_of (ordered v) (typed v) (good_ordered gs v g) (good_typed gs v g)) in
      subst T (sym (o h.first h.stands h.fits)) f

-- The value of one identifier.
for_bound : (gs : List ℕ) (w x : ℕ) (bs : List ℕ) → (w ≡ 0 → ⊥) → value_for gs w x bs ≡ done (no_value, bs)
for_bound gs zero x bs n = absurd (n refl)
for_bound gs (suc w) x bs n = refl

pub entry_bound : (gs : List ℕ) (w : ℕ) (bs : List ℕ) (at : ℕ) (s : List ℕ) (nowhere top : ℕ) → (w ≡ 0 → ⊥) →
    Entered gs w bs at s s nowhere top nowhere at top
entry_bound gs w bs at s nowhere top n = record {
  first = no_value;
  reads = λ x. for_bound gs w x (drop at bs) n;
  below = λ b. b;
  grows = omega arith;
  near = omega arith;
  spent = omega arith;
}

pub entry_free : {gs bs : List ℕ} {at : ℕ} {s' : List ℕ} {top next end : ℕ} (w : ℕ) (s : List ℕ) (nowhere : ℕ) → w ≡ 0 →
    ReadAt gs bs at s' top next end → Fine s' top true → Entered gs w bs at s s' nowhere top top next end
entry_free {gs} {bs} {at} {s'} {top} {next} {end} w s nowhere z h o =
    let g = good_of gs h.first h.good (subst T (o h.first h.stands h.fits) tt) h.light in
    record {
      first = h.first;
      reads = λ x. rw (z, h.reads, (T_true (good gs h.first)).0 g);
      below = λ b. record { stands = h.stands; below = omega (arith, h.ends); fits = h.fits; light = h.light };
      grows = omega (arith, h.ends);
      near = omega (arith, h.ends, h.light, h.held);
      spent = omega (arith, h.ends, h.spent);
    }

pub entry_bad : (gs : List ℕ) (w x : ℕ) (bs : List ℕ) (at : ℕ) → w ≡ 0 → Unread gs bs at → value_for gs w x (drop at bs) ≡ refused 14 x
entry_bad gs w x bs at z u = rw z (go (value (drop at bs)) refl)
  where
    go : (r : Option (Value × List ℕ)) → value (drop at bs) ≡ r → (or_fault x r >>= λ p. require 14 x (good gs p.0) >>= λ _. done p) ≡ refused 14 x
    go nothing e = refl
    go (some p) e = rw ((T_false (good gs p.0)).0 (u p.0 p.1 e))

-- A value below `top` stays where nothing below changes.
below_same : {s s' : List ℕ} {top end at : ℕ} {v : Value} → Same top s s' → top ≤ end → ValueBelow s top at v → ValueBelow s' end at v
below_same {s} {s'} {top} {at = at} {v} h l b =
    let c = value_frame top s s' top at v h (omega arith) b in
    record { stands = c.stands; below = omega (arith, c.below); fits = c.fits; light = c.light }

-- The values of the first x identifiers have been read.
pub record Loading (gs ws bs : List ℕ) (x at : ℕ) (s₀ s : List ℕ) (top end : ℕ) (env : List ℕ) : Type 0 where
  pub front : List Value
  pub counted : length front ≡ x
  pub whole : values_from gs ws 0 bs ≡ (values_from gs (drop x ws) x (drop at bs) >>= λ vs. done (front ++ vs))
  pub bound : (y : ℕ) → y < 32 → ValueBelow s end (get_or env y 0) (get_or front y no_value)
  pub nowhere : ValueBelow s end top no_value
  pub frame : Same top s₀ s
  pub room : end ≤ top + 1 + cells_at_most x (length bs)
  pub spent : at ≡ 8 * (end - (top + 1))
  pub above : top < end
  pub wide : length env ≡ 32
  pub within : x ≤ length ws

no_value_cell : (s : List ℕ) (top : ℕ) → top < length s → ValueBelow (set_at s top 6442450944) (top + 1) top no_value
unfolding code excess
no_value_cell s top l =
    record { stands = set_stands s top 6442450944 l; below = omega arith; fits = (omega arith, omega arith); light = omega arith }

bind_done : {A : Type 0} (e : End (List A)) → e ≡ (e >>= λ vs. done ([] ++ vs))
bind_done (done vs) = refl
bind_done (refused r p) = refl

pub loading_start : (gs ws bs s : List ℕ) (top : ℕ) (env : List ℕ) → top < length s → length env ≡ 32 → ((x : ℕ) → x < 32 → get_or env x 0 ≡ top) →
    Loading gs ws bs 0 0 (set_at s top 6442450944) (set_at s top 6442450944) top (top + 1) env
loading_start gs ws bs s top env r w u =
    let n = no_value_cell s top r in
    record {
      front = [];
      counted = refl;
      whole = bind_done (values_from gs ws 0 bs);
      bound = λ y l. subst (λ (p : ℕ). ValueBelow (set_at s top 6442450944) (top + 1) p no_value) (sym (u y l)) n;
      nowhere = n;
      frame = same_refl top (set_at s top 6442450944);
      room = omega arith;
      spent = omega arith;
      above = omega arith;
      wide = w;
      within = omega arith;
    }

bind_front : (e : End (List Value)) (front : List Value) (v : Value) →
    ((e >>= λ vs. done (v ∷ vs)) >>= λ us. done (front ++ us)) ≡ (e >>= λ vs. done ((front ++ (v ∷ [])) ++ vs))
bind_front (done vs) front v = ap done (sym (append_assoc front (v ∷ []) vs))
bind_front (refused r p) front v = refl

-- one identifier more
from_next : (gs ws bs rest : List ℕ) (w x : ℕ) (v : Value) → value_for gs w x bs ≡ done (v, rest) →
    values_from gs (w ∷ ws) x bs ≡ (values_from gs ws (x + 1) rest >>= λ vs. done (v ∷ vs))
unfolding values_from
from_next gs ws bs rest w x v e = rw (e, add-one x)

from_refused : (gs ws bs : List ℕ) (w x : ℕ) → value_for gs w x bs ≡ refused 14 x → values_from gs (w ∷ ws) x bs ≡ refused 14 x
unfolding values_from
from_refused gs ws bs w x e = rw e

get_d_more : (l : List Value) (v : Value) (y : ℕ) → (y ≡ length l → ⊥) → get_or (l ++ (v ∷ [])) y no_value ≡ get_or l y no_value
get_d_more [] v zero n = absurd (n refl)
get_d_more [] v (suc y) n = refl
get_d_more (w ∷ l) v zero n = refl
get_d_more (w ∷ l) v (suc y) n = get_d_more l v y (λ e. n (ap suc e))

get_d_last : (l : List Value) (v : Value) → get_or (l ++ (v ∷ [])) (length l) no_value ≡ v
get_d_last [] v = refl
get_d_last (w ∷ l) v = get_d_last l v

module _ {gs ws bs : List ℕ} {x at : ℕ} {s₀ s : List ℕ} {top end : ℕ} {env : List ℕ} (h : Loading gs ws bs x at s₀ s top end env) where
  words_next : x < length ws → drop x ws ≡ get_or ws x 0 ∷ drop (x + 1) ws
  words_next l = drop-cons ws x 0 l ∙ rw (add-one x)

  pub loading_step : (s' : List ℕ) (place next e : ℕ) → x < length ws → x < 32 → Same end s s' →
      Entered gs (get_or ws x 0) bs at s s' top end place next e → Loading gs ws bs (x + 1) next s₀ s' top e (set_at env x place)
  loading_step s' place next e l few f g =
      let v = g.first in
      record {
        front = h.front ++ (v ∷ []);
        counted = omega (arith, length-append h.front (v ∷ []), h.counted);
        whole = h.whole ∙ rw (words_next l, from_next gs (drop (x + 1) ws) (drop at bs) (drop next bs) (get_or ws x 0) x v (g.reads x))
            (bind_front (values_from gs (drop (x + 1) ws) (x + 1) (drop next bs)) h.front v);
        bound = λ y m. named y m (ℕ_discrete y x);
        nowhere = below_same f g.grows h.nowhere;
        frame = same_trans top end s₀ s s' h.frame f (omega (arith, h.above));
        room = omega (arith, h.room, h.spent, g.near);
        spent = omega (arith, h.spent, g.spent, h.above, g.grows);
        above = omega (arith, h.above, g.grows);
        wide = length-set env x place ∙ h.wide;
        within = omega arith;
      }
    where
      named : (y : ℕ) → y < 32 → Dec (y ≡ x) → ValueBelow s' e (get_or (set_at env x place) y 0) (get_or (h.front ++ (g.first ∷ [])) y no_value)
      named y m (yes n) =
          rw (n, get_or-set_same env x place 0 (omega (arith, h.wide)), ← h.counted, get_d_last h.front g.first) (g.below h.nowhere)
      named y m (no n) =
          rw (get_or-set_other env x y place 0 n, get_d_more h.front g.first y (λ p. n (p ∙ h.counted))) (below_same f g.grows (h.bound y m))

  pub loading_bad : x < length ws → value_for gs (get_or ws x 0) x (drop at bs) ≡ refused 14 x → values_from gs ws 0 bs ≡ refused 14 x
  loading_bad l u =
      h.whole ∙ rw (words_next l, from_refused gs (drop (x + 1) ws) (drop at bs) (get_or ws x 0) x u)

  none_left : length ws ≤ x → values_from gs ws 0 bs ≡ (nothing_left x (drop at bs) >>= λ vs. done (h.front ++ vs))
  unfolding values_from
  none_left l = h.whole ∙ ap (λ (us : List ℕ). values_from gs us x (drop at bs) >>= λ vs. done (h.front ++ vs)) (drop_of_length-le ws l)

  -- bytes behind the last value
  pub loading_surplus : length ws ≤ x → at < length bs → values_from gs ws 0 bs ≡ refused 14 x
  loading_surplus l m = none_left l ∙ ap (λ (us : List ℕ). nothing_left x us >>= λ vs. done (h.front ++ vs)) (drop-cons bs at 0 m)

  pub loading_end : length ws ≤ x → length bs ≤ at → Bound gs ws bs s env top end
  loading_end l m = record {
    values = h.front;
    reads = none_left l ∙ ap (λ (us : List ℕ). nothing_left x us >>= λ vs. done (h.front ++ vs)) (drop_of_length-le bs m) ∙ ap done (append-nil h.front);
    at = h.bound;
    above = h.above;
    room = omega (arith, h.room, h.within);
  }
