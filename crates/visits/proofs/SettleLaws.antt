-- What a node gives is settled at its top.
use Rattle.arena.proofs.MadeLaws.{made_ends}
use Rattle.visits.proofs.Terms.{ℕ, ◌+◌, ◌-◌, ◌≤◌, List, [], ◌∷◌, ◌⊎◌, inr, ◌≡◌, refl, sym, ap, ◌∙◌, arith, length, Copied, WithinAt, GivenCell}
use Rattle.visits.proofs.Terms.{subst, ValueAt, Value, weight, Given, code, Same, length_code, same_refl, copied_stands, Outcome, BuiltAt, GivesNumbered, Formed, Placed, Stopped, SettleReady, Settles, Built, Within, Cell, Result, Ok, Err, PutsCell}

-- Copying changes nothing below its place.
copied_frame : {s s' : List ℕ} {from n to : ℕ} → Copied s from n to s' → Same to s s'
copied_frame c = record { same = c.before; kept = c.kept }

one_weighs : (v : Value) {x : ℕ} → code v ≡ x ∷ [] → weight v ≡ 1
one_weighs v {x} e = sym (length_code v) ∙ ap length e

module _ {s : List ℕ} {r : Result Outcome ℕ} {mid next top : ℕ} (p : SettleReady s r mid next top) where
  pub settles_lacks : {node left : ℕ} {k : ℕ} {x : Formed} → r ≡ Err k → x ≡ Stopped (record { number = k; place = node }) left →
      Settles s r mid next top node left s x
  settles_lacks e q = rw q (record { frame = same_refl top s; bounds = λ h l. tt; answer = λ g h. (rw e at h, refl, refl) })

  pub settles_within : {node left at : ℕ} → r ≡ Ok (Within at) → Settles s r mid next top node left s (Placed at mid left)
  settles_within {node} {left} {at} e = record {
    frame = same_refl top s;
    bounds = λ h l. omega (arith, p.low, p.high);
    answer = λ g h.
        let w : WithinAt s mid g at = rw e at h in
        record { value = w.value; is = w.is; stands = w.stands; below = w.below; same = refl };
  }

  -- The only cell of a value is written.
  pub settles_cell : {node left x end : ℕ} {s' : List ℕ} → r ≡ Ok (Cell x) → PutsCell s top x s' end →
      Settles s r mid next top node left s' (Placed top end left)
  settles_cell {node} {left} {x} {end} {s'} e put =
      let cell : (g : Given) → GivesNumbered s mid next g r → GivenCell g x = λ g h. rw e at h in
      let some = cell p.given p.gives in
      let made = put some.value some.cell in
      let one = one_weighs some.value some.cell in
      record {
        frame = made.frame;
        bounds = λ h l. omega (arith, (made_ends made).1, one);
        answer = λ g h.
            let c = cell g h in
            let m = made_ends (put c.value c.cell) in
            record { value = c.value; is = c.is; stands = m.2; below = omega (arith, m.1); same = refl };
      }

  module _ {end : ℕ} (e : r ≡ Ok (Built end)) where
    built_as : (g : Given) → GivesNumbered s mid next g r → BuiltAt s next g end
    built_as g h = rw e at h

    pub built_above : next ≤ end
    built_above = let b = built_as p.given p.gives in omega (arith, b.ends)

    -- It has been built where it belongs.
    pub settles_there : {node left : ℕ} → next ≡ top → Settles s r mid next top node left s (Placed top end left)
    settles_there z =
        let b = built_as p.given p.gives in
        record {
          frame = same_refl top s;
          bounds = λ h l. omega (arith, b.ends, b.light);
          answer = λ g h.
              let x = built_as g h in
              let y = subst (λ (i : ℕ). ValueAt s i x.value) z x.stands in
              record { value = x.value; is = x.is; stands = y; below = omega (arith, x.ends); same = refl };
        }

    pub settle_room : (next + (end - next) ≤ length s) × (top + (end - next) ≤ length s) × ((next + (end - next) ≤ top) ⊎ (top ≤ next))
    settle_room =
        let b = built_as p.given p.gives in
        (omega (arith, b.ends, b.light, p.room), omega (arith, b.ends, b.light, p.low, p.order, p.room), inr (omega (arith, p.low, p.order)))

    pub settles_built : {node left : ℕ} {s' : List ℕ} → Copied s next (end - next) top s' →
        Settles s r mid next top node left s' (Placed top (top + (end - next)) left)
    settles_built {node} {left} {s'} c =
        let b = built_as p.given p.gives in
        record {
          frame = copied_frame c;
          bounds = λ h l. omega (arith, b.ends, b.light);
          answer = λ g h.
              let x = built_as g h in
              let long : length (code x.value) ≡ end - next = omega (arith, x.ends, length_code x.value) in
              let y = copied_stands s next (end - next) top s' (code x.value) c long settle_room.1 x.stands in
              record { value = x.value; is = x.is; stands = y; below = omega (arith, x.ends); same = refl };
        }
