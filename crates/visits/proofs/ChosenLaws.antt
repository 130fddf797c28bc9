-- The members that a comprehension chooses: its run member by member, and the set that is built of them.
use Rattle.visits.proofs.Terms.{ℕ, ◌+◌, ◌-◌, ◌*◌, ◌≤◌, ◌<◌, Bool, true, false, cond, List, [], ◌∷◌, ◌≡◌, refl, sym, ap, ◌∙◌, subst, arith, length, set_at, length-set, bool_byte, ◌++◌, append_assoc, append-nil, values, weights, select, ValuesAt}
use Rattle.visits.proofs.Terms.{Value, Values, members, count, weight, done, refused, M, code, codes, Stands, Same, EndsAt, length_code, length_codes, stands_frame, same_refl, same_trans, copied_stands, Refusal, Held, Truth, Refused, Formed, StopOf, Placed, EndsWith, SelectedAs, field_a, field_c, IsPred, CopyIfReady, CopiedIf, NodeReady, AsksEach, body_of, EachReady, EvaluatesP, EvaluatesChosen, get_or-set_other, stands_append, count_weights}
use Rattle.arena.proofs.FrontLaws.{single, codes_append, count_append, weights_append}
use Rattle.arena.proofs.MadeLaws.{made_ends}
use Rattle.products.proofs.GrowLaws.{made_set}
use Rattle.visits.proofs.RunLaws.{then_done, then_refused, returns}
use Rattle.visits.proofs.NodeLaws.{stop_is}
use Rattle.visits.proofs.BodyLaws.{some_asked, First, none_left, Loop, loop_start, body_asks, Ran, ran_at, member_ends, loop_next, body_ends, body_frame}

-- What a member adds to those chosen.
abbrev picked : Bool → Value → List Value
picked b v = cond b (v ∷ []) []

-- The body ends at a member, and the run goes on to the others.
select_on : {budget left l : ℕ} (g : Value → M Bool) (v : Value) (vs : List Value) (m : ℕ) (b : Bool) {ws : List Value} →
    EndsWith (g v m) (done b) budget l → EndsWith (select g vs (g v m).steps) (done ws) budget left →
    EndsWith (select g (v ∷ vs) m) (done (picked b v ++ ws)) budget left
unfolding select
select_on g v vs m true {ws} h k = then_done _ h (then_done _ k (returns (v ∷ ws) k.steps))
select_on g v vs m false {ws} h k = then_done _ h (then_done _ k (returns ws k.steps))

-- The members chosen stand from top + 1 up to `to`, and the whole run ends as that of the rest does from `now` on.
pub record Selecting (g : Value → M Bool) (whole : List Value) (budget steps : ℕ) (s : List ℕ) (top : ℕ) (rest : Values) (now to chosen : ℕ) : Type 0 where
  pub taken : List Value
  pub stands : ValuesAt s (top + 1) (values taken)
  pub ends : to ≡ top + 1 + weights (values taken)
  pub counted : chosen ≡ count (values taken)
  pub light : weights (values taken) + weights rest ≤ 255
  pub goes : {ws : List Value} {l : ℕ} → EndsWith (select g (members rest) now) (done ws) budget l →
      EndsWith (select g whole steps) (done (taken ++ ws)) budget l
  pub stops : {k p l : ℕ} → EndsWith (select g (members rest) now) (refused k p) budget l → EndsWith (select g whole steps) (refused k p) budget l

-- What is chosen of a member stands behind what has been chosen.
chosen_stands : (s : List ℕ) (at end : ℕ) (b : Bool) (to : ℕ) (s' : List ℕ) (r : ℕ) (v : Value) → CopiedIf s at end b to s' r →
    Stands s at (code v) → end ≡ at + weight v → to + weight v ≤ length s →
    ValuesAt s' to (values (picked b v)) × (r ≡ to + weights (values (picked b v)))
unfolding code
chosen_stands s at end true to s' r v c h e l =
    let x = copied_stands s at (end - at) to s' (code v) (c.kept refl) (omega (arith, length_code v)) (omega arith) h in
    (rw (single v) x, omega (arith, c.ends))
chosen_stands s at end false to s' r v c h e l =
    (record { inside = omega (arith, c.frame.kept); cells = λ i p. absurd (omega arith) }, omega (arith, c.ends))

chosen_cost : (b : Bool) (v : Value) → (bool_byte b ≡ count (values (picked b v))) × (weights (values (picked b v)) ≤ weight v)
chosen_cost true v = (refl, omega arith)
chosen_cost false v = (refl, omega arith)

module _ {g : Value → M Bool} {whole : List Value} {budget steps : ℕ} {s : List ℕ} {top : ℕ} {rest : Values} {now to chosen : ℕ}
    (h : Selecting g whole budget steps s top rest now to chosen) where
  -- After a turn: the arena is s₁ behind the body, and s₂ with the member added if it is chosen.
  selecting_turn : {gs : List ℕ} {at more : ℕ} (u : First gs s top at more rest) (s₁ : List ℕ) (end : ℕ) (b : Bool) {l : ℕ} (s₂ : List ℕ) (r : ℕ) →
      top + 256 ≤ length s → Same to s s₁ → end ≡ at + weight u.value → EndsWith (g u.value now) (done b) budget l → CopiedIf s₁ at end b to s₂ r →
      Selecting g whole budget steps s₂ top u.rest (g u.value now).steps r (chosen + bool_byte b)
  unfolding select
  selecting_turn {gs} {at} u s₁ end b s₂ r room same e run c =
      let over : Same to s s₂ = same_trans to to s s₁ s₂ same c.frame (omega arith) in
      let here : Stands s₁ at (code u.value)
      = stands_frame to s s₁ at (code u.value) same (omega (arith, length_code u.value, u.here.below, h.ends)) u.here.stands in
      let is : members rest ≡ u.value ∷ members u.rest = ap members u.is in
      let sum : weights rest ≡ weight u.value + weights u.rest = ap weights u.is in
      let added = picked b u.value in
      let long = length_codes (values h.taken) in
      let new = chosen_stands s₁ at end b to s₂ r u.value c here e (omega (arith, same.kept, sum, h.ends, h.light)) in
      record {
        taken = h.taken ++ added;
        stands = rw (codes_append h.taken added) (stands_append s₂ (top + 1) (codes (values h.taken)) (codes (values added))
            (stands_frame to s s₂ (top + 1) (codes (values h.taken)) over (omega (arith, h.ends, long)) h.stands)
            (rw (long, ← h.ends) new.0));
        ends = omega (arith, new.1, h.ends, weights_append h.taken added);
        counted = omega (arith, h.counted, (chosen_cost b u.value).0, count_append h.taken added);
        light = omega (arith, sum, h.light, (chosen_cost b u.value).1, weights_append h.taken added);
        goes = λ {ws} {l = q} x.
            subst (λ (vs : List Value). EndsWith (select g whole steps) (done vs) budget q) (sym (append_assoc h.taken added ws))
            (h.goes (rw is (select_on g u.value (members u.rest) now b run x)));
        stops = λ x. h.stops (rw is (then_done _ run (then_refused _ x)));
      }

  -- No member is left: the set of those chosen, its cell written last.
  selecting_end : {n : ℕ} → members rest ≡ [] → now + n ≡ budget → top < length s →
      SelectedAs (select g whole steps) budget (set_at s top (21474836480 + chosen)) top to n
  unfolding select
  selecting_end {n} z counts room =
      let made = made_set s top s to chosen (values h.taken)
      (record { frame = same_refl (top + 1) s; stands = h.stands; ends = omega (arith, h.ends, length_codes (values h.taken)) })
      h.counted room (omega (arith, h.light)) in
      let l = made_ends made in
      record { chosen = h.taken; ends = rw (append-nil h.taken) at (h.goes {ws = []} {l = n} (rw z (returns [] counts))); stands = l.2; ending = l.1 }

-- The same answer under equal names.
pub chosen_as : {bs env s : List ℕ} {top n from count left : ℕ} {s' : List ℕ} {r r' : Formed} → r ≡ r' →
    EvaluatesChosen bs env s top n from count left s' r → EvaluatesChosen bs env s top n from count left s' r'
chosen_as q h = rw q at h

-- Before each turn of the loop.
pub record Choosing (bs env s₀ : List ℕ) (top n from count left x : ℕ) (s inner : List ℕ) (at more m to chosen : ℕ) : Type 0 where
  pub loop : Loop bs env s₀ top n from count left x s inner at more m
  pub on : (k : AsksEach bs env s₀ top n from count left) →
      Selecting (body_of k) (members k.range) k.asks.budget k.asks.steps s top (loop.rest k) (loop.now k) to chosen

module _ {bs env s₀ : List ℕ} {top n from count left : ℕ} (pre : EachReady bs env s₀ top n from count 256) where
  pub choosing_start : {more : ℕ} (x : ℕ) → more ≡ count → Choosing bs env s₀ top n from count left x s₀ env from more left (top + 1) 0
  unfolding code
  choosing_start x z = rw z (record {
    loop = loop_start x pre;
    on = λ k. record {
      taken = [];
      stands = record { inside = omega (arith, pre.space (omega arith)); cells = λ i p. absurd (omega arith) };
      ends = omega arith;
      counted = refl;
      light = omega (arith, k.listed.light);
      goes = λ e. e;
      stops = λ e. e;
    };
  })

  module _ {x : ℕ} {s inner : List ℕ} {at more m to chosen : ℕ} (h : Choosing bs env s₀ top n from count left x s inner at more m to chosen) where
    -- Where what has been chosen ends, and how many members it has.
    pub choosing_near : (top + 1 ≤ to) × (to ≤ top + 256) × (chosen ≤ 255)
    choosing_near =
        let o = h.on (some_asked left pre) in
        (omega (arith, o.ends), omega (arith, o.ends, o.light), omega (arith, o.counted, o.light, count_weights (values o.taken)))

    -- No member is left.
    pub choosing_end : more ≡ 0 → EvaluatesChosen bs env s₀ top n from count left (set_at s top (21474836480 + chosen)) (Placed top to m)
    choosing_end z =
        let u = h.loop in
        record {
          frame = record {
            same = λ i p. get_or-set_other s top i (21474836480 + chosen) 0 (λ e. omega arith) ∙ u.frame.same i p;
            kept = length-set s top (21474836480 + chosen) ∙ u.frame.kept;
          };
          bounds = (omega (arith, choosing_near.0), choosing_near.1);
          answer = λ k.
              selecting_end (h.on k) (none_left (u.rest k) (u.listed k) z) (u.counts k) (omega (arith, pre.space (omega arith), u.frame.kept));
        }

    pub choosing_low : top ≤ to
    choosing_low = omega (arith, choosing_near.0)

    -- A turn: the identifier x and the body c, as they have been read off the node.
    pub choosing_asks : {c t : ℕ} → 0 < more → x ≡ field_a bs n → c ≡ field_c bs n → 5 * n ≡ t →
        (5 * c + 3 < t) × (NodeReady bs (set_at inner x at) s to c × IsPred bs c)
    choosing_asks some name body e =
        body_asks pre h.loop some choosing_low name body e (λ _. omega (arith, pre.space (omega arith), choosing_near.1, h.loop.frame.kept))

    -- It has run.
    pub chose : {c : ℕ} {s₁ : List ℕ} {r : Held} → 0 < more → x ≡ field_a bs n → c ≡ field_c bs n → EvaluatesP bs (set_at inner x at) s to c m s₁ r →
        Ran h.loop 256 to c s₁ r
    chose some name body told = record { ready = pre; some = some; low = choosing_low; name = name; body = body; told = told }

module _ {bs env s₀ : List ℕ} {top n from count left x : ℕ} {s inner : List ℕ} {at more m to chosen c : ℕ} {s₁ : List ℕ} {r : Held}
    (h : Choosing bs env s₀ top n from count left x s inner at more m to chosen) (u : Ran h.loop 256 to c s₁ r) where
  -- The body is refused.
  pub choosing_refused : {p : Refusal} {l : ℕ} {f : Formed} → r ≡ Refused p l → StopOf r f → EvaluatesChosen bs env s₀ top n from count left s₁ f
  unfolding select
  choosing_refused {p} {l} is e = chosen_as (stop_is is e) (record {
    frame = body_frame u;
    bounds = tt;
    answer = λ k. (h.on k).stops (rw (ran_at u k).is (then_refused _ (body_ends u (Refused p l) is k)));
  })

  -- It is true or false, and the member ends at `end`.
  module _ {end : ℕ} (ends : EndsAt s₁ at end) where
    pub choosing_choose : CopyIfReady s₁ at end to
    choosing_choose =
        let k = some_asked left u.ready in
        let v = ran_at u k in
        let q = member_ends u ends k in
        let o = h.on k in
        record {
          forward = omega arith;
          inside = omega (arith, v.here.below, u.low, u.ready.space (omega arith), h.loop.frame.kept, u.told.frame.kept, o.ends, o.light);
          room = omega (arith, u.ready.space (omega arith), h.loop.frame.kept, u.told.frame.kept, o.ends, o.light, ap weights v.is);
        }

    pub choosing_next : {yes : Bool} {l : ℕ} {s₂ : List ℕ} {q fewer : ℕ} → fewer ≡ more - 1 → r ≡ Truth yes l → CopiedIf s₁ at end yes to s₂ q →
        Choosing bs env s₀ top n from count left x s₂ (set_at inner x at) end fewer l q (chosen + bool_byte yes)
    choosing_next {yes} {l} {s₂} {q} less is f = rw less (record {
      loop = loop_next u ends yes is f.frame;
      on = λ k.
          selecting_turn (h.on k) (ran_at u k) s₁ end yes s₂ q (omega (arith, u.ready.space (omega arith), h.loop.frame.kept)) u.told.frame
          (member_ends u ends k) (body_ends u (Truth yes l) is k) f;
    })
