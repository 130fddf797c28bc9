-- The loop over the members of a quantifier's range, turn by turn, and the quantifier's node: what is given for the rest of the range is
-- given for the whole.
use Rattle.visits.proofs.Terms.{ℕ, ◌+◌, ◌-◌, ◌*◌, ◌<◌, Bool, true, false, not, cond, Bool·beq, List, [], ◌∷◌, some, ◌≡◌, refl, sym, ap, ◌∙◌, arith, eqb, false≢true, set_at, Quant, quantify, quant_of, EvaluatesEach}
use Rattle.visits.proofs.Terms.{Value, members, for_all, for_some, quant, kind_of, End, done, refused, Run, M, holdsᵖ, EndsAt, same_refl, same_trans, code_of_law, Refusal, RefusalOf, Held, Truth, Refused, Formed, Stopped, Some, None, EndsWith, HeldAs, field_a, field_b, field_c, IsPred, RangeAt, NodeReady, Visited, Sort, AsksEach, body_of, EachReady, EvaluatesP, EvaluatesE, quant_code}
use native.Mathlib.Nat.{le_refl}
use Rattle.visits.proofs.RunLaws.{then_done, then_refused, returns}
use Rattle.visits.proofs.NodeLaws.{held_as, formed_as, refusal_is, held_by}
use Rattle.visits.proofs.BodyLaws.{none_left, Loop, loop_start, body_asks, Ran, ran_at, loop_next, body_ends, body_frame}
use Rattle.visits.proofs.RangeLaws.{Binder, Ranged, range_stops, range_unlike, each_ready, in_range_law, range_on}

-- Two truths differ, or are the same.
pub compared : (a b : Bool) {r : Bool} → not (Bool·beq a b) ≡ r → a ≡ cond r (not b) b
compared true true e = rw (← e)
compared true false e = rw (← e)
compared false true e = rw (← e)
compared false false e = rw (← e)

-- The answer at a member ends the loop: it is refused, or decides.
abbrev pub EndsLoop : Bool → Held → Type 0
EndsLoop all (Truth b l) = b ≡ not all
EndsLoop all (Refused r l) = Unit {0}

pub refusal_ends : (all : Bool) {h : Held} {r : Refusal} {l : ℕ} → h ≡ Refused r l → EndsLoop all h
refusal_ends all e = rw e tt

-- A member that does not end it, one that does, and no member.
module _ (g : Value → M Bool) where
  quantify_on : {budget left l : ℕ} (all : Bool) (v : Value) (vs : List Value) (s : ℕ) {e : End Bool} → EndsWith (g v s) (done all) budget l →
      EndsWith (quantify (quant_of all) g vs (g v s).steps) e budget left → EndsWith (quantify (quant_of all) g (v ∷ vs) s) e budget left
  unfolding quantify
  quantify_on true v vs s h k = then_done _ h k
  quantify_on false v vs s h k = then_done _ h k

  quantify_ends : (budget : ℕ) (all : Bool) (v : Value) (vs : List Value) (s : ℕ) (h : Held) → EndsLoop all h → HeldAs (g v s) budget h →
      HeldAs (quantify (quant_of all) g (v ∷ vs) s) budget h
  unfolding quantify
  quantify_ends budget true v vs s (Truth true l) d h = absurd (false≢true (sym d))
  quantify_ends budget true v vs s (Truth false l) d h = then_done _ h (returns false h.steps)
  quantify_ends budget false v vs s (Truth true l) d h = then_done _ h (returns true h.steps)
  quantify_ends budget false v vs s (Truth false l) d h = absurd (false≢true d)
  quantify_ends budget true v vs s (Refused r l) d h = then_refused _ h
  quantify_ends budget false v vs s (Refused r l) d h = then_refused _ h

  quantify_none : {budget left : ℕ} (all : Bool) (s : ℕ) → s + left ≡ budget → EndsWith (quantify (quant_of all) g [] s) (done all) budget left
  unfolding quantify
  quantify_none true s c = returns true c
  quantify_none false s c = returns false c

-- Before each turn of the loop: what the quantifier gives for the rest of the range it gives for the whole.
pub record Turning (bs env s₀ : List ℕ) (top : ℕ) (all : Bool) (node from count left x : ℕ) (s inner : List ℕ) (at more n : ℕ) : Type 0 where
  pub loop : Loop bs env s₀ top node from count left x s inner at more n
  pub gives : (k : AsksEach bs env s₀ top node from count left) (e : End Bool) (l : ℕ) →
      EndsWith (quantify (quant_of all) (body_of k) (members (loop.rest k)) (loop.now k)) e k.asks.budget l →
      EndsWith (quantify (quant_of all) (body_of k) (members k.range) k.asks.steps) e k.asks.budget l

-- Before the first turn.
pub turning_start : {bs env s : List ℕ} {top node from count left more : ℕ} (all : Bool) (x : ℕ) → more ≡ count →
    EachReady bs env s top node from count 0 → Turning bs env s top all node from count left x s env from more left
turning_start all x z r = rw z (record { loop = loop_start x r; gives = λ k e l h. h })

-- A turn: the member at `at` is bound to x, and the body, node b, is to run.
pub member_asks : {bs env s₀ : List ℕ} {top : ℕ} {all : Bool} {node from count left x : ℕ} {s inner : List ℕ} {at more n b t : ℕ} →
    EachReady bs env s₀ top node from count 0 → Turning bs env s₀ top all node from count left x s inner at more n → 0 < more → x ≡ field_a bs node →
    b ≡ field_c bs node → 5 * node ≡ t → (5 * b + 3 < t) × (NodeReady bs (set_at inner x at) s top b × IsPred bs b)
member_asks {top = top} r i l ex ey e = body_asks r i.loop l (le_refl top) ex ey e (λ b. omega (arith, r.ready.room b, i.loop.frame.kept))

-- It has run.
pub turned : {bs env s₀ : List ℕ} {top : ℕ} {all : Bool} {node from count left x : ℕ} {s inner : List ℕ} {at more n b : ℕ} {s' : List ℕ} {h : Held} →
    EachReady bs env s₀ top node from count 0 → (i : Turning bs env s₀ top all node from count left x s inner at more n) → 0 < more →
    x ≡ field_a bs node → b ≡ field_c bs node → EvaluatesP bs (set_at inner x at) s top b n s' h → Ran i.loop 0 top b s' h
turned {top = top} r i left name body told =
    record { ready = r; some = left; low = le_refl top; name = name; body = body; told = told }

-- Any end of one run is that of the other.
held_on : {x y : Run Bool} {budget : ℕ} (r : Held) → ((e : End Bool) (l : ℕ) → EndsWith x e budget l → EndsWith y e budget l) →
    HeldAs x budget r → HeldAs y budget r
held_on (Truth b l) g h = g (done b) l h
held_on (Refused r l) g h = g (refused r.number r.place) l h

module _ {bs env s₀ : List ℕ} {top : ℕ} {all : Bool} {node from count left x : ℕ} {s inner : List ℕ} {at more n b : ℕ} {s' : List ℕ} {h : Held}
    (i : Turning bs env s₀ top all node from count left x s inner at more n) (u : Ran i.loop 0 top b s' h) where
  -- The body is refused, or decides.
  pub member_ends : (h₀ : Held) → h ≡ h₀ → EndsLoop all h₀ → EvaluatesEach bs env s₀ top node from count left (quant_of all) s' h₀
  member_ends h₀ e d = record {
    frame = body_frame u;
    answer = λ k.
        let v = ran_at u k in
        held_on h₀ (i.gives k)
        (rw v.is (quantify_ends (body_of k) k.asks.budget all v.value (members v.rest) (i.loop.now k) h₀ d (body_ends u h₀ e k)));
  }

  -- The body does not decide, and the next member stands at `end`.
  pub turning_on : (got : Bool) (l end : ℕ) {fewer : ℕ} → fewer ≡ more - 1 → h ≡ Truth got l → got ≡ all → EndsAt s' at end →
      Turning bs env s₀ top all node from count left x s' (set_at inner x at) end fewer l
  turning_on got l end less e q z =
      let d : h ≡ Truth all l = e ∙ ap (λ (z : Bool). Truth z l) q in
      rw less (record {
        loop = loop_next u z all d (same_refl top s');
        gives = λ k e₁ l₁ h₁.
            let v = ran_at u k in
            i.gives k e₁ l₁ (rw v.is (quantify_on (body_of k) all v.value (members v.rest) (i.loop.now k) (body_ends u (Truth all l) d k) h₁));
      })

-- After the last turn.
pub members_done : {bs env s₀ : List ℕ} {top : ℕ} {all : Bool} {node from count left x : ℕ} {s inner : List ℕ} {at more n : ℕ} →
    Turning bs env s₀ top all node from count left x s inner at more n → more ≡ 0 →
    EvaluatesEach bs env s₀ top node from count left (quant_of all) s (Truth all n)
members_done {all = all} {n = n} i e =
    let u = i.loop in
    record {
      frame = u.frame;
      answer = λ k. i.gives k (done all) n (rw (none_left (u.rest k) (u.listed k) e) (quantify_none (body_of k) all (u.now k) (u.counts k)));
    }

-- The quantifier of a kind.
quant_of_law : (k : ℕ) (j : Quant) → kind_of k ≡ some (quant j) → quant_of (eqb k 10) ≡ j
quant_of_law k j e = rw (code_of_law k (quant j) e) (elim j as (λ j. quant_of (eqb (quant_code j) 10) ≡ j) [ for_all ↦ refl | for_some ↦ refl ])

-- The evaluation of a quantifier's node, whose range is the node `a`.
pub quant_binder : {bs env s : List ℕ} {top k n left a : ℕ} (d : Visited bs env s top k n left × Sort quant k) → a ≡ field_b bs n →
    Binder bs env s top k n left a (quant d.1.0)
quant_binder d e = record { visited = d.0; code = d.1.1; fields = refl; word = e }

module _ {bs env s : List ℕ} {top k n left a : ℕ} {j : Quant} where
  -- The range is refused.
  pub quant_refused : Binder bs env s top k n left a (quant j) → {s' : List ℕ} {r : Formed} {o : Held} {p : Refusal} {l : ℕ} →
      EvaluatesE bs env s top a (left - 1) s' r → r ≡ Stopped p l → RefusalOf r o → EvaluatesP bs env s top n left s' o
  unfolding holdsᵖ
  quant_refused b h e q =
      held_as refl (refusal_is e q) (held_by b.visited (quant j) b.code h.frame (λ i. range_stops b i _ (formed_as refl e h)))

  module _ {s' : List ℕ} {at next l : ℕ} (g : Ranged bs env s top k n left a (quant j) s' at next l) where
    -- The range is no set.
    pub quant_unlike : RangeAt s' at None → EvaluatesP bs env s top n left s' (Refused (record { number = 15; place = n }) l)
    unfolding holdsᵖ
    quant_unlike y = held_by g.binder.visited (quant j) g.binder.code g.placed.frame (λ i. range_unlike g.binder g.placed y i _)

    module _ {m : ℕ} (y : RangeAt s' at (Some m)) where
      pub quant_asks : {t : ℕ} → 5 * n + 1 ≡ t → (5 * n < t) × EachReady bs env s' next n (at + 1) m 0
      quant_asks e = (omega arith, each_ready g.binder g.placed y 0 (omega arith) (λ z. absurd (omega arith)))

      pub quant_done : {s'' : List ℕ} {r' : Held} → EvaluatesEach bs env s' next n (at + 1) m l (quant_of (eqb k 10)) s'' r' →
          EvaluatesP bs env s top n left s'' r'
      unfolding holdsᵖ
      quant_done {s''} {r'} u =
          let b = g.binder in
          let h = g.placed in
          held_by b.visited (quant j) b.code (same_trans top next s s' s'' h.frame u.frame h.bounds.0) (λ i.
          held_on r' (λ x v z. range_on b h y i _ z) (rw (quant_of_law k j b.code) at (u.answer (in_range_law b h y i))))
