-- The body of a binder: its environment at a member of the range, what the loop's answer is asked for, and the members one after the other.
use Rattle.visits.proofs.Terms.{ℕ, ◌+◌, ◌-◌, ◌*◌, ◌≤◌, ◌<◌, Bool, List, [], ◌≡◌, refl, sym, ◌∙◌, subst, arith, length, get_or, set_at, length-set, eq-eqb, ne_eqb, none, ◌▸◌, ◌with◌≔◌, NewFirsts}
use Rattle.visits.proofs.Terms.{CellsFit, Value, Values, weight, members, table_of, Env, code, codes, Stands, Same, SomeAt, EndsAt, stands_frame, same_refl, same_trans, length_code, length_codes, Builds, GoodAt, good_fits, good_inside, Held, Truth, HeldAs, Listed, field_a, field_c, entry_place, FunctionEntry, IsPred, cells_for, Binds, NodeReady, AsksEach, body_of, EachReady, truth_at, EvaluatesP, ℕ_discrete, get_or-set_same, get_or-set_other, with_good, stands_front, stands_back}
use Rattle.visits.proofs.NodeLaws.{sizes_small, good_frame, binds_frame, ready_at, some_asks, held_as}

-- The environment of the body: the binder's own, but for its name x.
pub record Inner (env inner : List ℕ) (x : ℕ) : Type 0 where
  pub long : length inner ≡ 32
  pub else : (y : ℕ) → (y ≡ x → ⊥) → get_or inner y 0 ≡ get_or env y 0

pub inner_set : {env inner : List ℕ} {x : ℕ} (at : ℕ) → Inner env inner x → Inner env (set_at inner x at) x
inner_set {env} {inner} {x} at h = record { long = length-set inner x at ∙ h.long; else = λ y n. get_or-set_other inner x y at 0 n ∙ h.else y n }

-- A member's place bound to x.
binds_body : {bs s : List ℕ} {top : ℕ} {env inner : List ℕ} {ρ : Env} {x at : ℕ} {w : Value} → Inner env inner x → x < 32 → at < 65536 →
    Binds bs s top env ρ → GoodAt (table_of bs).sizes s top at w → Binds bs s top (set_at inner x at) (ρ with x ≔ w)
binds_body {bs} {s} {top} {env} {inner} {ρ} {x} {at} {w} i l small b g = record {
  at = λ y h. (go y h (ℕ_discrete y x)).0;
  good = with_good (table_of bs).sizes ρ x w b.good g.good;
  functions = λ y h. (go y h (ℕ_discrete y x)).1;
  constants = b.constants;
  low = b.low;
}
  where
    here : (y : ℕ) → y ≡ x → get_or (set_at inner x at) y 0 ≡ at
    here y e = rw e (get_or-set_same inner x at 0 (omega (arith, i.long)))

    other : (y : ℕ) → (y ≡ x → ⊥) → get_or (set_at inner x at) y 0 ≡ get_or env y 0
    other y n = get_or-set_other inner x y at 0 n ∙ i.else y n

    go : (y : ℕ) → y < 32 → Dec (y ≡ x) → GoodAt (table_of bs).sizes s top (entry_place (get_or (set_at inner x at) y 0)) ((ρ with x ≔ w) y) ×
        (FunctionEntry (get_or (set_at inner x at) y 0) → NewFirsts ((ρ with x ≔ w) y))
    go y h (yes e) =
        let p : entry_place (get_or (set_at inner x at) y 0) ≡ at = omega (arith, here y e, small) in
        (rw (p, eq-eqb x y (sym e), ◌with◌≔◌) g, λ m. absurd (omega (arith, here y e, small, m)))
    go y h (no n) = rw (other y n, ne_eqb x y (λ e. n (sym e)), ◌with◌≔◌) (b.at y h, b.functions y h)

-- Values below `top` stay.
pub listed_frame : {gs s s' : List ℕ} {top from n : ℕ} {vs : Values} → Same top s s' → Listed gs s top from n vs → Listed gs s' top from n vs
listed_frame {gs} {s} {s'} {top} {from} {n} {vs} e l = record {
  stands = stands_frame top s s' from (codes vs) e (omega (arith, l.below, length_codes vs)) l.stands;
  counted = l.counted;
  below = l.below;
  good = l.good;
  light = l.light;
}

-- The loop may begin, so there is something to ask.
abbrev pub some_asked : {bs env s : List ℕ} {top n from count spare : ℕ} (left : ℕ) → EachReady bs env s top n from count spare →
    AsksEach bs env s top n from count left
some_asked {n = n} left r = record { asks = some_asks n left r.ready; range = r.range; listed = r.listed }

-- The first of the values, and those behind it.
pub record First (gs s : List ℕ) (top from n : ℕ) (vs : Values) : Type 0 where
  pub value : Value
  pub rest : Values
  pub is : vs ≡ (value ▸ rest)
  pub here : GoodAt gs s top from value
  pub behind : Listed gs s top (from + weight value) (n - 1) rest

first_member : {gs s : List ℕ} {top from n : ℕ} (vs : Values) → Listed gs s top from n vs → 0 < n → First gs s top from n vs
unfolding code
first_member {gs} {s} {top} {from} {n} none l h = absurd (omega (arith, l.counted))
first_member {gs} {s} {top} {from} {n} (v ▸ vs) l h = record {
  value = v;
  rest = vs;
  is = refl;
  here = record { stands = stands_front s from (code v) (codes vs) l.stands; below = omega (arith, l.below); good = l.good.0 };
  behind = record {
    stands = subst (λ (i : ℕ). Stands s (from + i) (codes vs)) (length_code v) (stands_back s from (code v) (codes vs) l.stands);
    counted = omega (arith, l.counted);
    below = omega (arith, l.below);
    good = l.good.1;
    light = omega (arith, l.light);
  };
}

-- No value is left.
pub none_left : {gs s : List ℕ} {top from n : ℕ} (vs : Values) → Listed gs s top from n vs → n ≡ 0 → members vs ≡ []
none_left {gs} {s} {top} {from} {n} none l h = refl
none_left {gs} {s} {top} {from} {n} (v ▸ vs) l h = absurd (omega (arith, l.counted))

-- Before each turn of a loop: the rest of the range stands at `at`, and `now` visits have been made, where it is asked.
pub record Loop (bs env s₀ : List ℕ) (top n from count left x : ℕ) (s inner : List ℕ) (at more m : ℕ) : Type 0 where
  pub frame : Same top s₀ s
  pub inside : Inner env inner x
  pub rest : AsksEach bs env s₀ top n from count left → Values
  pub listed : (k : AsksEach bs env s₀ top n from count left) → Listed (table_of bs).sizes s top at more (rest k)
  pub now : AsksEach bs env s₀ top n from count left → ℕ
  pub counts : (k : AsksEach bs env s₀ top n from count left) → now k + m ≡ k.asks.budget

abbrev pub loop_start : {bs env s : List ℕ} {top n from count left spare : ℕ} (x : ℕ) → EachReady bs env s top n from count spare →
    Loop bs env s top n from count left x s env from count left
loop_start {env = env} {s = s} {top = top} x r = record {
  frame = same_refl top s;
  inside = record { long = r.ready.entries; else = λ y n. refl };
  rest = λ k. k.range;
  listed = λ k. k.listed;
  now = λ k. k.asks.steps;
  counts = λ k. k.asks.counts;
}

-- A turn: the member at `at` is bound to x, and the body, node c, is to run above `to`.
module _ {bs env s₀ : List ℕ} {top n from count left x : ℕ} {s inner : List ℕ} {at more m spare : ℕ} (r : EachReady bs env s₀ top n from count spare)
    (i : Loop bs env s₀ top n from count left x s inner at more m) (some : 0 < more) where
  pub member : (k : AsksEach bs env s₀ top n from count left) → First (table_of bs).sizes s top at more (i.rest k)
  member k = first_member (i.rest k) (i.listed k) some

  pub member_low : at < 65536
  member_low = omega (arith, good_inside (sizes_small bs r.ready.readable) (member (some_asked left r)).here, i.frame.kept, r.ready.small)

  module _ {to : ℕ} (low : top ≤ to) (ex : x ≡ field_a bs n) {c : ℕ} (ey : c ≡ field_c bs n) where
    member_binds : (k : AsksEach bs env s₀ top n from count left) → Binds bs s to (set_at inner x at) (k.asks.values with x ≔ (member k).value)
    member_binds k =
        binds_body i.inside (omega (arith, ex, r.name)) member_low (binds_frame to i.frame low k.asks.binds)
        (good_frame to (same_refl top s) low (member k).here)

    -- What the body's evaluator asks, where the measures are those of the cycle.
    pub body_asks : {t : ℕ} → 5 * n ≡ t → (Builds bs → to + cells_for bs (field_c bs n) ≤ length s) →
        (5 * c + 3 < t) × (NodeReady bs (set_at inner x at) s to c × IsPred bs c)
    body_asks e room =
        let b = member_binds (some_asked left r) in
        let ready = ready_at r.ready (field_c bs n) r.ready.node room i.frame.kept (inner_set at i.inside).long b in
        (omega (arith, r.deeper, ey), rw ey (ready, r.is))

-- It has run.
pub record Ran {bs env s₀ : List ℕ} {top n from count left x : ℕ} {s inner : List ℕ} {at more m : ℕ}
    (i : Loop bs env s₀ top n from count left x s inner at more m) (spare to c : ℕ) (s' : List ℕ) (h : Held) : Type 0 where
  pub ready : EachReady bs env s₀ top n from count spare
  pub some : 0 < more
  pub low : top ≤ to
  pub name : x ≡ field_a bs n
  pub body : c ≡ field_c bs n
  pub told : EvaluatesP bs (set_at inner x at) s to c m s' h

module _ {bs env s₀ : List ℕ} {top n from count left x : ℕ} {s inner : List ℕ} {at more m : ℕ}
    {i : Loop bs env s₀ top n from count left x s inner at more m} {spare to c : ℕ} {s' : List ℕ} {h : Held} (u : Ran i spare to c s' h) where
  -- The member that it has run at.
  abbrev pub ran_at : (k : AsksEach bs env s₀ top n from count left) → First (table_of bs).sizes s top at more (i.rest k)
  ran_at = member u.ready i u.some

  pub body_ends : (h₀ : Held) → h ≡ h₀ → (k : AsksEach bs env s₀ top n from count left) → HeldAs (body_of k (ran_at k).value (i.now k)) k.asks.budget h₀
  body_ends h₀ e k =
      let j = k.asks in
      let v = (ran_at k).value in
      let t = i.now k in
      let a = (held_as refl e u.told).answer j.depth (j.values with x ≔ v) j.budget t (omega (arith, u.body, u.ready.deeper, j.deep)) (i.counts k)
      (member_binds u.ready i u.some u.low u.name u.body k) in
      subst (λ (z : ℕ). HeldAs (truth_at bs j.budget j.depth z (j.values with field_a bs n ≔ v) t) j.budget h₀) u.body
      (subst (λ (z : ℕ). HeldAs (truth_at bs j.budget j.depth c (j.values with z ≔ v) t) j.budget h₀) u.name a)

  pub body_frame : Same top s₀ s'
  body_frame = same_trans top to s₀ s s' i.frame u.told.frame u.low

  -- The member stands as before, and fits.
  pub under : Same top s s'
  under = same_trans top to s s s' (same_refl top s) u.told.frame u.low

  stays : (k : AsksEach bs env s₀ top n from count left) → Stands s' at (code (ran_at k).value) × CellsFit (ran_at k).value
  stays k =
      let g = (ran_at k).here in
      ((good_frame top under (omega arith) g).stands, good_fits (sizes_small bs u.ready.ready.readable) _ g.good)

  pub member_at : SomeAt s' at
  member_at = let k = some_asked left u.ready in record { value = (ran_at k).value; stands = (stays k).0; fits = (stays k).1 }

  module _ {end : ℕ} (z : EndsAt s' at end) where
    pub member_ends : (k : AsksEach bs env s₀ top n from count left) → end ≡ at + weight (ran_at k).value
    member_ends k = z (ran_at k).value (stays k).0 (stays k).1

    -- It is true or false; s'' is the arena with what the loop itself has written, above `to`, and the next member stands at `end`.
    abbrev pub loop_next : (b : Bool) {l : ℕ} {s'' : List ℕ} → h ≡ Truth b l → Same to s' s'' →
        Loop bs env s₀ top n from count left x s'' (set_at inner x at) end (more - 1) l
    loop_next b {l} {s''} e f = record {
      frame = same_trans top to s₀ s' s'' body_frame f u.low;
      inside = inner_set at i.inside;
      rest = λ k. (ran_at k).rest;
      listed = λ k. rw (member_ends k) (listed_frame (same_trans top to s s' s'' under f u.low) (ran_at k).behind);
      now = λ k. (body_of k (ran_at k).value (i.now k)).steps;
      counts = λ k. (body_ends (Truth b l) e k).steps;
    }
