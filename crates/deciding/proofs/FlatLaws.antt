-- One turn of flattening: a link to a link becomes the further link, which goes to a class, since the smaller variables' links do. It says
-- the same of types, since the first link's variable keeps its own.
use Prim.Native.Nat.{ℕ, ◌+◌, ◌<◌, ◌≤◌}
use mathlib.Core.List.{List}
use mathlib.Core.Logic.{◌≢◌, inl, inr}
use mathlib.Core.Path.{◌≡◌, refl, sym, ap, ◌∙◌, subst}
use native.Mathlib.Omega.{arith}
use native.Mathlib.Decide.{ℕ_discrete}
use lib.ListN.{get_or, set, length, length-set}
use lib.Seq.{get_or-set_same, get_or-set_other, set-get_or}
use Rattle.rules.specs.Types.{Ty}
use Rattle.terms.specs.Words.{link, term_of, word_form, word_right}
use Rattle.terms.specs.Terms.{TermIn, Terms, MeetsTerm, Satisfies, TermFrom, class_from, class_in}
use Rattle.terms.proofs.TermLaws.{term_link, link_below, class_known}
use Rattle.deciding.specs.Marking.{FlattenedTo, FlatTo}
use Rattle.deciding.proofs.Graphs.{class_down}

-- ---- the word that a link becomes
pub keep_other : (ts : List ℕ) (w : ℕ) → word_form w ≢ 4 → FlattenedTo ts w w
keep_other ts w ne = inl (refl, λ e. absurd (ne e))

module _ (ts : List ℕ) (w x : ℕ) (k : word_form w ≡ 4) (e : x ≡ word_right w) where
  pub keep_link : word_form (get_or ts x 0) ≢ 4 → FlattenedTo ts w w
  keep_link ne = inl (refl, λ k. rw (← e) ne)

  pub take_link : word_form (get_or ts x 0) ≡ 4 → FlattenedTo ts w (get_or ts x 0)
  take_link l = inr (k, rw (← e) l, rw e refl)

-- ---- the terms
module _ {n : ℕ} {ts₀ ts : List ℕ} {v : ℕ} (f : FlatTo n ts₀ ts v) (h : v < n) where
  abbrev t : Terms n ts
  t = f.says.terms

  abbrev u : ℕ
  u = word_right (get_or ts v 0)

  -- The word stays.
  stays : (word_form (get_or ts v 0) ≡ 4 → word_form (get_or ts u 0) ≢ 4) → (x : ℕ) → x < v + 1 → class_in ts (class_in ts x) ≡ class_in ts x
  stays s x hx = go (ℕ_discrete x v) (ℕ_discrete (word_form (get_or ts v 0)) 4)
    where
      go : Dec (x ≡ v) → Dec (word_form (get_or ts v 0) ≡ 4) → class_in ts (class_in ts x) ≡ class_in ts x
      go (no ne) d = f.flat x (omega arith)
      go (yes e) (no k) =
          let c : v ≡ class_in ts v = (class_known t h refl (omega (arith, k, (t.each v h).form))).0 in
          rw e (ap (class_in ts) (sym c))
      go (yes e) (yes k) =
          let b : u < v = link_below t h refl k in
          let l : term_of (get_or ts v 0) ≡ link u = term_link (get_or ts v 0) k in
          let c : u ≡ class_in ts u = (class_known t {v = u} (omega arith) refl (omega (arith, s k, (t.each u (omega arith)).form))).0 in
          rw (e, l) (sym c)

  -- The word becomes that of u, a link as well.
  module _ (k : word_form (get_or ts v 0) ≡ 4) (l : word_form (get_or ts u 0) ≡ 4) where
    abbrev w : ℕ
    w = get_or ts u 0

    abbrev ts' : List ℕ
    ts' = set ts v w

    lower : u < v
    lower = link_below t h refl k

    at_v : get_or ts' v 0 ≡ w
    at_v = get_or-set_same ts v w 0 (omega (arith, t.len))

    at : (x : ℕ) → x ≢ v → get_or ts' x 0 ≡ get_or ts x 0
    at x ne = get_or-set_other ts v x w 0 ne

    term_v : term_of (get_or ts v 0) ≡ link u
    term_v = term_link (get_or ts v 0) k

    term_u : term_of w ≡ link (word_right w)
    term_u = term_link w l

    lowest : word_right w < u
    lowest = link_below t (omega (arith, lower)) refl l

    each : (x : ℕ) → x < n → Dec (x ≡ v) → TermIn n x (get_or ts' x 0)
    each x hx (no ne) = rw (at x ne) (t.each x hx)
    each x hx (yes e) = rw (e, at_v) (record {
      form = omega (arith, l);
      code = λ o. absurd (omega (arith, l, o));
      parts = rw term_u (omega (arith, lower, lowest));
    })

    along : (θ : ℕ → Ty) → MeetsTerm θ (term_of w) (θ u) → θ u ≡ θ (word_right w)
    along θ m = rw term_u at m

    to : (θ : ℕ → Ty) → Satisfies θ n ts → Satisfies θ n ts'
    to θ s x hx = go (ℕ_discrete x v)
      where
        go : Dec (x ≡ v) → MeetsTerm θ (term_of (get_or ts' x 0)) (θ x)
        go (no ne) = rw (at x ne) (s x hx)
        go (yes e) =
            let m : θ v ≡ θ u = rw term_v at (s v h) in rw (e, at_v, term_u) (m ∙ along θ (s u (omega (arith, lower))))

    back : (θ : ℕ → Ty) → Satisfies θ n ts' → Satisfies θ n ts
    back θ s x hx = go (ℕ_discrete x v)
      where
        go : Dec (x ≡ v) → MeetsTerm θ (term_of (get_or ts x 0)) (θ x)
        go (no ne) = subst (λ (y : ℕ). MeetsTerm θ (term_of y) (θ x)) (at x ne) (s x hx)
        go (yes e) =
            let m : MeetsTerm θ (term_of w) (θ v) = subst (λ (y : ℕ). MeetsTerm θ (term_of y) (θ v)) at_v (s v h) in
            let a : θ v ≡ θ (word_right w) = rw term_u at m in
            let b : MeetsTerm θ (term_of w) (θ u) = subst (λ (y : ℕ). MeetsTerm θ (term_of y) (θ u)) (at u (omega (arith, lower)))
            (s u (omega (arith, lower))) in
            rw (e, term_v) (a ∙ sym (along θ b))

    old : (x : ℕ) → x < n → Dec (x ≡ v) → TermFrom n ts₀ (term_of (get_or ts' x 0))
    old x hx (no ne) = rw (at x ne) (f.says.old x hx)
    old x hx (yes e) = rw (e, at_v, term_u) tt

    class_at : (x : ℕ) → x < v → class_in ts' x ≡ class_in ts x
    class_at x hx = ap (λ (y : ℕ). class_from x (term_of y)) (at x (omega arith))

    class_v : class_in ts' v ≡ class_in ts u
    class_v = ap (λ (y : ℕ). class_from v (term_of y)) at_v ∙ rw (term_u) refl

    -- The class of x in ts goes to itself in ts' too.
    own : (x : ℕ) → x < v → class_in ts' (class_in ts x) ≡ class_in ts x
    own x hx = class_at (class_in ts x) (omega (arith, class_down t x (omega arith))) ∙ f.flat x hx

    flat : (x : ℕ) → x < v + 1 → Dec (x ≡ v) → class_in ts' (class_in ts' x) ≡ class_in ts' x
    flat x hx (no ne) = rw (class_at x (omega arith)) (own x (omega arith))
    flat x hx (yes e) = rw (e, class_v) (own u lower)

    shorter : FlatTo n ts₀ ts' (v + 1)
    shorter = record {
      says = record {
        terms = record { len = length-set ts v w ∙ t.len; small = t.small; each = λ x hx. each x hx (ℕ_discrete x v) };
        iff = λ θ. ((λ p. to θ ((f.says.iff θ).0 p)), (λ s. (f.says.iff θ).1 (back θ s)));
        old = λ x hx. old x hx (ℕ_discrete x v);
      };
      flat = λ x hx. flat x hx (ℕ_discrete x v);
    }

  pub flat_turn : (r : ℕ) → FlattenedTo ts (get_or ts v 0) r → FlatTo n ts₀ (set ts v r) (v + 1)
  flat_turn r (inl s) = rw (s.0, set-get_or ts v 0) (record { says = f.says; flat = stays s.1 })
  flat_turn r (inr s) = rw s.2 (shorter s.0 s.1)

  pub flat_asks : Terms (length ts) ts × (v < length ts)
  flat_asks = rw t.len (t, h)

pub flat_end : {n : ℕ} {ts₀ ts : List ℕ} {v : ℕ} → FlatTo n ts₀ ts v → n ≤ v → FlatTo n ts₀ ts n
flat_end f h = record { says = f.says; flat = λ u hu. f.flat u (omega arith) }
