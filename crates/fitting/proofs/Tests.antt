-- Refusal 15 at the lists of operand types that the rules have, as questions on the types of the operands.
use Prim.Native.Nat.{ℕ, ◌+◌, ◌/◌, ◌%◌, ◌<◌}
use mathlib.Core.Bool.{Bool, true, false, ◌&&◌, cond, and-true, and-false}
use mathlib.Core.List.{List, [], ◌∷◌}
use mathlib.Core.Logic.{◌≢◌, inl, inr}
use mathlib.Core.Path.{◌≡◌, refl, sym, ap, ◌∙◌, subst}
use native.Mathlib.Omega.{arith}
use lib.Dec.{T, eqb, eqb→eq}
use lib.ListN.{get_or}
use borrow.Author.Tests.{eq-eqb, ne_eqb, eqb-true}
use Rattle.rules.specs.Types.{whole, Ty, ◌⊗◌}
use Rattle.rules.specs.Values.{num, truth, element, Value, scalar, pair, set, Values, none, ◌▸◌, scalar_tag, tag}
use Rattle.rules.specs.Rules.{t̂, û, P̂, ◌×̂◌, numᵖ}
use Rattle.rules.specs.Fits.{TypeSet, every, no_type, atomˢ, powˢ, ◌×ˢ◌, ◌⊓◌, types_of, shared_types, inhabited, anything, nothing_fits, asked, fits}
use Rattle.laws.proofs.FitsLaws.{◌⊑◌, ⊓_split, inhabited→some, some→inhabited}
use Rattle.arena.specs.Code.{cell_size, AllPairs}
use Rattle.fitting.specs.Agree.{meets, agree, TypedAt, RunAt, SomeTyped, Agreed, AgreedWith, Full, Few, Members, SetHere}
use Rattle.fitting.specs.Tests.{FitOne, FitTwo, Both, PairsAndOne, AgreedLefts}
use Rattle.fitting.proofs.Sharing.{meets→share, share→meets, no_meet, meets_same, tag_of, tag_type, as_product, ⊓_every, ground, narrowed}
use Rattle.laws.proofs.EndLaws.{T_true, t_eqb}
use Rattle.fitting.proofs.Cells.{scalar_low_law, tag_pair, test_is, as_pair, as_set, set_run, pair_parts, PairHere, pair_here, as_run, run_head, no_run, run_of, OneMeets, tag_is}
use Rattle.rules.proofs.Basics.{bool_eq}

-- The types of a set's members; none where the value is no set.
abbrev pub inner : Value → TypeSet
inner (scalar x) = no_type
inner (pair v w) = no_type
inner (set vs) = shared_types vs

-- What the patterns leave for t and u of the types of a value.
set_asked : (v : Value) → asked (P̂ t̂) (types_of v) ≡ (inner v, every)
set_asked (scalar x) = refl
set_asked (pair x y) = refl
set_asked (set vs) = refl

relation_asked : (v : Value) → asked (P̂ (t̂ ×̂ û)) (types_of v) ≡ asked (t̂ ×̂ û) (inner v)
relation_asked (scalar x) = refl
relation_asked (pair x y) = refl
relation_asked (set vs) = refl

number_asked : (v : Value) → asked (numᵖ whole) (types_of v) ≡ cond (eqb (tag v) 1) anything nothing_fits
number_asked (scalar (num whole i)) = refl
number_asked (scalar (truth b)) = refl
number_asked (scalar (element g k)) = refl
number_asked (pair x y) = refl
number_asked (set vs) = refl

-- The types of pairs in p whose left part has a type in q.
pairs_left : (p q : TypeSet) →
    (inhabited ((asked (t̂ ×̂ û) p).0 ⊓ (q ⊓ every)) && inhabited ((asked (t̂ ×̂ û) p).1 ⊓ every)) ≡ meets p (q ×ˢ every)
unfolding meets
pairs_left every q = rw (⊓_every q)
pairs_left no_type q = refl
pairs_left (atomˢ a) q = refl
pairs_left (powˢ p) q = refl
pairs_left (p₁ ×ˢ p₂) q = rw (⊓_every p₁, ⊓_every q)

-- The types of all products.
abbrev any_pair : TypeSet
any_pair = every ×ˢ every

-- What each list asks.
module _ (v : Value) where
  pub fits_set : fits (P̂ t̂ ∷ []) (v ∷ []) ≡ inhabited (inner v)
  unfolding fits
  fits_set = rw (set_asked v, ⊓_every (inner v)) (and-true _)

  fits_relation : fits (P̂ (t̂ ×̂ û) ∷ []) (v ∷ []) ≡ meets (inner v) any_pair
  unfolding fits
  fits_relation = rw (relation_asked v) (pairs_left (inner v) every)

  module _ (w : Value) where
    pub fits_alike : fits (t̂ ∷ t̂ ∷ []) (v ∷ w ∷ []) ≡ agree v w
    unfolding fits agree meets
    fits_alike = rw (⊓_every (types_of w)) (and-true _)

    pub fits_belongs : fits (t̂ ∷ P̂ t̂ ∷ []) (v ∷ w ∷ []) ≡ meets (types_of v) (inner w)
    unfolding fits meets
    fits_belongs = rw (set_asked w, ⊓_every (inner w)) (and-true _)

    pub fits_alike_sets : fits (P̂ t̂ ∷ P̂ t̂ ∷ []) (v ∷ w ∷ []) ≡ meets (inner v) (inner w)
    unfolding fits meets
    fits_alike_sets = rw (set_asked v, set_asked w, ⊓_every (inner w)) (and-true _)

    fits_applies : fits (P̂ (t̂ ×̂ û) ∷ t̂ ∷ []) (v ∷ w ∷ []) ≡ meets (inner v) (types_of w ×ˢ every)
    unfolding fits
    fits_applies = rw (relation_asked v) (pairs_left (inner v) (types_of w))

pub fits_sets : (v w : Value) → fits (P̂ t̂ ∷ P̂ û ∷ []) (v ∷ w ∷ []) ≡ (inhabited (inner v) && inhabited (inner w))
unfolding fits meets
fits_sets v (scalar x) = rw (set_asked v, no_meet (inner v) no_type (λ y. y.2)) (sym (and-false (inhabited (inner v))))
fits_sets v (pair x y) = rw (set_asked v, no_meet (inner v) no_type (λ y. y.2)) (sym (and-false (inhabited (inner v))))
fits_sets v (set ws) = rw (set_asked v, ⊓_every (inner v), ⊓_every (shared_types ws))

-- Values of the arena by what the tests ask.
pub set_cell : {s : List ℕ} {a : ℕ} {v : Value} → TypedAt s a v → eqb (get_or s a 0 / cell_size) 5 ≡ inhabited (inner v)
set_cell {v = v} h = rw (tag_is h) (go v h.typed)
  where
    go : (v : Value) → T (inhabited (types_of v)) → eqb (tag v) 5 ≡ inhabited (inner v)
    go (scalar x) k = ne_eqb (scalar_tag x) 5 (λ e. omega (arith, scalar_low_law x))
    go (pair x y) k = refl
    go (set vs) k = sym ((T_true (inhabited (shared_types vs))).0 k)

-- A set shares a type with what has members that do.
pub inner_agree : (vs : Values) (w : Value) → agree (set vs) w ≡ meets (shared_types vs) (inner w)
unfolding agree meets
inner_agree vs (scalar x) = sym (no_meet (shared_types vs) no_type (λ y. y.2))
inner_agree vs (pair x y) = sym (no_meet (shared_types vs) no_type (λ y. y.2))
inner_agree vs (set ws) = refl

-- From the answer of the test for sets.
module _ {s : List ℕ} {a : ℕ} {r : Bool} (f : FitOne (P̂ t̂ ∷ []) s a r) where
  pub set_inner : {v : Value} → TypedAt s a v → inhabited (inner v) ≡ r
  set_inner {v} h = sym (f v h ∙ fits_set v)

  pub set_here : SomeTyped s a → r ≡ true → SetHere s a
  set_here (v, h) e = record { value = (v, h); is_set = eqb-true (get_or s a 0 / cell_size) 5 (set_cell h ∙ set_inner h ∙ e) }

  pub set_not : {v : Value} → TypedAt s a v → r ≡ false → (p : TypeSet) → meets p (inner v) ≡ false
  set_not {v} h e p = no_meet p (inner v) (λ x. subst T (set_inner h ∙ e) (some→inhabited (inner v) x.0 x.2))

module _ {s : List ℕ} {a b : ℕ} where
  pub belongs_fits : {m : ℕ} {r : Bool} → SetHere s b → Members s b m → AgreedWith s a (b + 1) m r → FitTwo (t̂ ∷ P̂ t̂ ∷ []) s a b r
  belongs_fits p c g v w h k =
      let (ws, e, x) = as_set k p.is_set in
      let y = c ws x in
      let i : inner w ≡ shared_types ws = ap inner e in
      g v y.few h y.run ∙ meets_same (types_of v) (types_of v) (shared_types y.few) (shared_types ws) (λ q. refl) y.same ∙
      rw (fits_belongs v w, i)

  pub numbers_not : get_or s a 0 / cell_size ≢ 1 → FitTwo (numᵖ whole ∷ numᵖ whole ∷ []) s a b false
  unfolding fits
  numbers_not n v w h k = rw (number_asked v, ne_eqb (tag v) 1 (λ f. n (tag_is h ∙ f)))

  pub numbers_fit : get_or s a 0 / cell_size ≡ 1 → FitTwo (numᵖ whole ∷ numᵖ whole ∷ []) s a b (eqb (get_or s b 0 / cell_size) 1)
  unfolding fits
  numbers_fit m v w h k = rw (number_asked v, number_asked w, eq-eqb (tag v) 1 (sym (tag_is h) ∙ m), tag_is k) (last (eqb (tag w) 1))
    where
      last : (b : Bool) → b ≡ (inhabited ((cond b anything nothing_fits).0 ⊓ every) && inhabited ((cond b anything nothing_fits).1 ⊓ every))
      last true = refl
      last false = refl

-- A value with a product type is a pair, and the other way round.
first_pair : (x : Value) (r : TypeSet) → T (inhabited (types_of x ⊓ r)) → eqb (tag x) 4 ≡ meets (types_of x ⊓ r) any_pair
first_pair x r l =
    bool_eq (eqb (tag x) 4) (meets (types_of x ⊓ r) any_pair)
    (λ h. let (y, z, e) = tag_pair x (eqb→eq (tag x) 4 h) in
    let (t, k) = inhabited→some (types_of x ⊓ r) l in
    let (_, _, d, _, _) = as_product (types_of y) (types_of z) t (subst (λ (v : Value). types_of v ⊑ t) e (⊓_split (types_of x) r t k).0) in
    share→meets (types_of x ⊓ r) any_pair (t, k, rw d (tt, tt)))
    (λ h. let (t, k, p) = meets→share (types_of x ⊓ r) any_pair h in
    (t_eqb (tag x) 4).1 (tag_type x t (⊓_split (types_of x) r t k).0 ∙ ap tag_of (as_product every every t p).2))

-- Relations.
module _ {s : List ℕ} {a : ℕ} where
  pub relation_not : get_or s a 0 / cell_size ≢ 5 → FitOne (P̂ (t̂ ×̂ û) ∷ []) s a false
  relation_not n v h =
      let e = sym (set_cell h) ∙ ne_eqb (get_or s a 0 / cell_size) 5 n in
      sym (fits_relation v ∙ no_meet (inner v) any_pair (λ x. subst T e (some→inhabited (inner v) x.0 x.1)))

  pub relation_none : get_or s a 0 / cell_size ≡ 5 → get_or s a 0 % cell_size ≡ 0 → FitOne (P̂ (t̂ ×̂ û) ∷ []) s a true
  unfolding meets
  relation_none t z v h = let (vs, e, x) = as_set h t in rw (fits_relation v, e, no_run (set_run x) z)

  pub relation_first : {b : Bool} → get_or s a 0 / cell_size ≡ 5 → get_or s a 0 % cell_size ≢ 0 → (b ≡ true → get_or s (a + 1) 0 / cell_size ≡ 4) →
      (b ≡ false → get_or s (a + 1) 0 / cell_size ≢ 4) → FitOne (P̂ (t̂ ×̂ û) ∷ []) s a b
  relation_first {b} t n f g v h =
      let (vs, e, x) = as_set h t in
      let (y, ys, d, k) = as_run (set_run x) (omega arith) in
      test_is b (get_or s (a + 1) 0 / cell_size) 4 f g ∙ rw (fits_relation v, e, d, tag_is (run_head k)) (first_pair y (shared_types ys) k.typed)

-- The first of some pairs.
pub pairs_first : {s : List ℕ} {i n : ℕ} {vs : Values} → RunAt s i n vs → AllPairs vs → 0 < n → PairHere s i
pairs_first {vs = none} h p l = absurd (omega (arith, h.counted))
pairs_first {vs = scalar x ▸ ys} h p l = absurd p.0
pairs_first {vs = set x ▸ ys} h p l = absurd p.0
pairs_first {vs = pair y z ▸ ys} h p l = pair_here (pair y z, run_head h) (tag_is (run_head h))

-- A pair fits an argument where its left part does.
pub left_meets : {s : List ℕ} {i b : ℕ} {r : Bool} → PairHere s i → (w : SomeTyped s b) → Agreed s (i + 1) b r → OneMeets s i (types_of w.0 ×ˢ every) r
unfolding agree meets
left_meets p w g v h =
    let (y, z, e, k) = as_pair h p.is_pair in
    let (l, m) = pair_parts k in
    rw (e, g y w.0 l w.1, ⊓_every (types_of z), (T_true (inhabited (types_of z))).0 m.typed) (sym (and-true _))

-- Where the left part of a pair is full, what it agrees with agrees with the left parts of all.
full_left : (y z w : Value) (r : TypeSet) → Full y → T (inhabited (types_of (pair y z) ⊓ r)) →
    meets (types_of (pair y z)) (types_of w ×ˢ every) ≡ meets (types_of (pair y z) ⊓ r) (types_of w ×ˢ every)
full_left y z w r f l = narrowed (types_of (pair y z)) r (types_of w ×ˢ every) l (λ t u h k j.
    let (t₁, t₂, d, h₁, h₂) = as_product (types_of y) (types_of z) t h in
    let (u₁, u₂, e, k₁, k₂) = as_product (types_of y) (types_of z) u k in
    let a = rw (d, ground y t₁ u₁ f h₁ k₁) at j in
    rw e (a.0, tt))

-- The first k of some pairs have left parts that stand for all.
few_lefts : {s : List ℕ} {at n k b : ℕ} {vs : Values} (w : SomeTyped s b) → RunAt s at n vs → AllPairs vs → Few s (at + 1) n k →
    (p : PairsAndOne s at k b) ×
    (meets (shared_types p.values) (types_of p.second.0 ×ˢ every) ≡ meets (shared_types vs) (types_of w.0 ×ˢ every))
few_lefts {vs = vs} w h p (inl e) = (record { values = vs; run = rw e h; pairs = p; second = w }, refl)
few_lefts {vs = none} w h p (inr (e, l, f)) = absurd (omega (arith, h.counted))
few_lefts {vs = scalar x ▸ ys} w h p (inr f) = absurd p.0
few_lefts {vs = set x ▸ ys} w h p (inr f) = absurd p.0
few_lefts {vs = pair y z ▸ ys} w h p (inr (e, l, f)) = (
  record { values = pair y z ▸ none; run = rw e (run_of (run_head h)); pairs = (tt, tt); second = w },
  rw (⊓_every (types_of (pair y z))) (full_left y z w.0 (shared_types ys) (f y (pair_parts (run_head h)).0) h.typed),
)

-- Relations and arguments.
pub applies_not : {s : List ℕ} {a b : ℕ} → FitOne (P̂ (t̂ ×̂ û) ∷ []) s a false → FitTwo (P̂ (t̂ ×̂ û) ∷ t̂ ∷ []) s a b false
applies_not f v w h k =
    sym (fits_applies v w ∙ no_meet (inner v) (types_of w ×ˢ every) (λ x.
    let p = as_product (types_of w) every x.0 x.2 in
    subst T (sym (f v h ∙ fits_relation v)) (share→meets (inner v) any_pair (x.0, x.1, subst (λ (t : Ty). any_pair ⊑ t) (sym p.2) (tt, tt)))))

pub all_pairs : (vs : Values) (t u : Ty) → shared_types vs ⊑ t ⊗ u → AllPairs vs
all_pairs none t u h = tt
all_pairs (v ▸ vs) t u h =
    let (k, l) = ⊓_split (types_of v) (shared_types vs) (t ⊗ u) h in
    let (x, y, e) = tag_pair v (tag_type v (t ⊗ u) k) in
    (rw e tt, all_pairs vs t u l)

-- A relation is a set of pairs, n of them.
module _ {s : List ℕ} {a n : ℕ} (f : FitOne (P̂ (t̂ ×̂ û) ∷ []) s a true) (c : n ≡ get_or s a 0 % cell_size) where
  relation_pairs : (v : Value) → TypedAt s a v → (vs : Values) × (inner v ≡ shared_types vs) × RunAt s (a + 1) n vs × AllPairs vs
  relation_pairs (scalar x) h = absurd (meets→share no_type any_pair (subst T (f (scalar x) h ∙ fits_relation (scalar x)) tt)).1
  relation_pairs (pair x y) h = absurd (meets→share no_type any_pair (subst T (f (pair x y) h ∙ fits_relation (pair x y)) tt)).1
  relation_pairs (set vs) h =
      let (t, x, y) = meets→share (shared_types vs) any_pair (subst T (f (set vs) h ∙ fits_relation (set vs)) tt) in
      let (u, w, e, _, _) = as_product every every t y in
      (vs, refl, rw c (set_run h), all_pairs vs u w (rw e at x))

  pub relation_left : SomeTyped s a → 0 < n → SomeTyped s (a + 1 + 1)
  relation_left v l = let (vs, _, h, p) = relation_pairs v.0 v.1 in (pairs_first h p l).left

  pub relation_few : {b k : ℕ} → Both s a b → Few s (a + 1 + 1) n k → PairsAndOne s (a + 1) k b
  relation_few b g = let (vs, _, h, p) = relation_pairs b.first.0 b.first.1 in (few_lefts b.second h p g).0

  pub applies_fit : (b k : ℕ) (r : Bool) → Few s (a + 1 + 1) n k → AgreedLefts s (a + 1) k b r → FitTwo (P̂ (t̂ ×̂ û) ∷ t̂ ∷ []) s a b r
  applies_fit b k r g t v w h j =
      let (vs, e, i, p) = relation_pairs v h in
      let (x, same) = few_lefts (w, j) i p g in
      t x ∙ same ∙ rw (fits_applies v w, e)
