-- Values that stand in the arena: what their cells tell of the types that they share.
use Prim.Native.Nat.{ℕ, ◌+◌, ◌*◌, ◌-◌, ◌/◌, ◌%◌, ◌≤◌, ◌<◌}
use mathlib.Core.Bool.{Bool, true, false, not, ◌&&◌}
use mathlib.Core.List.{List}
use mathlib.Core.Logic.{◌≢◌, inl, inr}
use borrow.Author.Tests.{eq-eqb, ne_eqb, eqb-true, eqb-false}
use mathlib.Core.Path.{◌≡◌, refl, sym, ap, ◌∙◌, subst}
use native.Mathlib.Omega.{arith}
use native.Mathlib.Decide.{ℕ_discrete}
use lib.Dec.{T, eqb}
use lib.ListN.{length, take, drop, get_or, length-drop}
use lib.Seq.{length-take-le, get_or-drop, get_or-take}
use Rattle.std.specs.List.{IsAnyAnswer}
use Rattle.rules.specs.Types.{whole, number, bool}
use Rattle.rules.specs.Values.{Scalar, num, truth, element, Value, scalar, pair, set, Values, none, ◌▸◌, scalar_tag, tag, count, weight, weights}
use Rattle.rules.specs.Fits.{TypeSet, atomˢ, ◌⊓◌, types_of, shared_types, inhabited, typed}
use Rattle.arena.specs.Code.{cell_size, code, codes, ValueAt, ValuesAt, CellsFit, SomeAt, EndsAt, AllPairs}
use Rattle.arena.proofs.CodeLaws.{length_code}
use Rattle.arena.proofs.Standing.{stands_head, stands_tail, first_stands, rest_stand}
use Rattle.arena.proofs.FrontLaws.{single}
use Rattle.arena.proofs.ValueParts.{some_inside, first_cell_law, left_stands, right_stands}
use Rattle.fitting.specs.Agree.{meets, agree, TypedAt, RunAt, SomeTyped, SomeRun, Agreed, AgreedAll, empty_cell, NoEmpty, Members, Full, FullSet, FullAll, Few, atoms_alike, PairOrSet, SetHere}
use Rattle.fitting.proofs.Sharing.{full_first, meets_sym, meets_same, with_every, meets_first, left_typed, right_typed, ⊓_every}
use Rattle.fitting.specs.Types.{Decides}
use Rattle.rules.proofs.Basics.{and_split, absurd01}
use Rattle.laws.proofs.CellsLaws.{weight_some}
use Rattle.laws.proofs.EndLaws.{T_true}

-- Whether a run of cells has that of an empty set, as std's search answers.
pub full_decides : (s : List ℕ) (at end : ℕ) (r : Bool) → at ≤ end → end ≤ length s →
    IsAnyAnswer (λ y b. eqb y empty_cell ≡ b) (take (end - at) (drop at s)) r → Decides (not r) (NoEmpty s at end)
full_decides s at end true l m h =
    let part = take (end - at) (drop at s) in
    let k : h.0 < end - at = omega (arith, h.1, length-take-le (end - at) (drop at s) (omega (arith, length-drop at s))) in
    record {
      sound = λ e. absurd01 (cc);
      complete =
          λ n. absurd (n.none (at + h.0) (omega arith) (omega arith)
          (sym (get_or-take (end - at) (drop at s) h.0 0 k ∙ get_or-drop at s h.0 0) ∙ eqb-true _ _ (h.2 0)));
    }
full_decides s at end false l m h = record {
  sound = λ e. record {
    none = λ i p q n.
        let k : i - at < end - at = omega arith in
        let same : at + (i - at) ≡ i = omega arith in
        let found = get_or-take (end - at) (drop at s) (i - at) 0 k ∙ get_or-drop at s (i - at) 0 ∙ ap (λ (j : ℕ). get_or s j 0) same in
        eqb-false _ _
        (h (i - at) 0 (omega arith) (omega (arith, length-take-le (end - at) (drop at s) (omega (arith, length-drop at s)))))
        (found ∙ n);
  };
  complete = λ n. refl;
}

-- The members of a set.
pub members_stand : (s : List ℕ) (at : ℕ) (vs : Values) → ValueAt s at (set vs) → ValuesAt s (at + 1) vs
unfolding code
members_stand s at vs h = stands_tail s at (5 * cell_size + count vs) (codes vs) h

pub within : {s : List ℕ} {at end at' end' : ℕ} → NoEmpty s at end → at ≤ at' → end' ≤ end → NoEmpty s at' end'
within h l m = record { none = λ i p q. h.none i (omega arith) (omega arith) }

-- A value among whose cells is no empty set's is full.
not_empty : (vs : Values) (s : List ℕ) (at : ℕ) → ValueAt s at (set vs) → NoEmpty s at (at + weight (set vs)) → FullAll vs → FullSet vs
unfolding code
not_empty none s at h n f = absurd (n.none at (omega arith) (omega arith) (stands_head s at _ _ h))
not_empty (v ▸ vs) s at h n f = f

mutual
  pub full_value : (v : Value) (s : List ℕ) (at : ℕ) → ValueAt s at v → NoEmpty s at (at + weight v) → Full v
  full_value (scalar x) s at h n = tt
  full_value (pair v w) s at h n = (
    full_value v s (at + 1) (left_stands s at v w h) (within n (omega arith) (omega arith)),
    full_value w s (at + 1 + weight v) (right_stands s at v w h) (within n (omega arith) (omega arith)),
  )
  full_value (set vs) s at h n = not_empty vs s at h n (full_all vs s (at + 1) (members_stand s at vs h) (within n (omega arith) (omega arith)))

  full_all : (vs : Values) (s : List ℕ) (at : ℕ) → ValuesAt s at vs → NoEmpty s at (at + weights vs) → FullAll vs
  full_all none s at h n = tt
  full_all (v ▸ vs) s at h n = (
    full_value v s at (first_stands s at v vs h) (within n (omega arith) (omega arith)),
    full_all vs s (at + weight v) (rest_stand s at v vs h) (within n (omega arith) (omega arith)),
  )

pub typed_at : (s : List ℕ) (at : ℕ) (v : Value) → ValueAt s at v → CellsFit v → T (typed v) → TypedAt s at v
unfolding typed
typed_at s at v h f t = record { stands = h; fits = f; typed = t }

pub some_at : {s : List ℕ} {at : ℕ} → SomeTyped s at → SomeAt s at
some_at x = record { value = x.0; stands = x.1.stands; fits = x.1.fits }

pub inside : {s : List ℕ} {at : ℕ} → SomeTyped s at → at < length s
inside {s} {at} x = some_inside s at (some_at x)

pub end_is : {s : List ℕ} {at end : ℕ} {v : Value} → EndsAt s at end → TypedAt s at v → end ≡ at + weight v
end_is {v = v} e h = e v h.stands h.fits

pub tag_is : {s : List ℕ} {at : ℕ} {v : Value} → TypedAt s at v → get_or s at 0 / cell_size ≡ tag v
tag_is {s} {at} {v} h = (first_cell_law s at v h.stands h.fits).0

pub end_bounds : {s : List ℕ} {at end : ℕ} → SomeTyped s at → EndsAt s at end → (at < end) × (end ≤ length s)
end_bounds x e = let n = end_is e x.1 in (omega (arith, weight_some x.0), omega (arith, x.1.stands.inside, length_code x.0))

-- A value by the tag of its first cell, and its parts or members.
pub scalar_low_law : (x : Scalar) → scalar_tag x < 4
scalar_low_law (num whole i) = omega arith
scalar_low_law (truth b) = omega arith
scalar_low_law (element g k) = omega arith

pub tag_most : (v : Value) → tag v ≤ 5
tag_most (scalar x) = omega (arith, scalar_low_law x)
tag_most (pair v w) = omega arith
tag_most (set vs) = omega arith

pub tag_pair : (v : Value) → tag v ≡ 4 → (x : Value) × (y : Value) × (v ≡ pair x y)
tag_pair (scalar x) e = absurd (omega (arith, scalar_low_law x))
tag_pair (pair x y) e = (x, y, refl)
tag_pair (set vs) e = absurd (omega arith)

pub tag_set : (v : Value) → tag v ≡ 5 → (vs : Values) × (v ≡ set vs)
tag_set (scalar x) e = absurd (omega (arith, scalar_low_law x))
tag_set (pair x y) e = absurd (omega arith)
tag_set (set vs) e = (vs, refl)

module _ {s : List ℕ} {a : ℕ} {v : Value} (h : TypedAt s a v) where
  pub as_pair : get_or s a 0 / cell_size ≡ 4 → (x : Value) × (y : Value) × (v ≡ pair x y) × TypedAt s a (pair x y)
  as_pair t = let (x, y, e) = tag_pair v (sym (tag_is h) ∙ t) in (x, y, e, rw e at h)

  pub as_set : get_or s a 0 / cell_size ≡ 5 → (vs : Values) × (v ≡ set vs) × TypedAt s a (set vs)
  as_set t = let (vs, e) = tag_set v (sym (tag_is h) ∙ t) in (vs, e, rw e at h)

pub pair_parts : {s : List ℕ} {a : ℕ} {x y : Value} → TypedAt s a (pair x y) → TypedAt s (a + 1) x × TypedAt s (a + 1 + weight x) y
pair_parts {s} {a} {x} {y} h =
    let k = and_split (inhabited (types_of x)) (inhabited (types_of y)) h.typed in (
      record { stands = left_stands s a x y h.stands; fits = h.fits.0; typed = k.0 },
      record { stands = right_stands s a x y h.stands; fits = h.fits.1; typed = k.1 },
    )

pub set_run : {s : List ℕ} {a : ℕ} {vs : Values} → TypedAt s a (set vs) → RunAt s (a + 1) (get_or s a 0 % cell_size) vs
set_run {s} {a} {vs} h = record {
  stands = members_stand s a vs h.stands;
  fits = h.fits.1;
  typed = h.typed;
  counted = sym (first_cell_law s a (set vs) h.stands h.fits).1;
}

-- A run of values: its first value, and the rest.
module _ {s : List ℕ} {a n : ℕ} where
  pub as_run : {vs : Values} → RunAt s a n vs → 0 < n → (x : Value) × (ys : Values) × (vs ≡ x ▸ ys) × RunAt s a n (x ▸ ys)
  as_run {vs = none} h l = absurd (omega (arith, h.counted))
  as_run {vs = x ▸ ys} h l = (x, ys, refl, h)

  pub no_run : {vs : Values} → RunAt s a n vs → n ≡ 0 → vs ≡ none
  no_run {vs = none} h e = refl
  no_run {vs = x ▸ ys} h e = absurd (omega (arith, h.counted))

  module _ {x : Value} {ys : Values} (h : RunAt s a n (x ▸ ys)) where
    pub run_head : TypedAt s a x
    run_head = record { stands = first_stands s a x ys h.stands; fits = h.fits.0; typed = left_typed (types_of x) (shared_types ys) h.typed }

    pub run_tail : RunAt s (a + weight x) (n - 1) ys
    run_tail = record {
      stands = rest_stand s a x ys h.stands;
      fits = h.fits.1;
      typed = right_typed (types_of x) (shared_types ys) h.typed;
      counted = omega (arith, h.counted);
    }

pub run_first : {s : List ℕ} {at n : ℕ} → SomeRun s at n → 0 < n → SomeTyped s at
run_first r l = let (x, ys, e, k) = as_run r.1 l in (x, run_head k)

-- A run of values against a set of types q, one after the other: those that are passed have a type in q, and the rest decides.
abbrev pub OneMeets : List ℕ → ℕ → TypeSet → Bool → Type 0
OneMeets s at q r = (v : Value) → TypedAt s at v → r ≡ meets (types_of v) q

pub record Rest (s : List ℕ) (at n : ℕ) (q : TypeSet) (vs : Values) : Type 0 where
  pub values : Values
  pub run : RunAt s at n values
  pub same : meets (shared_types vs) q ≡ meets (shared_types values) q
  pub pairs : AllPairs vs → AllPairs values

pub run_whole : {s : List ℕ} {at n : ℕ} (q : TypeSet) (vs : SomeRun s at n) → Rest s at n q vs.0
run_whole q vs = record { values = vs.0; run = vs.1; same = refl; pairs = λ a. a }

module _ {s : List ℕ} {at n : ℕ} {q : TypeSet} {vs : Values} (p : Rest s at n q vs) where
  pub rest_first : 0 < n → SomeTyped s at
  rest_first l = run_first (p.values, p.run) l

  pub rest_end : n ≡ 0 → T (inhabited q) → true ≡ meets (shared_types vs) q
  unfolding meets
  rest_end z t = let e : p.values ≡ none = no_run p.run z in sym (p.same ∙ rw e ((T_true (inhabited q)).0 t))

  module _ (l : 0 < n) {c : Bool} (g : OneMeets s at q c) where
    splits : {xs ys : Values} {x : Value} → xs ≡ x ▸ ys → RunAt s at n (x ▸ ys) → meets (shared_types xs) q ≡ (c && meets (shared_types ys) q)
    splits {ys = ys} {x = x} e k = rw e (rw (g x (run_head k)) (meets_first (types_of x) (shared_types ys) q k.typed))

    pub rest_no : c ≡ false → false ≡ meets (shared_types vs) q
    rest_no f = let (x, ys, e, k) = as_run p.run l in sym (p.same ∙ splits e k ∙ rw f)

    pub rest_yes : {end : ℕ} → c ≡ true → EndsAt s at end → Rest s end (n - 1) q vs
    rest_yes f d =
        let (x, ys, e, k) = as_run p.run l in
        record {
          values = ys;
          run = rw (end_is d (run_head k)) (run_tail k);
          same = p.same ∙ splits e k ∙ rw f;
          pairs = λ a. (subst AllPairs e (p.pairs a)).1;
        }

    pub rest_last : n ≡ 1 → c ≡ meets (shared_types vs) q
    rest_last m =
        let (x, ys, e, k) = as_run p.run l in
        sym (p.same ∙ rw (e, no_run (run_tail k) (omega arith), ⊓_every (types_of x)) (sym (g x (run_head k))))

-- Two values against each other: the second against the types of the first.
pub one_meets : {s : List ℕ} {a b : ℕ} {r : Bool} → Agreed s a b r → (v : SomeTyped s a) → OneMeets s b (types_of v.0) r
unfolding agree
one_meets g v w k = g v.0 w v.1 k ∙ meets_sym (types_of v.0) (types_of w)

-- A pair: its right part stands where the left one ends.
pub record PairHere (s : List ℕ) (a : ℕ) : Type 0 where
  pub is_pair : get_or s a 0 / cell_size ≡ 4
  pub left : SomeTyped s (a + 1)
  pub right : (c : ℕ) → EndsAt s (a + 1) c → SomeTyped s c

pub pair_here : {s : List ℕ} {a : ℕ} → SomeTyped s a → get_or s a 0 / cell_size ≡ 4 → PairHere s a
pair_here v t =
    let (x, y, _, h) = as_pair v.1 t in
    let (k, l) = pair_parts h in
    record { is_pair = t; left = (x, k); right = λ c e. (y, rw (end_is e k) l) }

-- Two values by their parts or members.
module _ {s : List ℕ} {a b : ℕ} where
  -- pairs whose left parts share no type, or do, and then the right parts decide
  pub pairs_agree : {q : Bool} → PairHere s a → PairHere s b → Agreed s (a + 1) (b + 1) q → (v w : Value) → TypedAt s a v → TypedAt s b w →
      (q ≡ false → false ≡ agree v w) ×
      ((c d : ℕ) (r : Bool) → q ≡ true → EndsAt s (a + 1) c → EndsAt s (b + 1) d → Agreed s c d r → r ≡ agree v w)
  unfolding agree meets
  pairs_agree t u g v w h k =
      let (v₁, v₂, e, x) = as_pair h t.is_pair in
      let (w₁, w₂, f, y) = as_pair k u.is_pair in
      let (x₁, x₂) = pair_parts x in
      let (y₁, y₂) = pair_parts y in (
        λ n. rw (e, f, ← g v₁ w₁ x₁ y₁, n),
        λ c d r n l m i. rw (e, f, ← g v₁ w₁ x₁ y₁, n) (i v₂ w₂ (rw (end_is l x₁) x₂) (rw (end_is m y₁) y₂)),
      )

  pub sets_agree : {n m : ℕ} {r : Bool} → SetHere s a → SetHere s b → Members s a n → Members s b m → AgreedAll s (a + 1) n (b + 1) m r → Agreed s a b r
  unfolding agree meets
  sets_agree t u c d g v w h k =
      let (vs, e, x) = as_set h t.is_set in
      let (ws, f, y) = as_set k u.is_set in
      let p = c vs x in
      let q = d ws y in
      rw (e, f) (g (record { first = (p.few, p.run); second = (q.few, q.run) }) ∙
      meets_same (shared_types p.few) (shared_types vs) (shared_types q.few) (shared_types ws) p.same q.same)

-- A scalar and another value, by their cells.
number_tag : (w : Value) → eqb 1 (tag w) ≡ inhabited (atomˢ (number whole) ⊓ types_of w)
number_tag (scalar (num whole i)) = refl
number_tag (scalar (truth b)) = refl
number_tag (scalar (element g k)) = refl
number_tag (pair x y) = refl
number_tag (set vs) = refl

truth_tag : (w : Value) → eqb 2 (tag w) ≡ inhabited (atomˢ bool ⊓ types_of w)
truth_tag (scalar (num whole i)) = refl
truth_tag (scalar (truth b)) = refl
truth_tag (scalar (element g k)) = refl
truth_tag (pair x y) = refl
truth_tag (set vs) = refl

far : (s : List ℕ) (a b : ℕ) → get_or s a 0 / cell_size ≢ get_or s b 0 / cell_size → eqb (get_or s a 0 / 256) (get_or s b 0 / 256) ≡ false
far s a b n = ne_eqb (get_or s a 0 / 256) (get_or s b 0 / 256) (λ e. n (omega arith))

pub atoms_agree : (s : List ℕ) (a b : ℕ) → get_or s a 0 < 4 * cell_size → Agreed s a b (atoms_alike (get_or s a 0) (get_or s b 0))
unfolding agree meets
atoms_agree s a b l (scalar (num whole i)) w h k = rw (tag_is h, tag_is k) (number_tag w)
atoms_agree s a b l (scalar (truth b₀)) w h k = rw (tag_is h, tag_is k) (truth_tag w)
atoms_agree s a b l (scalar (element g₀ k₀)) (scalar (num whole j)) h k = rw (tag_is h, far s a b (λ e. omega (arith, tag_is h, tag_is k)))
atoms_agree s a b l (scalar (element g₀ k₀)) (scalar (truth b₁)) h k = rw (tag_is h, far s a b (λ e. omega (arith, tag_is h, tag_is k)))
atoms_agree s a b l (scalar (element g₀ k₀)) (pair x y) h k = rw (tag_is h, far s a b (λ e. omega (arith, tag_is h, tag_is k)))
atoms_agree s a b l (scalar (element g₀ k₀)) (set ws) h k = rw (tag_is h, far s a b (λ e. omega (arith, tag_is h, tag_is k)))
atoms_agree s a b l (scalar (element g₀ k₀)) (scalar (element g₁ k₁)) h k =
    let x : get_or s a 0 / 256 ≡ 50331648 + g₀ = omega (arith, first_cell_law s a (scalar (element g₀ k₀)) h.stands h.fits, h.fits.0) in
    let y : get_or s b 0 / 256 ≡ 50331648 + g₁ = omega (arith, first_cell_law s b (scalar (element g₁ k₁)) k.stands k.fits, k.fits.0) in
    rw (tag_is h) (elim (ℕ_discrete g₀ g₁) [
      | yes e ↦ rw (eq-eqb g₀ g₁ e, eq-eqb (get_or s a 0 / 256) (get_or s b 0 / 256) (omega arith))
      | no n ↦ rw (ne_eqb g₀ g₁ n, ne_eqb (get_or s a 0 / 256) (get_or s b 0 / 256) (λ e. n (omega arith)))
    ])
atoms_agree s a b l (pair x y) w h k = absurd (omega (arith, tag_is h))
atoms_agree s a b l (set vs) w h k = absurd (omega (arith, tag_is h))

-- A pair or a set that is no set is a pair.
pub other_pair : {s : List ℕ} {a : ℕ} → SomeTyped s a → PairOrSet s a → get_or s a 0 / cell_size ≢ 5 → get_or s a 0 / cell_size ≡ 4
other_pair x l n = omega (arith, tag_is x.1, tag_most x.0)

pub scalar_full : (s : List ℕ) (at : ℕ) → get_or s at 0 < 4 * cell_size → (v : Value) → TypedAt s at v → Full v
scalar_full s at l (scalar x) h = tt
scalar_full s at l (pair x y) h = absurd (omega (arith, tag_is h))
scalar_full s at l (set vs) h = absurd (omega (arith, tag_is h))

-- One value is a run.
pub run_of : {s : List ℕ} {at : ℕ} {v : Value} → TypedAt s at v → RunAt s at 1 (v ▸ none)
run_of {v = v} h = record { stands = rw (single v) h.stands; fits = (h.fits, tt); typed = with_every (types_of v) h.typed; counted = refl }

-- The members that stand for all.
pub few_members : (s : List ℕ) (a n r : ℕ) → get_or s a 0 % cell_size ≡ n → Few s (a + 1) n r → Members s a r
few_members s a n r c (inl e) vs h = record { few = vs; run = rw (e ∙ sym c) (set_run h); same = λ q. refl }
few_members s a n r c (inr (e, l, f)) none h = absurd (omega (arith, (set_run h).counted))
few_members s a n r c (inr (e, l, f)) (x ▸ ys) h =
    let y = run_head (set_run h) in
    record {
      few = x ▸ none;
      run = rw e (run_of y);
      same = λ q. rw (⊓_every (types_of x)) (full_first x (shared_types ys) q (f x y) h.typed);
    }

-- A test of two numbers.
pub test_is : (b : Bool) (m n : ℕ) → (b ≡ true → m ≡ n) → (b ≡ false → m ≢ n) → b ≡ eqb m n
test_is true m n f g = sym (eq-eqb m n (f refl))
test_is false m n f g = sym (ne_eqb m n (g refl))

pub alike_elements : (x y t : ℕ) (b : Bool) → t ≡ x / cell_size → t ≡ 3 → (b ≡ true → x / 256 ≡ y / 256) → (b ≡ false → x / 256 ≢ y / 256) → b ≡ atoms_alike x y
alike_elements x y t b e n f g = test_is b (x / 256) (y / 256) f g ∙ rw (← e, eq-eqb t 3 n)

pub first_member : {s : List ℕ} {a : ℕ} → SetHere s a → 0 < get_or s a 0 % cell_size → SomeTyped s (a + 1)
first_member h l = let (vs, _, k) = as_set h.value.1 h.is_set in run_first (vs, set_run k) l

pub members_run : {s : List ℕ} {a r : ℕ} → SetHere s a → Members s a r → SomeRun s (a + 1) r
members_run h c = let (vs, _, k) = as_set h.value.1 h.is_set in ((c vs k).few, (c vs k).run)
