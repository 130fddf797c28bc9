-- Whether values that stand in a row rise and share a type, value by value behind the first of them that do (`Passed`). Where the first has one type
-- only, it stands for them.
use Prim.Native.Nat.{ℕ, ◌+◌, ◌-◌, ◌≤◌, ◌<◌, Ordering}
use mathlib.Core.Bool.{Bool, true, false, ◌&&◌, cond}
use mathlib.Core.List.{List}
use mathlib.Core.Logic.{◌↔◌}
use mathlib.Core.Path.{◌≡◌, refl, sym, ap, subst, ◌∙◌}
use native.Mathlib.Omega.{arith}
use lib.Dec.{T}
use Rattle.std.specs.declared.cmp.Ordering.{Ordering as RustOrdering}
use Rattle.std.specs.declared.cmp.Ordering.TheVariants.{Less, Equal, Greater}
use Rattle.std.specs.Ordering.{is_ge, is_lt as is_less}
use lib.ListN.{length}
use Rattle.rules.specs.Types.{Ty}
use Rattle.rules.specs.Values.{Value, Values, none, ◌▸◌, count, weights, order, is_lt, before as is_before}
use Rattle.rules.specs.Fits.{TypeSet, every, ◌⊓◌, types_of, shared_types}
use Rattle.rules.proofs.Basics.{and_split}
use Rattle.laws.proofs.CellsLaws.{count_weights}
use Rattle.laws.proofs.EndLaws.{T_true, T_false}
use Rattle.laws.proofs.FitsLaws.{◌⊑◌, ⊓_join, ⊓_split, inhabited→some, some→inhabited}
use Rattle.arena.specs.Code.{codes, Stands, EndsAt, Compared, ordering_of}
use Rattle.arena.proofs.CodeLaws.{length_codes}
use Rattle.arena.proofs.Standing.{stands_append, first_stands, rest_stand, ◌before◌, codes_before, count_before, weights_before, fit_before}
use Rattle.fitting.specs.Agree.{meets, agree, TypedAt, RunAt, SomeTyped, AgreedWith, NoEmpty, Full, StandFor, Agreed}
use Rattle.fitting.proofs.Sharing.{meets→share, share→meets, meets_sym, full_first}
use Rattle.fitting.proofs.Cells.{as_run, run_head, run_of, end_is, full_value, run_whole, rest_last}
use Rattle.canonical.specs.Ordered.{in_order}
use Rattle.canonical.specs.Shared.{TypedRow, fine_members, SomeTypedRow}

-- The first of n values from i on, and the others.
pub record First (s : List ℕ) (i n : ℕ) (vs : Values) : Type 0 where
  pub value : Value
  pub others : Values
  pub whole : vs ≡ value ▸ others
  pub here : TypedAt s i value
  pub row : (e : ℕ) → EndsAt s i e → TypedRow s e (n - 1) others

pub first_of : {s : List ℕ} {i n : ℕ} (vs : Values) → TypedRow s i n vs → 0 < n → First s i n vs
first_of none r l = absurd (omega (arith, r.counted))
first_of {s} {i} (w ▸ ws) r l =
    let h = first_stands s i w ws r.stands in
    record {
      value = w;
      others = ws;
      whole = refl;
      here = record { stands = h; fits = r.fits.0; typed = r.typed.0 };
      row = λ e ends. record {
        stands = rw (ends w h r.fits.0) (rest_stand s i w ws r.stands);
        fits = r.fits.1;
        counted = omega (arith, r.counted);
        typed = r.typed.1;
      };
    }

pub some_first : {s : List ℕ} {at n : ℕ} → SomeTypedRow s at n → 0 < n → SomeTyped s at
some_first r l = let x = first_of r.0 r.1 l in (x.value, x.here)

less_code : (o : Ordering) → is_lt o ≡ is_less (ordering_of o)
less_code Ordering.lt = refl
less_code Ordering.eq = refl
less_code Ordering.gt = refl

pub not_less : (c : RustOrdering) → is_ge c ≡ true → is_less c ≡ false
not_less Less e = cc
not_less Equal e = refl
not_less Greater e = refl

pub is_less_is : (c : RustOrdering) → is_ge c ≡ false → is_less c ≡ true
is_less_is Less e = refl
is_less_is Equal e = cc
is_less_is Greater e = cc

-- The value at a has one type only.
abbrev pub FullAt : List ℕ → ℕ → Type 0
FullAt s a = (v : Value) → TypedAt s a v → Full v

pub full_at : {s : List ℕ} {at end : ℕ} → EndsAt s at end → NoEmpty s at end → FullAt s at
full_at {s} {at} e n v h = full_value v s at h.stands (rw (end_is e h) at n)

-- r says whether the value at a is before that at b.
abbrev pub IsBefore : List ℕ → ℕ → ℕ → Bool → Type 0
IsBefore s a b r = (v w : Value) → TypedAt s a v → TypedAt s b w → is_before v w ≡ r

pub compared_before : {s : List ℕ} {a b : ℕ} {c : RustOrdering} → Compared s a b c → IsBefore s a b (is_less c)
unfolding is_before
compared_before f v w h k = less_code (order v w) ∙ ap is_less (sym (f v w h.stands k.stands h.fits k.fits))

-- Types of values that follow one another.
both_types : (p q : TypeSet) (t : Ty) → (p ⊓ q ⊑ t) ↔ (p ⊑ t × q ⊑ t)
both_types p q t = (⊓_split p q t, λ h. ⊓_join p q t h.0 h.1)

before_types : (vs ws : Values) (t : Ty) → (shared_types (vs before ws) ⊑ t) ↔ (shared_types vs ⊑ t × shared_types ws ⊑ t)
before_types none ws t = (λ h. (tt, h), λ h. h.1)
before_types (v ▸ vs) ws t =
    simp (both_types, before_types vs ws t) (λ h. ((h.0, h.1.0), h.1.1), λ h. (h.0.0, (h.0.1, h.1)))

-- A value passes from those behind to those in front.
moved : (vs : Values) (w : Value) (ws : Values) → vs before (w ▸ ws) ≡ (vs before (w ▸ none)) before ws
moved none w ws = refl
moved (v ▸ vs) w ws = ap (λ (us : Values). v ▸ us) (moved vs w ws)

-- A value against a run of one.
agreed_one : {s : List ℕ} {a b : ℕ} {r : Bool} → Agreed s a b r → AgreedWith s b a 1 r
unfolding agree
agreed_one g w us k u =
    rest_last (run_whole (types_of w) (us, u)) (omega arith) (λ v h. g v w h k) refl ∙ meets_sym (shared_types us) (types_of w)

-- The first k of the values vs from `at` on, the last of which stands at i, rise and share a type; those that are left stand from e on.
-- All rise where these rise behind the last.
pub record Passed (s : List ℕ) (at i e k n : ℕ) (vs : Values) : Type 0 where
  pub some : 0 < k
  pub front : Values
  pub last : Value
  pub back : Values
  pub run : RunAt s at k front
  pub here : TypedAt s i last
  pub row : TypedRow s e (n - k) back
  pub whole : vs ≡ front before back
  pub same : in_order vs ≡ in_order (last ▸ back)
  pub there : e ≡ at + weights front

pub passed_start : {s : List ℕ} {at n end : ℕ} → EndsAt s at end → 0 < n → (vs : Values) → TypedRow s at n vs → Passed s at at end 1 n vs
passed_start ends l vs r =
    let x = first_of vs r l in
    let w = x.value in
    record {
      some = omega arith;
      front = w ▸ none;
      last = w;
      back = x.others;
      run = run_of x.here;
      here = x.here;
      row = x.row _ ends;
      whole = x.whole;
      same = ap in_order x.whole;
      there = omega (arith, ends w x.here.stands x.here.fits);
    }

-- The same at other names of its numbers.
pub passed_at : {s : List ℕ} {at i j e f k m n : ℕ} {vs : Values} → i ≡ j → e ≡ f → k ≡ m → Passed s at i e k n vs → Passed s at j f m n vs
passed_at p q r h = rw (← p, ← q, ← r) h

-- As many cells as values stand there.
pub row_room : {s : List ℕ} {at n : ℕ} → SomeTypedRow s at n → at + n ≤ length s
row_room r = let t = r.1 in omega (arith, t.stands.inside, t.counted, length_codes r.0, count_weights r.0)

module _ {s : List ℕ} {at i e k n : ℕ} {vs : Values} (h : Passed s at i e k n vs) where
  pub passed_end : n ≤ k → true ≡ fine_members vs
  passed_end l = sym (go h.back h.row.counted h.whole h.same)
    where
      go : (ws : Values) → n - k ≡ count ws → vs ≡ h.front before ws → in_order vs ≡ in_order (h.last ▸ ws) → fine_members vs ≡ true
      go none c e o =
          let (t, x) = inhabited→some (shared_types h.front) h.run.typed in
          rw (o, e) ((T_true _).0 (some→inhabited (shared_types (h.front before none)) t ((before_types h.front none t).1 (x, tt))))
      go (w ▸ ws) c e o = absurd (omega arith)

  -- The first m values stand for the first k: all of them, or one that has one type only.
  pub stand_for : {m : ℕ} (one : Bool) → (one ≡ true → FullAt s at) → m ≡ cond one 1 k → StandFor s at m h.front
  stand_for false f c = record { few = h.front; run = rw c h.run; same = λ q. refl }
  stand_for true f c =
      let x = as_run h.run h.some in
      let w = x.0 in
      let y = run_head x.3 in
      let g = f refl w y in
      let r = run_of y in
      rw (c, x.2) (record {
        few = w ▸ none;
        run = r;
        same = λ q. sym (full_first w every q g r.typed) ∙ full_first w (shared_types x.1) q g (rw x.2 at h.run.typed);
      })

  -- The next value, and the row behind it.
  module _ (l : k < n) where
    next : First s e (n - k) h.back
    next = first_of h.back h.row (omega arith)

    pub passed_next : SomeTyped s e
    passed_next = (next.value, next.here)

    whole_next : vs ≡ h.front before (next.value ▸ next.others)
    whole_next = h.whole ∙ ap (λ (us : Values). h.front before us) next.whole

    order_next : {b c : Bool} → IsBefore s i e b → b ≡ c → in_order vs ≡ (c && in_order (next.value ▸ next.others))
    order_next f z =
        h.same ∙ ap (λ (us : Values). in_order (h.last ▸ us)) next.whole ∙
        ap (λ (b : Bool). b && in_order (next.value ▸ next.others)) (f h.last next.value h.here next.here ∙ z)

    pub passed_falls : {b : Bool} → IsBefore s i e b → b ≡ false → false ≡ fine_members vs
    passed_falls f z = rw (order_next f z)

    module _ {m : ℕ} (g : StandFor s at m h.front) where
      -- the test of the next value against those that stand for the first
      next_meets : (r : Bool) → AgreedWith s e at m r → meets (shared_types h.front) (types_of next.value) ≡ r
      next_meets r a =
          let w = next.value in
          sym (a w g.few next.here g.run ∙ meets_sym (types_of w) (shared_types g.few) ∙ g.same (types_of w))

      pub passed_unlike : AgreedWith s e at m false → false ≡ fine_members vs
      passed_unlike a =
          let w = next.value in
          let us = h.front before (w ▸ next.others) in
          sym ((T_false _).0 (λ f.
          let (t, x) = inhabited→some (shared_types us) (and_split (in_order us) _ (subst (λ (ws : Values). T (fine_members ws)) whole_next f)).1 in
          let (y, z) = (before_types h.front (w ▸ next.others) t).0 x in
          subst T (next_meets false a) (share→meets _ _ (t, y, (⊓_split (types_of w) (shared_types next.others) t z).0))))

      pub passed_step : {b : Bool} {j : ℕ} → IsBefore s i e b → b ≡ true → AgreedWith s e at m true → EndsAt s e j → Passed s at e j (k + 1) n vs
      passed_step {j = j} f z a ends =
          let w = next.value in
          let us = h.front before (w ▸ none) in
          let u = run_of next.here in
          let y = meets→share (shared_types h.front) (types_of w) ((T_true _).1 (next_meets true a)) in
          let p : e ≡ at + length (codes h.front) = omega (arith, h.there, length_codes h.front) in
          let q : n - k - 1 ≡ n - (k + 1) = omega arith in
          record {
            some = omega arith;
            front = us;
            last = w;
            back = next.others;
            run = record {
              stands = rw (codes_before h.front (w ▸ none))
                  (stands_append s at (codes h.front) (codes (w ▸ none)) h.run.stands (subst (λ (o : ℕ). Stands s o (codes (w ▸ none))) p u.stands));
              fits = fit_before h.front (w ▸ none) h.run.fits u.fits;
              typed = some→inhabited (shared_types us) y.0 ((before_types h.front (w ▸ none) y.0).1 (y.1, ⊓_join (types_of w) every y.0 y.2 tt));
              counted = omega (arith, count_before h.front (w ▸ none), h.run.counted);
            };
            here = next.here;
            row = subst (λ (o : ℕ). TypedRow s j o next.others) q (next.row j ends);
            whole = whole_next ∙ moved h.front w next.others;
            same = order_next f z;
            there = omega (arith, h.there, weights_before h.front (w ▸ none), ends w next.here.stands next.here.fits);
          }

    -- The same where the first value has one type only: the next is tested against it.
    module _ {r : Bool} (full : FullAt s at) (a : Agreed s at e r) where
      pub first_unlike : r ≡ false → false ≡ fine_members vs
      first_unlike z =
          passed_unlike (stand_for true (λ _. full) refl) (subst (AgreedWith s e at 1) z (agreed_one a))

      pub first_step : {b : Bool} {j : ℕ} → IsBefore s i e b → b ≡ true → r ≡ true → EndsAt s e j → Passed s at e j (k + 1) n vs
      first_step f y z =
          passed_step (stand_for true (λ _. full) refl) f y (subst (AgreedWith s e at 1) z (agreed_one a))

-- No values.
pub none_fine : (vs : Values) → count vs ≡ 0 → true ≡ fine_members vs
none_fine none e = refl
none_fine (v ▸ vs) e = absurd (omega arith)
