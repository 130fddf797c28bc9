-- Building a set: members one behind the other, and the walk that merges two sets.
use Rattle.sets.proofs.Base.{zero, suc, get_or, ℕ, ◌+◌, ◌-◌, ◌≤◌, ◌<◌, Ordering, Ordering·lt, Ordering·eq, Ordering·gt, Bool, true, false, cond, List, [], ◌∷◌, ◌++◌, append_assoc, append-nil, Option, Some, None, ◌⊎◌, inl, inr, ◌≡◌, refl, sym, ap, ◌∙◌, subst, arith, dec_lt, length, set_at, length-set, get_or-set_same, get_or-set_other}
use Rattle.merging.proofs.Terms.{Value, Values, none, ◌▸◌, members, values, count, weights, order, kept_value, set_of, code, codes, Stands, ValueAt, Same, Copied, CopiedIf, Front, Turn, Out, Walk, Rest, merged, comparisons, keep_of, first_of, rest_left, rest_right, TurnAt, TwoRuns, RunEnds, Cells, BuiltTo, PutPre, PutBehind, RestThere, Merging, StepPre, Stepped, RestOf, EndPre, Ended, SomeRuns, Compares, RunsMerge, Walking}
use Rattle.laws.proofs.Membership.{values_members}
use Rattle.laws.proofs.CellsLaws.{count_weights}
use Rattle.arena.proofs.CodeLaws.{length_codes}
use Rattle.arena.proofs.Standing.{stands_append, stands_frame, copied_stands, same_refl, same_trans}
use Rattle.arena.proofs.FrontLaws.{codes_append, count_append, weights_append, single, front_frame}
use Rattle.merging.proofs.MergedLaws.{merged_nil, merged_turn}
use Rattle.merging.proofs.ComparisonLaws.{turn_compared}
use Rattle.merging.proofs.CountLaws.{runs_few}
use Rattle.sets.proofs.SearchLaws.{no_front, by_fronts}
use Rattle.sets.proofs.TurnLaws.{turn_fewer}

-- A cell stored above what is looked at.
pub store_frame : (s : List ℕ) {k : ℕ} (to x : ℕ) → k ≤ to → Same k s (set_at s to x)
store_frame s to x l = record { same = λ i p. get_or-set_other s to i x 0 (λ z. omega arith); kept = length-set s to x }

-- `put`

module _ {s : List ℕ} {from end k : ℕ} {o : Out} {s' : List ℕ} where
  pub put_kept : {r : Out} → PutPre s from end k o → Copied s from (end - from) o.to s' → r.to ≡ o.to + (end - from) → r.count ≡ o.count + k →
      PutBehind true s from end k o s' r
  put_kept p c x y =
      let f : Same o.to s s' = record { same = c.before; kept = c.kept } in
      record {
        frame = f;
        near = omega arith;
        even = λ z. omega arith;
        on = λ top zs vs b at e n. record {
          stands = rw (codes_append zs (members vs), values_members vs)
              (stands_append s' (top + 1) (codes (values zs)) (codes vs)
              (stands_frame o.to s s' (top + 1) (codes (values zs)) f (omega (arith, length_codes (values zs), b.ends)) b.stands)
              (subst (λ (i : ℕ). Stands s' i (codes vs)) (omega (arith, length_codes (values zs), b.ends))
              (copied_stands s from (end - from) o.to s' (codes vs) c (omega (arith, length_codes vs)) p.room at)));
          ends = omega (arith, b.ends, weights_append zs (members vs), ap weights (values_members vs));
          counted = omega (arith, b.counted, count_append zs (members vs), ap count (values_members vs));
        };
      }

  -- what has been built stays where nothing below its end is changed
  pub put_none : Same o.to s s' → PutBehind false s from end k o s' o
  put_none f = record {
    frame = f;
    near = omega arith;
    even = λ z. omega arith;
    on = λ top zs vs b at e n. rw (append-nil zs) (record {
      stands = stands_frame o.to s s' (top + 1) (codes (values zs)) f (omega (arith, length_codes (values zs), b.ends)) b.stands;
      ends = b.ends;
      counted = b.counted;
    });
  }

  -- the run is copied if it is kept
  pub put_copied : (keep : Bool) → PutPre s from end k o → {to more : ℕ} → CopiedIf s from end keep o.to s' to → more ≡ cond keep k 0 →
      PutBehind keep s from end k o s' (record { to = to; count = o.count + more })
  put_copied true p c m = put_kept p (c.kept refl) c.ends (omega arith)
  put_copied false p c m =
      rw (c.ends, m, let z : o.to + 0 ≡ o.to = omega arith in z, let z : o.count + 0 ≡ o.count = omega arith in z) (put_none c.frame)

-- `step`

-- A turn of the walk is a turn of the merge.
turn_merged : (l b r : Bool) (o : Ordering) (v : Value) (vs : Values) (w : Value) (ws : Values) → order v w ≡ o →
    merged l b r (v ∷ members vs) (w ∷ members ws)
    ≡ kept_value (keep_of l b r o) (first_of o v w) (merged l b r (members (rest_left o v vs)) (members (rest_right o w ws)))
turn_merged l b r Ordering·lt v vs w ws e = merged_turn l b r Ordering·lt v w (members vs) (members ws) e
turn_merged l b r Ordering·eq v vs w ws e = merged_turn l b r Ordering·eq v w (members vs) (members ws) e
turn_merged l b r Ordering·gt v vs w ws e = merged_turn l b r Ordering·gt v w (members vs) (members ws) e

kept_append : (k : Bool) (v : Value) (zs rest : List Value) → zs ++ kept_value k v rest ≡ (zs ++ cond k (v ∷ []) []) ++ rest
kept_append true v zs rest = sym (append_assoc zs (v ∷ []) rest)
kept_append false v zs rest = ap (λ (l : List Value). l ++ rest) (sym (append-nil zs))

-- The walk after a turn t that leaves o built; `turns` have been made.
abbrev pub after : Turn → Out → ℕ → Walk
after t o turns = record { fronts = t.rest; out = o; turns = turns }

module _ {l e r : Bool} {s s' : List ℕ} {w : Walk} {t : Turn} {o : Out} {top : ℕ} {xs ys : List Value}
    (turn : TurnAt s w.fronts.a w.fronts.m w.fronts.b w.fronts.n l e r t) (p : PutBehind t.keep s t.from t.end 1 w.out s' o)
    (h : Merging l e r s top w xs ys) where
  step_done : (v : Value) (vs : Values) (x : Value) (ws : Values) → Front s top w.fronts.a w.fronts.m (v ▸ vs) → Front s top w.fronts.b w.fronts.n (x ▸ ws) →
      merged l e r xs ys ≡ h.done ++ merged l e r (v ∷ members vs) (x ∷ members ws) →
      comparisons xs ys ≡ w.turns + comparisons (v ∷ members vs) (x ∷ members ws) → Merging l e r s' top (after t o (w.turns + 1)) xs ys
  step_done v vs x ws f g q c =
      let d = turn top v vs x ws f g in
      let o = order v x in
      let first = first_of o v x in
      let rest = merged l e r (members (rest_left o v vs)) (members (rest_right o x ws)) in
      let k : top ≤ w.out.to = omega (arith, h.built.ends) in
      record {
        left = rest_left o v vs;
        right = rest_right o x ws;
        done = h.done ++ cond t.keep (first ∷ []) [];
        on_left = front_frame w.out.to s s' top t.rest.a t.rest.m (rest_left o v vs) p.frame k d.on_left;
        on_right = front_frame w.out.to s s' top t.rest.b t.rest.n (rest_right o x ws) p.frame k d.on_right;
        built = p.on top h.done (first ▸ none) h.built (rw (single first) d.value.stands) (omega (arith, d.ends)) refl;
        all = q ∙ rw (turn_merged l e r o v vs x ws refl, ← d.keeps) (kept_append t.keep first h.done rest);
        compared = omega (arith, turn_compared o v vs x ws refl);
      }

  pub step_on : 0 < w.fronts.m → 0 < w.fronts.n → Merging l e r s' top (after t o (w.turns + 1)) xs ys
  step_on i j =
      by_fronts
      (λ vs ws. merged l e r xs ys ≡ h.done ++ merged l e r (members vs) (members ws) →
      comparisons xs ys ≡ w.turns + comparisons (members vs) (members ws) → Merging l e r s' top (after t o (w.turns + 1)) xs ys)
      step_done h.on_left h.on_right i j h.all h.compared

module _ {l e r : Bool} {s : List ℕ} {w : Walk} (h : StepPre l e r s w) {t : Turn} (turn : TurnAt s w.fronts.a w.fronts.m w.fronts.b w.fronts.n l e r t) where
  -- what a turn takes, and how many members are left
  step_took : (t.from ≤ t.end) × (t.end ≤ w.out.to) × (t.end - t.from ≤ 256) × (t.rest.m + t.rest.n < w.fronts.m + w.fronts.n)
  step_took =
      by_fronts (λ _ _. (t.from ≤ t.end) × (t.end ≤ w.out.to) × (t.end - t.from ≤ 256) × (t.rest.m + t.rest.n < w.fronts.m + w.fronts.n))
      (λ v vs x xs f g. let d = turn h.top v vs x xs f g in
      omega (arith, d.ends, d.value, h.merging.built, turn_fewer s h.top l e r (order v x) v vs x xs t d, f.counted, g.counted))
      h.merging.on_left h.merging.on_right h.more_left h.more_right

  pub step_put : PutPre s t.from t.end 1 w.out
  step_put = omega (arith, step_took, h.room, h.near, h.merging.built, count_weights (values h.merging.done))

  pub step_returns : {s' : List ℕ} {o : Out} → PutBehind t.keep s t.from t.end 1 w.out s' o → Stepped l e r s w s' (after t o (w.turns + 1))
  step_returns p = record {
    frame = p.frame;
    near = omega (arith, p.near, step_took.2);
    fewer = step_took.3;
    on = λ top xs ys m. step_on turn p m h.more_left h.more_right;
  }

-- `finish`

-- A set's cell before its members.
set_stands : {s : List ℕ} {top n to : ℕ} {zs : List Value} → BuiltTo s top to n zs → top < length s → ValueAt (set_at s top (21474836480 + n)) top (set_of zs)
unfolding code
set_stands {s} {top} {n} {to} {zs} b l = record { inside = omega (arith, length-set s top x, b.stands.inside); cells = cell }
  where
    x : ℕ
    x = 21474836480 + n

    cell : (i : ℕ) → i < suc (length (codes (values zs))) →
        get_or (set_at s top x) (top + i) 0 ≡ get_or ((21474836480 + count (values zs)) ∷ codes (values zs)) i 0
    cell zero p = rw (let z : top + 0 ≡ top = omega arith in z) (get_or-set_same s top x 0 l ∙ omega (arith, b.counted))
    cell (suc i) p =
        rw (let z : top + suc i ≡ top + 1 + i = omega arith in z)
        (get_or-set_other s top (top + 1 + i) x 0 (λ e. omega arith) ∙ b.stands.cells i (omega arith))

-- What has been built, which is part of the whole, is too heavy already.
pub end_heavy : {l r : Bool} {s : List ℕ} {w : Walk} {top : ℕ} → top + 256 < w.out.to → Ended l r s w top s None
end_heavy {l} {r} {s} {w} {top} g b xs ys h = record {
  frame = same_refl top s;
  light = λ k.
      let x = weights_append h.done (merged l b r (members h.left) (members h.right)) in
      absurd (omega (arith, h.built.ends, ap (λ (c : List Value). weights (values c)) h.all));
  heavy = λ k. refl;
}

-- What is kept of the set that is not exhausted is all that is left to merge.
record Rested (s : List ℕ) (top : ℕ) (w : Walk) (q : Rest) (done whole : List Value) : Type 0 where
  pub rest : Values
  pub front : Front s top q.at q.n rest
  pub all : whole ≡ done ++ members rest
  pub thin : Cells s w.fronts.a w.fronts.m × Cells s w.fronts.b w.fronts.n → Cells s q.at q.n

module _ {l r : Bool} {s : List ℕ} {w : Walk} {top : ℕ} {cells : Bool} (p : EndPre l r s w top cells) (light : w.out.to ≤ top + 256) {q : Rest}
    (rest : RestOf w.fronts l r q) where
  right_over : 0 < w.fronts.m → w.fronts.n ≡ 0
  right_over k = elim p.over [ inl z ↦ absurd (omega arith) | inr y ↦ elim y [ inl z ↦ z | inr z ↦ absurd (omega arith) ] ]

  rested : (e : Bool) (xs ys : List Value) (h : Merging l e r s top w xs ys) → Rested s top w q h.done (merged l e r xs ys)
  unfolding code merged
  rested e xs ys h = elim (dec_lt 0 w.fronts.m) [
    | yes k ↦
        let z = no_front (λ vs. members vs ≡ []) refl h.on_right (omega (arith, right_over k)) in
        kept l (rest.left k) h.on_left (λ c. c.0) (h.all ∙ rw (z, merged_nil l e r (members h.left)))
    | no k ↦
        let z = no_front (λ vs. members vs ≡ []) refl h.on_left (omega arith) in
        kept r (rest.right (omega arith)) h.on_right (λ c. c.1) (h.all ∙ rw z)
  ]
    where
      kept : (k : Bool) {at n : ℕ} {vs : Values} → (q.at ≡ at) × (q.n ≡ cond k n 0) → Front s top at n vs →
          (Cells s w.fronts.a w.fronts.m × Cells s w.fronts.b w.fronts.n → Cells s at n) → merged l e r xs ys ≡ h.done ++ cond k (members vs) [] →
          Rested s top w q h.done (merged l e r xs ys)
      kept true {vs = vs} d f c x = record { rest = vs; front = rw (d.0, d.1) f; all = x; thin = λ y. rw (d.0, d.1) (c y) }
      kept false d f c x = record {
        rest = none;
        front = rw (d.0, d.1) (record {
          stands = record { inside = omega (arith, f.stands.inside); cells = λ i l. absurd (omega arith) };
          counted = refl;
          below = omega (arith, f.below);
          fits = tt;
          rises = tt;
          light = omega arith;
        });
        all = x;
        thin = λ y. rw (d.0, d.1) (record { inside = omega (arith, (c y).inside); each = λ i l. absurd (omega arith) });
      }

  some_rest : Rested s top w q p.merging.done (merged l p.both r p.first p.second)
  some_rest = rested p.both p.first p.second p.merging

  pub end_rest : RestThere s q.at q.n cells
  end_rest = ((top, some_rest.rest, some_rest.front), λ e. some_rest.thin (p.thin e))

  module _ {end : ℕ} (ends : RunEnds s q.at q.n end) where
    pub end_put : PutPre s q.at end q.n w.out
    end_put =
        let z = some_rest in
        let x : end ≡ q.at + weights z.rest = ends top z.rest z.front in
        let b = p.merging.built in
        omega (arith, z.front, p.room, b, count_weights (values p.merging.done), count_weights z.rest)

    module _ {s' : List ℕ} {o : Out} (put : PutBehind true s q.at end q.n w.out s' o) where
      -- the whole has been built
      all_built : (e : Bool) (xs ys : List Value) → Merging l e r s top w xs ys → BuiltTo s' top o.to o.count (merged l e r xs ys)
      all_built e xs ys h =
          let z = rested e xs ys h in
          subst (BuiltTo s' top o.to o.count) (sym z.all)
          (put.on top h.done z.rest h.built z.front.stands (ends top z.rest z.front) z.front.counted)

      end_frame : (e : Bool) (xs ys : List Value) → Merging l e r s top w xs ys → Same top s s'
      end_frame e xs ys h = same_trans top w.out.to s s s' (same_refl top s) put.frame (omega (arith, h.built.ends))

      pub end_over : top + 256 < o.to → Ended l r s w top s' None
      end_over g e xs ys h = record {
        frame = end_frame e xs ys h;
        light = λ k. absurd (omega (arith, (all_built e xs ys h).ends));
        heavy = λ k. refl;
      }

      pub end_count : o.to ≤ top + 256 → o.count ≤ 256
      end_count g =
          let b = all_built p.both p.first p.second p.merging in
          omega (arith, b.ends, b.counted, count_weights (values (merged l p.both r p.first p.second)))

      pub end_made : o.to ≤ top + 256 → Ended l r s w top (set_at s' top (21474836480 + o.count)) (Some o.to)
      end_made g e xs ys h =
          let b = all_built e xs ys h in
          record {
            frame = same_trans top top s s' _ (end_frame e xs ys h) (store_frame s' top (21474836480 + o.count) (omega arith)) (omega arith);
            light = λ k. (ap Some (omega (arith, b.ends)), set_stands b (omega (arith, p.room, put.frame.kept)));
            heavy = λ k. absurd (omega (arith, b.ends));
          }

-- `walk_merge` and `merge_cells`

pub built_none : {s : List ℕ} {top : ℕ} → top + 514 ≤ length s → BuiltTo s top (top + 1) 0 []
unfolding code
built_none p = record { stands = record { inside = omega arith; cells = λ i p. absurd (omega arith) }; ends = omega arith; counted = refl }

pub walking_start : {l e r : Bool} {s : List ℕ} {a m b n top : ℕ} → top + 514 ≤ length s →
    Walking l e r s a m b n top s (record { fronts = record { a = a; m = m; b = b; n = n }; out = record { to = top + 1; count = 0 }; turns = 0 })
walking_start p = record {
  frame = same_refl _ _;
  on = λ vs ws f g. record { left = vs; right = ws; done = []; on_left = f; on_right = g; built = built_none p; all = refl; compared = omega arith };
}

module _ {l e r : Bool} {s₀ : List ℕ} {a m b n top : ℕ} {s : List ℕ} {w : Walk} (h : Walking l e r s₀ a m b n top s w) where
  -- What has been built at the end is the merge, and with the comparisons of what is left, if any, those made are all.
  pub walking_made : {s' : List ℕ} {k : Option ℕ} {more : ℕ} → Ended l r s w top s' k → Compares s w.fronts.a w.fronts.m w.fronts.b w.fronts.n more →
      RunsMerge l e r s₀ a m b n top s' (record { end = k; comparisons = w.turns + more })
  walking_made {s'} {more = more} d c vs ws f g =
      let x = h.on vs ws f g in
      let y = d e (members vs) (members ws) x in
      let z : more ≡ comparisons (members x.left) (members x.right) = c top x.left x.right x.on_left x.on_right in
      record {
        made = record { frame = same_trans top top s₀ s s' h.frame y.frame (omega arith); light = y.light; heavy = y.heavy };
        compared = omega (arith, x.compared);
      }

  module _ (p : TwoRuns s₀ a m b n top) (room : top + 514 ≤ length s₀) where
    some_merging : Merging l e r s top w (members p.first) (members p.second)
    some_merging = h.on p.first p.second p.on_left p.on_right

    -- Few comparisons have been made, and with those of what is left they stay few.
    walking_few : w.turns + comparisons (members some_merging.left) (members some_merging.right) ≤ 510
    walking_few = omega (arith, some_merging.compared, runs_few p.on_left p.on_right)

    pub walking_all_few : {more : ℕ} → Compares s w.fronts.a w.fronts.m w.fronts.b w.fronts.n more → w.turns + more ≤ 510
    walking_all_few c = let x = some_merging in omega (arith, walking_few, c top x.left x.right x.on_left x.on_right)

    pub walking_left : SomeRuns s w.fronts.a w.fronts.m w.fronts.b w.fronts.n
    walking_left = let x = some_merging in (top, record { first = x.left; second = x.right; on_left = x.on_left; on_right = x.on_right })

    pub walking_step : 0 < w.fronts.m → 0 < w.fronts.n → w.out.to ≤ top + 256 → StepPre l e r s w
    walking_step i j k = record {
      top = top;
      first = members p.first;
      second = members p.second;
      merging = some_merging;
      room = omega (arith, h.frame.kept);
      near = k;
      few = omega (arith, walking_few);
      more_left = i;
      more_right = j;
    }

    pub walking_next : {s' : List ℕ} {w' : Walk} → Stepped l e r s w s' w' → Walking l e r s₀ a m b n top s' w'
    walking_next {s'} t = record {
      frame = same_trans top w.out.to s₀ s s' h.frame t.frame (omega (arith, some_merging.built.ends));
      on = λ vs ws f g. t.on top (members vs) (members ws) (h.on vs ws f g);
    }

    pub walking_end : {cells : Bool} → (w.fronts.m ≡ 0) ⊎ ((w.fronts.n ≡ 0) ⊎ (top + 256 < w.out.to)) →
        (cells ≡ true → Cells s w.fronts.a w.fronts.m × Cells s w.fronts.b w.fronts.n) → EndPre l r s w top cells
    walking_end o c = record {
      both = e;
      first = members p.first;
      second = members p.second;
      merging = some_merging;
      room = omega (arith, h.frame.kept);
      over = o;
      thin = c;
    }
