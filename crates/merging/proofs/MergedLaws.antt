-- Merging rising lists is union, intersection and difference: those of the rules (`union_merged`, `inter_merged`, `diff_merged`).
use Rattle.sets.proofs.Base.{Ordering, Ordering·lt, Ordering·eq, Ordering·gt, Bool, true, false, cond, not, List, [], ◌∷◌, ◌++◌, ◌≡◌, refl, sym, ap, ◌∙◌, subst}
use Rattle.merging.proofs.Terms.{placed, Value, order, set, Values, none, ◌▸◌, members, values, AllFit, CellsFit, kept_value, insert, rising, is_in, keep, set_of, two_value, turned, merged, union, inter, diff, gives, FineSet}
use Rattle.laws.proofs.OrderLaws.{Small, flip, order_flip, order_eq, before_order, order_before}
use Rattle.laws.proofs.SetOrder.{All, Before, Rising, kept_all}
use Rattle.arena.proofs.FrontLaws.{rises_rising, fit_small}
use Rattle.sets.proofs.MemberLaws.{after_order, before_all, is_in_turn, is_in_before}

-- An exhausted second list leaves the first.
pub merged_nil : (l b r : Bool) (vs : List Value) → merged l b r vs [] ≡ cond l vs []
unfolding merged
merged_nil true b true [] = refl
merged_nil true b false [] = refl
merged_nil false b true [] = refl
merged_nil false b false [] = refl
merged_nil l b r (v ∷ vs) = refl

-- A turn, by the order of the first members.
pub merged_turn : (l b r : Bool) (o : Ordering) (v w : Value) (vs ws : List Value) → order v w ≡ o →
    merged l b r (v ∷ vs) (w ∷ ws) ≡ turned l b r o v w (merged l b r vs (w ∷ ws)) (merged l b r vs ws) (merged l b r (v ∷ vs) ws)
unfolding merged
merged_turn l b r o v w vs ws e = rw e

-- A member before all of the first list comes first.
merged_first : (l b r : Bool) (vs : List Value) (w : Value) (ws : List Value) → All (Before w) vs →
    merged l b r vs (w ∷ ws) ≡ kept_value r w (merged l b r vs ws)
unfolding merged
merged_first l b true [] w ws h = refl
merged_first l b false [] w ws h = refl
merged_first l b r (v ∷ vs) w ws h = merged_turn l b r Ordering·gt v w vs ws (after_order v w h.0)

merged_all : (P : Value → Type 0) (l b r : Bool) (vs ws : List Value) → All P vs → All P ws → All P (merged l b r vs ws)
unfolding merged
merged_all P l b r [] ws h k = elim r as (λ c. All P (cond c ws [])) [ true ↦ k | false ↦ tt ]
merged_all P l b r (v ∷ vs) [] h k = elim l as (λ c. All P (cond c (v ∷ vs) [])) [ true ↦ h | false ↦ tt ]
merged_all P l b r (v ∷ vs) (w ∷ ws) h k =
    elim (order v w) as (λ o. All P (turned l b r o v w (merged l b r vs (w ∷ ws)) (merged l b r vs ws) (merged l b r (v ∷ vs) ws))) [
      | Ordering·lt ↦ kept_all P l v _ h.0 (merged_all P l b r vs (w ∷ ws) h.1 k)
      | Ordering·eq ↦ kept_all P b v _ h.0 (merged_all P l b r vs ws h.1 k.1)
      | Ordering·gt ↦ kept_all P r w _ k.0 (merged_all P l b r (v ∷ vs) ws h k.1)
    ]

fit_all : (vs : Values) → AllFit vs → All CellsFit (members vs)
fit_all none h = tt
fit_all (v ▸ vs) h = (h.0, fit_all vs h.1)

all_fit : (vs : List Value) → All CellsFit vs → AllFit (values vs)
all_fit [] h = tt
all_fit (v ∷ vs) h = (h.0, all_fit vs h.1)

-- The cells of what is merged fit.
pub merged_fits : (l b r : Bool) (vs ws : Values) → AllFit vs → AllFit ws → AllFit (values (merged l b r (members vs) (members ws)))
merged_fits l b r vs ws h k =
    all_fit (merged l b r (members vs) (members ws)) (merged_all CellsFit l b r (members vs) (members ws) (fit_all vs h) (fit_all ws k))

-- Union.

insert_turn : (o : Ordering) (v w : Value) (ws : List Value) → order v w ≡ o → insert v (w ∷ ws) ≡ placed o v w ws (insert v ws)
unfolding insert
insert_turn o v w ws e = rw e

insert_first : (v : Value) (ws : List Value) → All (Before v) ws → insert v ws ≡ v ∷ ws
unfolding insert
insert_first v [] h = refl
insert_first v (w ∷ ws) h = insert_turn Ordering·lt v w ws (before_order v w h.0)

insert_merged : (v : Value) (vs : List Value) → Rising (v ∷ vs) → Small v → (ws : List Value) → Rising ws → All Small ws →
    insert v (merged true true true vs ws) ≡ merged true true true (v ∷ vs) ws
insert_merged v vs h s [] k t =
    ap (insert v) (merged_nil true true true vs) ∙ insert_first v vs h.0 ∙ sym (merged_nil true true true (v ∷ vs))
insert_merged v vs h s (w ∷ ws) k t = go (order v w) refl (insert_merged v vs h s ws k.1 t.1)
  where
    go : (o : Ordering) → order v w ≡ o → insert v (merged true true true vs ws) ≡ merged true true true (v ∷ vs) ws →
        insert v (merged true true true vs (w ∷ ws)) ≡ merged true true true (v ∷ vs) (w ∷ ws)
    go Ordering·lt e r =
        insert_first v (merged true true true vs (w ∷ ws))
        (merged_all (Before v) true true true vs (w ∷ ws) h.0 (before_all v w ws (order_before v w e) k))
        ∙ sym (merged_turn true true true Ordering·lt v w vs ws e)
    go Ordering·eq e r =
        let q : v ≡ w = order_eq v w s t.0 e in
        ap (insert v) (merged_first true true true vs w ws (subst (λ (x : Value). All (Before x) vs) q h.0))
        ∙ insert_turn Ordering·eq v w (merged true true true vs ws) e ∙ ap (λ (x : Value). x ∷ merged true true true vs ws) (sym q)
        ∙ sym (merged_turn true true true Ordering·eq v w vs ws e)
    go Ordering·gt e r =
        let q : Before w v = order_before w v (order_flip v w ∙ ap flip e) in
        ap (insert v) (merged_first true true true vs w ws (before_all w v vs q h).1)
        ∙ insert_turn Ordering·gt v w (merged true true true vs ws) e ∙ ap (λ (l : List Value). w ∷ l) r
        ∙ sym (merged_turn true true true Ordering·gt v w vs ws e)

rising_same : (ws : List Value) → Rising ws → rising ws ≡ ws
unfolding rising
rising_same [] h = refl
rising_same (w ∷ ws) h = ap (insert w) (rising_same ws h.1) ∙ insert_first w ws h.0

-- The merge of two rising lists is their rising union.
pub merged_union : (vs ws : List Value) → Rising vs → Rising ws → All Small vs → All Small ws →
    merged true true true vs ws ≡ rising (vs ++ ws)
unfolding rising merged
merged_union [] ws h k s t = sym (rising_same ws k)
merged_union (v ∷ vs) ws h k s t =
    sym (insert_merged v vs h s.0 ws k t) ∙ ap (insert v) (merged_union vs ws h.1 k s.1 t)

-- Intersection and difference: a filter of the first list, by a test f of whether its members are in the second.

keep_all_or_none : (l : Bool) (vs : List Value) → keep (λ x. l) vs ≡ cond l vs []
unfolding keep
keep_all_or_none true [] = refl
keep_all_or_none true (v ∷ vs) = ap (λ (r : List Value). v ∷ r) (keep_all_or_none true vs)
keep_all_or_none false [] = refl
keep_all_or_none false (v ∷ vs) = keep_all_or_none false vs

module _ (f : Bool → Bool) where
  abbrev filtered : List Value → List Value → List Value
  filtered ws vs = keep (λ x. f (is_in x ws)) vs

  abbrev both : List Value → List Value → List Value
  both vs ws = merged (f false) (f true) false vs ws

  -- one member more in the first list
  module _ (v : Value) (vs : List Value) (h : Rising (v ∷ vs)) (small : Small v)
      (rec : (zs : List Value) → Rising zs → All Small zs → both vs zs ≡ filtered zs vs) where
    filter_turn : (o : Ordering) (w : Value) (zs : List Value) → order v w ≡ o → Rising (w ∷ zs) → All Small (w ∷ zs) →
        both (v ∷ vs) zs ≡ kept_value (f (is_in v zs)) v (filtered zs vs) → both (v ∷ vs) (w ∷ zs) ≡ kept_value (f (is_in v (w ∷ zs))) v (filtered (w ∷ zs) vs)
    filter_turn Ordering·lt w zs e j m r =
        merged_turn (f false) (f true) false Ordering·lt v w vs zs e
        ∙ rw (rec (w ∷ zs) j m, is_in_before v (w ∷ zs) (before_all v w zs (order_before v w e) j))
    filter_turn Ordering·eq w zs e j m r =
        let q : All (Before w) vs = subst (λ (x : Value). All (Before x) vs) (order_eq v w small m.0 e) h.0 in
        merged_turn (f false) (f true) false Ordering·eq v w vs zs e
        ∙ rw (← rec (w ∷ zs) j m, merged_first (f false) (f true) false vs w zs q, is_in_turn Ordering·eq v w zs e)
    filter_turn Ordering·gt w zs e j m r =
        let q = merged_first (f false) (f true) false vs w zs (before_all w v vs (order_before w v (order_flip v w ∙ ap flip e)) h).1 in
        merged_turn (f false) (f true) false Ordering·gt v w vs zs e
        ∙ rw (r, is_in_turn Ordering·gt v w zs e, ← rec (w ∷ zs) j m, q, rec zs j.1 m.1)

    filter_from : (zs : List Value) → Rising zs → All Small zs → both (v ∷ vs) zs ≡ kept_value (f (is_in v zs)) v (filtered zs vs)
    unfolding is_in keep
    filter_from [] j m = merged_nil (f false) (f true) false (v ∷ vs) ∙ sym (keep_all_or_none (f false) (v ∷ vs))
    filter_from (w ∷ zs) j m = filter_turn (order v w) w zs refl j m (filter_from zs j.1 m.1)

  merged_filter : (vs ws : List Value) → Rising vs → Rising ws → All Small vs → All Small ws → both vs ws ≡ filtered ws vs
  unfolding keep merged
  merged_filter [] ws h k s t = refl
  merged_filter (v ∷ vs) ws h k s t = filter_from v vs h s.0 (λ zs j m. merged_filter vs zs h.1 j s.1 m) ws k t

-- The operations of the rules on two sets.
module _ (vs ws : Values) (f : FineSet vs) (g : FineSet ws) where
  of_sets : (P : List Value → List Value → Type 0) →
      ((xs ys : List Value) → Rising xs → Rising ys → All Small xs → All Small ys → P xs ys) → P (members vs) (members ws)
  of_sets P h = h _ _ (rises_rising vs f.rises) (rises_rising ws g.rises) (fit_small vs f.fits.1) (fit_small ws g.fits.1)

  pub union_merged : two_value union (set vs) (set ws) ≡ gives (set_of (merged true true true (members vs) (members ws)))
  unfolding two_value
  union_merged = rw (of_sets (λ xs ys. merged true true true xs ys ≡ rising (xs ++ ys)) merged_union)

  pub inter_merged : two_value inter (set vs) (set ws) ≡ gives (set_of (merged false true false (members vs) (members ws)))
  unfolding two_value
  inter_merged = rw (of_sets (λ xs ys. merged false true false xs ys ≡ keep (λ x. is_in x ys) xs) (merged_filter (λ b. b)))

  pub diff_merged : two_value diff (set vs) (set ws) ≡ gives (set_of (merged true false false (members vs) (members ws)))
  unfolding two_value
  diff_merged = rw (of_sets (λ xs ys. merged true false false xs ys ≡ keep (λ x. not (is_in x ys)) xs) (merged_filter not))
