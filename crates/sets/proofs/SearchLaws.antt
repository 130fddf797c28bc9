-- Walks over the members that are left of a set, one by one (`by_front`): the search for a value, and where a run of members ends.
use Rattle.sets.proofs.Base.{ℕ, ◌+◌, ◌-◌, ◌≤◌, ◌<◌, RustOrdering, Less, Equal, Greater, Option, Some, None, is_some, Bool, true, false, List, ◌∷◌, inl, inr, ◌≡◌, refl, sym, subst, arith, length, bool_byte}
use Rattle.sets.proofs.Terms.{Value, scalar, pair, set, Values, none, ◌▸◌, members, weight, order, is_in, ValueAt, CellsFit, ordering_of, SomeAt, EndsAt, Compared, ValueBelow, Front, key_of, Keyed, MemberOrNone}
use Rattle.rules.proofs.Basics.{bool_eq}
use Rattle.laws.proofs.OrderLaws.{Small, order_eq, order_refl, order_before, before_irrefl}
use Rattle.laws.proofs.SetOrder.{All, Before, all_imp}
use Rattle.laws.proofs.Membership.{In, all_in_law, is_in_right}
use Rattle.arena.proofs.CodeLaws.{fits_small}
use Rattle.arena.proofs.ValueParts.{left_stands}
use Rattle.arena.proofs.FrontLaws.{rises_rising, fit_small, front_value, front_below, front_next, ordering_less, ordering_equal}
use Rattle.sets.proofs.KeyLaws.{Keeps, pairs_small, less_all}

module _ {s : List ℕ} {top at n : ℕ} (P : Values → Type 0) where
  -- What is shown of a first member and the rest is shown of members, if there are any; and what is shown of none, if there are none.
  pub by_front : ((v : Value) (vs : Values) → Front s top at n (v ▸ vs) → P (v ▸ vs)) → {vs : Values} → Front s top at n vs → 0 < n → P vs
  by_front h {vs = none} f l = absurd (omega (arith, f.counted))
  by_front h {vs = v ▸ vs} f l = h v vs f

  pub no_front : P none → {vs : Values} → Front s top at n vs → n ≤ 0 → P vs
  no_front h {vs = none} f l = h
  no_front h {vs = v ▸ vs} f l = absurd (omega (arith, f.counted))

-- The same of two runs of members.
pub by_fronts : {s : List ℕ} {top a m b n : ℕ} (P : Values → Values → Type 0) →
    ((v : Value) (vs : Values) (w : Value) (ws : Values) → Front s top a m (v ▸ vs) → Front s top b n (w ▸ ws) → P (v ▸ vs) (w ▸ ws)) →
    {vs ws : Values} → Front s top a m vs → Front s top b n ws → 0 < m → 0 < n → P vs ws
by_fronts P h {vs} {ws} f g l k = by_front (λ us. P us ws) (λ v us e. by_front (P (v ▸ us)) (λ w xs d. h v us w xs e d) g k) f l

-- The key of a member that stands.
pub key_stands : (first : Bool) (s : List ℕ) (i : ℕ) (w : Value) (ws : Values) → Keyed first (w ▸ ws) → ValueAt s i w → CellsFit w →
    ValueAt s (i + bool_byte first) (key_of first w) × CellsFit (key_of first w)
key_stands true s i (scalar x) ws k h f = absurd k.0
key_stands true s i (pair a b) ws k h f = (left_stands s i a b h, f.0)
key_stands true s i (set x) ws k h f = absurd k.0
key_stands false s i w ws k h f = (subst (λ (j : ℕ). ValueAt s j w) (let e : i ≡ i + 0 = omega arith in e) h, f)

keeps_all : (first : Bool) (vs : Values) → Keyed first vs → All Small (members vs) → All (Keeps first) (members vs)
keeps_all true vs k h = pairs_small vs k h
keeps_all false vs k h = all_imp Small (Keeps false) (λ x p. tt) (members vs) h

-- Where v is less than the first member's key, it is no member's.
keys_past : {s : List ℕ} {top i n : ℕ} (first : Bool) (v w : Value) (ws : Values) → Front s top i n (w ▸ ws) → Keyed first (w ▸ ws) →
    Before v (key_of first w) → All (λ z. key_of first z ≡ v → ⊥) (w ∷ members ws)
keys_past first v w ws f k l =
    let r = rises_rising (w ▸ ws) f.rises in
    let q = keeps_all first (w ▸ ws) k (fit_small (w ▸ ws) f.fits) in
    all_imp (λ z. Before v (key_of first z)) (λ z. key_of first z ≡ v → ⊥) (λ z b e. before_irrefl v (subst (Before v) e b)) (w ∷ members ws)
    (l, less_all first v w (members ws) q.0 q.1 r.0 l)

-- Looking for v: what is found among the members that are left is found in the set.
pub record Seeking (s : List ℕ) (top at : ℕ) (first : Bool) (v : Value) (vs : List Value) (i left : ℕ) : Type 0 where
  pub rest : Values
  pub front : Front s top i left rest
  pub keyed : Keyed first rest
  pub behind : at ≤ i
  pub on : (r : Option ℕ) → MemberOrNone s top at first v (members rest) r → MemberOrNone s top at first v vs r

module _ {s : List ℕ} {top at : ℕ} {first : Bool} {v : Value} {vs : List Value} {i left : ℕ} (h : Seeking s top at first v vs i left) where
  pub seeking_key : 0 < left → SomeAt s (i + bool_byte first)
  seeking_key l =
      by_front (λ ws. Keyed first ws → SomeAt s (i + bool_byte first))
      (λ w ws f k. let x = key_stands first s i w ws k (front_value s top i left w ws f) f.fits.0 in
      record { value = key_of first w; stands = x.0; fits = x.1 }) h.front l h.keyed

  pub seeking_end : left ≤ 0 → MemberOrNone s top at first v vs None
  seeking_end l = h.on None (no_front (λ ws. MemberOrNone s top at first v (members ws) None) tt h.front l)

  module _ {e : ℕ} {c : RustOrdering} (value : ValueBelow s (length s) e v) (compared : Compared s e (i + bool_byte first) c) (l : 0 < left) where
    -- A turn, by the first of the members that are left and the order of v and its key.
    by_key : (P : Values → Type 0) →
        ((w : Value) (ws : Values) → Front s top i left (w ▸ ws) → Keyed first (w ▸ ws) → c ≡ ordering_of (order v (key_of first w)) →
        CellsFit (key_of first w) → P (w ▸ ws)) → P h.rest
    by_key P k =
        by_front (λ ws. Keyed first ws → P ws)
        (λ w ws f q. let x = key_stands first s i w ws q (front_value s top i left w ws f) f.fits.0 in
        k w ws f q (compared v (key_of first w) value.stands x.0 value.fits x.1) x.1) h.front l h.keyed

    pub seeking_found : c ≡ Equal → MemberOrNone s top at first v vs (Some i)
    seeking_found z = h.on (Some i) (by_key (λ ws. MemberOrNone s top at first v (members ws) (Some i)) λ w ws f q o x.
        record {
          is = w;
          among = inl refl;
          key = sym (order_eq v (key_of first w) (fits_small v value.fits) (fits_small (key_of first w) x) (ordering_equal (order v (key_of first w)) c o z));
          behind = h.behind;
          value = front_below s top i left w ws f;
        })

    pub seeking_past : c ≡ Less → MemberOrNone s top at first v vs None
    seeking_past z = h.on None (by_key (λ ws. MemberOrNone s top at first v (members ws) None) λ w ws f q o x.
        keys_past first v w ws f q (order_before v (key_of first w) (ordering_less (order v (key_of first w)) c o z)))

    pub seeking_next : c ≡ Greater → {r : ℕ} → EndsAt s i r → Seeking s top at first v vs r (left - 1)
    seeking_next z {r} ends =
        by_key (λ ws. ((r : Option ℕ) → MemberOrNone s top at first v (members ws) r → MemberOrNone s top at first v vs r)
        → Seeking s top at first v vs r (left - 1))
        (λ w ws f q o x on. let y : r ≡ i + weight w = ends w (front_value s top i left w ws f) f.fits.0 in
        record {
          rest = ws;
          front = front_next s top i left w ws f r (left - 1) y (omega arith);
          keyed = elim first as (λ b. Keyed b (w ▸ ws) → Keyed b ws) [ true ↦ λ k. k.1 | false ↦ λ k. tt ] q;
          behind = omega (arith, h.behind);
          on = λ k m. on k (further w ws (λ e. other (rw (o, e, order_refl v) refl)) k m);
        }) h.on
      where
        other : c ≡ Equal → ⊥
        other e = cc

        further : (w : Value) (ws : Values) → (key_of first w ≡ v → ⊥) → (k : Option ℕ) → MemberOrNone s top at first v (members ws) k →
            MemberOrNone s top at first v (w ∷ members ws) k
        further w ws n (Some k) m = record { is = m.is; among = inr m.among; key = m.key; behind = m.behind; value = m.value }
        further w ws n None m = (n, m)

-- The answer tells whether there is such a member.
pub sought_in : (s : List ℕ) (top at : ℕ) (v : Value) (vs : List Value) (r : Option ℕ) → MemberOrNone s top at false v vs r → Small v → All Small vs →
    is_some r ≡ is_in v vs
sought_in s top at v vs (Some r) m p q =
    bool_eq true (is_in v vs) (λ _. (is_in_right v vs p q).1 (subst (λ (w : Value). In w vs) m.key m.among)) (λ _. tt)
sought_in s top at v vs None n p q =
    bool_eq false (is_in v vs) (λ t. absurd t) (λ t. absurd (all_in_law (λ w. w ≡ v → ⊥) v vs n ((is_in_right v vs p q).0 t) refl))
