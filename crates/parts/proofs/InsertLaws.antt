-- A value put among the rising members that stand in the arena. The members are passed while they are less (`Finding`); what stands from the
-- place on is moved up, and the value is copied into the gap (`inserts_put`).
use Rattle.products.proofs.Base.{ℕ, ◌+◌, ◌-◌, ◌≤◌, ◌<◌, Bool, true, false, cond, List, [], ◌∷◌, ◌++◌, append-nil, Option, Some, ◌≡◌, refl, sym, ap, ◌∙◌, subst, arith, length}
use Rattle.parts.proofs.Terms.{Value, values, count, weight, weights, order, insert, rising, code, codes, Stands, ValueAt, Same, CellsFit, SomeAt, EndsAt, Compared, Copied, ValueBelow, StandBetween, last_of, LastAt, BuiltParts, PlaceBetween, FindPre, InsertPre, MovedLast, Out}
use Rattle.std.specs.declared.cmp.Ordering.{Ordering as RustOrdering}
use Rattle.std.specs.declared.cmp.Ordering.TheVariants.{Equal, Greater}
use Rattle.std.specs.Ordering.{is_eq, is_ge, is_le}
use Rattle.laws.proofs.SetOrder.{Rising, insert_all}
use Rattle.laws.proofs.CellsLaws.{weight_some}
use Rattle.arena.proofs.CodeLaws.{length_code, length_codes, fits_small}
use Rattle.arena.proofs.Standing.{stands_front, stands_back, stands_append, stands_frame, same_refl, same_trans, copied_stands}
use Rattle.arena.proofs.FrontLaws.{codes_append, count_append, weights_append, ordering_greater}
use Rattle.parts.proofs.PartLaws.{insert_next, insert_here, insert_none, last_append, last_split, insert_last}

-- The first of the members that stand, and those behind it.
module _ {s : List ℕ} {i to : ℕ} {z : Value} {zs : List Value} (h : StandBetween s i to (z ∷ zs)) where
  members_first : ValueAt s i z
  unfolding code
  members_first = stands_front s i (code z) (codes (values zs)) h.stands

  members_next : (e : ℕ) → e ≡ i + weight z → StandBetween s e to zs
  unfolding code
  members_next e q = record {
    stands = rw (q, ← length_code z) (stands_back s i (code z) (codes (values zs)) h.stands);
    fits = h.fits.1;
    ends = omega (arith, h.ends);
  }

-- `find`: hi is what is left of the members; where the value is placed among them, it is placed among all.
pub record Finding {s : List ℕ} {p end from to : ℕ} (g : FindPre s p end from to) (i : ℕ) (hi : List Value) : Type 0 where
  pub rest : StandBetween s i to hi
  pub leads : (at : ℕ) (equal : Bool) → PlaceBetween g.value i hi at equal → PlaceBetween g.value from g.others at equal

module _ {s : List ℕ} {p end from to : ℕ} (g : FindPre s p end from to) {i : ℕ} where
  pub finding_end : (hi : List Value) × Finding g i hi → to ≤ i → PlaceBetween g.value from g.others to false
  finding_end ([], h) l = h.leads to false (record { lo = []; hi = []; all = refl; there = omega (arith, h.rest.ends); inserted = insert_none g.value })
  finding_end (z ∷ hi, h) l = absurd (omega (arith, h.rest.ends, weight_some z))

  pub finding_some : (hi : List Value) × Finding g i hi → i < to → SomeAt s i
  finding_some ([], h) l = absurd (omega (arith, h.rest.ends))
  finding_some (z ∷ hi, h) l = record { value = z; stands = members_first h.rest; fits = h.rest.fits.0 }

  pub finding_on : (hi : List Value) × Finding g i hi → i < to → (e : ℕ) → EndsAt s i e → i < e
  finding_on ([], h) l e ends = absurd (omega (arith, h.rest.ends))
  finding_on (z ∷ hi, h) l e ends = omega (arith, ends z (members_first h.rest) h.rest.fits.0, weight_some z)

  -- The first of the members that are left is not less than the value.
  pub finding_here : (hi : List Value) × Finding g i hi → i < to → (c : RustOrdering) → Compared s p i c → is_le c ≡ true →
      PlaceBetween g.value from g.others i (is_eq c)
  finding_here ([], h) l c compared k = absurd (omega (arith, h.rest.ends))
  finding_here (z ∷ hi, h) l c compared k =
      let o = compared g.value z g.below.stands (members_first h.rest) g.below.fits h.rest.fits.0 in
      h.leads i (is_eq c) (record { lo = []; hi = z ∷ hi; all = refl; there = omega arith; inserted = insert_here g.value z hi c o k })

  -- It is less.
  pub finding_next : (hi : List Value) × Finding g i hi → i < to → Compared s p i Greater → (e : ℕ) → EndsAt s i e → (ys : List Value) × Finding g e ys
  finding_next ([], h) l compared e ends = absurd (omega (arith, h.rest.ends))
  finding_next (z ∷ hi, h) l compared e ends =
      let m = h.rest in
      let x = members_first m in
      let greater = ordering_greater (order g.value z) Greater (compared g.value z g.below.stands x g.below.fits m.fits.0) refl in
      let placed : (at : ℕ) (equal : Bool) → PlaceBetween g.value e hi at equal → PlaceBetween g.value i (z ∷ hi) at equal = λ at equal d. record {
        lo = z ∷ d.lo;
        hi = d.hi;
        all = ap (λ (l : List Value). z ∷ l) d.all;
        there = omega (arith, d.there, ends z x m.fits.0);
        inserted = insert_next g.value z hi greater ∙ ap (λ (l : List Value). z ∷ l) d.inserted;
      } in
      (hi, record { rest = members_next m e (ends z x m.fits.0); leads = λ at equal d. h.leads at equal (placed at equal d) })

-- `place_for`: the last member stands before the end.
last_at : (z : Value) (zs : List Value) {o : Option ℕ} {last to : ℕ} → o ≡ Some last → LastAt o to (z ∷ zs) → last + weight (last_of z zs) ≡ to
last_at z zs {last = last} e (k, is, l) = let d : k ≡ last = cc in rw (← d) l

last_stands : (s : List ℕ) (i to : ℕ) (z : Value) (zs : List Value) (last : ℕ) → StandBetween s i to (z ∷ zs) → last + weight (last_of z zs) ≡ to →
    ValueAt s last (last_of z zs) × CellsFit (last_of z zs)
last_stands s i to z [] last h l =
    (subst (λ (j : ℕ). ValueAt s j z) (let e : i ≡ last = omega (arith, h.ends) in e) (members_first h), h.fits.0)
last_stands s i to z (y ∷ ys) last h l = last_stands s (i + weight z) to y ys last (members_next h (i + weight z) refl) l

last_low : (zs : List Value) {k to : ℕ} → LastAt (Some k) to zs → k ≤ to
last_low [] l = absurd (cc)
last_low (z ∷ zs) {k} (j, e, l) = let d : k ≡ j = cc in omega arith

module _ {s : List ℕ} {p from : ℕ} {o : Out} {v : Value} (below : ValueBelow s from p v) {last : ℕ} (is : o.last ≡ Some last) where
  pub place_some : (zs : List Value) → BuiltParts s from o zs → SomeAt s last
  place_some [] h = absurd (let d = h.last in cc)
  place_some (z ∷ zs) h =
      let x = last_stands s from o.to z zs last h.members (last_at z zs is h.last) in record { value = last_of z zs; stands = x.0; fits = x.1 }

  place_compared : (z : Value) (zs : List Value) → BuiltParts s from o (z ∷ zs) → Rising (z ∷ zs) → (c : RustOrdering) → Compared s p last c → is_ge c ≡ true →
      insert v (z ∷ zs) ≡ (z ∷ zs) ++ cond (is_eq c) [] (v ∷ [])
  place_compared z zs h r c k g =
      let x = last_stands s from o.to z zs last h.members (last_at z zs is h.last) in
      insert_last v z zs r (fits_small v below.fits) (fits_small (last_of z zs) x.1) c (k v (last_of z zs) below.stands x.0 below.fits x.1) g

  -- The value is the last member.
  pub place_same : (zs : List Value) → BuiltParts s from o zs → Rising zs → Compared s p last Equal → PlaceBetween v from zs last true
  place_same [] h r k = absurd (let d = h.last in cc)
  place_same (z ∷ zs) h r k =
      let d = last_split z zs in
      let w = ap (λ (l : List Value). weights (values l)) d.1 ∙ weights_append d.0 (last_of z zs ∷ []) in
      record {
        lo = d.0;
        hi = last_of z zs ∷ [];
        all = d.1;
        there = omega (arith, last_at z zs is h.last, h.members.ends);
        inserted = place_compared z zs h r Equal k refl ∙ append-nil (z ∷ zs) ∙ d.1;
      }

  -- It is greater.
  pub place_behind : (zs : List Value) → BuiltParts s from o zs → Rising zs → Compared s p last Greater → PlaceBetween v from zs o.to false
  place_behind [] h r k = absurd (let d = h.last in cc)
  place_behind (z ∷ zs) h r k =
      record { lo = z ∷ zs; hi = []; all = sym (append-nil (z ∷ zs)); there = h.members.ends; inserted = place_compared z zs h r Greater k refl }

abbrev pub place_find : {s : List ℕ} {p end from : ℕ} {o : Out} → InsertPre s p end from o → FindPre s p end from o.to
place_find h = record { value = h.value; below = h.below; ends = h.ends; others = rising h.others; members = h.built.members }

-- `insert`: the last member after one more has been put.
last_behind : (last to : ℕ) (lo : List Value) (h : Value) (hs : List Value) → last + weight (last_of h hs) ≡ to → LastAt (Some last) to (lo ++ (h ∷ hs))
last_behind last to [] h hs l = (last, refl, l)
last_behind last to (z ∷ lo) h hs l = (last, refl, rw (last_append z lo h hs) l)

last_found : (last : Option ℕ) (to : ℕ) (lo : List Value) (h : Value) (hs : List Value) → LastAt last to (lo ++ (h ∷ hs)) →
    (k : ℕ) × (last ≡ Some k) × (k + weight (last_of h hs) ≡ to)
last_found last to [] h hs l = l
last_found last to (z ∷ lo) h hs (k, e, l) = (k, e, rw (last_append z lo h hs) at l)

last_moved : {at to : ℕ} {last : Option ℕ} {n r : ℕ} → MovedLast at to last n r → (v : Value) (lo hi : List Value) → LastAt last to (lo ++ hi) →
    to ≡ at + weights (values hi) → n ≡ weight v → LastAt (Some r) (to + n) (lo ++ (v ∷ hi))
last_moved {to = to} {n = n} {r} m v lo [] l e w = last_behind r (to + n) lo v [] (omega (arith, m.behind (omega arith)))
last_moved {to = to} {last} {n} {r} m v lo (h ∷ hs) l e w =
    let (k, is, z) = last_found last to lo h hs l in
    last_behind r (to + n) lo v (h ∷ hs) (omega (arith, m.before (λ q. omega (arith, weight_some h)) k is))

-- What stands behind a copied run stays, and what is below it.
module _ {s : List ℕ} {from n to : ℕ} {s' : List ℕ} (c : Copied s from n to s') where
  stands_behind : (k : ℕ) (xs : List ℕ) → to + n ≤ k → Stands s k xs → Stands s' k xs
  stands_behind k xs l h = record { inside = omega (arith, c.kept, h.inside); cells = λ i p. c.after (k + i) (omega arith) ∙ h.cells i p }

  copied_same : (k : ℕ) → k ≤ to → Same k s s'
  copied_same k l = record { same = λ i p. c.before i (omega arith); kept = c.kept }

-- Of the cells lo and hi, those of hi are moved up, and the cells xs, which stand below, are copied into the gap.
module _ {s s₁ s₂ : List ℕ} {p at n m : ℕ} (shifted : Copied s at m (at + n) s₁) (copied : Copied s₁ p n at s₂) where
  gap_same : (k : ℕ) → k ≤ at → Same k s s₂
  gap_same k l = same_trans k k s s₁ s₂ (copied_same shifted k (omega arith)) (copied_same copied k l) (omega arith)

  gap_stands : (from : ℕ) (lo xs hi : List ℕ) → at ≡ from + length lo → length xs ≡ n → length hi ≡ m → at + m + n ≤ length s → p + n ≤ from →
      Stands s p xs → Stands s from (lo ++ hi) → Stands s₂ from (lo ++ (xs ++ hi))
  gap_stands from lo xs hi place size rest room l h k =
      let low = stands_frame at s s₂ from lo (gap_same at (omega arith)) (omega arith) (stands_front s from lo hi k) in
      let here = stands_frame at s s₁ p xs (copied_same shifted at (omega arith)) (omega arith) h in
      let middle = copied_stands s₁ p n at s₂ xs copied size (omega (arith, shifted.kept)) here in
      let high = rw (← place) at (stands_back s from lo hi k) in
      let up = stands_behind copied (at + n) hi (omega arith) (copied_stands s at m (at + n) s₁ hi shifted rest (omega arith) high) in
      let back : Stands s₂ at (xs ++ hi) = stands_append s₂ at xs hi middle (rw (← size) at up) in
      stands_append s₂ from lo (xs ++ hi) low (rw place at back)

module _ {s : List ℕ} {p end from : ℕ} {o : Out} (g : InsertPre s p end from o) {at : ℕ} {equal : Bool}
    (d : PlaceBetween g.value from (rising g.others) at equal) where
  abbrev zs : List Value
  zs = rising g.others

  abbrev v : Value
  v = g.value

  pub inserts_none : equal ≡ true → Same from s s × BuiltParts s from o (insert v zs)
  inserts_none e =
      let z : insert v zs ≡ zs = d.inserted ∙ ap (λ (b : Bool). d.lo ++ cond b d.hi (v ∷ d.hi)) e ∙ sym d.all in
      (same_refl from s, subst (λ (l : List Value). BuiltParts s from o l) (sym z) g.built)

  -- where the value ends; where the place is, and how much follows it
  ends_here : end ≡ p + weight v
  ends_here = g.ends v g.below.stands g.below.fits

  follows : o.to ≡ at + weights (values d.hi)
  follows = omega (arith, d.there, g.built.members.ends, ap (λ (l : List Value). weights (values l)) d.all, weights_append d.lo d.hi)

  pub insert_near : (p ≤ end) × (end ≤ at) × (at ≤ o.to) × (o.to + (end - p) ≤ length s)
  insert_near =
      omega (arith, ends_here, g.below.below, d.there, follows, g.room)

  pub last_near : (k : ℕ) → o.last ≡ Some k → k ≤ o.to
  last_near k e = last_low zs (rw e at g.built.last)

  module _ {s₁ s₂ : List ℕ} (shifted : Copied s at (o.to - at) (at + (end - p)) s₁) (copied : Copied s₁ p (end - p) at s₂) where
    -- the codes of the members before the place, of the value, and of the members behind it
    put_stands : Stands s₂ from (codes (values (d.lo ++ (v ∷ d.hi))))
    unfolding code
    put_stands =
        let e = ap (λ (l : List Value). codes (values l)) d.all ∙ codes_append d.lo d.hi in
        let w = length_codes (values d.lo) in
        let y = ends_here in
        rw (codes_append d.lo (v ∷ d.hi))
        (gap_stands shifted copied from (codes (values d.lo)) (code v) (codes (values d.hi)) (omega (arith, d.there)) (omega (arith, length_code v))
        (omega (arith, follows, length_codes (values d.hi))) (omega (arith, follows, g.room)) (omega (arith, g.below.below)) g.below.stands
        (rw e at g.built.members.stands))

    pub inserts_put : equal ≡ false → (last : ℕ) → MovedLast at o.to o.last (end - p) last →
        Same from s s₂ × BuiltParts s₂ from (record { last = Some last; to = o.to + (end - p); count = o.count + 1 }) (insert v zs)
    inserts_put e last f =
        let b = g.built in
        let ins : insert v zs ≡ d.lo ++ (v ∷ d.hi) = d.inserted ∙ ap (λ (b : Bool). d.lo ++ cond b d.hi (v ∷ d.hi)) e in
        let old = ap (λ (l : List Value). count (values l)) d.all ∙ count_append d.lo d.hi in
        let new = ap (λ (l : List Value). count (values l)) ins ∙ count_append d.lo (v ∷ d.hi) in
        let y : end - p ≡ weight v = omega (arith, ends_here) in (
          gap_same shifted copied from (omega (arith, d.there)),
          record {
            members = record {
              stands = rw ins put_stands;
              fits = insert_all CellsFit v zs g.below.fits b.members.fits;
              ends = omega (arith, follows, d.there, ap (λ (l : List Value). weights (values l)) ins, weights_append d.lo (v ∷ d.hi));
            };
            last = rw ins (last_moved f v d.lo d.hi (rw d.all at b.last) follows y);
            counted = omega (arith, b.counted, old, new);
          },
        )
