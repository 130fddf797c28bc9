-- The operations of two operands. For operands that pass the operation's test it is enough to look at sets, at a set of pairs or at numbers; the
-- answer then tells what the node gives by what has been made, by where the image stands, or by a cell.
use Rattle.operations.proofs.Base.{ℕ, zero, suc, ◌+◌, ◌-◌, ◌%◌, ◌≤◌, ◌<◌, Bool, true, false, cond, not, List, [], ◌∷◌, ◌≢◌, ◌⊎◌, inl, inr, ◌≡◌, refl, sym, ap, ◌∙◌, subst, arith, le-leb, lt-leb, not-true, not-false, ltb, ltb→lt, nltb→le, ℤ, pos, negsuc, sub_ℕ, ◌+ℤ◌, ◌-ℤ◌, length, get_or}
use Rattle.std.specs.Prelude.{Option, Some, None}
use lib.Signed.{mag}
use Rattle.operations.proofs.Terms.{whole, Value, set, Values, int, weight, Pattern, t̂, û, P̂, ◌×̂◌, numᵖ, two_rule, Two, pairing, union, inter, diff, product, apply, plus, minus, interval, two, Given, gives, lacks, two_value, cell_size, excess, code, CellsFit, SomeSet, SomeValue, Same, SomeRelation, Applies, ImageAt, FitTwo, NodeAnswer, Within, Cell, Ok, Err, Unlike, NoValue, Wide, Sizes, GoodAt, weighed, two_given, ended, Gives, Operands, TwoReady, TwoDone, TwoOf, MergeDone, sum_kind, Shifted, NumberDone}
use Rattle.arena.proofs.Standing.{same_refl}
use Rattle.merging.specs.Walks.{Merges}
use Rattle.merging.specs.declared.Pass.{Pass}
use Rattle.products.specs.Growing.{PutsPair, Intervals, Multiplies}
use Rattle.operations.proofs.GoodLaws.{good_value, good_above, good_whole, good_inside}
use Rattle.operations.proofs.OutcomeLaws.{Makes, makes_frame, makes_gives}
use Rattle.operations.proofs.FitLaws.{two_any, two_fits, two_sets, two_numbers, two_function, number_low}
use Rattle.laws.proofs.KindLaws.{code_of, code_of_law, same_kind}

-- What the functions below ask of the operands.
module _ {s : List ℕ} {a b top : ℕ} (p : Operands s a b top) where
  pub ready_first : a < length s
  ready_first = good_inside p.small p.left

  pub ready_second : b < length s
  ready_second = good_inside p.small p.right

  pub ready_function : {r : Bool} → FitTwo (P̂ (t̂ ×̂ û) ∷ t̂ ∷ []) s a b r → not r ≡ false → SomeValue s (length s) b × SomeRelation s (length s) a
  ready_function f e = (
    (p.second, good_value p.small (good_whole p.small p.right)),
    two_function p.small (good_whole p.small p.left) p.right (λ _ _. SomeRelation s (length s) a) f e (λ vs i q. (vs, i, q)),
  )

-- And where there is room to build.
module _ {s : List ℕ} {a b top : ℕ} (p : TwoReady s a b top) where
  pub ready_values : SomeValue s top a × SomeValue s top b × (top + 514 ≤ length s)
  ready_values = let o = p.operands in ((o.first, good_value o.small o.left), (o.second, good_value o.small o.right), p.room)

  pub ready_sets : (u : Pattern) {r : Bool} → FitTwo (P̂ t̂ ∷ P̂ u ∷ []) s a b r → not r ≡ false → SomeSet s top a × SomeSet s top b × (top + 514 ≤ length s)
  ready_sets u f e =
      let o = p.operands in
      two_sets o.small o.left o.right (λ _ _. SomeSet s top a × SomeSet s top b × (top + 514 ≤ length s)) u f e
      (λ vs ws i j. ((vs, i), (ws, j), p.room))

-- The answer for operands that do not fit, and for those that do.
module _ (j : Two) {s : List ℕ} {a b top : ℕ} {r : Bool} (f : FitTwo (two_rule j).takes s a b r) where
  pub two_unlike : not r ≡ true → TwoDone j s a b top s (Err Unlike)
  unfolding two_given
  two_unlike e = record { frame = same_refl top s; answer = λ gs mid v w small l h k. rw (two_fits small h k (two_rule j).takes f ∙ not-true r e) }

  module _ (e : not r ≡ false) {s' : List ℕ} {o : NodeAnswer} where
    two_told : Same top s s' →
        ((gs : List ℕ) (mid : ℕ) (v w : Value) → Sizes gs → mid ≤ top → GoodAt gs s mid a v → GoodAt gs s top b w →
        Gives s' mid top (weighed (two_value j v w)) o) → TwoDone j s a b top s' o
    unfolding two_given
    two_told same m = record {
      frame = same;
      answer = λ gs mid v w small l h k. rw (two_fits small h k (two_rule j).takes f ∙ not-false r e) (m gs mid v w small l h k);
    }

    two_made : (end : Option ℕ) → Operands s a b top →
        ((gs : List ℕ) (v w : Value) → Sizes gs → GoodAt gs s top a v → GoodAt gs s top b w → Makes top s s' end (two_value j v w)) →
        o ≡ ended end → TwoDone j s a b top s' o
    two_made end p m z =
        two_told
        (makes_frame top s s' end (two_value j p.first p.second) (m p.sizes p.first p.second p.small p.left p.right))
        (λ gs mid v w small l h k. makes_gives top s s' end mid (two_value j v w) (m gs v w small (good_above small h top l) k) z)

module _ {s s' : List ℕ} {a b top : ℕ} {end : Option ℕ} {o : NodeAnswer} (p : Operands s a b top) where
  pub pair_done : PutsPair s a b top s' end → o ≡ ended end → TwoDone pairing s a b top s' o
  unfolding two_value
  pair_done m z = two_made pairing two_any refl end p (λ gs v w small h k. m v w (good_value small h) (good_value small k)) z

  pub product_done : {r : Bool} → FitTwo (P̂ t̂ ∷ P̂ û ∷ []) s a b r → not r ≡ false → Multiplies s a b top s' end → o ≡ ended end →
      TwoDone product s a b top s' o
  unfolding two_value
  product_done f e m z =
      two_made product f e end p (λ gs v w small h k. two_sets small h k (λ x y. Makes top s s' end (two_value product x y)) û f e m) z

-- A merge, whose count of comparisons is not asked for.
pub merge_done : {s s' : List ℕ} {a b top : ℕ} {o : NodeAnswer} {l c r t : Bool} {q : Pass} → Operands s a b top → FitTwo (P̂ t̂ ∷ P̂ t̂ ∷ []) s a b t →
    not t ≡ false → Merges l c r s a b top s' q → o ≡ ended q.end → MergeDone l c r s a b top s' o
merge_done {s} {s'} {a} {b} {top} {t = t} {q = q} p f e m z j i =
    two_made j (subst (λ (ps : List Pattern). FitTwo ps s a b t) (sym i.takes) f) e q.end p
    (λ gs v w small h k. two_sets small h k (λ x y. Makes top s s' q.end (two_value j x y)) t̂ f e
    (λ vs ws x y. subst (λ (g : Given). Makes top s s' q.end g) (sym (i.merges vs ws x.fine y.fine)) (m vs ws x y).made)) z

pub merge_unlike : {s : List ℕ} {a b top : ℕ} {l c r t : Bool} → FitTwo (P̂ t̂ ∷ P̂ t̂ ∷ []) s a b t → not t ≡ true → MergeDone l c r s a b top s (Err Unlike)
merge_unlike {s} {a} {b = b} {t = t} f e j i = two_unlike j (subst (λ (ps : List Pattern). FitTwo ps s a b t) (sym i.takes) f) e

-- Application: the second part within the function, or none.
image_none : (s : List ℕ) (a mid top : ℕ) (vs : Values) (g : Given) → ImageAt s a vs None g → Gives s mid top (weighed g) (Err NoValue)
image_none s a mid top vs (lacks k) h = ap lacks h
image_none s a mid top vs (gives u) h = absurd h

image_some : (s : List ℕ) (a mid top : ℕ) (vs : Values) (r : ℕ) (g : Given) → ImageAt s a vs (Some r) g → a + weight (set vs) ≤ mid →
    Gives s mid top (weighed g) (Ok (Within r))
image_some s a mid top vs r (lacks k) h l = absurd h
image_some s a mid top vs r (gives u) h l = record {
  value = u;
  is = rw (le-leb (weight u) 256 h.value.light);
  stands = h.value.stands;
  below = omega (arith, h.value.below);
}

module _ {s : List ℕ} {a b top : ℕ} {r : Bool} (f : FitTwo (P̂ (t̂ ×̂ û) ∷ t̂ ∷ []) s a b r) (e : not r ≡ false) where
  applied_told : (at : Option ℕ) → Applies s a b at → (o : NodeAnswer) →
      ((mid : ℕ) (vs : Values) (g : Given) → ImageAt s a vs at g → a + weight (set vs) ≤ mid → Gives s mid top (weighed g) o) → TwoDone apply s a b top s o
  unfolding two_value
  applied_told at image o m =
      two_told apply f e (same_refl top s)
      (λ gs mid v w small _ h k. two_function small (good_whole small h) k
      (λ x y. a + weight x ≤ mid → Gives s mid top (weighed (two_value apply x y)) o) f e
      (λ vs i q l. m mid vs (two_value apply (set vs) w) (image vs w i (good_value small (good_whole small k)) q) l) h.below)

  pub apply_none : Applies s a b None → TwoDone apply s a b top s (Err NoValue)
  apply_none image = applied_told None image (Err NoValue) (λ mid vs g h l. image_none s a mid top vs g h)

  pub apply_some : (at : ℕ) → Applies s a b (Some at) → TwoDone apply s a b top s (Ok (Within at))
  apply_some at image = applied_told (Some at) image (Ok (Within at)) (λ mid vs g h l. image_some s a mid top vs at g h l)

-- Integers with their range checked.
module _ (x : ℕ) where
  far : (i : ℤ) → Shifted i x → (x < 2147483648) ⊎ (4294967295 < x - 2147483648) → 2147483647 < mag i
  far (pos n) h (inl l) = omega arith
  far (pos n) h (inr l) = omega arith
  far (negsuc n) h (inl l) = omega arith
  far (negsuc n) h (inr l) = omega arith

  pub number_far : (x < 2147483648) ⊎ (4294967295 < x - 2147483648) → NumberDone x (Err Wide)
  number_far l s mid top i h = rw (lt-leb (mag i) 2147483647 (far i h l))

  module _ (low : 2147483648 ≤ x) (high : x - 2147483648 ≤ 4294967295) where
    near : (i : ℤ) → Shifted i x → (mag i ≤ 2147483647) × (excess i ≡ x - 2147483648)
    unfolding excess
    near (pos n) h = (omega arith, omega arith)
    near (negsuc n) h = (omega arith, omega arith)

    pub number_near : NumberDone x (Ok (Cell (4294967296 + (x - 2147483648))))
    unfolding code
    number_near s mid top i h = record {
      value = int i;
      is = rw (le-leb (mag i) 2147483647 (near i h).0);
      cell = ap (λ (c : ℕ). (4294967296 + c) ∷ []) (near i h).1;
    }

-- Sums and differences.
shifted_sub : (a b x : ℕ) → x + b ≡ 4294967296 + a → Shifted (sub_ℕ a b) x
shifted_sub a b x h = go (ltb a b) refl
  where
    go : (c : Bool) → ltb a b ≡ c → Shifted (cond c (negsuc (b - suc a)) (pos (a - b))) x
    go true e = omega (arith, ltb→lt a b (rw e tt))
    go false e = omega (arith, nltb→le a b (rw e tt))

module _ {x y : ℕ} where
  shifted_sum : (i j : ℤ) → CellsFit (int i) → CellsFit (int j) → excess i ≡ x → excess j ≡ y → Shifted (i +ℤ j) (x + y)
  unfolding excess
  shifted_sum (pos a) (pos b) h k p q = omega arith
  shifted_sum (pos a) (negsuc b) h k p q = shifted_sub a (suc b) (x + y) (omega (arith, k.1))
  shifted_sum (negsuc a) (pos b) h k p q = shifted_sub b (suc a) (x + y) (omega (arith, h.1))
  shifted_sum (negsuc a) (negsuc b) h k p q = omega (arith, h.1, k.1)

  shifted_difference : (i j : ℤ) → CellsFit (int i) → CellsFit (int j) → excess i ≡ x → excess j ≡ y → Shifted (i -ℤ j) (x + 4294967296 - y)
  unfolding excess
  shifted_difference (pos a) (pos zero) h k p q = omega arith
  shifted_difference (pos a) (pos (suc b)) h k p q = shifted_sub a (suc b) (x + 4294967296 - y) (omega (arith, h.1, k.1))
  shifted_difference (pos a) (negsuc b) h k p q = omega (arith, k.1)
  shifted_difference (negsuc a) (pos zero) h k p q = shifted_sub 0 (suc a) (x + 4294967296 - y) (omega (arith, h.1))
  shifted_difference (negsuc a) (pos (suc b)) h k p q = omega (arith, h.1, k.1)
  shifted_difference (negsuc a) (negsuc b) h k p q = shifted_sub (suc b) (suc a) (x + 4294967296 - y) (omega (arith, h.1, k.1))

pub sum_unlike : (less : Bool) {s : List ℕ} {a b top : ℕ} {r : Bool} → FitTwo (numᵖ whole ∷ numᵖ whole ∷ []) s a b r → not r ≡ true →
    TwoDone (sum_kind less) s a b top s (Err Unlike)
sum_unlike true f e = two_unlike (minus whole) f e
sum_unlike false f e = two_unlike (plus whole) f e

-- Two numbers as operands, by the payloads of their cells.
module _ {s : List ℕ} {a b top : ℕ} {r : Bool} (f : FitTwo (numᵖ whole ∷ numᵖ whole ∷ []) s a b r) (e : not r ≡ false)
    {x y : ℕ} (ex : x ≡ get_or s a 0 % cell_size) (ey : y ≡ get_or s b 0 % cell_size) {o : NodeAnswer} where
  pub plus_done : NumberDone (x + y) o → TwoDone (plus whole) s a b top s o
  unfolding two_value
  plus_done m =
      two_told (plus whole) f e (same_refl top s)
      (λ gs mid v w small _ h k. two_numbers small h k (λ v w. Gives s mid top (weighed (two_value (plus whole) v w)) o) f e
      (λ i j c d. m s mid top (i +ℤ j) (shifted_sum i j c.fits d.fits (number_low ex c) (number_low ey d))))

  pub minus_done : NumberDone (x + 4294967296 - y) o → TwoDone (minus whole) s a b top s o
  unfolding two_value
  minus_done m =
      two_told (minus whole) f e (same_refl top s)
      (λ gs mid v w small _ h k. two_numbers small h k (λ v w. Gives s mid top (weighed (two_value (minus whole) v w)) o) f e
      (λ i j c d. m s mid top (i -ℤ j) (shifted_difference i j c.fits d.fits (number_low ex c) (number_low ey d))))

  pub interval_done : {s' : List ℕ} {end : Option ℕ} → Operands s a b top → Intervals s x y top s' end → o ≡ ended end → TwoDone interval s a b top s' o
  unfolding two_value
  interval_done {s'} {end} p m z =
      two_made interval f e end p
      (λ gs v w small h k. two_numbers small h k (λ v w. Makes top s s' end (two_value interval v w)) f e
      (λ i j c d. m i j c.fits d.fits (number_low ex c) (number_low ey d))) z

-- By kind codes: the code is i's, or that of none but the last.
module _ {k : ℕ} {s : List ℕ} {a b top : ℕ} {s' : List ℕ} {o : NodeAnswer} where
  pub two_of : (i : Two) → k ≡ code_of (two i) → TwoDone i s a b top s' o → TwoOf k s a b top s' o
  two_of i e d j f = subst (λ (h : Two). TwoDone h s a b top s' o) (cc (same_kind k (two i) (two j) e f)) d

  pub two_last : k ≢ 28 → k ≢ 29 → k ≢ 30 → k ≢ 31 → k ≢ 32 → k ≢ 37 → k ≢ 39 → k ≢ 40 → TwoDone interval s a b top s' o → TwoOf k s a b top s' o
  two_last n28 n29 n30 n31 n32 n37 n39 n40 d pairing e = absurd (n28 (code_of_law k (two pairing) e))
  two_last n28 n29 n30 n31 n32 n37 n39 n40 d union e = absurd (n29 (code_of_law k (two union) e))
  two_last n28 n29 n30 n31 n32 n37 n39 n40 d inter e = absurd (n30 (code_of_law k (two inter) e))
  two_last n28 n29 n30 n31 n32 n37 n39 n40 d diff e = absurd (n31 (code_of_law k (two diff) e))
  two_last n28 n29 n30 n31 n32 n37 n39 n40 d product e = absurd (n32 (code_of_law k (two product) e))
  two_last n28 n29 n30 n31 n32 n37 n39 n40 d apply e = absurd (n37 (code_of_law k (two apply) e))
  two_last n28 n29 n30 n31 n32 n37 n39 n40 d (plus whole) e = absurd (n39 (code_of_law k (two (plus whole)) e))
  two_last n28 n29 n30 n31 n32 n37 n39 n40 d (minus whole) e = absurd (n40 (code_of_law k (two (minus whole)) e))
  two_last n28 n29 n30 n31 n32 n37 n39 n40 d interval e = d
