-- Walking the members of sets, and the pairs of one value or of a set's members with those of another.
use Rattle.products.proofs.Base.{Some, ℕ, suc, ◌+◌, ◌*◌, ◌-◌, ◌%◌, ◌≤◌, ◌<◌, List, [], ◌++◌, map, ◌≡◌, refl, sym, ap, ◌∙◌, arith, mul-le-mul_right, length, get_or, length-append, set_at}
use Rattle.products.proofs.Terms.{Value, pair, Values, none, ◌▸◌, members, count, weight, weights, set_of, pairs_of, code, codes, SomeAt, EndsAt, SetBelow, SetAt, Made, Front, Size, Appended, Grown, PairPre, PairPut, pairs_with, RowPre, Rows, square, SquarePre, Squares, FewCells, SmallProducts, SizeIs, product_weight}
use Rattle.arena.proofs.CodeLaws.{length_codes}
use Rattle.arena.proofs.FrontLaws.{codes_append, count_append, weights_append, front_start, front_value, front_next, front_below, front_some, front_frame, value_frame, set_end, set_cells}
use Rattle.products.proofs.GrowLaws.{grown_step, grown_end, grown_left, made_set}
use Rattle.laws.proofs.CellsLaws.{count_weights}

-- A walk: the members of a set are passed one by one, and for each of them cells are written. What is left to write is told by `rest`, the
-- members that are left.
pub record Walking (F : Values → List ℕ) (s₀ : List ℕ) (top : ℕ) (vs : Values) (to : ℕ) (s : List ℕ) (i left at : ℕ) (rest : Values) : Type 0 where
  pub front : Front s₀ top i left rest
  pub grown : Grown s₀ to s at (F vs) (F rest)
  pub behind : top ≤ to

abbrev pub WalkAt : (Values → List ℕ) → List ℕ → ℕ → Values → ℕ → List ℕ → ℕ → ℕ → ℕ → Type 0
WalkAt F s₀ top vs to s i left at = (rest : Values) × Walking F s₀ top vs to s i left at rest

module _ {F : Values → List ℕ} {s₀ : List ℕ} {top : ℕ} {vs : Values} {to : ℕ} {s : List ℕ} {i left at : ℕ} where
  walk_front : {rest : Values} → Walking F s₀ top vs to s i left at rest → Front s top i left rest
  walk_front {rest} h = front_frame to s₀ s top i left rest h.grown.appended.frame h.behind h.front

  pub walk_some : WalkAt F s₀ top vs to s i left at → 0 < left → SomeAt s i
  walk_some (rest, h) l = front_some s top i left rest (walk_front h) l

  pub walk_end : WalkAt F s₀ top vs to s i left at → left ≤ 0 → F none ≡ [] → Appended s₀ to s at (F vs)
  walk_end (none, h) l e = grown_end (rw e at h.grown)
  walk_end (w ▸ us, h) l e = absurd (omega (arith, h.front.counted))

  module _ (e : ℕ) (ends : EndsAt s i e) where
    walk_ends : {w : Value} {us : Values} → Walking F s₀ top vs to s i left at (w ▸ us) → e ≡ i + weight w
    walk_ends {w} {us} h = let f = walk_front h in ends w (front_value s top i left w us f) f.fits.0

    pub walk_forward : WalkAt F s₀ top vs to s i left at → 0 < left → i ≤ e
    walk_forward (none, h) l = absurd (omega (arith, h.front.counted))
    walk_forward (w ▸ us, h) l = omega (arith, walk_ends h)

    walk_next : {w : Value} {us : Values} → Walking F s₀ top vs to s i left at (w ▸ us) → {s' : List ℕ} {r : ℕ} {cs : List ℕ} →
        F (w ▸ us) ≡ cs ++ F us → Appended s at s' r cs → {others : ℕ} → suc others ≡ left → WalkAt F s₀ top vs to s' e others r
    walk_next {w} {us} h d a {others} p =
        let next : Walking F s₀ top vs to _ e others _ us = record {
          front = front_next s₀ top i left w us h.front e others (walk_ends h) p;
          grown = grown_step (F us) (rw d at h.grown) a;
          behind = h.behind;
        } in
        (us, next)

-- The pairs of x with the members of a set.
row_sizes : (x : Value) (ws : Values) → (count (pairs_with x ws) ≡ count ws) × (weights (pairs_with x ws) ≡ count ws + count ws * weight x + weights ws)
row_sizes x none = omega arith
row_sizes x (w ▸ ws) = let h = row_sizes x ws in omega arith

-- `row`
abbrev pub RowAt : {s₀ : List ℕ} {v k b m to : ℕ} → RowPre s₀ v k b m to → List ℕ → ℕ → ℕ → ℕ → Type 0
RowAt {s₀} {v} {k} {b} {m} {to} g s i left at = WalkAt (λ us. codes (pairs_with g.first us)) s₀ g.top g.others to s i left at

module _ {s₀ : List ℕ} {v k b m to : ℕ} (g : RowPre s₀ v k b m to) {s : List ℕ} {i left at : ℕ} (e : ℕ) (ends : EndsAt s i e) where
  pub row_pair : RowAt g s i left at → 0 < left → PairPre s v k i (e - i) at
  row_pair (none, h) l = absurd (omega (arith, h.front.counted))
  row_pair (w ▸ us, h) l =
      let x = g.first in
      let d = h.grown.appended in
      let q = grown_left h.grown in
      let z = walk_ends e ends h in
      let y = length_codes (pairs_with x g.others) in
      omega (arith, g.value, g.weighs, g.room, h.behind, h.front, d.ends, d.frame.kept, length_codes (pairs_with x (w ▸ us)))

  pub row_next : RowAt g s i left at → {others : ℕ} → suc others ≡ left → (s' : List ℕ) (r : ℕ) → PairPut s v k i (e - i) at s' r → RowAt g s' e others r
  unfolding code
  row_next (none, h) p s' r put = absurd (omega (arith, h.front.counted))
  row_next (w ▸ us, h) p s' r put =
      let there = (value_frame to s₀ s g.top v g.first h.grown.appended.frame h.behind g.value).stands in
      walk_next e ends h refl
      (put g.first w there (front_value s g.top i left w us (walk_front h)) g.weighs (omega (arith, walk_ends e ends h))) p

-- The pairs of the members of two sets.
square_codes : (v : Value) (vs ws : Values) → codes (square (v ▸ vs) ws) ≡ codes (pairs_with v ws) ++ codes (square vs ws)
unfolding pairs_of
square_codes v vs ws = codes_append (map (pair v) (members ws)) (pairs_of (members vs) (members ws))

square_sizes : (vs ws : Values) →
    (count (square vs ws) ≡ count vs * count ws) × (weights (square vs ws) ≡ count vs * count ws + count ws * weights vs + count vs * weights ws)
unfolding pairs_of
square_sizes none ws = omega arith
square_sizes (v ▸ vs) ws =
    let xs = map (pair v) (members ws) in
    let ys = pairs_of (members vs) (members ws) in
    let r = row_sizes v ws in
    let h = square_sizes vs ws in
    (count_append xs ys ∙ omega arith, weights_append xs ys ∙ omega arith)

-- `rows`
abbrev pub SquareAt : {s₀ : List ℕ} {a n b m to : ℕ} → SquarePre s₀ a n b m to → List ℕ → ℕ → ℕ → ℕ → Type 0
SquareAt {s₀} {a} {n} {b} {m} {to} g s i left at = WalkAt (λ us. codes (square us g.rights)) s₀ g.top g.lefts to s i left at

module _ {s₀ : List ℕ} {a n b m to : ℕ} (g : SquarePre s₀ a n b m to) {s : List ℕ} {i left at : ℕ} (e : ℕ) (ends : EndsAt s i e) where
  pub square_row : SquareAt g s i left at → 0 < left → RowPre s i (e - i) b m at
  square_row (none, h) l = absurd (omega (arith, h.front.counted))
  square_row (w ▸ us, h) l =
      let d = h.grown.appended in
      let q = grown_left h.grown in
      let k = ap length (square_codes w us g.rights) ∙ length-append (codes (pairs_with w g.rights)) (codes (square us g.rights)) in
      record {
        top = g.top;
        first = w;
        others = g.rights;
        value = front_below s g.top i left w us (walk_front h);
        weighs = omega (arith, walk_ends e ends h);
        front = front_frame to s₀ s g.top b m g.rights d.frame g.behind g.others;
        behind = omega (arith, d.ends, g.behind);
        room = omega (arith, length_codes (square g.lefts g.rights), length_codes (pairs_with w g.rights), g.room, d.frame.kept);
      }

  pub square_next : SquareAt g s i left at → {others : ℕ} → suc others ≡ left → (s' : List ℕ) (r : ℕ) → Rows s i (e - i) b m at s' r → SquareAt g s' e others r
  unfolding square_row
  square_next (none, h) p s' r put = absurd (omega (arith, h.front.counted))
  square_next (w ▸ us, h) p s' r put = walk_next e ends h (square_codes w us g.rights) (put (square_row (w ▸ us, h) (omega arith))) p

-- `size_of`
pub size_is : {s : List ℕ} {a e n : ℕ} → SetAt s a → EndsAt s a e → n ≡ get_or s a 0 % 4294967296 → SizeIs s a (record { members = n; cells = e - a - 1 })
size_is {s} {a} {e} {n} g ends low =
    let f = front_start s g.0 a g.1.0 g.1.1 n low in
    record {
      few = record { members = omega (arith, f.light, f.counted, count_weights g.1.0); cells = set_cells s g.0 a g.1.0 g.1.1 e ends };
      front = λ top vs h. front_start s top a vs h n low;
      cells = λ top vs h. omega (arith, set_end s top a vs h e ends);
    }

-- `product_weight`: products of two numbers that are small
pub small_product : {n m : ℕ} → n ≤ 255 → m ≤ 255 → n * m ≤ 65025
small_product {n} {m} p q = omega (arith, mul-le-mul_right m p)

pub small_products : {x y : Size} → FewCells x → FewCells y → SmallProducts x y
small_products f g = record {
  pairs = small_product f.members g.members;
  firsts = small_product g.members f.cells;
  seconds = small_product f.members g.cells;
}

-- `product`
module _ {s : List ℕ} {top a b : ℕ} {x y : Size} (p : SizeIs s a x) (q : SizeIs s b y) {vs ws : Values} (h : SetBelow s top a vs)
    (k : SetBelow s top b ws) where
  -- the weight of the members
  pub product_weighs : weights (square vs ws) ≡ x.members * y.members + y.members * x.cells + x.members * y.cells
  product_weighs = (square_sizes vs ws).1 ∙ rw ((p.front top vs h).counted, (q.front top ws k).counted, p.cells top vs h, q.cells top ws k)

  module _ (room : top + 514 ≤ length s) (light : product_weight x y ≤ 256) where
    abbrev pub product_pre : SquarePre s (a + 1) x.members (b + 1) y.members (top + 1)
    product_pre = record {
      top = top;
      lefts = vs;
      rights = ws;
      front = p.front top vs h;
      others = q.front top ws k;
      behind = omega arith;
      room = omega (arith, product_weighs);
    }

    pub product_made : (s' : List ℕ) (r : ℕ) → Squares s (a + 1) x.members (b + 1) y.members (top + 1) s' r →
        Made top s (set_at s' top (21474836480 + x.members * y.members)) (set_of (pairs_of (members vs) (members ws))) (Some r)
    product_made s' r put =
        made_set _ _ _ _ _ _ (put product_pre) (sym ((square_sizes vs ws).0 ∙ rw ((p.front top vs h).counted, (q.front top ws k).counted)))
        (omega arith) (omega (arith, product_weighs))
