-- Cells written one behind the other, and the values that they are.
use Rattle.products.proofs.Base.{get_or, ℕ, zero, suc, ◌+◌, ◌-◌, ◌≤◌, ◌<◌, List, [], ◌∷◌, ◌++◌, append_assoc, append-nil, Some, None, ◌≡◌, refl, sym, ap, ◌∙◌, subst, arith, add-one, length, set_at, length-append, length-set, get_or-set_same, get_or-set_other}
use Rattle.products.proofs.Terms.{Value, pair, set, Values, none, ◌▸◌, count, weight, set_of, code, codes, Stands, EndsAt, Copied, ValueBelow, Made, Appended, Grown, cells_from, RunPre, PairPre, PairPut}
use Rattle.arena.proofs.CodeLaws.{length_code, length_codes}
use Rattle.arena.proofs.Standing.{stands_append, stands_frame, same_refl, same_trans, copied_stands}
use Rattle.arena.proofs.FrontLaws.{single, value_end}

-- Nothing, a cell, or a copied run, written behind what stands.
pub nothing_stands : (s : List ℕ) (to : ℕ) → to ≤ length s → Stands s to []
nothing_stands s to l = record { inside = omega arith; cells = λ i p. absurd (omega arith) }

pub appended_none : (s : List ℕ) (to : ℕ) → to ≤ length s → Appended s to s to []
appended_none s to l = record { frame = same_refl to s; stands = nothing_stands s to l; ends = omega arith }

-- A cell before what has been written, as a set's before its members.
appended_head : {s : List ℕ} {top : ℕ} {s' : List ℕ} {r : ℕ} {cs : List ℕ} (x : ℕ) → Appended s (top + 1) s' r cs → top < length s →
    Appended s top (set_at s' top x) r (x ∷ cs)
appended_head {s} {top} {s'} {r} {cs} x a l = record {
  frame = record { same = λ i p. get_or-set_other s' top i x 0 (λ e. omega arith) ∙ a.frame.same i (omega arith); kept = length-set s' top x ∙ a.frame.kept };
  stands = record { inside = omega (arith, length-set s' top x, a.stands.inside); cells = cell };
  ends = omega (arith, a.ends);
}
  where
    cell : (i : ℕ) → i < suc (length cs) → get_or (set_at s' top x) (top + i) 0 ≡ get_or (x ∷ cs) i 0
    cell zero p = rw (let z : top + 0 ≡ top = omega arith in z) (get_or-set_same s' top x 0 (omega (arith, a.frame.kept)))
    cell (suc i) p =
        rw (let z : top + suc i ≡ top + 1 + i = omega arith in z)
        (get_or-set_other s' top (top + 1 + i) x 0 (λ e. omega arith) ∙ a.stands.cells i (omega arith))

pub appended_cell : (s : List ℕ) (to x : ℕ) → to < length s → Appended s to (set_at s to x) (to + 1) (x ∷ [])
appended_cell s to x l = appended_head x (appended_none s (to + 1) (omega arith)) l

pub appended_copy : {s : List ℕ} {from n to : ℕ} {s' cs : List ℕ} → Copied s from n to s' → Stands s from cs → length cs ≡ n → to + n ≤ length s →
    Appended s to s' (to + n) cs
appended_copy {s} {from} {n} {to} {s'} {cs} c h e l =
    record { frame = record { same = c.before; kept = c.kept }; stands = copied_stands s from n to s' cs c e l h; ends = omega arith }

-- One behind the other.
pub appended_then : {s : List ℕ} {to : ℕ} {s' : List ℕ} {r : ℕ} {xs s'' : List ℕ} {q : ℕ} {ys : List ℕ} → Appended s to s' r xs → Appended s' r s'' q ys →
    Appended s to s'' q (xs ++ ys)
appended_then {s} {to} {s'} {r} {xs} {s''} {q} {ys} a b = record {
  frame = same_trans to r s s' s'' a.frame b.frame (omega (arith, a.ends));
  stands = stands_append s'' to xs ys (stands_frame r s' s'' to xs b.frame (omega (arith, a.ends)) a.stands)
      (subst (λ (i : ℕ). Stands s'' i ys) a.ends b.stands);
  ends = omega (arith, a.ends, b.ends, length-append xs ys);
}

-- The whole, part by part.
pub grown_start : (s : List ℕ) (to : ℕ) (whole : List ℕ) → to ≤ length s → Grown s to s to whole whole
grown_start s to whole l = record { done = []; appended = appended_none s to l; all = refl }

module _ {s : List ℕ} {to : ℕ} {s' : List ℕ} {r : ℕ} {whole : List ℕ} where
  pub grown_step : {xs : List ℕ} (rest : List ℕ) {s'' : List ℕ} {q : ℕ} → Grown s to s' r whole (xs ++ rest) → Appended s' r s'' q xs →
      Grown s to s'' q whole rest
  grown_step {xs} rest g a =
      record { done = g.done ++ xs; appended = appended_then g.appended a; all = g.all ∙ sym (append_assoc g.done xs rest) }

  pub grown_end : Grown s to s' r whole [] → Appended s to s' r whole
  grown_end g = rw (g.all ∙ append-nil g.done) g.appended

  -- how much is left to write
  pub grown_left : {rest : List ℕ} → Grown s to s' r whole rest → r + length rest ≡ to + length whole
  grown_left {rest} g = omega (arith, g.appended.ends, ap length g.all, length-append g.done rest)

-- A value that has been written at top.
pub made : {s : List ℕ} {top : ℕ} {s' : List ℕ} {r : ℕ} {v : Value} → Appended s top s' r (code v) → weight v ≤ 256 → Made top s s' v (Some r)
made {v = v} a l =
    record { frame = a.frame; light = λ k. (ap Some (omega (arith, a.ends, length_code v)), a.stands); heavy = λ k. absurd (omega arith) }

pub made_heavy : {s : List ℕ} {top : ℕ} {v : Value} → 256 < weight v → Made top s s v None
made_heavy {s} {top} l = record { frame = same_refl top s; light = λ k. absurd (omega arith); heavy = λ k. refl }

pub appended_set : {s : List ℕ} {top : ℕ} {s' : List ℕ} {r n : ℕ} (vs : Values) → Appended s (top + 1) s' r (codes vs) → n ≡ count vs → top < length s →
    Appended s top (set_at s' top (21474836480 + n)) r (code (set vs))
unfolding code
appended_set vs a e l = rw e (appended_head _ a l)

pub made_set : (s : List ℕ) (top : ℕ) (s' : List ℕ) (r n : ℕ) (vs : Values) → Appended s (top + 1) s' r (codes vs) → n ≡ count vs → top < length s →
    weight (set vs) ≤ 256 → Made top s (set_at s' top (21474836480 + n)) (set vs) (Some r)
made_set s top s' r n vs a e l w = made (appended_set vs a e l) w

-- `put_cell`
pub cell_made : (s : List ℕ) (top cell : ℕ) → top < length s → (v : Value) → code v ≡ cell ∷ [] → Made top s (set_at s top cell) v (Some (top + 1))
cell_made s top cell l v e =
    let a : Appended s top (set_at s top cell) (top + 1) (code v) = rw e (appended_cell s top cell l) in
    made a (omega (arith, length_code v, ap length e))

-- `singleton`
pub single_made : (s : List ℕ) (a top e : ℕ) (s' : List ℕ) → top + 514 ≤ length s → EndsAt s a e → e - a ≤ 255 → Copied s a (e - a) (top + 1) s' →
    (v : Value) → ValueBelow s top a v → Made top s (set_at s' top 21474836481) (set_of (v ∷ [])) (Some (top + 1 + (e - a)))
single_made s a top e s' l x few c v h =
    let z = value_end s top a e v h x in
    let k : Stands s a (codes (v ▸ none)) = rw (single v) h.stands in
    made_set _ _ _ _ _ (v ▸ none) (appended_copy c k (omega (arith, length_codes (v ▸ none))) (omega arith)) refl (omega arith) (omega arith)

-- `pair_at`
pub pair_put : {s : List ℕ} {a n b m to : ℕ} {s₁ s₂ : List ℕ} → PairPre s a n b m to → Copied s a n (to + 1) s₁ → Copied s₁ b m (to + 1 + n) s₂ →
    PairPut s a n b m to (set_at s₂ to 17179869184) (to + 1 + n + m)
unfolding code
pair_put {s} {a} {n} {b} {m} {to} {s₁} p c d v w h k e f =
    let y = appended_copy c h (omega (arith, length_code v)) (omega (arith, p.room)) in
    let there = stands_frame (to + 1) s s₁ b (code w) y.frame (omega (arith, length_code w, p.right)) k in
    let z = appended_copy d there (omega (arith, length_code w)) (omega (arith, p.room, y.frame.kept)) in
    appended_head 17179869184 (appended_then y z) (omega (arith, p.room))

-- `pair`
module _ {s : List ℕ} {a b top : ℕ} (d e : ℕ) (x : EndsAt s a d) (y : EndsAt s b e) {v w : Value} (h : ValueBelow s top a v) (k : ValueBelow s top b w) where
  pub pair_sizes : (d ≡ a + weight v) × (e ≡ b + weight w)
  pair_sizes = (value_end s top a d v h x, value_end s top b e w k y)

  pub pair_pre : top + 514 ≤ length s → (d - a) + (e - b) ≤ 255 → PairPre s a (d - a) b (e - b) top
  pair_pre l few = let z = pair_sizes in record { left = omega (arith, h.below); right = omega (arith, k.below); room = omega arith }

  pub pair_made : {s' : List ℕ} {r : ℕ} → (d - a) + (e - b) ≤ 255 → PairPut s a (d - a) b (e - b) top s' r → Made top s s' (pair v w) (Some r)
  pair_made few put = let z = pair_sizes in made (put v w h.stands k.stands (omega arith) (omega arith)) (omega arith)

-- `run`: i of the cells have been written.
pub record Running (s : List ℕ) (cell n top : ℕ) (s' : List ℕ) (i : ℕ) : Type 0 where
  pub given : RunPre s cell n top
  pub appended : Appended s (top + 1) s' (top + 1 + i) (cells_from cell i)
  pub few : i ≤ n

length_cells : (c n : ℕ) → length (cells_from c n) ≡ n
unfolding cells_from
length_cells c zero = refl
length_cells c (suc n) = ap suc (length_cells (suc c) n)

cells_last : (c n : ℕ) → cells_from c (suc n) ≡ cells_from c n ++ ((c + n) ∷ [])
unfolding cells_from
cells_last c zero = let z : c ≡ c + 0 = omega arith in cc
cells_last c (suc n) = let z : suc c + n ≡ c + suc n = omega arith in ap (λ (l : List ℕ). c ∷ l) (cells_last (suc c) n ∙ rw z)

pub running_start : {s : List ℕ} {cell n top : ℕ} → RunPre s cell n top → Running s cell n top s 0
unfolding cells_from
running_start {s} {top = top} p =
    let z : top + 1 + 0 ≡ top + 1 = omega arith in
    record { given = p; appended = rw z (appended_none s (top + 1) (omega (arith, p.room))); few = omega arith }

module _ {s : List ℕ} {cell n top : ℕ} {s' : List ℕ} {i : ℕ} (h : Running s cell n top s' i) where
  pub running_inside : i < n → top + 1 + i < length s'
  running_inside l = omega (arith, h.given.room, h.appended.frame.kept)

  pub running_next : i < n → Running s cell n top (set_at s' (top + 1 + i) (cell + i)) (i + 1)
  running_next l = record {
    given = h.given;
    appended =
        let z : top + 1 + (i + 1) ≡ top + 1 + i + 1 = omega arith in
        rw (z, add-one i, cells_last cell i) (appended_then h.appended (appended_cell s' (top + 1 + i) (cell + i) (running_inside l)));
    few = omega arith;
  }

  pub running_end : n ≤ i → (vs : Values) → count vs ≡ n → codes vs ≡ cells_from cell n →
      Made top s (set_at s' top (21474836480 + n)) (set vs) (Some (top + 1 + n))
  running_end l vs e q =
      let z : i ≡ n = omega (arith, h.few) in
      made_set _ _ _ _ _ _ (rw (z, ← q) at h.appended) (sym e) (omega (arith, h.given.room))
      (omega (arith, h.given.few, length_codes vs, ap length q, length_cells cell n))
