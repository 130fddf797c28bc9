-- One turn of the visit, as the code runs it: p is a part of the class c on top. Then the whole of a visit, and of the loop over classes.
use Prim.Native.Nat.{ℕ, ◌+◌, ◌-◌, ◌<◌, ◌≤◌}
use mathlib.Core.List.{List}
use mathlib.Core.Logic.{◌≢◌}
use mathlib.Core.Path.{◌≡◌}
use native.Mathlib.Omega.{arith}
use lib.ListN.{get_or, set, length}
use Rattle.terms.specs.Decided.{class_mark}
use Rattle.deciding.specs.Marking.{word_shape, mark_shape, FlatTerms, ClassAt, PartsFinal, PartLeft}
use Rattle.deciding.specs.Visit.{NoTypes, Lighter, Visiting, VisitGoes, VisitNext, Resting}
use Rattle.deciding.proofs.Visits.{push_next, push_less, push_grows, cycle, next_light, next_part, store_next, store_fewer, store_grows, visit_start}

module _ {ts marks stack : List ℕ} {h : ℕ} (t : FlatTerms (length ts) ts) (w : Visiting (length ts) ts marks stack h) (pos : 0 < h)
    {c : ℕ} (e : c ≡ get_or stack (h - 1) 0) where
  pub top_at : ClassAt ts marks c
  top_at =
      let o = w.waits (h - 1) (omega arith) in rw e (record { terms = t.terms; below = o.below; class = o.class; len = w.len })

  -- None of its parts is left.
  module _ (parts : PartsFinal ts marks c) where
    pub turn_store : {m : ℕ} → m ≡ mark_shape (class_mark ts marks) (word_shape ts c) → VisitGoes (length ts) ts marks h (set marks c m) stack (h - 1)
    turn_store {m} me = rw (me, e) (let final = rw e at parts in record {
      goes = store_next t w pos final;
      less = omega (arith, store_fewer t w pos final);
      grows = store_grows t w pos final;
    })

  -- A part is left.
  module _ {p : ℕ} (q : PartLeft ts marks c p) where
    left : PartLeft ts marks (get_or stack (h - 1) 0) p
    left = rw e at q

    pub turn_stuck : get_or marks p 0 ≡ 127 → NoTypes (length ts) ts
    turn_stuck m = cycle t w pos left left.below m

    pub turn_push : get_or marks p 0 ≢ 127 → VisitGoes (length ts) ts marks h (set marks p 127) (set stack h p) (h + 1)
    turn_push ne =
        let x = next_part t w pos left ne in
        let l = next_light t w pos left in
        record { goes = push_next w x l; less = omega (arith, push_less w x l); grows = push_grows w x l }

-- ---- a visit
module _ {n : ℕ} {ts marks : List ℕ} {v : ℕ} (r : Resting n ts marks) (x : VisitNext n ts marks v) (stack : List ℕ) (room : n + 2 ≤ length stack) where
  begun : Visiting n ts marks stack 0
  begun = visit_start r room

  alone : (i : ℕ) → i < 0 → Lighter n ts v (get_or stack i 0)
  alone i h = absurd (omega arith)

  pub visit_first : Visiting n ts (set marks v 127) (set stack 0 v) 1
  visit_first = push_next begun x alone
