-- The whole decision. The solutions of a problem are those of its equations over the classes where each variable is alone. Where the settled marks
-- cover all variables, two solutions are built from the classes; where they miss one, there is none.
use mathlib.Core.Path.{◌≡◌, refl, sym, ap, ◌∙◌}
use mathlib.Core.Logic.{◌↔◌}
use mathlib.Core.Bool.{true≢false}
use mathlib.Core.List.{List, [], ◌∷◌, ◌++◌}
use Prim.Native.Nat.{ℕ, zero, suc, ◌≤◌, ◌<◌}
use native.Mathlib.Omega.{arith}
use native.Mathlib.Decide.{ℕ_discrete, dec_lt}
use lib.ListN.{length, replicate, length-replicate, get_or-replicate, get_or-append, get_or-eq_default, length-append}
use lib.Seq.{get_or_at}
use Rattle.rules.specs.Types.{Ty, INTEGER, BOOL}
use Rattle.unification.specs.Problem.{Shape, unknown, Eqn, Matches, Holds, Solves, PartsBelow, AllBelow}
use Rattle.unification.specs.Classes.{Sat, look, graph, ClassList, own_classes}
use Rattle.unification.specs.Marks.{status_after, mark_of, pos, marked, Sound, Settled}
use Rattle.unification.specs.Solved.{LeafDeclared, Solved}
use Rattle.unification.proofs.Merging.{fits_at}
use Rattle.unification.proofs.Counting.{count_all, count_some}
use Rattle.unification.specs.Model.{val}
use Rattle.unification.proofs.Resolve.{solution, all_marked, ground_agree, open_differ, val_declared, ground_kept}
use Rattle.unification.proofs.Sweeps.{pos_lt, lt_pos}

length_own : (n : ℕ) → length (own_classes n) ≡ n
unfolding own_classes
length_own zero = refl
length_own (suc n) = length-append (own_classes n) (n ∷ []) ∙ omega (arith, length_own n)

look_own : (n v : ℕ) → look (own_classes n) v ≡ v
unfolding own_classes
look_own zero v = refl
look_own (suc n) v = go (dec_lt v n) (ℕ_discrete v n) (look_own n v)
  where
    go : Dec (v < n) → Dec (v ≡ n) → look (own_classes n) v ≡ v → look (own_classes n ++ (n ∷ [])) v ≡ v
    go (yes y) d ih = get_or-append (own_classes n) (n ∷ []) v v (rw (length_own n) y) ∙ ih
    go (no o) (yes e) ih = get_or_at (own_classes n) n [] v v (length_own n ∙ sym e) ∙ sym e
    go (no o) (no ne) ih =
        get_or-eq_default (own_classes n ++ (n ∷ [])) v {n = v} (rw (length-append (own_classes n) (n ∷ [])) (omega (arith, length_own n)))

pub own_classes_law : (sh : ℕ → Shape) (n : ℕ) → ClassList sh n (own_classes n)
own_classes_law sh n = record { len = length_own n; idem = λ v. ap (look (own_classes n)) (look_own n v); bound = λ v h. rw (look_own n v) h }

-- the variables of the problem are below n
pub record Bounded (sh : ℕ → Shape) (n : ℕ) (es : List Eqn) : Type 0 where
  pub parts : (v : ℕ) → v < n → PartsBelow n (sh v)
  pub rest : (v : ℕ) → n ≤ v → sh v ≡ unknown
  pub below : AllBelow n es

pub solves_sat : (sh : ℕ → Shape) (n : ℕ) (es : List Eqn) → Bounded sh n es → (θ : ℕ → Ty) →
    Solves sh n es θ ↔ (Sat θ (graph sh (own_classes n)) × Holds θ es)
solves_sat sh n es pr θ = (
  (λ s. (record { same = λ v. ap θ (sym (look_own n v)); fits = λ v e. go v s (dec_lt v n) }, s.equal)),
  (λ x. record { shapes = λ v h. x.0.fits v (look_own n v); equal = x.1 }),
)
  where
    go : (v : ℕ) → Solves sh n es θ → Dec (v < n) → Matches θ (sh v) (θ v)
    go v s (yes y) = s.shapes v y
    go v s (no o) = rw (pr.rest v (omega arith)) tt

atoms_differ : INTEGER ≡ BOOL → ⊥
atoms_differ e = let z : ◌≡◌ {A = ℕ} 0 1 = cc in omega arith

module _ (sh : ℕ → Shape) (n : ℕ) (es : List Eqn) (pr : Bounded sh n es) (l : List ℕ) (wf : ClassList sh n l)
    (iff : (θ : ℕ → Ty) → Solves sh n es θ ↔ Sat θ (graph sh l)) where
  pub first_sound : Sound sh l 1 (replicate n 0)
  first_sound v p = go (dec_lt v n)
    where
      go : Dec (v < n) → status_after (graph sh l) 1 v ≡ mark_of (replicate n 0) v
      go (yes y) = absurd (omega (arith, p, get_or-replicate {A = ℕ} n v 0 1 y))
      go (no o) =
          let e : mark_of (replicate n 0) v ≡ 1 = get_or-eq_default (replicate n 0) 1 {n = v} (rw (length-replicate {A = ℕ} n 0) (omega arith)) in
          let k : look l v ≡ v = get_or-eq_default l v {n = v} (omega (arith, wf.len)) in
          rw (e, k, pr.rest v (omega arith))

  module _ (m : List ℕ) (s : Settled sh l n m) where
    pub nothing : marked n m < n → (θ : ℕ → Ty) → Solves sh n es θ → ⊥
    nothing few θ sol =
        let r = count_some (λ v. pos (mark_of m v)) n few in
        true≢false (sym (lt_pos (mark_of m r.0) (all_marked θ (graph sh l) (mark_of m) wf.idem s.stalled ((iff θ).0 sol) r.0)) ∙ r.2)

    module _ (full : n ≤ marked n m) where
      all_pos : (v : ℕ) → 0 < mark_of m v
      all_pos v = go (dec_lt v n)
        where
          go : Dec (v < n) → 0 < mark_of m v
          go (yes y) = pos_lt (mark_of m v) (count_all (λ u. pos (mark_of m u)) n full v y)
          go (no o) = rw (get_or-eq_default m 1 {n = v} (omega (arith, s.len))) (omega arith)

      is : (v : ℕ) → status_after (graph sh l) s.rounds v ≡ mark_of m v
      is v = s.sound v (all_pos v)

      abbrev build_from : (ℕ → Ty) → ℕ → Ty
      build_from ρ = val (graph sh l) ρ s.rounds

      built : (ρ : ℕ → Ty) → Solves sh n es (build_from ρ)
      built ρ = (iff (build_from ρ)).1 (solution (graph sh l) wf.idem s.rounds (λ v. rw (is v) (all_pos v)) ρ)

      leaves : (G : ℕ) → ((v : ℕ) → v < n → LeafDeclared G (sh v)) → (v : ℕ) → LeafDeclared G (sh (look l v))
      leaves G h v = go (dec_lt v n)
        where
          go : Dec (v < n) → LeafDeclared G (sh (look l v))
          go (yes y) = h (look l v) (wf.bound v y)
          go (no o) = rw (get_or-eq_default l v {n = v} (omega (arith, wf.len)), pr.rest v (omega arith)) tt

      pub solved : Solved sh n es l m
      solved = record {
        bound = wf.bound;
        classes = λ θ a v h. fits_at wf.idem ((iff θ).0 a) v;
        first = build_from (λ x. INTEGER);
        second = build_from (λ x. BOOL);
        first_solves = built (λ x. INTEGER);
        second_solves = built (λ x. BOOL);
        declared = λ G h v. (
          val_declared G (graph sh l) (λ x. INTEGER) (leaves G h) (λ r. tt) s.rounds v,
          val_declared G (graph sh l) (λ x. BOOL) (leaves G h) (λ r. tt) s.rounds v,
        );
        ground = λ v h p θ κ a b. ground_agree (graph sh l) wf.idem θ κ ((iff θ).0 a) ((iff κ).0 b) s.rounds v (rw (is v) p);
        differ = λ v h p.
            open_differ (graph sh l) (λ x. INTEGER) (λ x. BOOL) (λ x. atoms_differ) s.rounds v (rw (is v) (all_pos v)) (rw (is v) p);
        grounded = λ v h p. ground_kept (graph sh l) (mark_of m) s.rounds (λ u q. rw (is u) at q) v (rw (is v) p);
      }
