-- What the answers of `model_solve` mean, and the types that classes determine. Each loop by induction on its fuel: `unify` with `step_good`, `settle`
-- with one turn of the sweeps; `Whole` puts them together; a type by induction on its depth.
use mathlib.Core.Path.{◌≡◌, refl, sym, ap, ap₂, ◌∙◌}
use mathlib.Core.Logic.Iff
use mathlib.Core.Logic.{◌↔◌}
use mathlib.Core.Bool.{Bool, true, false, cond}
use mathlib.Core.List.{List, [], ◌∷◌, ◌++◌}
use mathlib.Core.Option.{Option, none as nothing, some}
use Prim.Native.Nat.{ℕ, zero, suc, ◌+◌, ◌-◌, ◌*◌, ◌≤◌, ◌<◌, min}
use native.Mathlib.Nat.{not-suc-le-zero}
use native.Mathlib.Omega.{arith}
use lib.Dec.{T, ltb, lt→ltb, ltb→lt}
use lib.ListN.{length, get_or, replicate, length-replicate, length-append}
use Rattle.rules.specs.Types.{Ty, atom, POW, ◌⊗◌, INTEGER, weightᵀ}
use Rattle.unification.specs.Problem.{Shape, unknown, leaf, power, product, Eqn, eqn, Matches, Holds, Solves, PartsBelow, AllBelow}
use Rattle.unification.specs.Classes.{Sat, graph, ClassList, own_classes}
use Rattle.unification.specs.Marks.{status_of, mark_of, pos, marked, sweep_to, SoundMarks, Settled}
use Rattle.unification.specs.Solved.{ClassesMatch, Grounded, Solved}
use Rattle.unification.specs.Model.{Step, stop, next, step, after_step, unify, unless, settle, answer, marks_of, within, model_solve}
use Rattle.unification.specs.Model.{build, val, type_from}
use Rattle.unification.proofs.Counting.{count_le}
use Rattle.unification.proofs.Step.{StepGood, step_good, classes, is_rep, below_append, holds_append, eqb_cases}
use Rattle.unification.proofs.Sweeps.{sounds_next, settled_end, falls}
use Rattle.unification.proofs.Whole.{Bounded, own_classes_law, solves_sat, first_sound, nothing as unmarked, solved}

-- ---- the equations
-- What the classes of all equations say: those of l with the equations es, or no solution.
abbrev UnifyRight : (sh : ℕ → Shape) (n : ℕ) (l : List ℕ) (es : List Eqn) → Option (List ℕ) → Type 0
UnifyRight sh n l es nothing = (θ : ℕ → Ty) → Sat θ (graph sh l) → Holds θ es → ⊥
UnifyRight sh n l es (some l') = ClassList sh n l' × ((θ : ℕ → Ty) → (Sat θ (graph sh l) × Holds θ es) ↔ Sat θ (graph sh l'))

module _ (sh : ℕ → Shape) (n : ℕ) (parts : (v : ℕ) → v < n → PartsBelow n (sh v)) where
  after_step_right : (l : List ℕ) (a b : ℕ) (es : List Eqn) (k : ℕ) (f : List ℕ → List Eqn → Option (List ℕ)) (s : Step) →
      StepGood sh n l a b s → AllBelow n es → 3 * classes n l + suc (length es) ≤ suc k →
      ((l' : List ℕ) (es' : List Eqn) → ClassList sh n l' → AllBelow n es' → 3 * classes n l' + length es' ≤ k →
      UnifyRight sh n l' es' (f l' es')) →
      UnifyRight sh n l (eqn a b ∷ es) (after_step s es f)
  after_step_right l a b es k f stop g below fuel ih = λ θ s h. g θ s h.0
  after_step_right l a b es k f (next l' new) g below fuel ih =
      last (f l' (new ++ es)) (ih l' (new ++ es) g.0 (below_append n new es g.1 below) (simp length-append (omega (arith, g.2))))
    where
      last : (o : Option (List ℕ)) → UnifyRight sh n l' (new ++ es) o → UnifyRight sh n l (eqn a b ∷ es) o
      last nothing h = λ θ s hs. let r = (g.3 θ).0 (s, hs.0) in h θ r.0 ((holds_append θ new es).0 (r.1, hs.1))
      last (some l'') h = (
        h.0,
        λ θ. (
          (λ x. let r = (g.3 θ).0 (x.0, x.1.0) in (h.1 θ).0 (r.0, (holds_append θ new es).0 (r.1, x.1.1))),
          (λ x. let y = (h.1 θ).1 x in let z = (holds_append θ new es).1 y.1 in let w = (g.3 θ).1 (y.0, z.0) in (w.0, (w.1, z.1))),
        ),
      )

  unify_right : (fuel : ℕ) (l : List ℕ) (es : List Eqn) → ClassList sh n l → AllBelow n es →
      3 * classes n l + length es ≤ fuel → UnifyRight sh n l es (unify sh fuel l es)
  unfolding unify
  unify_right zero l [] wf below h = (wf, λ θ. ((λ x. x.0), (λ x. (x, tt))))
  unify_right zero l (e ∷ es) wf below h = absurd (omega arith)
  unify_right (suc k) l [] wf below h = (wf, λ θ. ((λ x. x.0), (λ x. (x, tt))))
  unify_right (suc k) l (eqn a b ∷ es) wf below h =
      after_step_right l a b es k (unify sh k) (step sh l a b) (step_good sh n parts l wf a b below.0 below.1) below.2 h (unify_right k)

-- ---- the marks
module _ (sh : ℕ → Shape) (l : List ℕ) (n : ℕ) where
  settle_right : (k : ℕ) (m : List ℕ) → SoundMarks sh l n m → n - marked n m < k → Settled sh l n (settle sh l n k m)
  unfolding settle
  settle_right zero m s h = absurd (not-suc-le-zero h)
  settle_right (suc k) m s h =
      eqb_cases (λ b. Settled sh l n (unless b (settle sh l n k) (sweep_to sh l n m))) (marked n (sweep_to sh l n m)) (marked n m)
      (λ e. settled_end sh l n m s e)
      (λ e. settle_right k (sweep_to sh l n m) (sounds_next sh l n m s) (omega (arith, falls sh l n m s e)))

-- ---- a problem and its shapes past the variables
module _ (sh sh' : ℕ → Shape) (n : ℕ) (same : (v : ℕ) → v < n → sh v ≡ sh' v) where
  solves_same : {es : List Eqn} {θ : ℕ → Ty} → Solves sh n es θ → Solves sh' n es θ
  solves_same {es} {θ} s = record { shapes = λ v h. rw (same v h) at (s.shapes v h); equal = s.equal }

module _ (sh sh' : ℕ → Shape) (n : ℕ) (same : (v : ℕ) → v < n → sh v ≡ sh' v) where
  -- Only the shapes of the problem's variables matter.
  solved_same : {es : List Eqn} {cls mark : List ℕ} → Solved sh n es cls mark → Solved sh' n es cls mark
  solved_same {es} {cls} {mark} s =
      let back : (θ : ℕ → Ty) → Solves sh' n es θ → Solves sh n es θ = λ θ a. solves_same sh' sh n (λ v h. sym (same v h)) a in
      record {
        bound = s.bound;
        classes = λ θ a v h. rw (same (get_or cls v v) (s.bound v h)) at (s.classes θ (back θ a) v h);
        first = s.first;
        second = s.second;
        first_solves = solves_same sh sh' n same s.first_solves;
        second_solves = solves_same sh sh' n same s.second_solves;
        declared = λ G h. s.declared G (λ v l. rw (same v l) (h v l));
        ground = λ v h p θ κ a b. s.ground v h p θ κ (back θ a) (back κ b);
        differ = s.differ;
        grounded = λ v h p. rw (same (get_or cls v v) (s.bound v h)) at (s.grounded v h p);
      }

-- ---- the whole
abbrev pub Answers : (sh : ℕ → Shape) (n : ℕ) (es : List Eqn) → Option (List ℕ × List ℕ) → Type 0
Answers sh n es nothing = (θ : ℕ → Ty) → Solves sh n es θ → ⊥
Answers sh n es (some r) = Solved sh n es r.0 r.1

module _ (sh : ℕ → Shape) (n : ℕ) (es : List Eqn) (pr : Bounded sh n es) where
  marks_right : (o : Option (List ℕ)) → UnifyRight sh n (own_classes n) es o → Answers sh n es (marks_of sh n o)
  marks_right nothing h = λ θ s. let x = (solves_sat sh n es pr θ).0 s in h θ x.0 x.1
  marks_right (some l) h =
      eqb_cases (λ b. Answers sh n es (answer b l m)) (marked n m) n
      (λ e. solved sh n es pr l h.0 iff m st (omega arith))
      (λ e. unmarked sh n es pr l h.0 iff m st (omega (arith, count_le (λ v. pos (mark_of m v)) n)))
    where
      m : List ℕ
      m = settle sh l n (suc n) (replicate n 0)

      iff : (θ : ℕ → Ty) → Solves sh n es θ ↔ Sat θ (graph sh l)
      iff θ = Iff.trans (solves_sat sh n es pr θ) (h.1 θ)

      start : SoundMarks sh l n (replicate n 0)
      start = record { rounds = 1; sound = first_sound sh n es pr l h.0 iff; len = length-replicate n 0 }

      st : Settled sh l n m
      st = settle_right sh l n (suc n) (replicate n 0) start (omega arith)

  bounded_right : Answers sh n es (marks_of sh n (unify sh (3 * n + length es) (own_classes n) es))
  bounded_right = marks_right (unify sh (3 * n + length es) (own_classes n) es)
      (unify_right sh n pr.parts (3 * n + length es) (own_classes n) es (own_classes_law sh n) pr.below
      (omega (arith, count_le (is_rep (own_classes n)) n)))

within_below : (sh : ℕ → Shape) (n v : ℕ) → v < n → within n sh v ≡ sh v
within_below sh n v h = go (ltb v n) (lt→ltb v n h)
  where
    go : (b : Bool) → T b → cond b (sh v) unknown ≡ sh v
    go true t = refl
    go false t = absurd t

within_past : (sh : ℕ → Shape) (n v : ℕ) → n ≤ v → within n sh v ≡ unknown
within_past sh n v h = go (ltb v n) (λ t. ltb→lt v n t)
  where
    go : (b : Bool) → (T b → v < n) → cond b (sh v) unknown ≡ unknown
    go true f = absurd (omega (arith, f tt))
    go false f = refl

module _ (sh : ℕ → Shape) (n : ℕ) (es : List Eqn) where
  from_within : (o : Option (List ℕ × List ℕ)) → Answers (within n sh) n es o → Answers sh n es o
  from_within nothing h = λ θ s. h θ (solves_same sh (within n sh) n (λ v l. sym (within_below sh n v l)) s)
  from_within (some r) h = solved_same (within n sh) sh n (within_below sh n) h

  -- The answer for a problem whose parts and equations are below n: what its solutions have in common, or that it has none.
  pub model_solve_right : ((v : ℕ) → v < n → PartsBelow n (sh v)) → AllBelow n es → Answers sh n es (model_solve sh n es)
  unfolding model_solve
  model_solve_right parts below = from_within (model_solve sh n es) (bounded_right (within n sh) n es (record {
    parts = λ v h. rw (within_below sh n v h) (parts v h);
    rest = within_past sh n;
    below = below;
  }))

-- ---- types
weight_pos : (t : Ty) → 1 ≤ weightᵀ t
weight_pos (atom a) = omega arith
weight_pos (POW t) = omega arith
weight_pos (t ⊗ u) = omega arith

-- A ground variable's type is what is built from the classes, where one of the two is no heavier than the depth.
module _ (sh : ℕ → Shape) (n : ℕ) (cls mark : List ℕ) (θ : ℕ → Ty) (parts : (v : ℕ) → v < n → PartsBelow n (sh v))
    (bound : (v : ℕ) → v < n → get_or cls v v < n) (grounded : Grounded sh n cls mark) (match : ClassesMatch sh n cls θ) where
  build_is : (f : ℕ → Ty) (k : ℕ) (s : Shape) (t : Ty) → PartsBelow n s → 2 ≤ status_of (mark_of mark) s → Matches θ s t →
      min (weightᵀ (build f INTEGER s)) (weightᵀ t) ≤ suc k →
      ((v : ℕ) → v < n → 2 ≤ get_or mark v 1 → min (weightᵀ (f v)) (weightᵀ (θ v)) ≤ k → f v ≡ θ v) → build f INTEGER s ≡ t
  build_is f k unknown t b g m h ih = absurd (omega arith)
  build_is f k (leaf a) t b g m h ih = sym m
  build_is f k (power v) t b g m h ih =
      let x : min (weightᵀ (POW (f v))) (weightᵀ (POW (θ v))) ≤ suc k = rw m at h in ap POW (ih v b g (omega arith)) ∙ sym m
  build_is f k (product v w) t b g m h ih =
      let x : min (weightᵀ (f v ⊗ f w)) (weightᵀ (θ v ⊗ θ w)) ≤ suc k = rw m at h in
      ap₂ ◌⊗◌ (ih v b.0 (omega arith) (omega arith)) (ih w b.1 (omega arith) (omega arith)) ∙ sym m

  pub type_from_is : (k v : ℕ) → v < n → 2 ≤ get_or mark v 1 → min (weightᵀ (type_from sh cls k v)) (weightᵀ (θ v)) ≤ k →
      type_from sh cls k v ≡ θ v
  unfolding type_from
  type_from_is zero v l g h = absurd (omega (arith, weight_pos (θ v)))
  type_from_is (suc k) v l g h =
      build_is (val (graph sh cls) (λ x. INTEGER) k) k (sh (get_or cls v v)) (θ v) (parts (get_or cls v v) (bound v l)) (grounded v l g)
      (match v l) h (type_from_is k)
