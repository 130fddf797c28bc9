-- One equation over the list of classes: the classes and the equations that it leaves have the same solutions (`step_ok`), and there is one class
-- less for at most two new equations, which bounds the steps.
use mathlib.Core.Path.{◌≡◌, refl, sym, ◌∙◌}
use mathlib.Core.Logic.{◌↔◌, ◌≢◌}
use mathlib.Core.Bool.{Bool, true, false, cond, true≢false}
use mathlib.Core.List.{List, [], ◌∷◌, ◌++◌, map}
use Prim.Native.Nat.{ℕ, zero, suc, ◌+◌, ◌*◌, ◌≤◌, ◌<◌}
use native.Mathlib.Nat.{not-suc-le-zero, le_of_suc-le-suc}
use native.Mathlib.Omega.{arith}
use native.Mathlib.Decide.{ℕ_discrete, dec_lt}
use lib.Dec.{T, eqb, eqb→eq, eqb_refl}
use lib.ListN.{length, get_or, length-map, get_or-eq_default}
use Rattle.rules.specs.Types.{Ty}
use Rattle.unification.specs.Problem.{Shape, unknown, leaf, power, product, Eqn, eqn, Holds, PartsBelow, AllBelow}
use Rattle.unification.specs.Classes.{Sat, look, graph, ClassList, change, relabel}
use Rattle.unification.specs.Marks.{count_below}
use Rattle.unification.specs.Model.{ShapeJoin, clash, joined, join, join_leaf, same_code, Step, stop, next, is_unknown, after_join, step_on, step}
use Rattle.unification.proofs.Join.{top}
use Rattle.unification.proofs.Merging.{Merged, StepOk, step_ok, step_clash, step_same, idem_merge, rep_old}
use Rattle.unification.proofs.Counting.{count_strict}

pub eqb_cases {ℓ} : (P : Bool → Type ℓ) (i j : ℕ) → (i ≡ j → P true) → (i ≢ j → P false) → P (eqb i j)
eqb_cases P i j f h = go (eqb i j) refl
  where
    go : (b : Bool) → eqb i j ≡ b → P b
    go true e = f (eqb→eq i j (rw e tt))
    go false e = h (λ ij. let w : T (eqb i j) = rw ij (eqb_refl j) in rw e at w)

change_hit : (p q c : ℕ) → c ≡ p → change p q c ≡ q
change_hit p q c e = eqb_cases (λ b. cond b q c ≡ q) c p (λ x. refl) (λ n. absurd (n e))

change_miss : (p q c : ℕ) → c ≢ p → change p q c ≡ c
change_miss p q c ne = eqb_cases (λ b. cond b q c ≡ c) c p (λ x. absurd (ne x)) (λ n. refl)

get_d_map : (f : ℕ → ℕ) (l : List ℕ) (v d e : ℕ) → v < length l → get_or (map f l) v d ≡ f (get_or l v e)
get_d_map f [] v d e h = absurd (not-suc-le-zero h)
get_d_map f (x ∷ xs) zero d e h = refl
get_d_map f (x ∷ xs) (suc v) d e h = get_d_map f xs v d e (le_of_suc-le-suc h)

-- a class that some variable of the list has is no variable past its end, so relabelling is `change` everywhere
look_relabel : (p q : ℕ) (l : List ℕ) → p < length l → (v : ℕ) → look (relabel p q l) v ≡ change p q (look l v)
look_relabel p q l h v = go (dec_lt v (length l))
  where
    go : Dec (v < length l) → look (relabel p q l) v ≡ change p q (look l v)
    go (yes y) = get_d_map (change p q) l v v v y
    go (no n) =
        rw (get_or-eq_default (relabel p q l) v {n = v} (simp length-map (omega arith)), get_or-eq_default l v {n = v} (omega arith))
        (sym (change_miss p q v (λ e. n (omega arith))))

-- the classes that stand for themselves
abbrev pub is_rep : List ℕ → ℕ → Bool
is_rep l v = eqb (look l v) v

abbrev pub classes : ℕ → List ℕ → ℕ
classes n l = count_below (is_rep l) n

eqb_true : (i j : ℕ) → i ≡ j → eqb i j ≡ true
eqb_true i j e = eqb_cases (λ b. b ≡ true) i j (λ x. refl) (λ n. absurd (n e))

eqb_false : (i j : ℕ) → i ≢ j → eqb i j ≡ false
eqb_false i j ne = eqb_cases (λ b. b ≡ false) i j (λ x. absurd (ne x)) (λ n. refl)

true_eqb : (i j : ℕ) → eqb i j ≡ true → i ≡ j
true_eqb i j e = eqb→eq i j (rw e tt)

-- The class p goes into the class q.
abbrev Relabelled : (ℕ → Shape) → ℕ → List ℕ → ℕ → ℕ → Type 0
Relabelled sh n l p q =
    Merged (graph sh l) (graph sh (relabel p q l)) p q × ClassList sh n (relabel p q l) × (classes n (relabel p q l) < classes n l)

module _ (sh : ℕ → Shape) (n : ℕ) (l : List ℕ) (wf : ClassList sh n l) (p q : ℕ) (p≢q : p ≢ q) (pn : p < n) (qn : q < n)
    (pp : look l p ≡ p) (qq : look l q ≡ q) where
  relabel_merged : sh q ≡ top (sh p) (sh q) → Merged (graph sh l) (graph sh (relabel p q l)) p q
  relabel_merged t = record {
    hit = λ v e. look_relabel p q l (rw wf.len pn) v ∙ change_hit p q (look l v) e;
    miss = λ v e. look_relabel p q l (rw wf.len pn) v ∙ change_miss p q (look l v) e;
    topped = t;
    rest = λ v a b. refl;
  }

  relabel_wf : Merged (graph sh l) (graph sh (relabel p q l)) p q → ClassList sh n (relabel p q l)
  relabel_wf m = record {
    len = length-map l (change p q) ∙ wf.len;
    idem = idem_merge (graph sh l) (graph sh (relabel p q l)) p q p≢q pp qq m wf.idem;
    bound = λ v h. go v h (ℕ_discrete (look l v) p);
  }
    where
      go : (v : ℕ) → v < n → Dec (look l v ≡ p) → look (relabel p q l) v < n
      go v h (yes e) = rw (m.hit v e) qn
      go v h (no e) = rw (m.miss v e) (wf.bound v h)

  relabel_fewer : Merged (graph sh l) (graph sh (relabel p q l)) p q → classes n (relabel p q l) < classes n l
  relabel_fewer m = count_strict (is_rep (relabel p q l)) (is_rep l) n
      (λ i h e. eqb_true (look l i) i (rep_old (graph sh l) (graph sh (relabel p q l)) p q p≢q pp qq m i (true_eqb (look (relabel p q l) i) i e)).1)
      p pn
      (eqb_false (look (relabel p q l) p) p (λ e. p≢q (sym e ∙ m.hit p pp)))
      (eqb_true (look l p) p pp)

  relabelled : sh q ≡ top (sh p) (sh q) → Relabelled sh n l p q
  relabelled t = let m = relabel_merged t in (m, relabel_wf m, relabel_fewer m)

-- ---- one step of the model: the same solutions, and the measure falls
abbrev pub StepGood : (sh : ℕ → Shape) (n : ℕ) (l : List ℕ) (a b : ℕ) → Step → Type 0
StepGood sh n l a b stop = (θ : ℕ → Ty) → Sat θ (graph sh l) → θ a ≡ θ b → ⊥
StepGood sh n l a b (next l' new) =
    ClassList sh n l' × AllBelow n new × (3 * classes n l' + length new ≤ 3 * classes n l) × ((θ : ℕ → Ty) → StepOk θ (graph sh l) (graph sh l') a b new)

-- ---- shapes
abbrev JoinSmall : ℕ → ShapeJoin → Type 0
JoinSmall n clash = Unit {0}
JoinSmall n (joined es) = AllBelow n es × (length es ≤ 2)

join_leaf_small : (n : ℕ) (b : Bool) → JoinSmall n (join_leaf b)
join_leaf_small n true = (tt, omega arith)
join_leaf_small n false = tt

join_small : (n : ℕ) (a b : Shape) → PartsBelow n a → PartsBelow n b → JoinSmall n (join a b)
join_small n unknown b h k = (tt, omega arith)
join_small n (leaf i) unknown h k = (tt, omega arith)
join_small n (leaf i) (leaf j) h k = join_leaf_small n (same_code i j)
join_small n (leaf i) (power v) h k = tt
join_small n (leaf i) (product v w) h k = tt
join_small n (power v) unknown h k = (tt, omega arith)
join_small n (power v) (leaf j) h k = tt
join_small n (power v) (power w) h k = ((h, k, tt), omega arith)
join_small n (power v) (product w x) h k = tt
join_small n (product v w) unknown h k = (tt, omega arith)
join_small n (product v w) (leaf j) h k = tt
join_small n (product v w) (power x) h k = tt
join_small n (product v w) (product x y) h k = ((h.1, k.1, (h.0, k.0, tt)), omega arith)

unknown_is : (s : Shape) → is_unknown s ≡ true → s ≡ unknown
unknown_is unknown e = refl
unknown_is (leaf k) e = absurd (true≢false (sym e))
unknown_is (power v) e = absurd (true≢false (sym e))
unknown_is (product v w) e = absurd (true≢false (sym e))

top_unknown : (s : Shape) → s ≡ top unknown s
top_unknown unknown = refl
top_unknown (leaf k) = refl
top_unknown (power v) = refl
top_unknown (product v w) = refl

top_known : (a s : Shape) → is_unknown s ≡ false → s ≡ top a s
top_known a unknown e = absurd (true≢false e)
top_known a (leaf k) e = refl
top_known a (power v) e = refl
top_known a (product v w) e = refl

module _ (sh : ℕ → Shape) (n : ℕ) (parts : (v : ℕ) → v < n → PartsBelow n (sh v)) (l : List ℕ) (wf : ClassList sh n l)
    (a b : ℕ) (an : a < n) (bn : b < n) where
  abbrev p : ℕ
  p = look l a

  abbrev q : ℕ
  q = look l b

  after_good : p ≢ q → is_unknown (sh q) ≡ false → (j : ShapeJoin) → join (sh p) (sh q) ≡ j → StepGood sh n l a b (after_join (relabel p q l) j)
  after_good ne u clash je = λ θ s e. step_clash θ (graph sh l) a b wf.idem je s e
  after_good ne u (joined es) je =
      let r = relabelled sh n l wf p q ne (wf.bound a an) (wf.bound b bn) (wf.idem a) (wf.idem b) (top_known (sh p) (sh q) u) in
      let small : JoinSmall n (joined es) = rw je at (join_small n (sh p) (sh q) (parts p (wf.bound a an)) (parts q (wf.bound b bn))) in (
        r.1,
        small.0,
        omega (arith, r.2, small.1),
        (λ θ. step_ok θ (graph sh l) (graph sh (relabel p q l)) a b es wf.idem ne je r.0),
      )

  -- q's shape is unknown: then q goes into p, which is the step of b = a
  unknown_good : q ≢ p → sh q ≡ unknown → StepGood sh n l a b (next (relabel q p l) [])
  unknown_good ne un =
      let r = relabelled sh n l wf q p ne (wf.bound b bn) (wf.bound a an) (wf.idem b) (wf.idem a) (rw un (top_unknown (sh p))) in
      let ok : (θ : ℕ → Ty) → StepOk θ (graph sh l) (graph sh (relabel q p l)) b a [] =
      λ θ. step_ok θ (graph sh l) (graph sh (relabel q p l)) b a [] wf.idem ne (rw un) r.0 in (
        r.1,
        tt,
        omega (arith, r.2),
        (λ θ. ((λ x. (ok θ).0 (x.0, sym x.1)), (λ x. let y = (ok θ).1 x in (y.0, sym y.1)))),
      )

  step_on_good : (d u : Bool) → eqb p q ≡ d → is_unknown (sh q) ≡ u → StepGood sh n l a b (step_on sh l p q d u)
  step_on_good true u de ue =
      (wf, tt, omega arith, (λ θ. ((λ x. (x.0, tt)), (λ x. (x.0, step_same θ (graph sh l) a b (true_eqb p q de) x.0)))))
  step_on_good false true de ue = unknown_good (λ e. true≢false (sym (eqb_true p q (sym e)) ∙ de)) (unknown_is (sh q) ue)
  step_on_good false false de ue = after_good (λ e. true≢false (sym (eqb_true p q e) ∙ de)) ue (join (sh p) (sh q)) refl

  pub step_good : StepGood sh n l a b (step sh l a b)
  unfolding step
  step_good = step_on_good (eqb p q) (is_unknown (sh q)) refl refl

pub below_append : (n : ℕ) (xs ys : List Eqn) → AllBelow n xs → AllBelow n ys → AllBelow n (xs ++ ys)
below_append n [] ys h k = k
below_append n (eqn a b ∷ xs) ys h k = (h.0, h.1, below_append n xs ys h.2 k)

pub holds_append : (θ : ℕ → Ty) (xs ys : List Eqn) → (Holds θ xs × Holds θ ys) ↔ Holds θ (xs ++ ys)
holds_append θ [] ys = ((λ h. h.1), (λ h. (tt, h)))
holds_append θ (eqn a b ∷ xs) ys =
    let r = holds_append θ xs ys in ((λ h. (h.0.0, r.0 (h.0.1, h.1))), (λ h. let k = r.1 h.1 in ((h.0, k.0), k.1)))
