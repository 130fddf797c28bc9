-- The equations of the stack: what two more of them say, and what one turn makes of terms and stack.
use Prim.Native.Nat.{ℕ, suc, ◌+◌, ◌*◌, ◌/◌, ◌%◌, ◌<◌, ◌≤◌}
use mathlib.Core.List.{List}
use mathlib.Core.Logic.{◌≢◌}
use mathlib.Core.Path.{◌≡◌, refl, sym, ap, ◌∙◌, subst}
use native.Mathlib.Omega.{arith}
use native.Mathlib.Decide.{ℕ_discrete, dec_lt}
use lib.ListN.{get_or, length}
use Rattle.rules.specs.Types.{Ty}
use Rattle.terms.specs.Words.{word_form, word_left, word_right}
use Rattle.terms.specs.Terms.{TermIn, Terms, Satisfies, SaysAlso}
use Rattle.terms.proofs.SaysLaws.{old_trans}
use Rattle.terms.specs.declared.Stack.{Stack}
use Rattle.classes.specs.Finding.{Shortened, ClassFound}
use Rattle.classes.specs.Joining.{Leaves, Clashes, known_word, PartsEqual, Joined}
use Rattle.classes.specs.Turning.{SidesAgree, Pushed, Turnable, TurnMerges}
use Rattle.classes.proofs.Shortening.{shortened_trans, class_kept, shortened_says, shortened_count}
use Rattle.classes.proofs.Joins.{MeetsWord, leaves_small, leaves_clash, leaves_parts, Joins, join_says}

-- ---- equations
-- Q holds of the two sides of the equation e.
abbrev pub Sides : (ℕ → ℕ → Type 0) → ℕ → Type 0
Sides Q e = Q (e / 4096) (e % 4096)

abbrev pub Same : (ℕ → Ty) → ℕ → ℕ → Type 0
Same θ x y = θ x ≡ θ y

abbrev pub BothBelow : ℕ → ℕ → ℕ → Type 0
BothBelow n x y = (x < n) × (y < n)

-- What holds of the first equations and of the next holds of one more.
pub one_more : (Q : ℕ → ℕ → Type 0) (es : List ℕ) {h : ℕ} → ((i : ℕ) → i < h → Sides Q (get_or es i 0)) → Sides Q (get_or es h 0)
    → (i : ℕ) → i < suc h → Sides Q (get_or es i 0)
one_more Q es {h} below at i l = go (ℕ_discrete i h)
  where
    go : Dec (i ≡ h) → Sides Q (get_or es i 0)
    go (yes e) = rw e at
    go (no ne) = below i (omega arith)

-- The sides of an equation that is put together.
module _ (Q : ℕ → ℕ → Type 0) (a b : ℕ) (h : b < 4096) where
  eqn_left : (a * 4096 + b) / 4096 ≡ a
  eqn_left = omega arith

  eqn_right : (a * 4096 + b) % 4096 ≡ b
  eqn_right = omega arith

  eqn_to : Q a b → Sides Q (a * 4096 + b)
  eqn_to q = rw (eqn_left, eqn_right) q

  eqn_from_law : Sides Q (a * 4096 + b) → Q a b
  eqn_from_law q = rw (eqn_left, eqn_right) at q

abbrev left_eqn : ℕ → ℕ → ℕ
left_eqn s t = word_left s * 4096 + word_left t

abbrev right_eqn : ℕ → ℕ → ℕ
right_eqn s t = word_right s * 4096 + word_right t

-- ---- c equations more
module _ {before after : Stack} {s t c : ℕ} (small : c ≤ 2) (p : Pushed before s t c after) (Q : ℕ → ℕ → Type 0) where
  push_each : ((i : ℕ) → i < before.height → Sides Q (get_or before.words.now i 0))
      → (0 < c → Q (word_left s) (word_left t)) × (1 < c → Q (word_right s) (word_right t))
      → (i : ℕ) → i < before.height + c → Sides Q (get_or after.words.now i 0)
  push_each below parts i l = go (dec_lt i before.height) (ℕ_discrete i before.height)
    where
      go : Dec (i < before.height) → Dec (i ≡ before.height) → Sides Q (get_or after.words.now i 0)
      go (yes y) d = rw (p.below i y) (below i y)
      go (no ne) (yes e) = rw (e, p.first (omega arith)) (eqn_to Q (word_left s) (word_left t) (omega arith) (parts.0 (omega arith)))
      go (no ne) (no o) =
          let e : i ≡ before.height + 1 = omega arith in
          rw (e, p.second (omega arith)) (eqn_to Q (word_right s) (word_right t) (omega arith) (parts.1 (omega arith)))

  push_back : ((i : ℕ) → i < before.height + c → Sides Q (get_or after.words.now i 0))
      → ((i : ℕ) → i < before.height → Sides Q (get_or before.words.now i 0)) × ((0 < c → Q (word_left s) (word_left t)) ×
      (1 < c → Q (word_right s) (word_right t)))
  push_back all = (
    (λ i l. subst (Sides Q) (p.below i l) (all i (omega arith))),
    (
      (λ l. eqn_from_law Q (word_left s) (word_left t) (omega arith) (subst (Sides Q) (p.first l) (all before.height (omega arith)))),
      (λ l. eqn_from_law Q (word_right s) (word_right t) (omega arith) (subst (Sides Q) (p.second l) (all (before.height + 1) (omega arith)))),
    ),
  )

-- ---- the classes of the equation e
pub record BothFound (n : ℕ) (ts : List ℕ) (e : ℕ) (ts' : List ℕ) (p q : ℕ) : Type 0 where
  pub shortened : Shortened n ts ts'
  pub p_below : p < n
  pub q_below : q < n
  pub p_shape : word_form (get_or ts' p 0) ≤ 3
  pub q_shape : word_form (get_or ts' q 0) ≤ 3
  pub same : (θ : ℕ → Ty) → Satisfies θ n ts → (θ (e / 4096) ≡ θ p) × (θ (e % 4096) ≡ θ q)

pub both_found : {n : ℕ} {ts : List ℕ} {a b : ℕ} (e : ℕ) {ts' ts'' : List ℕ} {p q : ℕ} → ClassFound n ts a ts' p → ClassFound (length ts') ts' b ts'' q
    → a ≡ e / 4096 → b ≡ e % 4096 → BothFound n ts e ts'' p q
both_found {n} {b} e {ts'} {ts''} {q} f f' ae be =
    let g : ClassFound n ts' b ts'' q = subst (λ m. ClassFound m ts' b ts'' q) f.leads.shortened.terms.len f' in
    record {
      shortened = shortened_trans f.leads.shortened g.leads.shortened;
      p_below = f.leads.below;
      q_below = g.leads.below;
      p_shape = class_kept g.leads.shortened f.leads.below f.shape;
      q_shape = g.shape;
      same = λ θ s. (ap θ (sym ae) ∙ f.leads.same θ s, ap θ (sym be) ∙ g.leads.same θ ((f.leads.shortened.iff θ).0 s));
    }

pub terms_own : {n : ℕ} {ts : List ℕ} → Terms n ts → Terms (length ts) ts
terms_own {n} {ts} t = subst (λ m. Terms m ts) (sym t.len) t

-- ---- one turn
module _ {n : ℕ} {ts stack : List ℕ} {h e : ℕ} (o : Turnable n ts stack h e) {ts' : List ℕ} {p q : ℕ} (f : BothFound n ts e ts' p q) where
  -- The equation holds just where the classes are equal.
  to_classes : (θ : ℕ → Ty) → Satisfies θ n ts → SidesAgree θ e → θ p ≡ θ q
  to_classes θ s e = let x = f.same θ s in sym x.0 ∙ e ∙ x.1

  from_classes : (θ : ℕ → Ty) → Satisfies θ n ts → θ p ≡ θ q → SidesAgree θ e
  from_classes θ s e = let x = f.same θ s in x.0 ∙ e ∙ sym x.1

  pub turn_same : p ≡ q → TurnMerges n ts stack h e ts' stack h
  turn_same pq =
      let a = shortened_says f.shortened in
      record {
        merging = record {
          terms = a.terms;
          sides = o.sides;
          iff = λ θ. (
            (λ x. ((f.shortened.iff θ).0 x.0, x.1.0)),
            (λ x. let s = (f.shortened.iff θ).1 x.0 in (s, (x.1, from_classes θ s (ap θ pq)))),
          );
          old = a.old;
        };
        falls = omega (arith, shortened_count f.shortened);
        small = omega arith;
        long = refl;
      }

  abbrev s : ℕ
  s = get_or ts' p 0

  abbrev t : ℕ
  t = get_or ts' q 0

  s_in : TermIn n p s
  s_in = f.shortened.terms.each p f.p_below

  t_in : TermIn n q t
  t_in = f.shortened.terms.each q f.q_below

  pub turn_clash : Clashes s t → ((θ : ℕ → Ty) → Satisfies θ n ts → SidesAgree θ e → ⊥) × SaysAlso n ts (λ θ. Unit {0}) ts'
  turn_clash l = (
    (λ θ x k. let y = (f.shortened.iff θ).0 x in
        leaves_clash s_in t_in l f.p_shape f.q_shape θ (θ p)
        (y p f.p_below) (subst (MeetsWord θ t) (sym (to_classes θ x k)) (y q f.q_below))),
    shortened_says f.shortened,
  )

module _ {n : ℕ} {ts : List ℕ} {before after : Stack} {e : ℕ} (o : Turnable n ts before.words.now before.height e)
    {ts' : List ℕ} {p q : ℕ} (f : BothFound n ts e ts' p q) where
  pub turn_joined : {c : ℕ} → Leaves (s o f) (t o f) c → p ≢ q → {ts'' : List ℕ} → Joined ts' p q (known_word (s o f) (t o f)) ts''
      → Pushed before (s o f) (t o f) c after → TurnMerges n ts before.words.now before.height e ts'' after.words.now after.height
  turn_joined {c} l ne {ts''} j u =
      let small = leaves_small l in
      let parts = leaves_parts (s_in o f) (t_in o f) l in
      let k : Joins n ts' p q (λ θ. PartsEqual θ (s o f) (t o f) c) ts'' =
      join_says f.shortened.terms ts'' f.p_below f.q_below f.p_shape f.q_shape j l ne in
      rw u.height (record {
        merging = record {
          terms = k.terms;
          sides = push_each small u (BothBelow n) o.sides parts;
          iff = λ θ. (
            (λ x. let y = (k.iff θ).0 ((f.shortened.iff θ).0 x.0, to_classes o f θ x.0 x.1.1) in (y.0, push_each small u (Same θ) x.1.0 y.1)),
            (λ x. let b = push_back small u (Same θ) x.1 in
                let y = (k.iff θ).1 (x.0, b.1) in
                let z = (f.shortened.iff θ).1 y.0 in
                (z, (b.0, from_classes o f θ z y.1))),
          );
          old = old_trans ts ts' ts'' (shortened_says f.shortened).old k.old;
        };
        falls = omega (arith, k.fewer, shortened_count f.shortened, small);
        small = omega arith;
        long = u.long;
      })
