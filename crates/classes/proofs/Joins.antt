-- Two classes made one: what their shapes leave says what both shapes say; the greater variable becomes a link, and the smaller has the known shape.
use Prim.Native.Nat.{ℕ, zero, suc, ◌<◌, ◌≤◌, min, max}
use mathlib.Core.Bool.{true, true≢false}
use mathlib.Core.List.{List}
use mathlib.Core.Logic.{◌↔◌, ◌≢◌, inl, inr}
use mathlib.Core.Path.{◌≡◌, refl, sym, ap, ◌∙◌, subst}
use native.Mathlib.Omega.{arith}
use native.Mathlib.Decide.{ℕ_discrete, dec_lt}
use lib.ListN.{get_or, set, length-set}
use lib.Seq.{get_or-set_same, get_or-set_other}
use Rattle.rules.specs.Types.{Ty, atom, POW, ◌⊗◌, atom_code}
use Rattle.unification.specs.Problem.{atom_from}
use Rattle.unification.specs.Codes.{AtomCode}
use Rattle.unification.proofs.Counting.{count_strict}
use Rattle.terms.specs.Words.{word_form, word_left, word_right, term_from, term_of, LinkWord}
use Rattle.terms.specs.Terms.{TermIn, Terms, MeetsTerm, Satisfies, TermFrom}
use Rattle.terms.proofs.SaysLaws.{from_self}
use Rattle.terms.proofs.TermLaws.{term_known}
use Rattle.classes.specs.Finding.{shape_form, class_count}
use Rattle.classes.specs.Joining.{Leaves, first_open, second_open, one_atom, two_powers, two_products, Clashes, two_forms, two_atoms, known_word, PartsEqual, Joined}
use Rattle.classes.proofs.Shortening.{set_each, along, meets_link, link_in, shape_true, link_false}

abbrev pub MeetsWord : (ℕ → Ty) → ℕ → Ty → Type 0
MeetsWord θ w t = MeetsTerm θ (term_of w) t

term_at : (w : ℕ) {f : ℕ} → word_form w ≡ f → term_of w ≡ term_from f (word_left w) (word_right w)
unfolding term_of
term_at w e = rw e refl

-- ---- the word of the merged class
pub known_second : (s t : ℕ) → word_form s ≡ 0 → known_word s t ≡ t
known_second s t e = rw e refl

pub known_first : (s t : ℕ) → word_form s ≢ 0 → known_word s t ≡ s
known_first s t ne = go (word_form s) refl
  where
    go : (f : ℕ) → word_form s ≡ f → known_word s t ≡ s
    go zero e = absurd (ne e)
    go (suc f) e = rw e refl

-- What holds of both words holds of it.
known_either : (P : ℕ → Type 0) (s t : ℕ) → P s → P t → P (known_word s t)
known_either P s t p q = go (ℕ_discrete (word_form s) 0)
  where
    go : Dec (word_form s ≡ 0) → P (known_word s t)
    go (yes e) = rw (known_second s t e) q
    go (no ne) = rw (known_first s t ne) p

-- ---- clashes
abbrev kind_of : Ty → ℕ
kind_of (atom a) = 1
kind_of (POW t) = 2
kind_of (t ⊗ u) = 3

kind_from : (θ : ℕ → Ty) (f l r : ℕ) (τ : Ty) → f ≢ 0 → f ≤ 3 → MeetsTerm θ (term_from f l r) τ → f ≡ kind_of τ
kind_from θ zero l r τ o h m = absurd (o refl)
kind_from θ (suc zero) l r τ o h m = rw m refl
kind_from θ (suc (suc zero)) l r τ o h m = rw m refl
kind_from θ (suc (suc (suc zero))) l r τ o h m = rw m refl
kind_from θ (suc (suc (suc (suc k)))) l r τ o h m = absurd (omega arith)

kind_is : (θ : ℕ → Ty) (w : ℕ) (τ : Ty) → word_form w ≢ 0 → word_form w ≤ 3 → MeetsWord θ w τ → word_form w ≡ kind_of τ
kind_is θ w τ o h m = kind_from θ (word_form w) (word_left w) (word_right w) τ o h (rw (term_at w refl) at m)

-- The code of an atom that a code names.
code_named : (c : ℕ) → AtomCode c → atom_code (atom_from c) ≡ c
code_named zero (inl e) = absurd (omega arith)
code_named zero (inr (inl e)) = absurd (omega arith)
code_named zero (inr (inr h)) = absurd (omega (arith, h.0))
code_named (suc zero) d = refl
code_named (suc (suc zero)) d = refl
code_named (suc (suc (suc c))) (inl e) = absurd (omega arith)
code_named (suc (suc (suc c))) (inr (inl e)) = absurd (omega arith)
code_named (suc (suc (suc c))) (inr (inr h)) = omega (arith, h.0)

atom_same : {c d : ℕ} (τ : Ty) → AtomCode c → AtomCode d → τ ≡ atom (atom_from c) → τ ≡ atom (atom_from d) → c ≡ d
atom_same {c} {d} τ h k p q = let e : atom_from c ≡ atom_from d = cc in sym (code_named c h) ∙ ap atom_code e ∙ code_named d k

-- ---- what two words leave
module _ {s t : ℕ} where
  pub leaves_small : {c : ℕ} → Leaves s t c → c ≤ 2
  leaves_small (first_open e f) = omega arith
  leaves_small (second_open e g) = omega arith
  leaves_small (one_atom e f g l) = omega arith
  leaves_small (two_powers e f g) = omega arith
  leaves_small (two_products e f g) = omega arith

  module _ {n v u : ℕ} (a : TermIn n v s) (b : TermIn n u t) where
    pub leaves_clash : Clashes s t → word_form s ≤ 3 → word_form t ≤ 3 → (θ : ℕ → Ty) (τ : Ty) → MeetsWord θ s τ → MeetsWord θ t τ → ⊥
    leaves_clash (two_forms f g o) hs ht θ τ m k = o (kind_is θ s τ f hs m ∙ sym (kind_is θ t τ g ht k))
    leaves_clash (two_atoms f g o) hs ht θ τ m k = o (atom_same τ (a.code f) (b.code g) (rw (term_at s f) at m) (rw (term_at t g) at k))

    -- The parts that are to be equal are variables.
    pub leaves_parts : {c : ℕ} → Leaves s t c → (0 < c → (word_left s < n) × (word_left t < n)) × (1 < c → (word_right s < n) × (word_right t < n))
    leaves_parts (first_open e f) = ((λ l. absurd (omega arith)), (λ l. absurd (omega arith)))
    leaves_parts (second_open e g) = ((λ l. absurd (omega arith)), (λ l. absurd (omega arith)))
    leaves_parts (one_atom e f g l) = ((λ l. absurd (omega arith)), (λ l. absurd (omega arith)))
    leaves_parts (two_powers e f g) =
        ((λ l. (rw (term_at s f) at a.parts, rw (term_at t g) at b.parts)), (λ l. absurd (omega arith)))
    leaves_parts (two_products e f g) =
        let x = rw (term_at s f) at a.parts in
        let y = rw (term_at t g) at b.parts in ((λ l. (x.0, y.0)), (λ l. (x.1, y.1)))

-- The parts of nothing are equal.
none_equal : (θ : ℕ → Ty) (s t : ℕ) {c : ℕ} → c ≡ 0 → PartsEqual θ s t c
none_equal θ s t e = ((λ l. absurd (omega arith)), (λ l. absurd (omega arith)))

abbrev pub Both : (θ : ℕ → Ty) (s t c : ℕ) (τ : Ty) → Type 0
Both θ s t c τ = (MeetsWord θ s τ × MeetsWord θ t τ) ↔ (MeetsWord θ (known_word s t) τ × PartsEqual θ s t c)

module _ (θ : ℕ → Ty) (τ : Ty) (s t : ℕ) {c : ℕ} where
  both_first : c ≡ 0 → word_form s ≡ 0 → Both θ s t c τ
  both_first e f = rw (known_second s t f, term_at s f) ((λ h. (h.1, none_equal θ s t e)), (λ h. (tt, h.0)))

  both_second : c ≡ 0 → word_form t ≡ 0 → Dec (word_form s ≡ 0) → Both θ s t c τ
  both_second e g (yes f) = both_first e f
  both_second e g (no f) = rw (known_first s t f, term_at t g) ((λ h. (h.0, none_equal θ s t e)), (λ h. (h.0, tt)))

  -- Both words say what the merged class's word and the equal parts say.
  pub leaves_both : Leaves s t c → Both θ s t c τ
  leaves_both (first_open e f) = both_first e f
  leaves_both (second_open e g) = both_second e g (ℕ_discrete (word_form s) 0)
  leaves_both (one_atom e f g l) =
      rw (known_first s t (omega arith), term_at s f, term_at t g) ((λ h. (h.0, none_equal θ s t e)), (λ h. (h.0, h.0 ∙ ap (λ x. atom (atom_from x)) l)))
  leaves_both (two_powers e f g) =
      rw (known_first s t (omega arith), term_at s f, term_at t g)
      ((λ h. (h.0, ((λ l. cc), (λ l. absurd (omega arith))))), (λ h. (h.0, h.0 ∙ ap POW (h.1.0 (omega arith)))))
  leaves_both (two_products e f g) =
      rw (known_first s t (omega arith), term_at s f, term_at t g)
      ((λ h. (h.0, ((λ l. cc), (λ l. cc)))), (λ h. let x = h.1.0 (omega arith) in let y = h.1.1 (omega arith) in (h.0, cc)))

-- ---- the words of the merged class
swap : {A B C : Type 0} → (A × B) ↔ C → (B × A) ↔ C
swap f = ((λ h. f.0 (h.1, h.0)), (λ h. let x = f.1 h in (x.1, x.0)))

-- The terms ts' say what ts say with p and q of one type, where also E; one class is gone.
pub record Joins (n : ℕ) (ts : List ℕ) (p q : ℕ) (E : (ℕ → Ty) → Type 0) (ts' : List ℕ) : Type 0 where
  pub terms : Terms n ts'
  pub iff : (θ : ℕ → Ty) → (Satisfies θ n ts × (θ p ≡ θ q)) ↔ (Satisfies θ n ts' × E θ)
  pub old : (v : ℕ) → v < n → TermFrom n ts (term_of (get_or ts' v 0))
  pub fewer : class_count n ts' < class_count n ts

joins_swap : {n : ℕ} {ts : List ℕ} {p q : ℕ} {E : (ℕ → Ty) → Type 0} {ts' : List ℕ} → Joins n ts p q E ts' → Joins n ts q p E ts'
joins_swap a = record {
  terms = a.terms;
  iff = λ θ. ((λ h. (a.iff θ).0 (h.0, sym h.1)), (λ h. let x = (a.iff θ).1 h in (x.0, sym x.1)));
  old = a.old;
  fewer = a.fewer;
}

-- high links to low, which has the word k.
module _ {n : ℕ} {ts : List ℕ} (t : Terms n ts) (low high w k : ℕ) (lo : low < high) (hi : high < n) (lw : LinkWord w low) where
  abbrev joined : List ℕ
  joined = set (set ts high w) low k

  join_each : (P : ℕ → ℕ → Type 0) → P low k → P high w → ((v : ℕ) → v < n → v ≢ low → v ≢ high → P v (get_or ts v 0))
      → (v : ℕ) → v < n → P v (get_or joined v 0)
  join_each P p q other v h =
      set_each P (set ts high w) low k (rw (length-set ts high w, t.len) (omega arith)) p
      (λ x l ne. set_each (λ y a. y ≢ low → P y a) ts high w (rw t.len hi) (λ _. q) (λ y z no o. other y z o no) x l ne) v h

  at_low : get_or joined low 0 ≡ k
  at_low = get_or-set_same (set ts high w) low k 0 (rw (length-set ts high w, t.len) (omega arith))

  at_high : get_or joined high 0 ≡ w
  at_high = get_or-set_other (set ts high w) low high k 0 (omega arith) ∙ get_or-set_same ts high w 0 (rw t.len hi)

  at_other : (v : ℕ) → v ≢ low → v ≢ high → get_or joined v 0 ≡ get_or ts v 0
  at_other v a b = get_or-set_other (set ts high w) low v k 0 a ∙ get_or-set_other ts high v w 0 b

  right_low : word_right w ≡ low
  right_low = lw.right

  join_terms : TermIn n low k → Terms n joined
  join_terms a = record {
    len = length-set (set ts high w) low k ∙ length-set ts high w ∙ t.len;
    small = t.small;
    each = join_each (TermIn n) a (link_in lw.form (omega (arith, right_low))) (λ v h x y. t.each v h);
  }

  module _ (sl : word_form (get_or ts low 0) ≤ 3) (sh : word_form (get_or ts high 0) ≤ 3) where
    join_fewer : class_count n joined < class_count n ts
    join_fewer = count_strict _ _ n
        (join_each (λ v a. shape_form (word_form a) ≡ true → shape_form (word_form (get_or ts v 0)) ≡ true)
        (λ _. shape_true (word_form (get_or ts low 0)) sl)
        (λ e. absurd (true≢false (sym e ∙ link_false (word_form w) lw.form)))
        (λ v h x y e. e))
        high hi
        (link_false (word_form (get_or joined high 0)) (ap word_form at_high ∙ lw.form))
        (shape_true (word_form (get_or ts high 0)) sh)

  module _ (E : (ℕ → Ty) → Type 0)
      (both : (θ : ℕ → Ty) (τ : Ty) → (MeetsWord θ (get_or ts low 0) τ × MeetsWord θ (get_or ts high 0) τ) ↔ (MeetsWord θ k τ × E θ)) (θ : ℕ → Ty) where
    join_to : Satisfies θ n ts × (θ low ≡ θ high) → Satisfies θ n joined × E θ
    join_to h =
        let m = (both θ (θ low)).0 (h.0 low (omega arith), subst (MeetsWord θ (get_or ts high 0)) (sym h.1) (h.0 high hi)) in
        (join_each (λ v a. MeetsWord θ a (θ v)) m.0 (meets_link θ high w lw.form (sym h.1 ∙ ap θ (sym right_low))) (λ v l x y. h.0 v l), m.1)

    join_back : Satisfies θ n joined × E θ → Satisfies θ n ts × (θ low ≡ θ high)
    join_back h =
        let e : θ high ≡ θ low = along θ high (h.0 high hi) at_high lw.form ∙ ap θ right_low in
        let m = (both θ (θ low)).1 (subst (λ a. MeetsWord θ a (θ low)) at_low (h.0 low (omega arith)), h.1) in
        ((λ v l. go v l e m.0 m.1 (ℕ_discrete v low) (ℕ_discrete v high)), sym e)
      where
        go : (v : ℕ) → v < n → θ high ≡ θ low → MeetsWord θ (get_or ts low 0) (θ low) → MeetsWord θ (get_or ts high 0) (θ low)
            → Dec (v ≡ low) → Dec (v ≡ high) → MeetsWord θ (get_or ts v 0) (θ v)
        go v l e a b (yes x) d = subst (λ y. MeetsWord θ (get_or ts y 0) (θ y)) (sym x) a
        go v l e a b (no x) (yes y) = subst (λ z. MeetsWord θ (get_or ts z 0) (θ z)) (sym y) (subst (MeetsWord θ (get_or ts high 0)) (sym e) b)
        go v l e a b (no x) (no y) = subst (λ z. MeetsWord θ z (θ v)) (at_other v x y) (h.0 v l)

  join_low : (E : (ℕ → Ty) → Type 0)
      → ((θ : ℕ → Ty) (τ : Ty) → (MeetsWord θ (get_or ts low 0) τ × MeetsWord θ (get_or ts high 0) τ) ↔ (MeetsWord θ k τ × E θ))
      → word_form (get_or ts low 0) ≤ 3 → word_form (get_or ts high 0) ≤ 3 → TermIn n low k → TermFrom n ts (term_of k) → Joins n ts low high E joined
  join_low E both sl sh a from = record {
    terms = join_terms a;
    iff = λ θ. (join_to E both θ, join_back E both θ);
    old = join_each (λ v x. TermFrom n ts (term_of x)) from (rw lw.term tt) (λ v h x y. from_self ts (term_of (get_or ts v 0)) v h refl);
    fewer = join_fewer sl sh;
  }

-- A shape may stand at any variable.
term_any : {n v : ℕ} (u : ℕ) {w : ℕ} → word_form w ≤ 3 → TermIn n v w → TermIn n u w
term_any {n} {v} u {w} h a = record { form = a.form; code = a.code; parts = rw (term_known w h) (rw (term_known w h) at a.parts) }

module _ {n : ℕ} {ts : List ℕ} (t : Terms n ts) {p q c : ℕ} (ts' : List ℕ) (hp : p < n) (hq : q < n)
    (sp : word_form (get_or ts p 0) ≤ 3) (sq : word_form (get_or ts q 0) ≤ 3)
    (j : Joined ts p q (known_word (get_or ts p 0) (get_or ts q 0)) ts') (l : Leaves (get_or ts p 0) (get_or ts q 0) c) where
  abbrev s : ℕ
  s = get_or ts p 0

  abbrev r : ℕ
  r = get_or ts q 0

  known_in : (u : ℕ) → TermIn n u (known_word s r)
  known_in u = known_either (TermIn n u) s r (term_any u sp (t.each p hp)) (term_any u sq (t.each q hq))

  known_from : TermFrom n ts (term_of (known_word s r))
  known_from = known_either (λ x. TermFrom n ts (term_of x)) s r (from_self ts (term_of s) p hp refl) (from_self ts (term_of r) q hq refl)

  -- Which of p and q is the smaller does not matter.
  pub join_says : p ≢ q → Joins n ts p q (λ θ. PartsEqual θ s r c) ts'
  join_says ne = go (dec_lt p q)
    where
      go : Dec (p < q) → Joins n ts p q (λ θ. PartsEqual θ s r c) ts'
      go (yes y) =
          let low : min p q ≡ p = omega arith in
          let high : max p q ≡ q = omega arith in
          rw (j.is, low, high) (join_low t p q j.word (known_word s r) y hq (subst (LinkWord j.word) low j.links) (λ θ. PartsEqual θ s r c)
          (λ θ τ. leaves_both θ τ s r l) sp sq (known_in p) known_from)
      go (no y) =
          let low : min p q ≡ q = omega arith in
          let high : max p q ≡ p = omega arith in
          rw (j.is, low, high) (joins_swap (join_low t q p j.word (known_word s r) (omega arith) hp (subst (LinkWord j.word) low j.links)
          (λ θ. PartsEqual θ s r c) (λ θ τ. swap (leaves_both θ τ s r l)) sq sp (known_in q) known_from))
