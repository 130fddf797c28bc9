-- Shorter links say what the links said: one link set past its target, the laws of `Shortened`, and the count of classes.
use Prim.Native.Nat.{ℕ, zero, suc, ◌<◌, ◌≤◌}
use mathlib.Core.Bool.{true, false, true≢false}
use mathlib.Core.List.{List}
use mathlib.Core.Logic.{◌≢◌, inl, inr}
use mathlib.Core.Path.{◌≡◌, refl, sym, ap, ◌∙◌, subst}
use native.Mathlib.Omega.{arith}
use native.Mathlib.Decide.{ℕ_discrete}
use lib.ListN.{get_or, set, length, length-set}
use lib.Seq.{get_or-set_same, get_or-set_other}
use Rattle.rules.specs.Types.{Ty}
use Rattle.unification.proofs.Counting.{count_mono}
use Rattle.terms.specs.Words.{word_form, word_right, term_of}
use Rattle.terms.specs.Terms.{TermIn, Terms, MeetsTerm, Satisfies, TermFrom, SaysAlso}
use Rattle.terms.specs.Decoding.{TermIs}
use Rattle.terms.specs.declared.Term.TheVariants.{Link}
use Rattle.terms.proofs.SaysLaws.{from_self}
use Rattle.terms.proofs.TermLaws.{term_link, link_below, form_link}
use Rattle.classes.specs.Finding.{KeptOrLink, Shortened, LinksLead, shape_form, class_count}

-- What holds of the word that is set and of the others holds of all.
pub set_each : (P : ℕ → ℕ → Type 0) {n : ℕ} (l : List ℕ) (x w : ℕ) → x < length l → P x w → ((v : ℕ) → v < n → v ≢ x → P v (get_or l v 0))
    → (v : ℕ) → v < n → P v (get_or (set l x w) v 0)
set_each P {n} l x w h p other v k = go (ℕ_discrete v x)
  where
    go : Dec (v ≡ x) → P v (get_or (set l x w) v 0)
    go (yes e) = rw (e, get_or-set_same l x w 0 h) p
    go (no ne) = rw (get_or-set_other l x v w 0 ne) (other v k ne)

-- A type along a link.
pub along : (θ : ℕ → Ty) (v : ℕ) {w w' : ℕ} → MeetsTerm θ (term_of w') (θ v) → w' ≡ w → word_form w ≡ 4 → θ v ≡ θ (word_right w)
along θ v {w} m e f = subst (λ x. MeetsTerm θ x (θ v)) (ap term_of e ∙ term_link w f) m

pub meets_link : (θ : ℕ → Ty) (v w : ℕ) → word_form w ≡ 4 → θ v ≡ θ (word_right w) → MeetsTerm θ (term_of w) (θ v)
meets_link θ v w f e = rw (term_link w f) e

pub link_in : {n v w : ℕ} → word_form w ≡ 4 → word_right w < v → TermIn n v w
link_in {n} {v} {w} f l = record { form = omega arith; code = λ e. absurd (omega arith); parts = rw (term_link w f) l }

-- x links to y, and y's word, a link too, goes to x.
module _ {n : ℕ} {ts : List ℕ} (t : Terms n ts) (x y : ℕ) (h : x < n) where
  abbrev w : ℕ
  w = get_or ts x 0

  abbrev u : ℕ
  u = get_or ts y 0

  module _ (wf : word_form w ≡ 4) (ye : y ≡ word_right w) (uf : word_form u ≡ 4) where
    y_below : y < x
    y_below = omega (arith, link_below t h refl wf)

    z_below : word_right u < y
    z_below = link_below t (omega (arith, y_below)) refl uf

    in_list : x < length ts
    in_list = omega (arith, t.len)

    pub shorten : Shortened n ts (set ts x u)
    shorten = record {
      terms = record {
        len = length-set ts x u ∙ t.len;
        small = t.small;
        each = set_each (TermIn n) ts x u in_list (link_in uf (omega (arith, y_below, z_below))) (λ v k ne. t.each v k);
      };
      iff = λ θ. (
        (λ s. set_each (λ v a. MeetsTerm θ (term_of a) (θ v)) ts x u in_list
            (meets_link θ x u uf (along θ x (s x h) refl wf ∙ ap θ (sym ye) ∙ along θ y (s y (omega (arith, y_below))) refl uf)) (λ v k ne. s v k)),
        (λ s v k. back θ s v k (ℕ_discrete v x)),
      );
      each = set_each (λ v a. KeptOrLink (get_or ts v 0) a) ts x u in_list (inr (wf, uf)) (λ v k ne. inl refl);
    }
      where
        back : (θ : ℕ → Ty) → Satisfies θ n (set ts x u) → (v : ℕ) → v < n → Dec (v ≡ x) → MeetsTerm θ (term_of (get_or ts v 0)) (θ v)
        back θ s v k (no ne) = rw (get_or-set_other ts x v u 0 ne) at (s v k)
        back θ s v k (yes e) =
            let z = along θ y (s y (omega (arith, y_below))) (get_or-set_other ts x y u 0 (omega (arith, y_below))) uf in
            rw e (meets_link θ x w wf (along θ x (s x h) (get_or-set_same ts x u 0 in_list) uf ∙ sym z ∙ ap θ ye))

pub shortened_self : {n : ℕ} {ts : List ℕ} → Terms n ts → Shortened n ts ts
shortened_self t = record { terms = t; iff = λ θ. ((λ s. s), (λ s. s)); each = λ v k. inl refl }

kept_trans : {a b c : ℕ} → KeptOrLink a b → KeptOrLink b c → KeptOrLink a c
kept_trans (inl e) (inl k) = inl (k ∙ e)
kept_trans (inl e) (inr k) = inr (subst (λ x. word_form x ≡ 4) e k.0, k.1)
kept_trans (inr e) (inl k) = inr (e.0, subst (λ x. word_form x ≡ 4) (sym k) e.1)
kept_trans (inr e) (inr k) = inr (e.0, k.1)

pub shortened_trans : {n : ℕ} {ts ts' ts'' : List ℕ} → Shortened n ts ts' → Shortened n ts' ts'' → Shortened n ts ts''
shortened_trans a b = record {
  terms = b.terms;
  iff = λ θ. ((λ s. (b.iff θ).0 ((a.iff θ).0 s)), (λ s. (a.iff θ).1 ((b.iff θ).1 s)));
  each = λ v k. kept_trans (a.each v k) (b.each v k);
}

shape_kept : {w w' : ℕ} → word_form w ≤ 3 → KeptOrLink w w' → w' ≡ w
shape_kept f (inl e) = e
shape_kept f (inr k) = absurd (omega (arith, k.0))

-- A class keeps its word.
pub class_kept : {n : ℕ} {ts ts' : List ℕ} → Shortened n ts ts' → {v : ℕ} → v < n → word_form (get_or ts v 0) ≤ 3 → word_form (get_or ts' v 0) ≤ 3
class_kept a {v} k f = subst (λ x. word_form x ≤ 3) (sym (shape_kept f (a.each v k))) f

kept_from : {n : ℕ} (ts : List ℕ) {v : ℕ} (w : ℕ) → v < n → KeptOrLink (get_or ts v 0) w → TermFrom n ts (term_of w)
kept_from ts {v} w k (inl e) = from_self ts (term_of w) v k (ap term_of (sym e))
kept_from ts w k (inr l) = rw (term_link w l.1) tt

pub shortened_says : {n : ℕ} {ts ts' : List ℕ} → Shortened n ts ts' → SaysAlso n ts (λ θ. Unit {0}) ts'
shortened_says {n} {ts} {ts'} a = record {
  terms = a.terms;
  iff = λ θ. ((λ s. (a.iff θ).0 s.0), (λ s. ((a.iff θ).1 s, tt)));
  old = λ v k. kept_from ts (get_or ts' v 0) k (a.each v k);
}

pub shape_true : (f : ℕ) → f ≤ 3 → shape_form f ≡ true
shape_true zero h = refl
shape_true (suc zero) h = refl
shape_true (suc (suc zero)) h = refl
shape_true (suc (suc (suc zero))) h = refl
shape_true (suc (suc (suc (suc k)))) h = absurd (omega arith)

pub link_false : (f : ℕ) → f ≡ 4 → shape_form f ≡ false
link_false f e = rw e refl

pub shortened_count : {n : ℕ} {ts ts' : List ℕ} → Shortened n ts ts' → class_count n ts' ≤ class_count n ts
shortened_count {n} {ts} {ts'} a = count_mono _ _ n (λ v k e. go v e (a.each v k))
  where
    go : (v : ℕ) → shape_form (word_form (get_or ts' v 0)) ≡ true → KeptOrLink (get_or ts v 0) (get_or ts' v 0) → shape_form (word_form (get_or ts v 0)) ≡ true
    go v e (inl k) = subst (λ x. shape_form (word_form x) ≡ true) k e
    go v e (inr k) = absurd (true≢false (sym e ∙ link_false (word_form (get_or ts' v 0)) k.1))

pub lead_below : {n : ℕ} {ts₀ ts : List ℕ} {v x : ℕ} → LinksLead n ts₀ v ts x → (x < length ts) × (x < 4096)
lead_below a = (omega (arith, a.shortened.terms.len), omega (arith, a.shortened.terms.small))

-- On to y, where x links to.
module _ {n : ℕ} {ts₀ ts : List ℕ} {v x y : ℕ} (a : LinksLead n ts₀ v ts x) (is : TermIs (get_or ts x 0) (Link y)) where
  link_here : word_form (get_or ts x 0) ≡ 4
  link_here = form_link a.shortened.terms a.below refl is.0

  pub link_less : y < x
  link_less = omega (arith, is.1, link_below a.shortened.terms a.below refl link_here)

  pub lead_link : LinksLead n ts₀ v ts y
  lead_link = record {
    shortened = a.shortened;
    below = omega (arith, a.below, link_less);
    same = λ θ s. a.same θ s ∙ along θ x ((a.shortened.iff θ).0 s x a.below) refl link_here ∙ ap θ (sym is.1);
  }

-- Two links on, and the link of x is set past the first.
pub lead_next : {n : ℕ} {ts₀ ts : List ℕ} {v x y z : ℕ} → LinksLead n ts₀ v ts x → TermIs (get_or ts x 0) (Link y) → TermIs (get_or ts y 0) (Link z)
    → LinksLead n ts₀ v (set ts x (get_or ts y 0)) z × (z < x)
lead_next {x} {y} a is is' =
    let b = lead_link a is in (
      record {
        shortened = shortened_trans a.shortened (shorten a.shortened.terms x y a.below (link_here a is) is.1 (link_here b is'));
        below = (lead_link b is').below;
        same = (lead_link b is').same;
      },
      omega (arith, link_less a is, link_less b is'),
    )
