-- The mark of a class says what it should where those of its parts do: by the class's shape. A mark that says so after K rounds says so after
-- one more.
use Prim.Native.Nat.{ℕ, suc, ◌%◌, ◌<◌, ◌≤◌}
use mathlib.Core.List.{List}
use mathlib.Core.Logic.{inl, inr}
use mathlib.Core.Path.{◌≡◌, refl, sym, ap, ◌∙◌, subst}
use native.Mathlib.Omega.{arith}
use Rattle.rules.specs.Types.{Ty, weightᵀ}
use Rattle.unification.specs.Problem.{Shape, unknown, leaf, power, product, Matches, PartsBelow}
use Rattle.unification.specs.Marks.{status_of, status_after}
use Rattle.unification.proofs.Resolve.{status_keep}
use Rattle.terms.specs.Terms.{Satisfies, class_in}
use Rattle.terms.specs.Decided.{class_mark}
use Rattle.deciding.specs.Marking.{word_shape, term_graph, mark_shape, Final, EachPart, IsPart, FlatTerms, MarkFits, MarkSays, MarksSay, PartLeft, PartsFinal, PartsSmall}
use Rattle.deciding.specs.Visit.{Lighter}
use Rattle.deciding.proofs.Graphs.{to_sat, status_class, class_in_law, parts_in}

pub each_map : (n : ℕ) (P Q : ℕ → Type 0) (s : Shape) → PartsBelow n s → ((v : ℕ) → v < n → P v → Q v) → EachPart P s → EachPart Q s
each_map n P Q unknown b f p = tt
each_map n P Q (leaf a) b f p = tt
each_map n P Q (power v) b f p = f v b p
each_map n P Q (product v w) b f p = (f v b.0 p.0, f w b.1 p.1)

part_lighter : (θ : ℕ → Ty) (v : ℕ) (s : Shape) (t : Ty) → IsPart v s → Matches θ s t → weightᵀ (θ v) < weightᵀ t
part_lighter θ v unknown t p m = absurd p
part_lighter θ v (leaf a) t p m = absurd p
part_lighter θ v (power w) t p m = rw (p, m) (omega arith)
part_lighter θ v (product w x) t (inl e) m = rw (e, m) (omega arith)
part_lighter θ v (product w x) t (inr e) m = rw (e, m) (omega arith)

-- The mark by a shape.
shape_says : (n : ℕ) (ts : List ℕ) (K c : ℕ) (f : ℕ → ℕ) (s : Shape) → ((θ : ℕ → Ty) → Satisfies θ n ts → Matches θ s (θ c)) →
    EachPart (λ v. MarkSays n ts K v (f v)) s → MarkFits n ts (status_of (status_after (term_graph ts) K) s) c (mark_shape f s)
shape_says n ts K c f unknown m p = record { low = omega arith; high = omega arith; byte = omega arith; grade = refl; weighs = λ h. absurd (omega arith) }
shape_says n ts K c f (leaf a) m p = record {
  low = omega arith;
  high = omega arith;
  byte = omega arith;
  grade = refl;
  weighs = λ h θ s. rw (m θ s) refl;
}
shape_says n ts K c f (power v) m p = record {
  low = omega arith;
  high = omega arith;
  byte = omega arith;
  grade = omega arith;
  weighs = λ h θ s. rw (m θ s) (omega (arith, p.weighs (omega arith) θ s));
}
shape_says n ts K c f (product v w) m p = record {
  low = omega arith;
  high = omega arith;
  byte = omega (arith, p.0.byte, p.1.byte);
  grade = omega (arith, p.0.grade, p.1.grade, p.0.byte, p.1.byte);
  weighs = λ h θ s. rw (m θ s) (omega (arith, p.0.weighs (omega arith) θ s, p.1.weighs (omega arith) θ s));
}

pub says_later : (n : ℕ) (ts : List ℕ) (K v m : ℕ) → MarkSays n ts K v m → MarkSays n ts (suc K) v m
says_later n ts K v m s = subst (λ (x : ℕ). MarkFits n ts x v m) (sym (status_keep (term_graph ts) K v (omega (arith, s.grade, s.byte)))) s

module _ {n : ℕ} {ts : List ℕ} (t : FlatTerms n ts) where
  same_class : (θ : ℕ → Ty) → Satisfies θ n ts → (v : ℕ) → θ v ≡ θ (class_in ts v)
  same_class θ s v = (to_sat t.terms θ s).same v

  matches : (c : ℕ) → class_in ts c ≡ c → (θ : ℕ → Ty) → Satisfies θ n ts → Matches θ (word_shape ts c) (θ c)
  matches c e θ s = (to_sat t.terms θ s).fits c e

  -- A variable has its class's mark.
  pub class_says : (K v m : ℕ) → MarkSays n ts K (class_in ts v) m → MarkSays n ts K v m
  class_says K v m s = record {
    low = s.low;
    high = s.high;
    byte = s.byte;
    grade = sym (status_class t.terms t.flat K v) ∙ s.grade;
    weighs = λ h θ a. rw (same_class θ a v) (s.weighs h θ a);
  }

  pub part_left_lighter : {marks : List ℕ} {c p : ℕ} → class_in ts c ≡ c → PartLeft ts marks c p → Lighter n ts p c
  part_left_lighter {marks} {c} {p} e q θ s =
      subst (λ (x : Ty). weightᵀ x < weightᵀ (θ c)) (same_class θ s q.part ∙ ap θ (sym q.class))
      (part_lighter θ q.part (word_shape ts c) (θ c) q.is_part (matches c e θ s))

  module _ (K : ℕ) (marks : List ℕ) (sound : MarksSay n ts K marks) (c : ℕ) (h : c < n) (e : class_in ts c ≡ c) where
    parts_say : PartsFinal ts marks c → EachPart (λ v. MarkSays n ts K v (class_mark ts marks v)) (word_shape ts c)
    parts_say = each_map n (λ v. Final (class_mark ts marks v)) (λ v. MarkSays n ts K v (class_mark ts marks v)) (word_shape ts c) (parts_in t.terms c h)
        (λ v hv f. class_says K v (class_mark ts marks v) (sound (class_in ts v) (class_in_law t.terms v hv) f))

    -- The mark that a class gets says what it should after one more round.
    pub mark_says : PartsFinal ts marks c → MarkSays n ts (suc K) c (mark_shape (class_mark ts marks) (word_shape ts c))
    mark_says p = rw e (shape_says n ts K c (class_mark ts marks) (word_shape ts c) (matches c e) (parts_say p))

    -- The marks of its parts leave room for the sum.
    pub parts_small : PartsFinal ts marks c → PartsSmall ts marks c
    parts_small p = each_map n (λ v. MarkSays n ts K v (class_mark ts marks v)) (λ v. class_mark ts marks v % 128 ≤ 65) (word_shape ts c)
        (parts_in t.terms c h) (λ v hv s. s.high) (parts_say p)
