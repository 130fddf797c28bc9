-- The codes of a type, written from the words of its classes: what each case of the recursion says of the whole type.
use Prim.Native.Nat.{ℕ, zero, suc, ◌+◌, ◌%◌, ◌≤◌, ◌<◌}
use mathlib.Core.Bool.{true, false}
use mathlib.Core.List.{List, [], ◌∷◌, ◌++◌}
use mathlib.Core.Logic.{inl, inr}
use mathlib.Core.Path.{◌≡◌, refl, sym, ap, ◌∙◌, subst}
use native.Mathlib.Nat.{add-zero}
use native.Mathlib.Numerals.{add-one}
use native.Mathlib.Omega.{arith}
use lib.ListN.{get_or, length, set}
use lib.Seq.{sets}
use Rattle.rules.specs.Types.{Ty, atom, POW, ◌⊗◌, atom_code, weightᵀ, prefix}
use Rattle.rules.proofs.TypeLaws.{prefix_length}
use Rattle.unification.specs.Problem.{atom_from}
use Rattle.unification.specs.Codes.{AtomCode}
use Rattle.terms.specs.Words.{Term, known, link, word_form, word_left, word_right, term_from, term_of}
use Rattle.terms.specs.Terms.{TermBelow, Terms, MeetsTerm, Satisfies, class_from, class_in}
use Rattle.terms.specs.Decided.{Closed, TermClosed, Decided}
use Rattle.terms.specs.Decoding.{TermIs}
use Rattle.terms.specs.declared.Term as declared
use Rattle.terms.specs.declared.Term.TheVariants.{Open, Atom, Power, Product, Link}
use Rattle.sheets.specs.Steps.{LeafIf, word_code, CodesPut, TypePut}

weight_pos : (t : Ty) → 1 ≤ weightᵀ t
weight_pos (atom a) = omega arith
weight_pos (POW t) = omega arith
weight_pos (t ⊗ u) = omega arith

sets_append : (l : List ℕ) (i : ℕ) (xs ys : List ℕ) → sets l i (xs ++ ys) ≡ sets (sets l i xs) (i + length xs) ys
sets_append l i [] ys = rw (add-zero i)
sets_append l i (x ∷ xs) ys =
    sets_append (set l i x) (suc i) xs ys ∙ ap (λ (k : ℕ). sets (sets (set l i x) (suc i) xs) k ys) (omega arith)

-- A code of a type without parts is one byte, and names the type.
code_atom : (c : ℕ) → AtomCode c → atom_code (atom_from c) ≡ c
code_atom zero (inl e) = absurd (omega arith)
code_atom zero (inr (inl e)) = absurd (omega arith)
code_atom zero (inr (inr h)) = absurd (omega (arith, h.0))
code_atom (suc zero) d = refl
code_atom (suc (suc zero)) d = refl
code_atom (suc (suc (suc c))) (inl e) = absurd (omega arith)
code_atom (suc (suc (suc c))) (inr (inl e)) = absurd (omega arith)
code_atom (suc (suc (suc c))) (inr (inr h)) = omega (arith, h.0)

code_byte : (c : ℕ) → AtomCode c → c % 256 ≡ c
code_byte c (inl e) = omega arith
code_byte c (inr (inl e)) = omega arith
code_byte c (inr (inr h)) = omega (arith, h.1)

-- A term that is neither has no parts.
pub leaf_term : (w : ℕ) (t : declared.Term) → TermIs w t → ((v : ℕ) → t ≡ Power v → ⊥) → ((v u : ℕ) → t ≡ Product v u → ⊥) → LeafIf (word_form w) true
leaf_term w Open f a b = ((λ e. omega arith), (λ e. omega arith))
leaf_term w (Atom c) f a b = ((λ e. omega arith), (λ e. omega arith))
leaf_term w (Power v) f a b = absurd (a v refl)
leaf_term w (Product v u) f a b = absurd (b v u refl)
leaf_term w (Link u) f a b = ((λ e. omega arith), (λ e. omega arith))

-- The codes of a type from those of its parts.
put_atom : (sheet : List ℕ) (at end l x : ℕ) → AtomCode l → x ≡ l % 256 → CodesPut sheet at end (at + 1) (set sheet at x) (atom (atom_from l))
put_atom sheet at end l x h e f = (refl, ap (set sheet at) (e ∙ code_byte l h ∙ sym (code_atom l h)))

put_power : (sheet : List ℕ) (at end r : ℕ) (after : List ℕ) (x : ℕ) (t : Ty) → x ≡ 3 → CodesPut (set sheet at x) (at + 1) end r after t →
    CodesPut sheet at end r after (POW t)
put_power sheet at end r after x t e p f =
    let y = p (omega arith) in
    (omega (arith, y.0), y.1 ∙ rw (e, add-one at))

put_product : (sheet : List ℕ) (at end next r : ℕ) (mid after : List ℕ) (x : ℕ) (t u : Ty) → x ≡ 4 →
    CodesPut (set sheet at x) (at + 1) end next mid t → CodesPut mid next end r after u → CodesPut sheet at end r after (t ⊗ u)
put_product sheet at end next r mid after x t u e p q f =
    let y = p (omega arith) in
    let z = q (omega (arith, y.0)) in
    let n : next ≡ suc at + length (prefix t) = omega (arith, y.0, prefix_length t) in
    let m : mid ≡ sets (set sheet at 4) (suc at) (prefix t) = y.1 ∙ rw (e, add-one at) in
    (omega (arith, y.0, z.0), z.1 ∙ rw (n, m) (sym (sets_append (set sheet at 4) (suc at) (prefix t) (prefix u))))

-- The parts of a term are variables.
parts_left : (n v f l r : ℕ) → 2 ≤ f → f ≤ 3 → TermBelow n v (term_from f l r) → l < n
parts_left n v zero l r h k b = absurd (omega arith)
parts_left n v (suc zero) l r h k b = absurd (omega arith)
parts_left n v (suc (suc zero)) l r h k b = b
parts_left n v (suc (suc (suc zero))) l r h k b = b.0
parts_left n v (suc (suc (suc (suc f)))) l r h k b = absurd (omega arith)

parts_right : (n v f l r : ℕ) → f ≡ 3 → TermBelow n v (term_from f l r) → r < n
parts_right n v f l r e b = (rw e at b).1

-- A closed term, and a type that meets it.
module _ (ts marks : List ℕ) (σ : ℕ → Ty) (l r : ℕ) (t : Ty) where
  closed_leaf : (f : ℕ) → LeafIf f true → TermClosed ts marks (term_from f l r) → MeetsTerm σ (term_from f l r) t →
      (f ≡ 1) × (t ≡ atom (atom_from l))
  closed_leaf zero h k m = absurd k
  closed_leaf (suc zero) h k m = (refl, m)
  closed_leaf (suc (suc zero)) h k m = absurd (h.0 refl)
  closed_leaf (suc (suc (suc zero))) h k m = absurd (h.1 refl)
  closed_leaf (suc (suc (suc (suc f)))) h k m = absurd k

  closed_power : (f : ℕ) → f ≡ 2 → TermClosed ts marks (term_from f l r) → MeetsTerm σ (term_from f l r) t →
      Closed ts marks l × (t ≡ POW (σ l))
  closed_power f e k m = (rw e at k, rw e at m)

  closed_product : (f : ℕ) → f ≡ 3 → TermClosed ts marks (term_from f l r) → MeetsTerm σ (term_from f l r) t →
      Closed ts marks l × Closed ts marks r × (t ≡ σ l ⊗ σ r)
  closed_product f e k m = ((rw e at k).0, (rw e at k).1, rw e at m)

-- A variable has the type of its class.
same_from : (σ : ℕ → Ty) (v : ℕ) (t : Term) → MeetsTerm σ t (σ v) → σ v ≡ σ (class_from v t)
same_from σ v (known s) m = refl
same_from σ v (link u) m = m

pub class_same : (σ : ℕ → Ty) (ts : List ℕ) (v : ℕ) → Satisfies σ (length ts) ts → v < length ts → σ v ≡ σ (class_in ts v)
class_same σ ts v s h = same_from σ v (term_of (get_or ts v 0)) (s v h)

-- `write_type`: c is the class of v, and w its word.
module _ (ts : List ℕ) (v c : ℕ) (below : v < length ts) (e : c ≡ class_in ts v) (inside : c < length ts) where
  abbrev w : ℕ
  w = get_or ts c 0

  module _ (t : Terms (length ts) ts) where
    pub left_below : LeafIf (word_form w) false → word_left w < length ts
    unfolding term_of
    left_below h = parts_left (length ts) c (word_form w) (word_left w) (word_right w) h.0 h.1 (t.each c inside).parts

    pub right_below : word_form w ≡ 3 → word_right w < length ts
    unfolding term_of
    right_below h = parts_right (length ts) c (word_form w) (word_left w) (word_right w) h (t.each c inside).parts

  module _ (marks : List ℕ) (σ : ℕ → Ty) (s : Satisfies σ (length ts) ts) (d : Decided (length ts) ts marks) (k : Closed ts marks v) where
    here : TermClosed ts marks (term_of w) × MeetsTerm σ (term_of w) (σ v)
    here = (rw e (d.parts v below k), rw (class_same σ ts v s below, ← e) (s c inside))

    as_leaf : LeafIf (word_form w) true → (word_form w ≡ 1) × (σ v ≡ atom (atom_from (word_left w)))
    unfolding term_of
    as_leaf h = closed_leaf ts marks σ (word_left w) (word_right w) (σ v) (word_form w) h here.0 here.1

    as_power : word_form w ≡ 2 → Closed ts marks (word_left w) × (σ v ≡ POW (σ (word_left w)))
    unfolding term_of
    as_power h = closed_power ts marks σ (word_left w) (word_right w) (σ v) (word_form w) h here.0 here.1

    as_product : word_form w ≡ 3 → Closed ts marks (word_left w) × Closed ts marks (word_right w) × (σ v ≡ σ (word_left w) ⊗ σ (word_right w))
    unfolding term_of
    as_product h = closed_product ts marks σ (word_left w) (word_right w) (σ v) (word_form w) h here.0 here.1

  module _ (sheet : List ℕ) (at end : ℕ) where
    module _ (x : ℕ) (xe : x ≡ word_code (word_form w) (word_left w)) where
      pub write_leaf : Terms (length ts) ts → LeafIf (word_form w) true → TypePut ts v sheet at end (at + 1) (set sheet at x)
      write_leaf t h = record {
        onward = omega arith;
        exact = λ marks σ s d k.
            let y = as_leaf marks σ s d k h in
            rw y.1 (put_atom sheet at end (word_left w) x ((t.each c inside).code y.0) (xe ∙ rw y.0 refl));
      }

      pub write_power : (r : ℕ) (after : List ℕ) → word_form w ≡ 2 → TypePut ts (word_left w) (set sheet at x) (at + 1) end r after →
          TypePut ts v sheet at end r after
      write_power r after h p = record {
        onward = omega (arith, p.onward);
        exact = λ marks σ s d k.
            let y = as_power marks σ s d k h in
            rw y.1 (put_power sheet at end r after x (σ (word_left w)) (xe ∙ rw h) (p.exact marks σ s d y.0));
      }

      pub write_product : (next r : ℕ) (mid after : List ℕ) → word_form w ≡ 3 → TypePut ts (word_left w) (set sheet at x) (at + 1) end next mid →
          TypePut ts (word_right w) mid next end r after → TypePut ts v sheet at end r after
      write_product next r mid after h p q = record {
        onward = omega (arith, p.onward, q.onward);
        exact = λ marks σ s d k.
            let y = as_product marks σ s d k h in
            rw y.2
            (put_product sheet at end next r mid after x (σ (word_left w)) (σ (word_right w)) (xe ∙ rw h)
            (p.exact marks σ s d y.0) (q.exact marks σ s d y.1));
      }

pub write_none : (ts : List ℕ) (v : ℕ) (sheet : List ℕ) (at end : ℕ) → end ≤ at → TypePut ts v sheet at end at sheet
write_none ts v sheet at end h = record { onward = omega arith; exact = λ marks σ s d k f. absurd (omega (arith, weight_pos (σ v))) }

pub put_same : {ts : List ℕ} {v u : ℕ} {sheet : List ℕ} {at end r : ℕ} {after : List ℕ} → v ≡ u → TypePut ts v sheet at end r after →
    TypePut ts u sheet at end r after
put_same {ts} {v} {u} {sheet} {at} {end} {r} {after} e p = subst (λ x. TypePut ts x sheet at end r after) e p
