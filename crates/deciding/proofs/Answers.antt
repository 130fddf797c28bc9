-- All classes are marked: the two solutions, built with INTEGER and with BOOL at the open classes, and what the marks say of all types that satisfy
-- the terms. The rounds are those of the marks and one more, for the variables past the end.
use Prim.Native.Nat.{ℕ, suc, ◌<◌, ◌≤◌}
use mathlib.Core.List.{List}
use mathlib.Core.Path.{◌≡◌, subst}
use native.Mathlib.Omega.{arith}
use native.Mathlib.Decide.{dec_lt}
use lib.ListN.{get_or, length}
use Rattle.std.specs.Prelude.{Result, Ok, Err, is_ok}
use Rattle.rules.specs.Types.{Ty, INTEGER, BOOL}
use Rattle.unification.specs.Problem.{unknown, leaf, power, product, PartsBelow}
use Rattle.unification.specs.Marks.{status_of, status_after}
use Rattle.unification.specs.Model.{val}
use Rattle.unification.specs.Solved.{LeafDeclared}
use Rattle.unification.proofs.Resolve.{solution, ground_agree, open_differ, val_declared, ground_kept}
use Rattle.terms.specs.Words.{Term, known, link, term_of}
use Rattle.terms.specs.Terms.{Satisfies, class_in}
use Rattle.terms.specs.declared.Stack.{Stack}
use Rattle.terms.specs.Decided.{class_mark, Closed, TermClosed, TermDeclared, Decided, Decision}
use Rattle.deciding.specs.Marking.{term_shape, word_shape, term_graph, FlatTo, FlatTerms, MarkSays}
use Rattle.deciding.specs.declared.Cycle.{Cycle}
use Rattle.deciding.specs.Visit.{MarkedTo, MarkedOn}
use Rattle.deciding.proofs.Graphs.{idem, to_sat, from_sat, class_in_law, shape_past, class_past, parts_in}
use Rattle.deciding.proofs.MarkLaws.{says_later, class_says}

atoms_differ : INTEGER ≡ BOOL → ⊥
atoms_differ e = let z : ◌≡◌ {A = ℕ} 0 1 = cc in omega arith

leaf_by : (G : ℕ) (x : Term) → TermDeclared G x → LeafDeclared G (term_shape x)
leaf_by G (known s) d = d
leaf_by G (link u) d = tt

-- A class whose term is a link is none; otherwise its parts are closed where their status says so.
closed_by : (n : ℕ) (ts marks : List ℕ) (f : ℕ → ℕ) (x : Term) → PartsBelow n (term_shape x) → 2 ≤ status_of f (term_shape x) →
    ((v : ℕ) → v < n → 2 ≤ f v → Closed ts marks v) → TermClosed ts marks x
closed_by n ts marks f (known unknown) b p h = absurd (omega arith)
closed_by n ts marks f (known (leaf a)) b p h = tt
closed_by n ts marks f (known (power v)) b p h = h v b p
closed_by n ts marks f (known (product v w)) b p h = (h v b.0 (omega arith), h w b.1 (omega arith))
closed_by n ts marks f (link u) b p h = absurd (omega arith)

module _ {n : ℕ} {ts marks : List ℕ} (t : FlatTerms n ts) (m : MarkedTo n ts marks n) where
  abbrev K : ℕ
  K = suc m.rest.rounds

  says : (v : ℕ) → v < n → MarkSays n ts K v (class_mark ts marks v)
  says v h =
      let q : class_in ts v < n = class_in_law t.terms v h in
      says_later n ts m.rest.rounds v (class_mark ts marks v) (class_says t m.rest.rounds v (class_mark ts marks v)
      (m.rest.sound (class_in ts v) q (m.each (class_in ts v) q (t.flat v h), m.rest.still (class_in ts v) q)))

  resolved : (v : ℕ) → 0 < status_after (term_graph ts) K v
  resolved v = go (dec_lt v n)
    where
      go : Dec (v < n) → 0 < status_after (term_graph ts) K v
      go (yes y) = omega (arith, (says v y).grade, (says v y).byte)
      go (no o) = rw (class_past t.terms v (omega arith), shape_past t.terms v (omega arith)) (omega arith)

  ground : (v : ℕ) → v < n → Closed ts marks v → 2 ≤ status_after (term_graph ts) K v
  ground v h c = omega (arith, (says v h).grade)

  closed : (v : ℕ) → v < n → 2 ≤ status_after (term_graph ts) K v → Closed ts marks v
  closed v h p = omega (arith, (says v h).grade, (says v h).byte)

  opened : (v : ℕ) → v < n → 128 ≤ class_mark ts marks v → status_after (term_graph ts) K v < 2
  opened v h p = omega (arith, (says v h).grade)

  fits : (ρ : ℕ → Ty) → Satisfies (val (term_graph ts) ρ K) n ts
  fits ρ = from_sat t.terms (val (term_graph ts) ρ K) (solution (term_graph ts) (idem t.terms t.flat) K resolved ρ)

  leaves : (G : ℕ) → ((v : ℕ) → v < n → TermDeclared G (term_of (get_or ts v 0))) → (v : ℕ) → LeafDeclared G (word_shape ts (class_in ts v))
  leaves G d v = go (dec_lt v n)
    where
      go : Dec (v < n) → LeafDeclared G (word_shape ts (class_in ts v))
      go (yes y) = leaf_by G (term_of (get_or ts (class_in ts v) 0)) (d (class_in ts v) (class_in_law t.terms v y))
      go (no o) = rw (class_past t.terms v (omega arith), shape_past t.terms v (omega arith)) tt

  pub decided : Decided n ts marks
  decided = record {
    flat = t.flat;
    first = val (term_graph ts) (λ x. INTEGER) K;
    second = val (term_graph ts) (λ x. BOOL) K;
    first_fits = fits (λ x. INTEGER);
    second_fits = fits (λ x. BOOL);
    declared = λ G d v. (
      val_declared G (term_graph ts) (λ x. INTEGER) (leaves G d) (λ r. tt) K v,
      val_declared G (term_graph ts) (λ x. BOOL) (leaves G d) (λ r. tt) K v,
    );
    agree = λ v h c θ κ a b. ground_agree (term_graph ts) (idem t.terms t.flat) θ κ (to_sat t.terms θ a) (to_sat t.terms κ b) K v (ground v h c);
    weighs = λ v h c. (says v h).weighs c;
    parts = λ v h c.
        closed_by n ts marks (status_after (term_graph ts) K) (term_of (get_or ts (class_in ts v) 0))
        (parts_in t.terms (class_in ts v) (class_in_law t.terms v h))
        (ground_kept (term_graph ts) (status_after (term_graph ts) K) K (λ w p. p) v (ground v h c)) closed;
    differ = λ v h p. open_differ (term_graph ts) (λ x. INTEGER) (λ x. BOOL) (λ x. atoms_differ) K v (resolved v) (opened v h p);
  }

-- What flattening, clearing and marking come to. ts has as many terms as ts₀.
module _ {n : ℕ} {ts₀ ts : List ℕ} (f : FlatTo n ts₀ ts n) where
  flat_terms : FlatTerms n ts
  flat_terms = record { terms = f.says.terms; flat = f.flat }

  outcome : (marks : List ℕ) (after : Stack) (r : Result (Unit {0}) Cycle) → MarkedOn n ts marks after n r → Decision n ts₀ ts marks (is_ok r)
  outcome marks after (Ok u) m = (f.says, decided flat_terms m.0)
  outcome marks after (Err e) m = λ θ s. m θ ((f.says.iff θ).0 (s, tt))

  pub decision : (marks : List ℕ) (after : Stack) (r : Result (Unit {0}) Cycle) → MarkedOn (length ts) ts marks after (length ts) r →
      Decision n ts₀ ts marks (is_ok r)
  decision marks after r m = outcome marks after r (subst (λ (k : ℕ). MarkedOn k ts marks after k r) f.says.terms.len m)
