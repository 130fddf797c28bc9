-- Terms that say what terms said that say what terms said: where shapes come from, and what may be said instead.
use Prim.Native.Nat.{ℕ, ◌<◌}
use mathlib.Core.List.{List}
use mathlib.Core.Path.{◌≡◌, subst}
use lib.ListN.{get_or}
use Rattle.rules.specs.Types.{Ty}
use Rattle.terms.specs.Words.{Term, known, link, term_of}
use Rattle.terms.specs.Terms.{TermFrom, SaysAlso}

-- A shape is from where its word stood.
pub from_self : {n : ℕ} (ts : List ℕ) (x : Term) (u : ℕ) → u < n → term_of (get_or ts u 0) ≡ x → TermFrom n ts x
from_self ts (known s) u k e = (u, k, e)
from_self ts (link y) u k e = tt

from_trans : {n : ℕ} (ts₀ ts : List ℕ) → ((v : ℕ) → v < n → TermFrom n ts₀ (term_of (get_or ts v 0))) → (x : Term) → TermFrom n ts x → TermFrom n ts₀ x
from_trans {n} ts₀ ts old (known s) f = subst (TermFrom n ts₀) f.2 (old f.0 f.1)
from_trans ts₀ ts old (link u) f = tt

pub old_trans : {n : ℕ} (ts₀ ts ts' : List ℕ) → ((v : ℕ) → v < n → TermFrom n ts₀ (term_of (get_or ts v 0)))
    → ((v : ℕ) → v < n → TermFrom n ts (term_of (get_or ts' v 0))) → (v : ℕ) → v < n → TermFrom n ts₀ (term_of (get_or ts' v 0))
old_trans ts₀ ts ts' a b v l = from_trans ts₀ ts a (term_of (get_or ts' v 0)) (b v l)

-- What says the same may be said instead.
pub says_same : {n : ℕ} {ts₀ : List ℕ} {P : (ℕ → Ty) → Type 0} {ts ts' : List ℕ} → SaysAlso n ts₀ P ts → SaysAlso n ts (λ θ. Unit {0}) ts'
    → SaysAlso n ts₀ P ts'
says_same {n} {ts₀} {P} {ts} {ts'} a b = record {
  terms = b.terms;
  iff = λ θ. ((λ x. (b.iff θ).0 ((a.iff θ).0 x, tt)), (λ x. (a.iff θ).1 ((b.iff θ).1 x).0));
  old = old_trans ts₀ ts ts' a.old b.old;
}
