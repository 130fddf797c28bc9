-- Where a run of members ends, member by member.
use Rattle.sets.proofs.Base.{ℕ, suc, ◌+◌, ◌≤◌, List, ◌≡◌, arith}
use Rattle.merging.proofs.Terms.{Values, weight, weights, EndsAt, Front}
use Rattle.arena.proofs.FrontLaws.{front_value, front_next}
use Rattle.sets.proofs.SearchLaws.{by_front, no_front}

-- Walking a run of members: e is where it ends.
pub record Running (s : List ℕ) (top i left e : ℕ) : Type 0 where
  pub rest : Values
  pub front : Front s top i left rest
  pub ends : i + weights rest ≡ e

module _ {s : List ℕ} {top i left e : ℕ} (h : Running s top i left e) where
  pub running_next : {r others : ℕ} → suc others ≡ left → EndsAt s i r → Running s top r others e
  running_next {r} {others} p ends =
      by_front (λ ws. i + weights ws ≡ e → Running s top r others e)
      (λ w ws f q. let x : r ≡ i + weight w = ends w (front_value s top i left w ws f) f.fits.0 in
      record { rest = ws; front = front_next s top i left w ws f r others x p; ends = omega arith })
      h.front (omega arith) h.ends

  pub running_end : left ≤ 0 → i ≡ e
  running_end l = no_front (λ ws. i + weights ws ≡ e → i ≡ e) (λ q. omega arith) h.front l h.ends
