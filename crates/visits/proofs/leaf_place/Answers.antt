-- `leaf_place`: by the codes of the leaves that stand already.
use Rattle.visits.proofs.Terms.{ℕ, ◌≡◌, ◌≤◌, ◌<◌, ◌≢◌, ◌⊎◌, arith, inl, inr}
use Rattle.visits.proofs.DispatchLaws.{standing_code, unbuilt_ready}
use Rattle.visits.proofs.leaf_place.Goals.{in-20-1, in_default+else-kind-lt22+then-kind-lt25}
use Rattle.visits.proofs.leaf_place.Goals as goal

-- The codes that `standing_code` speaks of.
abbrev StandingCode : ℕ → Type 0
StandingCode k = ((k ≡ 20) ⊎ (k ≡ 26)) ⊎ ((20 ≤ k) × (k < 25) × (k ≢ 21))

pub standing-requires : goal.standing-requires
standing-requires c =
    let code : StandingCode c.node_kind-kind.result = elim c.in-20-1.branch as (λ _. StandingCode c.node_kind-kind.result) [
      | in-20-1 w ↦ inl (inl w.in-20-1.keys1)
      | in_default+else-kind-lt22+then-kind-lt25 w ↦
          let from : 22 ≤ c.node_kind-kind.result = w.if-kind-lt22-1.false in inr (omega arith, w.if-kind-lt25-1.true, λ z. absurd (omega arith))
    ] in
    unbuilt_ready c.requires c.node_kind-kind.ensures (standing_code _ code)
