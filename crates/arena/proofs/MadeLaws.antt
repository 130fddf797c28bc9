-- What an operation has built that answers where it ends: it is light, and ends there.
use Rattle.arena.proofs.Base.{ℕ, ◌+◌, ◌≤◌, List, ◌≡◌, arith, dec_lt}
use Rattle.std.specs.Prelude.{Option, Some, None}
use Rattle.rules.specs.Values.{Value, weight}
use Rattle.arena.specs.Code.{ValueAt, Made}

pub made_ends : {top r : ℕ} {s s' : List ℕ} {v : Value} → Made top s s' v (Some r) → (weight v ≤ 256) × (r ≡ top + weight v) × ValueAt s' top v
made_ends {top} {r} {v = v} m = elim (dec_lt 256 (weight v)) [
  | yes l ↦ absurd (let e : ◌≡◌ {A = Option ℕ} (Some r) None = m.heavy l in cc)
  | no l ↦
      let e = m.light (omega arith) in
      let ends : ◌≡◌ {A = Option ℕ} (Some r) (Some (top + weight v)) = e.0 in
      (omega arith, (cc), e.1)
]
