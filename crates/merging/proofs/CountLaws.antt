-- Comparisons of two runs of members in the arena: at most 510, none where either run is exhausted, and a turn is one of them.
use Rattle.sets.proofs.Base.{ℕ, ◌+◌, ◌≤◌, ◌<◌, true, List, ◌⊎◌, inl, inr, ◌≡◌, refl, sym, arith}
use Rattle.merging.proofs.Terms.{Values, members, order, Front, Turn, comparisons, rest_left, rest_right, TurnAt, Compares}
use Rattle.laws.proofs.SetOrder.{members_count}
use Rattle.merging.proofs.ComparisonLaws.{comparisons_nil, comparisons_most, turn_compared}
use Rattle.sets.proofs.SearchLaws.{no_front, by_fronts}
use Rattle.sets.proofs.TurnLaws.{turn_fewer}

pub runs_few : {s : List ℕ} {a m b n top : ℕ} {vs ws : Values} → Front s top a m vs → Front s top b n ws → comparisons (members vs) (members ws) ≤ 510
runs_few {vs = vs} {ws = ws} f g =
    omega (arith, comparisons_most (members vs) (members ws), members_count vs, members_count ws, f.light, g.light)

pub exhausted : {s : List ℕ} {a m b n : ℕ} → (m ≡ 0) ⊎ (n ≡ 0) → Compares s a m b n 0
unfolding comparisons
exhausted o top vs ws f g = elim o [
  | inl z ↦ no_front (λ xs. 0 ≡ comparisons (members xs) (members ws)) refl f (omega arith)
  | inr z ↦ no_front (λ ys. 0 ≡ comparisons (members vs) (members ys)) (sym (comparisons_nil (members vs))) g (omega arith)
]

-- Two runs are walked: those made and those of what is left are `whole`.
pub record Counting (s : List ℕ) (top a m b n turns whole : ℕ) : Type 0 where
  pub left : Values
  pub right : Values
  pub on_left : Front s top a m left
  pub on_right : Front s top b n right
  pub compared : whole ≡ turns + comparisons (members left) (members right)

pub counting_start : {s : List ℕ} {top a m b n : ℕ} (vs ws : Values) → Front s top a m vs → Front s top b n ws →
    Counting s top a m b n 0 (comparisons (members vs) (members ws))
counting_start vs ws f g = record { left = vs; right = ws; on_left = f; on_right = g; compared = omega arith }

module _ {s : List ℕ} {top a m b n turns whole : ℕ} (h : Counting s top a m b n turns whole) where
  pub counting_turn : 0 < m → 0 < n → {t : Turn} → TurnAt s a m b n true true true t →
      Counting s top t.rest.a t.rest.m t.rest.b t.rest.n (turns + 1) whole × (t.rest.m + t.rest.n < m + n)
  counting_turn i j {t} turn =
      by_fronts
      (λ vs ws. whole ≡ turns + comparisons (members vs) (members ws) →
      Counting s top t.rest.a t.rest.m t.rest.b t.rest.n (turns + 1) whole × (t.rest.m + t.rest.n < m + n))
      (λ v vs w ws f g q. let d = turn top v vs w ws f g in
      let o = order v w in (
        record {
          left = rest_left o v vs;
          right = rest_right o w ws;
          on_left = d.on_left;
          on_right = d.on_right;
          compared = omega (arith, turn_compared o v vs w ws refl);
        },
        omega (arith, turn_fewer s top true true true o v vs w ws t d, f.counted, g.counted),
      ))
      h.on_left h.on_right i j h.compared

  pub counting_end : (m ≡ 0) ⊎ (n ≡ 0) → turns ≡ whole
  counting_end o = omega (arith, h.compared, exhausted o top h.left h.right h.on_left h.on_right)
