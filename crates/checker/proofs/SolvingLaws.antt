-- Steps of solving: the copy of the shapes, the search for an equation's node, the answers of merging, and the bisection.
use Prim.Native.Nat.{ℕ, zero, suc, ◌+◌, ◌-◌, ◌≤◌, ◌<◌}
use mathlib.Core.Bool.{Bool, true, false, true≢false, false≢true}
use mathlib.Core.List.{List}
use mathlib.Core.Logic.{◌⊎◌, inl, inr}
use mathlib.Core.Path.{◌≡◌, sym, ap, subst, ◌∙◌}
use native.Mathlib.Decide.{dec_lt}
use native.Mathlib.Omega.{arith}
use lib.ListN.{get_or, length, take}
use lib.Seq.{get_or-take, length-take-le}
use Rattle.rules.specs.Types.{INTEGER}
use Rattle.rules.specs.Tables.{Table}
use Rattle.typing.proofs.Verdicts.{typing_none}
use Rattle.unification.proofs.Loops.{fill_to, fill_end}
use Rattle.std.specs.Prelude.{Result, Err}
use Rattle.terms.specs.Terms.{Terms, HoldsTo, SaysAlso}
use Rattle.terms.specs.Decided.{Decision}
use Rattle.terms.proofs.SaysLaws.{says_same}
use Rattle.classes.specs.declared.Clash.{Clash}
use Rattle.classes.specs.declared.Clash.TheVariants.{Here, Inside}
use Rattle.classes.specs.Merging.{MergedAll, Mergeable}
use Rattle.checker.specs.Solving.{PartRoom, WorkRoom, Typable, Untypable, TypableIs, Satisfiable}
use Rattle.checker.specs.Solving.{Between, FirstClash, count_at, EquationBelow, EquationAt, NodesTo}

pub copied : (shapes terms terms' : List ℕ) {i : ℕ} → terms' ≡ fill_to (λ x. get_or shapes x 0) i terms → i ≤ length terms → length terms ≤ i →
    length terms ≤ length shapes → terms' ≡ take (length terms) shapes
copied shapes terms terms' {i} e h k l =
    fill_end (λ x. get_or shapes x 0) i terms terms' (take (length terms) shapes) e h k (length-take-le (length terms) shapes l)
    (λ v g. get_or-take (length terms) shapes v 0 g)

-- ---- merging the copied shapes
module _ {n : ℕ} {shapes eqns stack ts : List ℕ} (p : PartRoom n shapes eqns stack) (e : ts ≡ take n shapes) where
  copied_long : length ts ≡ n
  copied_long = ap length e ∙ p.terms.len

  pub merge_asks : Mergeable (length ts) ts stack eqns
  merge_asks = rw copied_long (rw e (record { terms = p.terms; sides = p.sides; room = p.room }))

  pub merge_gives : (r : Result (Unit {0}) Clash) (after : List ℕ) → MergedAll (length ts) ts eqns r after → MergedAll n (take n shapes) eqns r after
  merge_gives r after m = subst (λ l. MergedAll n l eqns r after) e (subst (λ k. MergedAll k ts eqns r after) copied_long m)

-- ---- deciding what was merged
pub clash_satisfies : (n : ℕ) (ts eqns after : List ℕ) (x : Clash) → MergedAll n ts eqns (Err x) after → Satisfiable n ts eqns false
clash_satisfies n ts eqns after (Here i) m = λ θ s h. m.1 θ s (λ j l. h j (omega (arith, m.0)))
clash_satisfies n ts eqns after (Inside i) m = λ θ s h. m.1 θ s (λ j l. h j (omega (arith, m.0)))

-- What `decide` takes and gives, with the length of the terms known.
module _ {n : ℕ} {ts : List ℕ} (t : Terms n ts) where
  pub decide_asks : {m k : ℕ} → m ≡ n → n + 2 ≤ k → Terms (length ts) ts × (m ≡ length ts) × (length ts + 2 ≤ k)
  decide_asks m r = rw t.len (t, m, r)

  pub decide_gives : (after marks : List ℕ) (b : Bool) → Decision (length ts) ts after marks b → Decision n ts after marks b
  decide_gives after marks b d = subst (λ k. Decision k ts after marks b) t.len d

pub satisfied_by : (n : ℕ) (ts eqns ts₁ ts₂ marks : List ℕ) → SaysAlso n ts (λ θ. HoldsTo θ eqns (length eqns)) ts₁ → (b : Bool) →
    Decision n ts₁ ts₂ marks b → Satisfiable n ts eqns b
satisfied_by n ts eqns ts₁ ts₂ marks s true d = (ts₂, marks, says_same s d.0, d.1)
satisfied_by n ts eqns ts₁ ts₂ marks s false d = λ θ x h. d θ ((s.iff θ).0 (x, h))

-- ---- the node of an equation
module _ {starts : List ℕ} {e n k : ℕ} (q : EquationBelow starts e n) (t : NodesTo starts e n k) where
  pub some_node : 0 < k
  some_node = go t.reach (dec_lt 0 k)
    where
      none : k ≡ 0 → k ≡ n → ⊥
      none z s =
          let y : count_at starts n ≤ e = subst (λ j. count_at starts j ≤ e) (sym z ∙ s) q.begins in
          omega (arith, y, q.ends)

      go : (k ≡ n) ⊎ ((0 < k) × (e < count_at starts k)) → Dec (0 < k) → 0 < k
      go r (yes l) = l
      go (inl s) (no g) = absurd (none (omega arith) s)
      go (inr w) (no g) = w.0

  pub node_found : EquationAt starts e n (k - 1)
  node_found = let y : suc (k - 1) ≡ k = omega (arith, some_node) in record {
    below = omega (arith, some_node, t.inside);
    from = go (k - 1) (omega (arith, some_node));
    to = rw y (reached t.reach);
  }
    where
      go : (j : ℕ) → j < k → count_at starts j ≤ e
      go zero l = q.begins
      go (suc j) l = t.fewer j l

      reached : (k ≡ n) ⊎ ((0 < k) × (e < count_at starts k)) → e < count_at starts k
      reached (inl s) = subst (λ j. e < count_at starts j) (sym s) q.ends
      reached (inr w) = w.1

-- ---- the bisection: it starts, goes on with either answer for the nodes below m, and ends
typable_none : (tb : Table) → Typable tb 0
typable_none tb = ((λ p. INTEGER), typing_none tb)

pub clash_start : {tb : Table} {n : ℕ} → Untypable tb n → Between tb n 0 n
clash_start {tb} {n} u = record { less = go (dec_lt 0 n); upper = omega arith; typing = typable_none tb; none = u }
  where
    go : Dec (0 < n) → 0 < n
    go (yes l) = l
    go (no g) =
        let e : 0 ≡ n = omega arith in
        let t = subst (λ k. Typable tb k) e (typable_none tb) in
        absurd (u t.0 t.1)

module _ {tb : Table} {n lo hi : ℕ} (b : Between tb n lo hi) {m : ℕ} where
  pub clash_above : (a : Bool) → TypableIs tb m a → a ≡ true → m < hi → Between tb n m hi
  clash_above true q e l = record { less = l; upper = b.upper; typing = q; none = b.none }
  clash_above false q e l = absurd (false≢true e)

  pub clash_below : (a : Bool) → TypableIs tb m a → a ≡ false → lo < m → m < hi → Between tb n lo m
  clash_below true q e l g = absurd (true≢false e)
  clash_below false q e l g = record { less = l; upper = omega (arith, b.upper); typing = b.typing; none = q }

pub clash_end : {tb : Table} {n lo hi : ℕ} → Between tb n lo hi → hi - lo ≤ 1 → FirstClash tb n lo
clash_end {tb} {n} {lo} {hi} b h =
    let e : hi ≡ suc lo = omega (arith, b.less) in
    record { below = omega (arith, b.less, b.upper); typing = b.typing; none = subst (λ k. Untypable tb k) e b.none }

pub room_kept : {bs terms stack marks terms' stack' marks' : List ℕ} → WorkRoom bs terms stack marks → length terms' ≡ length terms →
    length stack' ≡ length stack → length marks' ≡ length marks → WorkRoom bs terms' stack' marks'
room_kept w a b c = record {
  terms_room = omega (arith, a, w.terms_room);
  stack_room = omega (arith, b, w.stack_room);
  marks_room = omega (arith, c, w.marks_room);
}
