-- `verdict` gives the answer that document 01 describes.
use Prim.Native.Nat.{ℕ, zero, suc, ◌≤◌, ◌<◌, min}
use mathlib.Core.Bool.{Bool, true, false, not, ◌||◌, true≢false, false≢true}
use mathlib.Core.List.{List}
use mathlib.Core.Option.{Option, none as nothing, some}
use mathlib.Core.Path.{◌≡◌, refl}
use native.Mathlib.Decide.{dec_lt}
use native.Mathlib.Omega.{arith}
use lib.Dec.{T, eqb, eqb→eq, eqb_refl, leb→le, le→leb}
use lib.ListN.{length, get_or}
use Rattle.rules.specs.Types.{Ty, weightᵀ, INTEGER}
use Rattle.rules.specs.Tables.{Table}
use Rattle.rules.specs.Ends.{End, done, refused, ◌>>=◌, require, require_all}
use Rattle.rules.specs.Reading.{reading}
use Rattle.rules.specs.Verdict.{Place, type_limit, sheet_of, sheet_length, Verdict, unreadable, misfit}
use Rattle.laws.proofs.EndLaws.{T_true, T_false, require_all_done, require_all_number, require_all_refused}
use Rattle.unification.specs.Problem.{Shape}
use Rattle.unification.specs.Solved.{Solved}
use Rattle.unification.proofs.Answers.{solutions}
use Rattle.unification.proofs.ModelLaws.{Answers, model_solve_right, type_from_is}
use Rattle.typing.specs.Equations.{base, shapes, shape_at, equations, RightNodes}
use Rattle.typing.specs.Model.{is_place, solve_below, is_some, solvable}
use Rattle.typing.specs.Places.{place_count, place_var}
use Rattle.typing.specs.Model.{settled, types, light, sheet_or_refusal, checked, verdict}
use Rattle.typing.proofs.ProblemLaws.{well_formed_law}
use Rattle.typing.proofs.Places.{place_below, var_below, is_place_place, place_is_place}
use Rattle.typing.proofs.Verdicts.{right_nodes, SolvesBelow, FixedPlaces, none_typed, typing_none}
use Rattle.typing.proofs.Verdicts.{clash_verdict, several_verdict, heavy_verdict, accepts_verdict}

-- A property of `require_all` and what follows: it holds of the rest where each number passes, and of the refusal at the
-- least that fails.
pub require_all_cases : {A : Type 0} (P : End A → Type 0) (r : ℕ) (ok : ℕ → Bool) (n : ℕ) (rest : End A) →
    (((j : ℕ) → j < n → ok j ≡ true) → P rest) →
    ((p : ℕ) → p < n → ok p ≡ false → ((j : ℕ) → j < p → ok j ≡ true) → P (refused r p)) → P (require_all r ok n >>= λ _. rest)
require_all_cases {A} P r ok n rest pass fail = go (require_all r ok n) refl
  where
    go : (m : End (Unit {0})) → require_all r ok n ≡ m → P (m >>= λ _. rest)
    go (done u) e = pass ((require_all_done r ok n).0 e)
    go (refused s p) e =
        let number : s ≡ r = (require_all_number r ok n s p e).0 in
        let w = (require_all_refused r ok n p).0 (rw number at e) in
        rw number (fail p w.0 w.1 w.2)

-- A test of the places that have a type.
passes : (a b : Bool) → (not a || b) ≡ true → T a → T b
passes true b e t = (T_true b).1 e
passes false b e t = absurd t

fails : (a b : Bool) → (not a || b) ≡ false → T a × (T b → ⊥)
fails true b e = (tt, (T_false b).1 e)
fails false b e = absurd (true≢false e)

-- The answer for the nodes below k.
pub solve_below_right : (tb : Table) → RightNodes tb → (k : ℕ) → k ≤ length tb.nodes →
    Answers (shape_at tb) (base tb k) (equations tb k) (solve_below (shape_at tb) tb k)
unfolding solve_below
solve_below_right tb right k h =
    let w = well_formed_law tb right k h in model_solve_right (shape_at tb) (base tb k) (equations tb k) w.parts w.below

-- The problem of the nodes below k is solved; a variable is fixed where it is marked ground.
abbrev SolvedBelow : Table → ℕ → List ℕ → List ℕ → Type 0
SolvedBelow tb k cls mark = Solved (shape_at tb) (base tb k) (equations tb k) cls mark

abbrev Ground : List ℕ → ℕ → Type 0
Ground mark v = 2 ≤ get_or mark v 1

-- A place that has a type is marked ground where it passes the test, and is not where it fails.
module _ (tb : Table) (mark : List ℕ) (p : ℕ) (w : Place tb p) where
  settled_true : settled tb mark p ≡ true → Ground mark (place_var tb p)
  unfolding settled
  settled_true h = leb→le 2 (get_or mark (place_var tb p) 1) (passes (is_place tb p) _ h (place_is_place tb p w))

  settled_false : settled tb mark p ≡ false → Ground mark (place_var tb p) → ⊥
  unfolding settled
  settled_false h g = (fails (is_place tb p) _ h).1 (le→leb 2 (get_or mark (place_var tb p) 1) g)

-- The types of the table's places, from classes and marks that are solved.
module _ (tb : Table) (right : RightNodes tb) (cls mark : List ℕ) (s : SolvedBelow tb (length tb.nodes) cls mark)
    (p : ℕ) (w : Place tb p) where
  -- They are those of the solutions where one of the two is not too heavy.
  types_are : 2 ≤ get_or mark (place_var tb p) 1 →
      min (weightᵀ (types (shape_at tb) tb cls p)) (weightᵀ (s.first (place_var tb p))) ≤ type_limit →
      types (shape_at tb) tb cls p ≡ s.first (place_var tb p)
  unfolding types
  types_are g h =
      let n = length tb.nodes in
      type_from_is (shape_at tb) (base tb n) cls mark s.first (well_formed_law tb right n (omega arith)).parts s.bound s.grounded
      (s.classes s.first s.first_solves) type_limit (place_var tb p) (var_below tb n p (place_below tb p w)) g h

  light_true : 2 ≤ get_or mark (place_var tb p) 1 → light tb (types (shape_at tb) tb cls) p ≡ true →
      (types (shape_at tb) tb cls p ≡ s.first (place_var tb p)) × (weightᵀ (s.first (place_var tb p)) ≤ type_limit)
  unfolding light
  light_true g h =
      let l = leb→le (weightᵀ (types (shape_at tb) tb cls p)) type_limit (passes (is_place tb p) _ h (place_is_place tb p w)) in
      let e = types_are g (omega arith) in
      (e, rw e at l)

  light_false : 2 ≤ get_or mark (place_var tb p) 1 → light tb (types (shape_at tb) tb cls) p ≡ false →
      type_limit < weightᵀ (s.first (place_var tb p))
  unfolding light
  light_false g h = go (dec_lt type_limit (weightᵀ (s.first (place_var tb p))))
    where
      go : Dec (type_limit < weightᵀ (s.first (place_var tb p))) → type_limit < weightᵀ (s.first (place_var tb p))
      go (yes l) = l
      go (no f) =
          let e = types_are g (omega arith) in
          absurd ((fails (is_place tb p) _ h).1 (rw e (le→leb (weightᵀ (s.first (place_var tb p))) type_limit (omega arith))))

-- A place that fails a test has a type.
settled_place : (tb : Table) (mark : List ℕ) (p : ℕ) → p < place_count tb → settled tb mark p ≡ false → Place tb p
unfolding settled
settled_place tb mark p h e = is_place_place tb p h (fails (is_place tb p) _ e).0

light_place : (tb : Table) (θ : ℕ → Ty) (p : ℕ) → p < place_count tb → light tb θ p ≡ false → Place tb p
unfolding light
light_place tb θ p h e = is_place_place tb p h (fails (is_place tb p) _ e).0

solvable_some : (sh : ℕ → Shape) (tb : Table) (k : ℕ) → solvable sh tb k ≡ true →
    (r : List ℕ × List ℕ) × (solve_below sh tb k ≡ some r)
unfolding solvable
solvable_some sh tb k h = go (solve_below sh tb k) refl h
  where
    go : (o : Option (List ℕ × List ℕ)) → solve_below sh tb k ≡ o → is_some o ≡ true → (r : List ℕ × List ℕ) × (solve_below sh tb k ≡ some r)
    go nothing e t = absurd (false≢true t)
    go (some r) e t = (r, e)

solvable_none : (sh : ℕ → Shape) (tb : Table) (k : ℕ) → solvable sh tb k ≡ false → solve_below sh tb k ≡ nothing
unfolding solvable
solvable_none sh tb k h = go (solve_below sh tb k) h
  where
    go : (o : Option (List ℕ × List ℕ)) → is_some o ≡ false → o ≡ nothing
    go nothing t = refl
    go (some r) t = absurd (true≢false t)

module _ (tb : Table) (right : RightNodes tb) (k : ℕ) (h : k ≤ length tb.nodes) where
  -- What `solvable` says of the nodes below k.
  pub solvable_solved : solvable (shape_at tb) tb k ≡ true →
      (r : List ℕ × List ℕ) × (solve_below (shape_at tb) tb k ≡ some r) × SolvedBelow tb k r.0 r.1
  solvable_solved t = let r = solvable_some (shape_at tb) tb k t in (r.0, r.1, rw r.1 at (solve_below_right tb right k h))

  pub unsolvable : solvable (shape_at tb) tb k ≡ false → (σ : ℕ → Ty) → SolvesBelow tb k σ → ⊥
  unsolvable t = rw (solvable_none (shape_at tb) tb k t) at (solve_below_right tb right k h)

-- The problem of no nodes has a solution, so that of n nodes has one where each node with those below it passes.
solvable_all : (tb : Table) → RightNodes tb → (n : ℕ) → ((j : ℕ) → j < n → solvable (shape_at tb) tb (suc j) ≡ true) →
    solvable (shape_at tb) tb n ≡ true
solvable_all tb right zero all = go (solvable (shape_at tb) tb 0) refl
  where
    go : (b : Bool) → solvable (shape_at tb) tb 0 ≡ b → b ≡ true
    go true e = refl
    go false e = absurd (none_typed tb right 0 (omega arith) (unsolvable tb right 0 (omega arith) e) (λ p. INTEGER) (typing_none tb))
solvable_all tb right (suc n) all = all n (omega arith)

module _ {bs : List ℕ} {room : ℕ} {tb : Table} (e : reading bs ≡ done tb) (fits : room ≡ sheet_length tb) where
  -- 11
  clash_right : (k : ℕ) → k < length tb.nodes → solvable (shape_at tb) tb (suc k) ≡ false →
      ((j : ℕ) → j < k → solvable (shape_at tb) tb (suc j) ≡ true) → Verdict bs room (refused 11 k)
  clash_right k h f below =
      let right = right_nodes bs tb e in
      let r = solvable_solved tb right k (omega arith) (solvable_all tb right k below) in
      clash_verdict e fits k h (Ground r.0.1) (solutions r.2) (unsolvable tb right (suc k) h f)

  -- 12, 13 and acceptance
  typed_right : (r : List ℕ × List ℕ) → SolvedBelow tb (length tb.nodes) r.0 r.1 → Verdict bs room (sheet_or_refusal (shape_at tb) tb (some r))
  unfolding sheet_or_refusal
  typed_right r s =
      require_all_cases (Verdict bs room) 12 (settled tb r.1) (place_count tb) _
      (λ all. rest (λ p w. settled_true tb r.1 p w (all p (place_below tb p w))))
      (λ p h f below. let w = settled_place tb r.1 p h f in
      several_verdict e fits (Ground r.1) (solutions s) p w (settled_false tb r.1 p w f)
      (λ q l v. settled_true tb r.1 q v (below q l)))
    where
      right : RightNodes tb
      right = right_nodes bs tb e

      θ : ℕ → Ty
      θ = types (shape_at tb) tb r.0

      rest : FixedPlaces tb (Ground r.1) → Verdict bs room (require_all 13 (light tb θ) (place_count tb) >>= λ _. done (sheet_of tb θ))
      rest g =
          require_all_cases (Verdict bs room) 13 (light tb θ) (place_count tb) _
          (λ all. accepts_verdict e fits (Ground r.1) (solutions s) g
          (λ p w. (light_true tb right r.0 r.1 s p w (g p w) (all p (place_below tb p w))).1) θ
          (λ p w. (light_true tb right r.0 r.1 s p w (g p w) (all p (place_below tb p w))).0))
          (λ p h f below. let w = light_place tb θ p h f in
          heavy_verdict e fits (Ground r.1) (solutions s) g p w (light_false tb right r.0 r.1 s p w (g p w) f)
          (λ q l v. (light_true tb right r.0 r.1 s q v (g q v) (below q l)).1))

  checked_right : Verdict bs room (checked (shapes tb (length tb.nodes)) tb)
  unfolding checked shape_at
  checked_right =
      require_all_cases (Verdict bs room) 11 (λ k. solvable (shape_at tb) tb (suc k)) (length tb.nodes)
      (sheet_or_refusal (shape_at tb) tb (solve_below (shape_at tb) tb (length tb.nodes)))
      (λ all. let right = right_nodes bs tb e in
      let r = solvable_solved tb right (length tb.nodes) (omega arith) (solvable_all tb right (length tb.nodes) all) in
      rw r.1 (typed_right r.0 r.2))
      clash_right

-- Check's answer, computed.
pub verdict_right : (bs : List ℕ) (room : ℕ) → Verdict bs room (verdict bs room)
unfolding verdict
verdict_right bs room = go (reading bs) refl
  where
    fit : (tb : Table) → reading bs ≡ done tb → (b : Bool) → eqb room (sheet_length tb) ≡ b →
        Verdict bs room (require 10 0 b >>= λ _. checked (shapes tb (length tb.nodes)) tb)
    fit tb e true t = checked_right e (eqb→eq room (sheet_length tb) (rw t tt))
    fit tb e false f = misfit e (λ same. (T_false (eqb room (sheet_length tb))).1 f (rw same (eqb_refl (sheet_length tb))))

    go : (o : End Table) → reading bs ≡ o →
        Verdict bs room (o >>= λ tb. require 10 0 (eqb room (sheet_length tb)) >>= λ _. checked (shapes tb (length tb.nodes)) tb)
    go (refused r p) e = unreadable e
    go (done tb) e = fit tb e (eqb room (sheet_length tb)) refl
