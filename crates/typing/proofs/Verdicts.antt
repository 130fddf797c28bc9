-- What the solutions of a table's problem say of Check's answer: one lemma for each of the refusals 11 to 13, and one for acceptance.
use Prim.Native.Nat.{ℕ, suc, ◌+◌, ◌≤◌, ◌<◌}
use mathlib.Core.List.{List}
use mathlib.Core.Path.{◌≡◌, sym, ◌∙◌}
use native.Mathlib.Omega.{arith}
use lib.ListN.{length}
use Rattle.rules.specs.Types.{Ty, weightᵀ, Declared, INTEGER}
use Rattle.rules.specs.Tables.{Table}
use Rattle.rules.specs.Ends.{done, refused}
use Rattle.rules.specs.Reading.{reading}
use Rattle.rules.specs.Verdict.{Place, Typing, AgreeAt, Only, type_limit, sheet_of, sheet_length}
use Rattle.rules.specs.Verdict.{Verdict, clash, several, heavy, accepts}
use Rattle.laws.proofs.ReadingLaws.{reading_records_law}
use Rattle.unification.specs.Problem.{Solves}
use Rattle.unification.specs.Solved.{Solutions}
use Rattle.typing.specs.Equations.{base, shape_at, equations, RightNodes, back}
use Rattle.typing.specs.Places.{place_count, place_var}
use Rattle.typing.proofs.ProblemLaws.{well_formed_law}
use Rattle.typing.proofs.EquationsLaws.{typing→solves, solves→typing}
use Rattle.typing.proofs.Places.{place_below, var_below, back_at, types_at_law}
use Rattle.laws.proofs.VerdictLaws.{sheet_of_same}

-- The nodes of a table that was read hold what their kinds say.
pub right_nodes : (bs : List ℕ) (tb : Table) → reading bs ≡ done tb → RightNodes tb
right_nodes bs tb e = (reading_records_law bs tb e).fields

-- σ solves the problem of the nodes below k.
abbrev pub SolvesBelow : Table → ℕ → (ℕ → Ty) → Type 0
SolvesBelow tb k σ = Solves (shape_at tb) (base tb k) (equations tb k) σ

-- The solutions of the problem of the nodes below k.
abbrev pub SolutionsBelow : Table → ℕ → (ℕ → Type 0) → Type 0
SolutionsBelow tb k Fixed = Solutions (shape_at tb) (base tb k) (equations tb k) Fixed

-- The type of each place is fixed.
abbrev pub FixedPlaces : Table → (ℕ → Type 0) → Type 0
FixedPlaces tb Fixed = (p : ℕ) → Place tb p → Fixed (place_var tb p)

module _ (tb : Table) (right : RightNodes tb) (k : ℕ) (h : k ≤ length tb.nodes) where
  -- No solution, no typing.
  pub none_typed : ((σ : ℕ → Ty) → SolvesBelow tb k σ → ⊥) → (κ : ℕ → Ty) → Typing tb k κ → ⊥
  none_typed none κ t = let r = typing→solves tb right κ k h t in none r.0 r.1

  -- A solution at the places of the nodes below k, from a typing.
  pub typing_solution : (κ : ℕ → Ty) → Typing tb k κ →
      (σ : ℕ → Ty) × SolvesBelow tb k σ × ((p : ℕ) → p < length tb.binds + k → σ (place_var tb p) ≡ κ p)
  typing_solution κ t =
      let r = typing→solves tb right κ k h t in (r.0, r.1, types_at_law tb k r.0 κ r.2 r.3)

  module _ (Fixed : ℕ → Type 0) (s : SolutionsBelow tb k Fixed) where
    types_declared : (v : ℕ) → Declared (length tb.sizes) (s.first v) × Declared (length tb.sizes) (s.second v)
    types_declared = s.declared (length tb.sizes) (well_formed_law tb right k h).leaves

    -- The two solutions give typings.
    pub first_typing : Typing tb k (back tb k s.first)
    first_typing = solves→typing tb right k h s.first s.first_solves (λ v l. (types_declared v).0)

    pub second_typing : Typing tb k (back tb k s.second)
    second_typing = solves→typing tb right k h s.second s.second_solves (λ v l. (types_declared v).1)

-- No rule, any typing: INTEGER everywhere.
pub typing_none : (tb : Table) → Typing tb 0 (λ p. INTEGER)
typing_none tb = record { declared = λ p w. tt; obeyed = λ n l. absurd (omega arith) }

-- The places' types from those of the variables of the whole table.
abbrev pub back_whole : Table → (ℕ → Ty) → ℕ → Ty
back_whole tb σ = back tb (length tb.nodes) σ

pub back_place : (tb : Table) (σ : ℕ → Ty) (p : ℕ) → Place tb p → back_whole tb σ p ≡ σ (place_var tb p)
back_place tb σ p w = back_at tb (length tb.nodes) σ p (place_below tb p w)

module _ (tb : Table) (right : RightNodes tb) (Fixed : ℕ → Type 0) (s : SolutionsBelow tb (length tb.nodes) Fixed) where
  abbrev n : ℕ
  n = length tb.nodes

  -- Two typings are the same at a place that is fixed.
  pub fixed_agrees : (p : ℕ) → Place tb p → Fixed (place_var tb p) → AgreeAt tb p
  fixed_agrees p w g θ κ t u =
      let l : p < place_count tb = place_below tb p w in
      let x = typing_solution tb right n (omega arith) θ t in
      let y = typing_solution tb right n (omega arith) κ u in
      sym (x.2 p l) ∙ s.agree (place_var tb p) (var_below tb n p l) g x.0 y.0 x.1 y.1 ∙ y.2 p l

  -- Where each place is fixed, the first solution gives the only typing.
  pub only_first : FixedPlaces tb Fixed → Only tb (back_whole tb s.first)
  only_first g = record {
    typing = first_typing tb right n (omega arith) Fixed s;
    alone = λ κ t p w. fixed_agrees p w (g p w) κ (back_whole tb s.first) t (first_typing tb right n (omega arith) Fixed s);
  }

-- ---- the answers
module _ {bs : List ℕ} {room : ℕ} {tb : Table} (e : reading bs ≡ done tb) (fits : room ≡ sheet_length tb) where
  -- 11 at k: that of the nodes below k has solutions, and that with k has none.
  pub clash_verdict : (k : ℕ) → k < length tb.nodes → (Fixed : ℕ → Type 0) → SolutionsBelow tb k Fixed →
      ((σ : ℕ → Ty) → SolvesBelow tb (suc k) σ → ⊥) → Verdict bs room (refused 11 k)
  clash_verdict k h Fixed s none =
      clash e fits h (first_typing tb (right_nodes bs tb e) k (omega arith) Fixed s) (none_typed tb (right_nodes bs tb e) (suc k) h none)

  module _ (Fixed : ℕ → Type 0) (s : SolutionsBelow tb (length tb.nodes) Fixed) where
    -- 12 at p: the least place that is not fixed.
    pub several_verdict : (p : ℕ) → Place tb p → (Fixed (place_var tb p) → ⊥) →
        ((q : ℕ) → q < p → Place tb q → Fixed (place_var tb q)) → Verdict bs room (refused 12 p)
    several_verdict p w free below =
        let n = length tb.nodes in
        let right = right_nodes bs tb e in
        several e fits w (first_typing tb right n (omega arith) Fixed s) (second_typing tb right n (omega arith) Fixed s)
        (λ same. s.differ (place_var tb p) (var_below tb n p (place_below tb p w)) free
        (sym (back_place tb s.first p w) ∙ same ∙ back_place tb s.second p w))
        (λ q h v. fixed_agrees tb right Fixed s q v (below q h v))

    module _ (g : FixedPlaces tb Fixed) where
      -- 13 at p: the least place whose type is too heavy.
      pub heavy_verdict : (p : ℕ) → Place tb p → type_limit < weightᵀ (s.first (place_var tb p)) →
          ((q : ℕ) → q < p → Place tb q → weightᵀ (s.first (place_var tb q)) ≤ type_limit) → Verdict bs room (refused 13 p)
      heavy_verdict p w much below =
          heavy e fits w (only_first tb (right_nodes bs tb e) Fixed s g) (rw (back_place tb s.first p w) much)
          (λ q h v. rw (back_place tb s.first q v) (below q h v))

      -- Accepted: the sheet holds the types of the places.
      pub accepts_verdict : ((p : ℕ) → Place tb p → weightᵀ (s.first (place_var tb p)) ≤ type_limit) →
          (θ : ℕ → Ty) → ((p : ℕ) → Place tb p → θ p ≡ s.first (place_var tb p)) → Verdict bs room (done (sheet_of tb θ))
      accepts_verdict light θ same =
          rw (sheet_of_same tb θ (back_whole tb s.first) (λ p w. same p w ∙ sym (back_place tb s.first p w)))
          (accepts e fits (only_first tb (right_nodes bs tb e) Fixed s g)
          (λ p w. rw (back_place tb s.first p w) (light p w)))
