-- The typing rules determine Check's answer: two verdicts on the same bytes and sheet length are the same, and so is the
-- sheet at exit. On a readable table with a sheet of the right length it is acceptance, 11, 12 or 13 exactly where document 01 says.
use Prim.Native.Nat.{ℕ, zero, suc, ◌+◌, ◌≤◌, ◌<◌}
use mathlib.Core.List.{List, ◌++◌}
use mathlib.Core.Option.{Option, none as nothing, some}
use mathlib.Core.Path.{◌≡◌, refl, ap, ap₂, subst, sym, ◌∙◌}
use mathlib.Core.Logic.{◌↔◌, inl, inr}
use native.Mathlib.Omega.{arith}
use native.Mathlib.Decide.{dec_lt}
use lib.ListN.{length}
use Rattle.rules.specs.Types.{Ty, weightᵀ, row}
use Rattle.rules.specs.Kinds.{Kind, Category, predicate, expression, category_of}
use Rattle.rules.specs.Tables.{Table, kind_at}
use Rattle.rules.specs.Ends.{End, done, refused}
use Rattle.rules.specs.Readable.{CategoryIs}
use Rattle.rules.specs.Verdict.{node_place, Place, Typing, Whole, AgreeAt, Only, type_limit, Light}
use Rattle.rules.specs.Verdict.{category_row, kind_row, rows_from, sheet_of, sheet_length}
use Rattle.rules.specs.Verdict.{Verdict, unreadable, misfit, clash, several, heavy, accepts, sheet_after}
use Rattle.rules.specs.Reading.{reading}
use Rattle.rules.specs.Refusals.{ClashesAt, DifferAt, TooHeavyAt, IsLeast}
use Rattle.rules.proofs.Basics.{absurd01}

-- A typing of some nodes is one of fewer.
pub restrict : {tb : Table} {θ : ℕ → Ty} {k m : ℕ} → k ≤ m → Typing tb m θ → Typing tb k θ
restrict h t = record { declared = t.declared; obeyed = λ n l. t.obeyed n (omega arith) }

-- Neither of two numbers is the lower.
first_only : {i j : ℕ} → (i < j → ⊥) → (j < i → ⊥) → i ≡ j
first_only {i} {j} p q = go (dec_lt i j) (dec_lt j i)
  where
    go : Dec (i < j) → Dec (j < i) → i ≡ j
    go (yes h) d = absurd (p h)
    go (no n) (yes h) = absurd (q h)
    go (no n) (no m) = omega arith

-- The only typing leaves no place where two typings differ.
pub only_agrees : {tb : Table} {θ : ℕ → Ty} {p : ℕ} → Only tb θ → Place tb p → AgreeAt tb p
only_agrees o h κ κ' w w' = let e = o.alone κ w _ h in let f = o.alone κ' w' _ h in cc

-- A row depends on the type only where the category is that of expressions.
category_row_same : (c : Category) (t u : Ty) → (c ≡ expression → t ≡ u) → category_row c t ≡ category_row c u
category_row_same predicate t u h = refl
category_row_same expression t u h = ap row (h refl)

kind_row_same : (o : Option Kind) (t u : Ty) → (CategoryIs expression o → t ≡ u) → kind_row o t ≡ kind_row o u
kind_row_same nothing t u h = refl
kind_row_same (some k) t u h = category_row_same (category_of k) t u h

rows_from_same : (r s : ℕ → List ℕ) (i n : ℕ) → ((j : ℕ) → j < i + n → r j ≡ s j) → rows_from r i n ≡ rows_from s i n
unfolding rows_from
rows_from_same r s i zero h = refl
rows_from_same r s i (suc n) h = ap₂ ◌++◌ (h i (omega arith)) (rows_from_same r s (suc i) n (λ j l. h j (omega arith)))

-- Typings that agree at all places make the same sheet.
pub sheet_of_same : (tb : Table) (θ κ : ℕ → Ty) → ((p : ℕ) → Place tb p → θ p ≡ κ p) → sheet_of tb θ ≡ sheet_of tb κ
unfolding sheet_of
sheet_of_same tb θ κ h = ap₂ ◌++◌
    (rows_from_same _ _ 0 (length tb.binds) (λ j l. ap row (h j (inl (omega arith)))))
    (rows_from_same _ _ 0 (length tb.nodes)
    (λ n l. kind_row_same (kind_at tb.nodes n) _ _ (λ c. h (node_place tb n) (inr (n, omega arith, c, refl)))))

-- A reading gives one table, or none.
pub one_table : {o : End Table} {tb tb' : Table} → o ≡ done tb → o ≡ done tb' → tb' ≡ tb
one_table e f = cc

read_or_not : {o : End Table} {tb : Table} {r p : ℕ} {A : Type 0} → o ≡ refused r p → o ≡ done tb → A
read_or_not e f = absurd (absurd01 (cc))

-- What holds of one verdict's table holds of the other's.
move : {o : End Table} {tb tb' : Table} (F : Table → Type 0) → o ≡ done tb → o ≡ done tb' → F tb' → F tb
move F e f = subst F (one_table e f)

module _ {o : End Table} {tb tb' : Table} (e : o ≡ done tb) (e' : o ≡ done tb') where
  -- 10 against a sheet of the right length
  misfit_fits : {room : ℕ} {A : Type 0} → (room ≡ sheet_length tb → ⊥) → room ≡ sheet_length tb' → A
  misfit_fits {room} n f = absurd (n (move (λ t. room ≡ sheet_length t) e e' f))

  -- 11 against a typing of more nodes
  clash_typing : {θ : ℕ → Ty} {k m : ℕ} {A : Type 0} →
      ((κ : ℕ → Ty) → Typing tb (suc k) κ → ⊥) → k < m → Typing tb' m θ → A
  clash_typing {θ} {m = m} n l w = absurd (n θ (restrict l (move (λ t. Typing t m θ) e e' w)))

  -- 11 against a typing of the whole
  clash_whole : {θ : ℕ → Ty} {k : ℕ} {A : Type 0} →
      ((κ : ℕ → Ty) → Typing tb (suc k) κ → ⊥) → k < length tb.nodes → Whole tb' θ → A
  clash_whole {θ} n l w = absurd (n θ (restrict l (move (λ t. Whole t θ) e e' w)))

  -- 12 against agreement at its place
  several_agree : {θ κ : ℕ → Ty} {p : ℕ} {A : Type 0} → Whole tb θ → Whole tb κ → (θ p ≡ κ p → ⊥) → AgreeAt tb' p → A
  several_agree {θ} {κ} {p} w w' d a = absurd (d (move (λ t. AgreeAt t p) e e' a θ κ w w'))

  -- 12 against an only typing
  several_only : {θ κ ι : ℕ → Ty} {p : ℕ} {A : Type 0} →
      Place tb p → Whole tb θ → Whole tb κ → (θ p ≡ κ p → ⊥) → Only tb' ι → A
  several_only {θ} {κ} {ι} h w w' d o = absurd (d (only_agrees (move (λ t. Only t ι) e e' o) h θ κ w w'))

  -- 13 against a light only typing
  heavy_light : {θ κ : ℕ → Ty} {p : ℕ} {A : Type 0} →
      Place tb p → Only tb θ → type_limit < weightᵀ (θ p) → Only tb' κ → Light tb' κ p → A
  heavy_light {θ} {κ} {p} h o l o' f =
      let g = move (λ t. Light t κ p) e e' f h in
      absurd (omega (arith, ap weightᵀ (o.alone κ (move (λ t. Only t κ) e e' o').typing p h)))

  same_sheet : {θ κ : ℕ → Ty} → Only tb θ → Only tb' κ → sheet_of tb θ ≡ sheet_of tb' κ
  same_sheet {θ} {κ} o o' =
      rw (one_table e e') (sheet_of_same tb θ κ (λ p h. sym (o.alone κ (move (λ t. Only t κ) e e' o').typing p h)))

verdict_one : {bs : List ℕ} {room : ℕ} {a b : End (List ℕ)} → Verdict bs room a → Verdict bs room b → a ≡ b
verdict_one (unreadable e) (unreadable e') = cc
verdict_one (unreadable e) (misfit e' n) = read_or_not e e'
verdict_one (unreadable e) (clash e' f l w n) = read_or_not e e'
verdict_one (unreadable e) (several e' f h w w₁ d g) = read_or_not e e'
verdict_one (unreadable e) (heavy e' f h o l g) = read_or_not e e'
verdict_one (unreadable e) (accepts e' f o g) = read_or_not e e'
verdict_one (misfit e n) (unreadable e') = read_or_not e' e
verdict_one (misfit e n) (misfit e' n') = refl
verdict_one (misfit e n) (clash e' f' l' w' n') = misfit_fits e e' n f'
verdict_one (misfit e n) (several e' f' h' w' w₁' d' g') = misfit_fits e e' n f'
verdict_one (misfit e n) (heavy e' f' h' o' l' g') = misfit_fits e e' n f'
verdict_one (misfit e n) (accepts e' f' o' g') = misfit_fits e e' n f'
verdict_one (clash e f l w n) (unreadable e') = read_or_not e' e
verdict_one (clash e f l w n) (misfit e' n') = misfit_fits e' e n' f
verdict_one (clash e f l w n) (clash e' f' l' w' n') =
    ap (refused 11) (first_only (λ m. clash_typing e e' n m w') (λ m. clash_typing e' e n' m w))
verdict_one (clash e f l w n) (several e' f' h' w' w₁' d' g') = clash_whole e e' n l w'
verdict_one (clash e f l w n) (heavy e' f' h' o' l' g') = clash_whole e e' n l o'.typing
verdict_one (clash e f l w n) (accepts e' f' o' g') = clash_whole e e' n l o'.typing
verdict_one (several e f h w w₁ d g) (unreadable e') = read_or_not e' e
verdict_one (several e f h w w₁ d g) (misfit e' n') = misfit_fits e' e n' f
verdict_one (several e f h w w₁ d g) (clash e' f' l' w' n') = clash_whole e' e n' l' w
verdict_one {bs} (several {tb = tb} {p = p} e f h w w₁ d g) (several {tb = tb'} {p = q} e' f' h' w' w₁' d' g') =
    ap (refused 12) (first_only
    (λ m. several_agree e e' w w₁ d (g' p m (move (λ t. Place t p) e' e h)))
    (λ m. several_agree e' e w' w₁' d' (g q m (move (λ t. Place t q) e e' h'))))
verdict_one (several e f h w w₁ d g) (heavy e' f' h' o' l' g') = several_only e e' h w w₁ d o'
verdict_one (several e f h w w₁ d g) (accepts e' f' o' g') = several_only e e' h w w₁ d o'
verdict_one (heavy e f h o l g) (unreadable e') = read_or_not e' e
verdict_one (heavy e f h o l g) (misfit e' n') = misfit_fits e' e n' f
verdict_one (heavy e f h o l g) (clash e' f' l' w' n') = clash_whole e' e n' l' o.typing
verdict_one (heavy e f h o l g) (several e' f' h' w' w₁' d' g') = several_only e' e h' w' w₁' d' o
verdict_one (heavy {p = p} e f h o l g) (heavy {p = q} e' f' h' o' l' g') =
    ap (refused 13) (first_only (λ m. heavy_light e e' h o l o' (g' p m)) (λ m. heavy_light e' e h' o' l' o (g q m)))
verdict_one (heavy {p = p} e f h o l g) (accepts e' f' o' g') = heavy_light e e' h o l o' (g' p)
verdict_one (accepts e f o g) (unreadable e') = read_or_not e' e
verdict_one (accepts e f o g) (misfit e' n') = misfit_fits e' e n' f
verdict_one (accepts e f o g) (clash e' f' l' w' n') = clash_whole e' e n' l' o.typing
verdict_one (accepts e f o g) (several e' f' h' w' w₁' d' g') = several_only e' e h' w' w₁' d' o
verdict_one (accepts e f o g) (heavy {p = q} e' f' h' o' l' g') = heavy_light e' e h' o' l' o (g q)
verdict_one (accepts e f o g) (accepts e' f' o' g') = ap done (same_sheet e e' o o')

-- The rules determine Check's answer.
pub verdict_only : (bs : List ℕ) (room : ℕ) (a b : End (List ℕ)) → Verdict bs room a → Verdict bs room b → a ≡ b
verdict_only bs room a b v w = verdict_one v w

-- They determine the sheet at exit, for the sheet lent.
pub sheet_only : (bs sheet : List ℕ) (a b : End (List ℕ)) →
    Verdict bs (length sheet) a → Verdict bs (length sheet) b → sheet_after a sheet ≡ sheet_after b sheet
sheet_only bs sheet a b v w = ap (λ (r : End (List ℕ)). sheet_after r sheet) (verdict_one v w)

-- A typing of the whole table leaves no node for 11, and an only one no place for 12.
whole_typed : {tb : Table} {θ : ℕ → Ty} {k : ℕ} → Whole tb θ → ClashesAt tb k → ⊥
whole_typed {θ = θ} w u = u.1 θ (restrict u.0 w)

only_same : {tb : Table} {θ : ℕ → Ty} {p : ℕ} → Only tb θ → DifferAt tb p → ⊥
only_same o (κ, κ', w, w', h, d) = d (only_agrees o h κ κ' w w')

-- What a verdict on a readable table says:
module _ (bs : List ℕ) {room : ℕ} {tb : Table} (e : reading bs ≡ done tb) where
  -- 11 at the least node that leaves no typing,
  clash_least : {k : ℕ} → Verdict bs room (refused 11 k) → IsLeast (ClashesAt tb) k
  clash_least (unreadable e') = read_or_not e' e
  clash_least {k} (clash {θ = θ} e' f l w n) =
      move (λ t. IsLeast (ClashesAt t) k) e e' ((l, n), λ j m u. u.1 θ (restrict m w))

  -- 12 at the least place where typings differ,
  several_least : {p : ℕ} → Verdict bs room (refused 12 p) → IsLeast (DifferAt tb) p
  several_least (unreadable e') = read_or_not e' e
  several_least {p} (several {θ = θ} {κ = κ} e' f h w w' d g) =
      move (λ t. IsLeast (DifferAt t) p) e e' ((θ, κ, w, w', h, d), λ q m u. u.5 (g q m u.4 u.0 u.1 u.2 u.3))

  -- 13 at the least place where the only typing is too heavy,
  heavy_least : {p : ℕ} → Verdict bs room (refused 13 p) → IsLeast (TooHeavyAt tb) p
  heavy_least (unreadable e') = read_or_not e' e
  heavy_least {p} (heavy {θ = θ} e' f h o l g) =
      move (λ t. IsLeast (TooHeavyAt t) p) e e' ((θ, o, h, l), λ q m u. absurd (heavy_light e' e' u.2 u.1 u.3 o (g q m)))

  -- or acceptance of the only typing, whose sheet is written.
  accepts_only : {rows : List ℕ} → Verdict bs room (done rows) →
      (θ : ℕ → Ty) × Only tb θ × ((p : ℕ) → Light tb θ p) × (rows ≡ sheet_of tb θ)
  accepts_only (accepts {tb = tb'} {θ = θ} e' f o g) =
      move (λ t. (κ : ℕ → Ty) × Only t κ × ((p : ℕ) → Light t κ p) × (sheet_of tb' θ ≡ sheet_of t κ)) e e' (θ, o, g, refl)

  -- Which refusal it is, where the sheet has the right length.
  module _ (fit : room ≡ sheet_length tb) where
    untyped_refused : {a : End (List ℕ)} → Verdict bs room a → ((θ : ℕ → Ty) → Whole tb θ → ⊥) → (k : ℕ) × (a ≡ refused 11 k)
    untyped_refused (unreadable e') h = read_or_not e' e
    untyped_refused (misfit e' n) h = misfit_fits e' e n fit
    untyped_refused (clash {k = k} e' f l w n) h = (k, refl)
    untyped_refused (several {θ = θ} e' f p w w' d g) h = absurd (h θ (move (λ t. Whole t θ) e e' w))
    untyped_refused (heavy {θ = θ} e' f p o l g) h = absurd (h θ (move (λ t. Whole t θ) e e' o.typing))
    untyped_refused (accepts {θ = θ} e' f o g) h = absurd (h θ (move (λ t. Whole t θ) e e' o.typing))

    different_refused : {a : End (List ℕ)} {q : ℕ} → Verdict bs room a → DifferAt tb q → (p : ℕ) × (a ≡ refused 12 p)
    different_refused (unreadable e') h = read_or_not e' e
    different_refused (misfit e' n) h = misfit_fits e' e n fit
    different_refused (clash e' f l w n) h = clash_whole e' e n l h.2
    different_refused (several {p = p} e' f k w w' d g) h = (p, refl)
    different_refused (heavy {θ = θ} e' f k o l g) h = absurd (only_same (move (λ t. Only t θ) e e' o) h)
    different_refused (accepts {θ = θ} e' f o g) h = absurd (only_same (move (λ t. Only t θ) e e' o) h)

    heavy_refused : {a : End (List ℕ)} {q : ℕ} → Verdict bs room a → TooHeavyAt tb q → (p : ℕ) × (a ≡ refused 13 p)
    heavy_refused (unreadable e') h = read_or_not e' e
    heavy_refused (misfit e' n) h = misfit_fits e' e n fit
    heavy_refused (clash e' f l w n) h = clash_whole e' e n l h.1.typing
    heavy_refused (several e' f k w w' d g) h = several_only e' e k w w' d h.1
    heavy_refused (heavy {p = p} e' f k o l g) h = (p, refl)
    heavy_refused {q = q} (accepts e' f o g) h = heavy_light e e' h.2 h.1 h.3 o (g q)

-- There is at most one least number with a property.
least_one : {P : ℕ → Type 0} {i j : ℕ} → IsLeast P i → IsLeast P j → i ≡ j
least_one {P} {i} {j} h k = first_only (λ m. k.1 i m h.0) (λ m. h.1 j m k.0)

-- So a refusal that comes wherever some number has the property, at the least one, comes at p exactly where p is the least.
at_least : {P : ℕ → Type 0} {a : End (List ℕ)} (r p : ℕ) → ((q : ℕ) → P q → (i : ℕ) × (a ≡ refused r i)) →
    ((q : ℕ) → a ≡ refused r q → IsLeast P q) → (a ≡ refused r p) ↔ IsLeast P p
at_least r p some_refused found = (found p, λ h. let x = some_refused p h.0 in x.1 ∙ ap (refused r) (least_one (found x.0 x.1) h))

-- Check on a readable table with a sheet of the right length: acceptance exactly where there is one typing only and no type in it is too
-- heavy, 11 exactly where there is no typing, 12 exactly where there are several, 13 exactly where the only one is too heavy.
module _ (bs : List ℕ) {room : ℕ} {tb : Table} {a : End (List ℕ)} (v : Verdict bs room a) (e : reading bs ≡ done tb) (fit : room ≡ sheet_length tb) where
  as_said : {b : End (List ℕ)} → a ≡ b → Verdict bs room b
  as_said q = subst (Verdict bs room) q v

  pub accepted_where : ((rows : List ℕ) × (a ≡ done rows)) ↔ ((θ : ℕ → Ty) × Only tb θ × ((p : ℕ) → Light tb θ p))
  accepted_where = (
    λ x. let w = accepts_only bs e (as_said x.1) in (w.0, w.1, w.2),
    λ x. (sheet_of tb x.0, verdict_one v (accepts e fit x.1 x.2)),
  )

  pub rows_where : (rows : List ℕ) (θ : ℕ → Ty) → a ≡ done rows → Only tb θ → rows ≡ sheet_of tb θ
  rows_where rows θ q o =
      let w = accepts_only bs e (as_said q) in w.3 ∙ same_sheet e e w.1 o

  pub untyped_where : ((k : ℕ) × (a ≡ refused 11 k)) ↔ ((θ : ℕ → Ty) → Whole tb θ → ⊥)
  untyped_where = (
    λ x θ w. whole_typed w (clash_least bs e (as_said x.1)).0,
    λ h. untyped_refused bs e fit v h,
  )

  pub different_where : ((p : ℕ) × (a ≡ refused 12 p)) ↔ ((p : ℕ) × DifferAt tb p)
  different_where = (
    λ x. (x.0, (several_least bs e (as_said x.1)).0),
    λ x. different_refused bs e fit v x.1,
  )

  pub heavy_where : ((p : ℕ) × (a ≡ refused 13 p)) ↔ ((p : ℕ) × TooHeavyAt tb p)
  heavy_where = (
    λ x. (x.0, (heavy_least bs e (as_said x.1)).0),
    λ x. heavy_refused bs e fit v x.1,
  )

  -- The places.
  pub clash_at : (k : ℕ) → (a ≡ refused 11 k) ↔ IsLeast (ClashesAt tb) k
  clash_at k = at_least 11 k (λ q u. untyped_refused bs e fit v (λ θ w. whole_typed w u))
      (λ q x. clash_least bs e (as_said x))

  pub different_at : (p : ℕ) → (a ≡ refused 12 p) ↔ IsLeast (DifferAt tb) p
  different_at p = at_least 12 p (λ q u. different_refused bs e fit v u) (λ q x. several_least bs e (as_said x))

  pub heavy_at : (p : ℕ) → (a ≡ refused 13 p) ↔ IsLeast (TooHeavyAt tb) p
  heavy_at p = at_least 13 p (λ q u. heavy_refused bs e fit v u) (λ q x. heavy_least bs e (as_said x))
