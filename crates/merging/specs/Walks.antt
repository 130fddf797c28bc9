-- Walks over two sets that merge them, and what they build.
use Rattle.std.specs.Prelude.{ℕ, ◌+◌, ◌-◌, ◌≤◌, ◌<◌, Bool, true, cond, List, [], ◌++◌, Option, ◌⊎◌, ◌≡◌, length}
use Rattle.rules.specs.Values.{Value, Values, members, values, count, weights}
use Rattle.rules.specs.Operations.{set_of}
use Rattle.arena.specs.Code.{ValuesAt, SetBelow, Same, Made, Front}
use Rattle.sets.specs.Fronts.{Cells, TwoRuns}
use Rattle.sets.specs.declared.Fronts.{Fronts}
use Rattle.merging.specs.declared.Out.{Out}
use Rattle.merging.specs.declared.Walk.{Walk}
use Rattle.merging.specs.declared.Rest.{Rest}
use Rattle.merging.specs.declared.Pass.{Pass}
use Rattle.rules.specs.Merges.{merged, comparisons}

-- A run of members from `at` on.
abbrev pub SomeFront : List ℕ → ℕ → ℕ → Type 0
SomeFront s at n = (top : ℕ) × (vs : Values) × Front s top at n vs

-- The members zs, n in number, have been built from top + 1 up to `to`.
pub record BuiltTo (s : List ℕ) (top to n : ℕ) (zs : List Value) : Type 0 where
  pub stands : ValuesAt s (top + 1) (values zs)
  pub ends : to ≡ top + 1 + weights (values zs)
  pub counted : n ≡ count (values zs)

-- The run from `from` to `end`, of k members, is put behind what has been built, if kept.
pub record PutPre (s : List ℕ) (from end k : ℕ) (o : Out) : Type 0 where
  pub forward : from ≤ end
  pub behind : end ≤ o.to
  pub room : o.to + (end - from) ≤ length s
  pub few : o.count + k ≤ 4294967296

pub record PutBehind (keep : Bool) (s : List ℕ) (from end k : ℕ) (o : Out) (s' : List ℕ) (r : Out) : Type 0 where
  pub frame : Same o.to s s'
  pub near : r.to ≤ o.to + (end - from)
  pub even : end - from ≡ k → r.to + o.count ≡ o.to + r.count
  pub on : (top : ℕ) (zs : List Value) (vs : Values) → BuiltTo s top o.to o.count zs → ValuesAt s from vs → end ≡ from + weights vs → k ≡ count vs →
      BuiltTo s' top r.to r.count (zs ++ cond keep (members vs) [])

-- The rest of a set, of one cell each or not.
abbrev pub RestThere : List ℕ → ℕ → ℕ → Bool → Type 0
RestThere s at n cells = SomeFront s at n × (cells ≡ true → Cells s at n)

-- A walk over two sets that merges xs and ys: what has been built, and the comparisons made, with those of what is left to merge.
pub record Merging (l b r : Bool) (s : List ℕ) (top : ℕ) (w : Walk) (xs ys : List Value) : Type 0 where
  pub left : Values
  pub right : Values
  pub done : List Value
  pub on_left : Front s top w.fronts.a w.fronts.m left
  pub on_right : Front s top w.fronts.b w.fronts.n right
  pub built : BuiltTo s top w.out.to w.out.count done
  pub all : merged l b r xs ys ≡ done ++ merged l b r (members left) (members right)
  pub compared : comparisons xs ys ≡ w.turns + comparisons (members left) (members right)

-- One turn of it.
pub record StepPre (l b r : Bool) (s : List ℕ) (w : Walk) : Type 0 where
  pub top : ℕ
  pub first : List Value
  pub second : List Value
  pub merging : Merging l b r s top w first second
  pub room : w.out.to + 256 ≤ length s
  pub near : w.out.to ≤ top + 256
  pub few : w.turns ≤ 510
  pub more_left : 0 < w.fronts.m
  pub more_right : 0 < w.fronts.n

pub record Stepped (l b r : Bool) (s : List ℕ) (w : Walk) (s' : List ℕ) (w' : Walk) : Type 0 where
  pub frame : Same w.out.to s s'
  pub near : w'.out.to ≤ w.out.to + 256
  pub fewer : w'.fronts.m + w'.fronts.n < w.fronts.m + w.fronts.n
  pub on : (top : ℕ) (xs ys : List Value) → Merging l b r s top w xs ys → Merging l b r s' top w' xs ys

-- What is kept of what is left at the end of a walk, in the left set or in the right.
pub record RestOf (f : Fronts) (l r : Bool) (q : Rest) : Type 0 where
  pub left : 0 < f.m → (q.at ≡ f.a) × (q.n ≡ cond l f.m 0)
  pub right : f.m ≡ 0 → (q.at ≡ f.b) × (q.n ≡ cond r f.n 0)

-- The end of a merge: the rest is put behind what has been built, and the set's cell before it.
pub record EndPre (l r : Bool) (s : List ℕ) (w : Walk) (top : ℕ) (cells : Bool) : Type 0 where
  pub both : Bool
  pub first : List Value
  pub second : List Value
  pub merging : Merging l both r s top w first second
  pub room : top + 514 ≤ length s
  pub over : (w.fronts.m ≡ 0) ⊎ ((w.fronts.n ≡ 0) ⊎ (top + 256 < w.out.to))
  pub thin : cells ≡ true → Cells s w.fronts.a w.fronts.m × Cells s w.fronts.b w.fronts.n

abbrev pub Ended : Bool → Bool → List ℕ → Walk → ℕ → List ℕ → Option ℕ → Type 0
Ended l r s w top s' k = (b : Bool) (xs ys : List Value) → Merging l b r s top w xs ys → Made top s s' (set_of (merged l b r xs ys)) k

-- r counts the comparisons of a merge of m members from a on and n from b on.
abbrev pub SomeRuns : List ℕ → ℕ → ℕ → ℕ → ℕ → Type 0
SomeRuns s a m b n = (top : ℕ) × TwoRuns s a m b n top

abbrev pub Compares : List ℕ → ℕ → ℕ → ℕ → ℕ → ℕ → Type 0
Compares s a m b n r = (top : ℕ) (vs ws : Values) → Front s top a m vs → Front s top b n ws → r ≡ comparisons (members vs) (members ws)

-- The result of a merge: the set has been built, or weighs over 256, and the comparisons are those of the whole merge.
pub record MergeMade (l e r : Bool) (top : ℕ) (s s' : List ℕ) (xs ys : List Value) (p : Pass) : Type 0 where
  pub made : Made top s s' (set_of (merged l e r xs ys)) p.end
  pub compared : p.comparisons ≡ comparisons xs ys

-- Of two runs, and of two sets.
pub record RunsBelow (s : List ℕ) (a m b n top : ℕ) : Type 0 where
  pub runs : TwoRuns s a m b n top
  pub room : top + 514 ≤ length s

abbrev pub RunsMerge : Bool → Bool → Bool → List ℕ → ℕ → ℕ → ℕ → ℕ → ℕ → List ℕ → Pass → Type 0
RunsMerge l e r s a m b n top s' p =
    (vs ws : Values) → Front s top a m vs → Front s top b n ws → MergeMade l e r top s s' (members vs) (members ws) p

-- A merge on its way: the runs are unchanged below `top`.
pub record Walking (l e r : Bool) (s₀ : List ℕ) (a m b n top : ℕ) (s : List ℕ) (w : Walk) : Type 0 where
  pub frame : Same top s₀ s
  pub on : (vs ws : Values) → Front s₀ top a m vs → Front s₀ top b n ws → Merging l e r s top w (members vs) (members ws)

abbrev pub Merges : Bool → Bool → Bool → List ℕ → ℕ → ℕ → ℕ → List ℕ → Pass → Type 0
Merges l e r s a b top s' p =
    (vs ws : Values) → SetBelow s top a vs → SetBelow s top b ws → MergeMade l e r top s s' (members vs) (members ws) p
