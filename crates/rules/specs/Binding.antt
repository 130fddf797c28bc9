-- Document 01, the binding rules of refusal 9, as they are said of places in the tree of nodes: which nodes use and bind
-- an identifier, and where its uses may stand. `binding` in Reading.antt decides it: see proofs/BindingLaws.antt.
use Rattle.std.specs.Prelude.{ℕ, zero, suc, ◌≤◌, ◌<◌, List, ◌≡◌, get_or, length}
use Rattle.std.proofs.Math.Option.{Option, none as nothing, some}
use Rattle.rules.specs.Kinds.{Kind, join, negation, test, quant, leaf, identifier, bool_of, one, two, comprehension, is_child}
use Rattle.rules.specs.Tables.{Node, Table, node_at, kind_at, held}
use Rattle.rules.specs.Reading.{occurrences}

-- The node m is a child of the node n.
abbrev pub ChildOf : List Node → ℕ → ℕ → Type 0
ChildOf ns n m = (n < length ns) × (1 ≤ occurrences m (held is_child (node_at ns n)))

-- The nodes in the tree of n: n, and the children of nodes in it.
pub data InTree (ns : List Node) (n : ℕ) : ℕ → Type 0 where
  top : InTree ns n n
  under : {p m : ℕ} → InTree ns n p → ChildOf ns p m → InTree ns n m

-- The node u uses x: kind 20, with x in field a.
abbrev pub UsesAt : List Node → ℕ → ℕ → Type 0
UsesAt ns x u = (u < length ns) × (kind_at ns u ≡ some (leaf identifier)) × ((node_at ns u).a ≡ x)

-- The kinds that bind: 10, 11 and 34.
abbrev pub BinderKind : Option Kind → Type 0
BinderKind nothing = ⊥
BinderKind (some (join j)) = ⊥
BinderKind (some negation) = ⊥
BinderKind (some (test j)) = ⊥
BinderKind (some (quant j)) = Unit {0}
BinderKind (some (leaf j)) = ⊥
BinderKind (some bool_of) = ⊥
BinderKind (some (one j)) = ⊥
BinderKind (some (two j)) = ⊥
BinderKind (some comprehension) = Unit {0}

-- The node b is a binder of x: x stands in its field a, its range in b, its body in c.
abbrev pub BindsAt : List Node → ℕ → ℕ → Type 0
BindsAt ns x b = (b < length ns) × BinderKind (kind_at ns b) × ((node_at ns b).a ≡ x)

abbrev pub InRangeTree : List Node → ℕ → ℕ → Type 0
InRangeTree ns b u = InTree ns (node_at ns b).b u

abbrev pub InBodyTree : List Node → ℕ → ℕ → Type 0
InBodyTree ns b u = InTree ns (node_at ns b).c u

-- The node u stands in the scope of x: in the body of a binder of x.
abbrev pub InScopeOf : List Node → ℕ → ℕ → Type 0
InScopeOf ns x u = (b : ℕ) × BindsAt ns x b × InBodyTree ns b u

-- Each use of x does.
abbrev pub UsedInBody : List Node → ℕ → Type 0
UsedInBody ns x = (u : ℕ) → UsesAt ns x u → InScopeOf ns x u

-- The binding rules for x by its word: a free identifier has no binder; a bound one has exactly one, and every use of it
-- stands in that binder's body and not in its range.
abbrev pub WrittenFor : ℕ → List Node → ℕ → Type 0
WrittenFor zero ns x = (b : ℕ) → BindsAt ns x b → ⊥
WrittenFor (suc w) ns x =
    (b : ℕ) × BindsAt ns x b × ((d : ℕ) → BindsAt ns x d → d ≡ b) × ((u : ℕ) → UsesAt ns x u → InBodyTree ns b u × (InRangeTree ns b u → ⊥))

abbrev pub BindingWritten : Table → ℕ → Type 0
BindingWritten tb x = WrittenFor (get_or tb.binds x 0) tb.nodes x
