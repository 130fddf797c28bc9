-- `is_marked`: the node is an identifier, and the environment marks it.
use Rattle.visits.proofs.Terms.{some, ◌≡◌, sym, ap, ◌∙◌, subst, ℕ, ◌<◌, arith, List, get_or, leb-true, kind_of, leaf, identifier, table_of, node_at, kind_at}
use Rattle.visits.proofs.Terms.{kind_of_law, field_a, FunctionEntry, PlaceReady}
use Rattle.visits.proofs.SafeLaws.{entry_below, entry_scaled}
use Rattle.visits.proofs.DispatchLaws.{name_below}
use Rattle.visits.proofs.is_marked.Goals as goal

-- A node of kind 20, and its identifier.
module _ {bs env : List ℕ} {k n : ℕ} (p : PlaceReady bs env n) (e : k ≡ (node_at (table_of bs).nodes n).kind) (q : k ≡ 20) where
  named : kind_at (table_of bs).nodes n ≡ some (leaf identifier)
  named = ap kind_of (sym e) ∙ kind_of_law k (leaf identifier) q

  low : field_a bs n < 32
  low = name_below bs p.readable n p.node named

pub offset_bounds-env-node_field : goal.offset_bounds-env-node_field
offset_bounds-env-node_field c =
    entry_scaled c.node_field.ensures (low c.requires c.node_kind.ensures (omega (arith, c.if-node_kind-eq20.true)))

pub bounds-env-node_field : goal.bounds-env-node_field
bounds-env-node_field c = entry_below c.node_field.ensures (low c.requires c.node_kind.ensures (omega (arith, c.if-node_kind-eq20.true)))

pub returns-then-node_kind-eq20 : goal.returns-then-node_kind-eq20
returns-then-node_kind-eq20 c = λ e. record {
  is = named c.requires c.node_kind.ensures (omega (arith, c.if-node_kind-eq20.true));
  marked = subst (λ (x : ℕ). FunctionEntry (get_or c.args.env.now x 0)) c.node_field.ensures (leb-true _ _ e);
}
