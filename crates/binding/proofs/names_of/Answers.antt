-- A turn of the pass, and its end. An identifier occurs free in a node where one of its three fields makes it so.
use Prim.Native.Nat.{◌<◌}
use mathlib.Core.Path.{refl, sym}
use native.Mathlib.Nat.{lt_of_lt_of_le}
use lib.ListN.{length-set, replicate}
use Rattle.std.proofs.Common.{rules}
use Rattle.rules.specs.Tables.{node_count}
use Rattle.table.proofs.Least.{below}
use Rattle.trees.proofs.Counting.{usable}
use Rattle.binding.proofs.Occurs.{passed_none, passed_more, passed_all, bound_here, names_here, names_three}
use Rattle.binding.proofs.names_of.Goals as goal

pub loop-n-init : goal.loop-n-init
loop-n-init c = (refl, passed_none c.args.table.now (replicate 512 0))

pub bound_at-here-requires : goal.bound_at-here-requires
bound_at-here-requires c =
    let inside : c.loop-n.n < node_count c.args.table.now = below c.loop-n-test.true c.nodes-n-end.ensures in
    usable c.node_fields-fields.ensures.a c.requires inside

pub field_names-a-requires : goal.field_names-a-requires
field_names-a-requires c =
    let inside : c.loop-n.n < node_count c.args.table.now = below c.loop-n-test.true c.nodes-n-end.ensures in
    (usable c.node_fields-fields.ensures.a c.requires inside, c.loop-n.invariant.0)

pub field_names-b-requires : goal.field_names-b-requires
field_names-b-requires c =
    let inside : c.loop-n.n < node_count c.args.table.now = below c.loop-n-test.true c.nodes-n-end.ensures in
    (usable c.node_fields-fields.ensures.b c.requires inside, c.loop-n.invariant.0)

pub field_names-c-requires : goal.field_names-c-requires
field_names-c-requires c =
    let inside : c.loop-n.n < node_count c.args.table.now = below c.loop-n-test.true c.nodes-n-end.ensures in
    (usable c.node_fields-fields.ensures.c c.requires inside, c.loop-n.invariant.0)

pub loop-n-preserved : goal.loop-n-preserved
loop-n-preserved c =
    let inside : c.loop-n.n < node_count c.args.table.now = below c.loop-n-test.true c.nodes-n-end.ensures in
    let few : c.loop-n.n < 512 = lt_of_lt_of_le inside c.requires.laid.header.few_nodes in
    let l = c.loop-n in
    let table = c.args.table.now in
    let fields = c.node_fields-fields.ensures in
    let here = c.bound_at-here.result in
    let bound = bound_here _ fields.a c.bound_at-here.ensures in
    let names = names_three table l.names l.n here _ _ _ bound (names_here l.names here _ fields.a c.field_names-a.ensures)
    (names_here l.names here _ fields.b c.field_names-b.ensures) (names_here l.names here _ fields.c c.field_names-c.ensures) in (
      simp length-set l.invariant.0,
      passed_more table l.names c.args.at l.n l.bound l.twice l.free here _ c.requires inside l.invariant.1 bound names (below few (sym l.invariant.0)),
    )

pub returns : goal.returns
returns c = passed_all _ c.loop-n.names _ _ _ _ (search rules) c.loop-n.invariant.1
